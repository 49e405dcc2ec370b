-- SPDX-License-Identifier: ISC
use Rattle.std.proofs.Common.{◌<◌, length, refl, sym, ap, ◌∙◌, arith}
use Rattle.std.proofs.lemmas.Bool.{eqb-true}
use Rattle.std.proofs.lemmas.Bool.Decides.{nat_tests}
use Rattle.ring_store_text.proofs.Lines.{no_bad_line, read_all, read_more, read_none}
use Rattle.ring_store_text.proofs.saved.store_of.Goals as goal

pub loop-rest-init : goal.loop-rest-init
loop-rest-init g c =
    let made = c.new_in-store.ensures in
    record {
      salt = ap (λ s. s.db_salt) made;
      iterations = ap (λ s. s.iterations) made;
      read = read_none (ap (λ s. s.records) made) c.requires;
    }

pub unreachable-requires : goal.unreachable-requires
unreachable-requires g c =
    let some : 0 < length c.loop-rest.rest.now =
    grind (arith, nat_tests, c.is_empty.ensures, c.loop-rest-test.true) in
    no_bad_line c.loop-rest.invariant.read.left some (c.in_default.ensures.refused refl)

pub loop-rest-preserved : goal.loop-rest-preserved
loop-rest-preserved g c =
    let line = c.in-Some.ensures.ok in
    let put = c.in-Ok.ensures.ok in
    let before = c.loop-rest.invariant in
    record {
      salt = rw put before.salt;
      iterations = rw put before.iterations;
      read = rw put
          (read_more before.read (c.in-Some.name.now, c.in-Some.kept) line.0 line.1);
    }

pub returns-clause-records : goal.returns-clause-records
returns-clause-records g c =
    read_all c.loop-rest.invariant.read (eqb-true (length c.loop-rest.rest.now) 0
    (sym c.is_empty.ensures ∙ c.loop-rest-test.false))
