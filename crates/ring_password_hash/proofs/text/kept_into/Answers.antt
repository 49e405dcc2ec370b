-- SPDX-License-Identifier: ISC
use Rattle.std.proofs.Common.{◌≡◌, ◌∙◌, ℕ, ap, arith, length, refl, sym, take}
use Rattle.std.proofs.lemmas.Bool.{eq-eqb, eqb-true}
use Rattle.std.proofs.lemmas.List.{length-take-le}
use Rattle.ring_text.proofs.Base64.{bytes_front}
use Rattle.ring_password_hash.specs.Text.{written}
use Rattle.ring_password_hash.proofs.Fields.{written-injective}
use Rattle.ring_password_hash.proofs.text.kept_into.Goals as goal

pub returns-in-Some-clause-refused : goal.returns-in-Some-clause-refused
returns-in-Some-clause-refused c = λ other bytes h len e.
    let n = c.in-Some.found in
    let out = c.decode_into.new.out in
    let row = c.row-row.ensures in
    let kept = rw (← row.keeps_keys, c.if-row.false, ← row.kept) at e in
    let same = written-injective c.row-row.result.kept (take n out) bytes
    (bytes_front n out c.decode_into.ensures.bytes) h (sym c.in-Some.ensures.ok ∙ kept) in
    let within = c.in-Some.ensures.within in
    let found : n ≡ c.args.len =
    sym (length-take-le n out (omega (arith, within))) ∙ ap length same ∙ len in
    let told = eq-eqb n c.args.len found in
    cc (told, other)

pub returns-in-Some-clause-ok : goal.returns-in-Some-clause-ok
returns-in-Some-clause-ok c = λ equal.
    let row = c.row-row.ensures in
    let same = eqb-true c.in-Some.found c.args.len equal in
    let within = c.in-Some.ensures.within in (
      rw (← row.keeps_keys, c.if-row.false, ← row.kept) (c.in-Some.ensures.ok
          ∙ ap (λ (m : ℕ). written c.row-row.result.kept (take m c.decode_into.new.out)) same),
      omega (arith, same, within),
    )

pub returns-in-None-clause-refused : goal.returns-in-None-clause-refused
returns-in-None-clause-refused c = λ _ bytes h len e.
    let row = c.row-row.ensures in
    c.in-None.ensures.refused refl bytes h
    (rw (← row.keeps_keys, c.if-row.false, ← row.kept) at e)
