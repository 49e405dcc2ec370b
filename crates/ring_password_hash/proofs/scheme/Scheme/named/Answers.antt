-- SPDX-License-Identifier: ISC
use Rattle.std.proofs.Common.{◌≢◌, arith}
use Rattle.ring_password_hash.specs.Scheme.{name_of}
use Rattle.ring_password_hash.specs.declared.scheme.Scheme.{Scheme}
use Rattle.ring_password_hash.proofs.Schemes.{at_each, at_next}
use Rattle.ring_password_hash.proofs.scheme.Scheme.named.Goals as goal

pub schemes-preserved : goal.schemes-preserved
schemes-preserved c =
    at_next (λ (k : Scheme). c.args.word.now ≢ name_of k) c.schemes.i c.schemes.invariant
    (λ same. search arith)

pub returns-clause-refused : goal.returns-clause-refused
returns-clause-refused c = λ _.
    at_each (λ (k : Scheme). c.args.word.now ≢ name_of k)
    (λ i below. c.schemes.invariant i (omega (arith, below, c.schemes-test.false)))
