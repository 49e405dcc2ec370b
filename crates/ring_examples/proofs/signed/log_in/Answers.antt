-- SPDX-License-Identifier: ISC
use Rattle.std.proofs.Common.{◌≡◌, ℕ, ◌<◌, List, arith, refl}
use Rattle.ring.specs.declared.digest.algorithm.Algorithm.{Algorithm}
use Rattle.ring_tokens.specs.Otp.{IsFound}
use Rattle.ring_tokens.specs.declared.otp.Digits.{Digits}
use Rattle.ring_examples.proofs.signed.log_in.Goals as goal

-- no two counters are the first one whose password a text is
found_once : {a : Algorithm} {k : List ℕ} {first past : ℕ} {d : Digits} {text : List ℕ} {m n : ℕ}
    → IsFound a k first past d text m → IsFound a k first past d text n → m ≡ n
found_once {m = m} {n} one other =
    let before : m < n → ⊥ = λ below. other.least m one.from below one.is in
    let behind : n < m → ⊥ = λ below. one.least n other.from below other.is in
    omega (arith, before, behind)

pub returns-in_default-clause-right : goal.returns-in_default-clause-right
returns-in_default-clause-right c = λ k n secret below is later.
    absurd (c.in_default.ensures.refused k secret refl n is.from is.within below is.is)

pub returns-then-found-last-clause-right : goal.returns-then-found-last-clause-right
returns-then-found-last-clause-right c = λ k n secret below is later.
    let same = found_once (c.in-Some.ensures.ok k secret) is in
    absurd (omega (arith, same, later, c.if-found-last.true))
