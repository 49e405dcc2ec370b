-- SPDX-License-Identifier: ISC
use Rattle.std.proofs.Common.{◌≡◌, ℕ, List, subst, ◌∙◌}
use Rattle.std.specs.Prelude.{Option, Some, None, IfSome}
use Rattle.std.specs.Io.BufRead.{DropsThrough, first_piece}
use Rattle.std.specs.declared.num.NonZeroU32.{NonZeroU32}
use Rattle.ring_password_hash.specs.Stored.{IsTextOf, Parts}
use Rattle.ring_passwords.specs.Check.{HasTextAndPassword, IsTest, IsWithin}
use Rattle.ring_passwords.proofs.check.check.Goals as goal

-- what is read first is the first line, and what is read then is the second one
has_read : (old new : Option (List ℕ)) (h : Parts) (password lent : List ℕ) (most : NonZeroU32)
    (P : Parts → List ℕ → Type 0) → IsWithin h most
    → IfSome old (λ bytes. IsTextOf h (first_piece 10 bytes)) → DropsThrough old new 10
    → IfSome new (λ bytes. password ≡ first_piece 10 bytes)
    → lent ≡ password → P h lent → HasTextAndPassword old most P
has_read None new h password lent most P within text rest line same holds = tt
has_read (Some bytes) new h password lent most P within text rest line same holds =
    let IsFirst : Option (List ℕ) → Type 0 = λ o. IfSome o (λ bs. password ≡ first_piece 10 bs) in
    let second = subst IsFirst rest line in
    record { value = h; has = text; holds = (within, subst (P h) (same ∙ second) holds) }

pub returns-clause-tested : goal.returns-clause-tested
returns-clause-tested g c = λ _.
    has_read _ _ _ _ _ c.args.most (λ h password. IsTest h password c.args.most
    c.args.meter.now c.test.new.meter c.test.result)
    c.in_ok-stored.ensures.ok.1 c.in_ok-stored.ensures.text c.in_ok-stored.ensures.rest
    c.in_ok-password.ensures.ok c.deref.ensures.value c.test.ensures.tested
