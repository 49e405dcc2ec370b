-- SPDX-License-Identifier: ISC
-- A line is answered by its first fields.
use Rattle.std.proofs.Common.{◌≡◌, ℕ, List, [], ◌∷◌, Option, None, Some, take, refl}
use Rattle.ring_bench.specs.declared.line.Call.{Call}
use Rattle.ring_bench.specs.declared.line.Call.TheVariants as call
use Rattle.ring_bench.specs.Field.{◌>>=◌}
use Rattle.ring_bench.specs.Line.{answer_by, answer_to, call_of}

-- no call has more than five operands
answer_by_first : (named : Call) (operands : List (List ℕ))
    → answer_by named (take 6 operands) ≡ answer_by named operands
unfolding answer_by
answer_by_first named [] = refl
answer_by_first named (a ∷ []) = refl
answer_by_first named (a ∷ b ∷ []) = refl
answer_by_first named (a ∷ b ∷ c ∷ []) = refl
answer_by_first named (a ∷ b ∷ c ∷ d ∷ []) = refl
answer_by_first named (a ∷ b ∷ c ∷ d ∷ e ∷ []) = refl
answer_by_first call.Digest (a ∷ b ∷ c ∷ d ∷ e ∷ f ∷ others) = refl
answer_by_first call.Hmac (a ∷ b ∷ c ∷ d ∷ e ∷ f ∷ others) = refl
answer_by_first call.HmacVerify (a ∷ b ∷ c ∷ d ∷ e ∷ f ∷ others) = refl
answer_by_first call.Hkdf (a ∷ b ∷ c ∷ d ∷ e ∷ f ∷ others) = refl
answer_by_first call.Pbkdf2 (a ∷ b ∷ c ∷ d ∷ e ∷ f ∷ others) = refl
answer_by_first call.Pbkdf2Verify (a ∷ b ∷ c ∷ d ∷ e ∷ f ∷ others) = refl

-- what fields are answered is told by the first seven of them
pub told_by_first : (fields : List (List ℕ)) → answer_to (take 7 fields) ≡ answer_to fields
unfolding answer_to
told_by_first [] = refl
told_by_first (word ∷ operands) = by_call (call_of word)
  where
    by_call : (named : Option Call)
        → (named >>= (λ c. answer_by c (take 6 operands)))
        ≡ (named >>= (λ c. answer_by c operands))
    by_call None = refl
    by_call (Some c) = answer_by_first c operands
