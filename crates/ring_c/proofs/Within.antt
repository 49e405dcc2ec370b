-- SPDX-License-Identifier: ISC
-- Which messages have digests, as a test.
use Rattle.std.proofs.Common.{◌≡◌, ◌↔◌, ℕ, ◌*◌, ◌<◌, List, true, [], ◌∷◌, arith, length, refl}
use Rattle.std.proofs.Common.{suc, zero}
use Rattle.std.proofs.lemmas.Bool.Decides.{nat_tests}
use Rattle.std.specs.Borrow.{Bor}
use Rattle.ring.specs.Algorithm.{output_len}
use Rattle.ring.specs.Each.{CanWriteEach, message_at}
use Rattle.ring.specs.Limits.{IsMessageWithin}
use Rattle.ring.specs.declared.digest.algorithm.Algorithm.{Algorithm}
use Rattle.ring_c.specs.Limits.{can_digest_each}

-- each message is within the limit
within : (a : Algorithm) (ms : List (Bor (List ℕ))) → can_digest_each a ms ≡ true → (k : ℕ)
    → k < length ms → IsMessageWithin a (length (message_at ms k))
within a [] can k below = absurd (omega (arith, below))
within a (m ∷ ms) can zero below = grind (arith, nat_tests)
within a (m ∷ ms) can (suc k) below =
    within a ms (grind (arith, nat_tests)) k (omega (arith, below))

can : (a : Algorithm) (ms : List (Bor (List ℕ)))
    → ((k : ℕ) → k < length ms → IsMessageWithin a (length (message_at ms k)))
    → can_digest_each a ms ≡ true
can a [] each = refl
can a (m ∷ ms) each =
    let first = each 0 (omega arith) in
    let rest = can a ms (λ k below. each (suc k) (omega (arith, below))) in
    grind (arith, nat_tests, first, rest)

pub each_within : (a : Algorithm) (ms : List (Bor (List ℕ))) (n : ℕ)
    → n ≡ length ms * output_len a → CanWriteEach a ms n ↔ (can_digest_each a ms ≡ true)
each_within a ms n room = (
  (λ write. can a ms write.each),
  (λ test. record { room = room; each = within a ms test }),
)
