-- SPDX-License-Identifier: ISC
use Rattle.std.proofs.Common.{◌≡◌, ◌≢◌, ℕ, ◌+◌, ◌^◌, ◌<◌, ◌≤◌, List, length}
use Rattle.ring_tokens.specs.Cost.{raised_by_tests}
use Rattle.ring_tokens.specs.Otp.{hotp_text}
use Rattle.ring_tokens.specs.Secret.{IsSecret, secret_algorithm}
use Rattle.ring_tokens.proofs.otp.find_hotp_counted.Given as goal

-- the password of none of the counters so far, each of which was tried
abbrev pub invariant-counters : goal.invariant-counters
invariant-counters l =
    ((k : List ℕ) → IsSecret l.secret k → (c : ℕ) → l.first ≤ c → c < l.first + l.i
    → l.text ≢ hotp_text (secret_algorithm l.secret) k c l.digits)
    × (l.meter
    ≡ raised_by_tests l.fn.meter (secret_algorithm l.secret) l.digits (length l.text) l.i)
    × (l.first + l.i ≤ 2 ^ 64)
