-- SPDX-License-Identifier: ISC
-- How long new salts are.
use Rattle.std.proofs.Common.{◌≡◌, ◌/◌, ℕ, Bool, List, ap, false, length, refl, suc, true, zero}
use Rattle.std.specs.Prelude.{if◌then◌else◌}
use Rattle.std.specs.Int.{from_be_bytes, w128}
use Rattle.ring_password_hash.specs.Salt.{letters, salt_from}

length-letters : (count n : ℕ) → length (letters count n) ≡ count
unfolding letters
length-letters zero n = refl
length-letters (suc count) n = ap suc (length-letters count (n / 62))

pub length-salt_from : (text : Bool) (bytes : List ℕ) → length bytes ≡ 16
    → length (salt_from text bytes) ≡ (if text then 22 else 16)
length-salt_from true bytes len = length-letters 22 (from_be_bytes w128 bytes)
length-salt_from false bytes len = len

-- how long a new salt is
pub ruleset salt_lengths = (length-salt_from)
