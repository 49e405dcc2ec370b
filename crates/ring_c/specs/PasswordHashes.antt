-- SPDX-License-Identifier: ISC
-- Password hashes: the longest text, why a test is refused or no new hash is written, a new salt.
use Rattle.std.specs.Prelude.{ℕ, true, not, nat_lt, if◌then◌else◌, List, length, Option, Some, None}
use Rattle.std.specs.Int.NonZero.{non_zero_u32_get}
use Rattle.std.specs.declared.num.NonZeroU32.{NonZeroU32}
use Rattle.ring_core.specs.Cost.{Counts}
use Rattle.ring.specs.Prelude.{raised}
use Rattle.ring_password_hash.specs.Salt.{salt_from}
use Rattle.ring_password_hash.specs.Scheme.{kept_len_of, salt_encoding_of}
use Rattle.ring_password_hash.specs.Stored.{Parts, can_keep, is_of, is_past, is_salt, is_text}
use Rattle.ring_password_hash.specs.Stored.{kept_blocks, new_parts, text_of}
use Rattle.ring_password_hash.specs.declared.scheme.Scheme.{Scheme}
use Rattle.ring_c.specs.Status.{Causes, no_cause}

-- the most bytes of a text
abbrev pub max_text_len : ℕ
max_text_len = 1024

-- the bytes of which a salt is made
abbrev pub salt_random_len : ℕ
salt_random_len = 16

-- the causes for a test of the password p against what a text is read as, under a limit of
-- iterations
abbrev pub test_causes : (p : List ℕ) → (max_iterations : ℕ) → Parts → Causes
test_causes p max_iterations h =
    record no_cause {
      too_many_iterations = nat_lt max_iterations (non_zero_u32_get h.iterations);
      unspecified = not (is_of h p);
    }

-- the text of the password p with the salt s and c iterations
abbrev pub new_text : Scheme → (p s : List ℕ) → NonZeroU32 → List ℕ
new_text k p s c = text_of (new_parts k p s c)

-- the causes for the password p, the salt s and an iteration count. Without a count there is no
-- text, and that is the first cause
abbrev pub new_causes : (room : ℕ) → (p s : List ℕ) → Option NonZeroU32 → Scheme → Causes
new_causes room p s None k = record no_cause { no_iterations = true }
new_causes room p s (Some c) k =
    record no_cause {
      wrong_length = is_past room (new_text k p s c);
      bad_salt = not (is_salt k s);
      unspecified = not (can_keep k (length p) (length s) (kept_len_of k));
    }

-- a meter after that
abbrev pub new_cost : Scheme → (p s : List ℕ) → NonZeroU32 → Counts → Counts
new_cost k p s c before =
    raised before (kept_blocks k (length p) (length s) (non_zero_u32_get c) (kept_len_of k)) 0

-- a salt of 16 bytes: 22 letters and digits where the scheme writes it as it is
abbrev pub new_salt : Scheme → (random : List ℕ) → List ℕ
new_salt k random = salt_from (is_text (salt_encoding_of k)) random

-- the bytes that it has
abbrev pub new_salt_len : Scheme → ℕ
new_salt_len k = if is_text (salt_encoding_of k) then 22 else 16
