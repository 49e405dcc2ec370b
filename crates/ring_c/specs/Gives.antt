-- SPDX-License-Identifier: ISC
-- What calls give and refuse: each stands here once for the forms of a call, one of which runs over
-- wider vectors or counts on a meter. r is the status.
use Rattle.std.specs.Prelude.{◌≡◌, ◌≢◌, ◌==◌, ◌*◌, ℕ, ℤ, List, ◌++◌, Option, Some, drop, length}
use Rattle.std.specs.Prelude.{nat_lt, not}
use Rattle.std.specs.Borrow.{Bor}
use Rattle.std.specs.declared.num.NonZeroU32.{NonZeroU32}
use Rattle.ring.specs.Algorithm.{output_len}
use Rattle.ring.specs.Each.{digests_of}
use Rattle.ring.specs.Limits.{can_derive, max_dk_len}
use Rattle.ring.specs.Pbkdf2.{dk, pbkdf2_digest}
use Rattle.ring.specs.Raw.{digest_named}
use Rattle.ring_password_hash.specs.declared.scheme.Scheme.{Scheme}
use Rattle.ring_c.specs.Limits.{can_digest_each}
use Rattle.ring_c.specs.Number.{count_named, pbkdf2_named, scheme_named}
use Rattle.ring_c.specs.PasswordHashes.{new_causes, new_text}
use Rattle.ring_c.specs.Status.{Causes, YZ_OK, YZ_UNKNOWN_ALGORITHM, no_cause, status_of}
use Rattle.ring_c.specs.Verified.{is_derived}

-- the bytes that belong to what a number names are written, unless it names nothing, or there is a
-- cause
pub record WritesBytes {A : Type 0} (unknown : ℤ) (named : Option A) (bytes : A → List ℕ)
    (causes : A → Causes) (old new : List ℕ) (r : ℤ) : Type 0 where
  pub ok : (a : A) → named ≡ Some a → r ≡ YZ_OK → new ≡ bytes a
  pub status : r ≡ status_of unknown named causes
  pub unchanged : r ≢ YZ_OK → new ≡ old

-- the digests of the messages are written
abbrev pub WritesDigests : (algorithm : ℕ) → List (Bor (List ℕ)) → (old new : List ℕ) → ℤ → Type 0
WritesDigests algorithm messages old new =
    WritesBytes YZ_UNKNOWN_ALGORITHM (digest_named algorithm) (λ a. digests_of a messages) (λ a.
    record no_cause {
      wrong_length = not (length old == length messages * output_len a);
      unspecified = not (can_digest_each a messages);
    }) old new

-- the key of the password p and the salt s after c iterations is written
abbrev pub WritesKey : (algorithm : ℕ) (p s : List ℕ) (c : ℕ) (old new : List ℕ) → ℤ → Type 0
WritesKey algorithm p s c old new =
    WritesBytes YZ_UNKNOWN_ALGORITHM (pbkdf2_named algorithm)
    (λ a. dk (pbkdf2_digest a) p s c (length old)) (λ a. record no_cause {
      no_iterations = c == 0;
      wrong_length = nat_lt (max_dk_len (pbkdf2_digest a)) (length old);
      unspecified = not (can_derive (pbkdf2_digest a) (length p) (length s) (length old));
    }) old new

-- the status for a test of the value
abbrev pub verify_status : (algorithm : ℕ) (p s : List ℕ) (c : ℕ) (value : List ℕ) → ℤ
verify_status algorithm p s c value =
    status_of YZ_UNKNOWN_ALGORITHM (pbkdf2_named algorithm) (λ a.
    record no_cause {
      no_iterations = c == 0;
      unspecified = not (is_derived (pbkdf2_digest a) p s c value);
    })

-- the hash of the password p and the salt s is written to the start of a text, and its length
pub record WritesHash (scheme : ℕ) (p s : List ℕ) (c : ℕ) (old new : List ℕ) (old_len new_len : ℕ)
    (r : ℤ) : Type 0 where
  pub ok : (k : Scheme) (n : NonZeroU32) → scheme_named scheme ≡ Some k
      → count_named c ≡ Some n → r ≡ YZ_OK
      → (new ≡ new_text k p s n ++ drop (length (new_text k p s n)) old)
      × (new_len ≡ length (new_text k p s n))
  pub status : r ≡ status_of YZ_UNKNOWN_ALGORITHM (scheme_named scheme)
      (new_causes (length old) p s (count_named c))
  pub unchanged : r ≢ YZ_OK → (new ≡ old) × (new_len ≡ old_len)
