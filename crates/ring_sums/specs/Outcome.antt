-- SPDX-License-Identifier: ISC
-- What the outcome of a reader says.
use Rattle.std.specs.Prelude.{◌≡◌, ◌≢◌, ℕ, ◌<◌, Bool, IfSome, IsTrue, List, Option, length}
use Rattle.std.specs.IoError.{error_kind}
use Rattle.std.specs.declared.io.Error.{Error}
use Rattle.std.specs.declared.io.ErrorKind.TheVariants.{Interrupted}
use Rattle.ring.specs.Prelude.{IsDigest, max_input_len}
use Rattle.ring.specs.declared.digest.algorithm.Algorithm.{Algorithm}
use Rattle.ring_sums.specs.declared.outcome.Outcome.{Outcome}
use Rattle.ring_sums.specs.declared.outcome.Outcome.TheVariants.{Sum, TooLong, Failed}

-- a read can fail with this error, and it is not an interruption, after which the reader is read on
abbrev pub IsFailure : {R : Type 0} → (R → Error → Bool) → R → Error → Type 0
IsFailure fails_with reader error =
    IsTrue (fails_with reader error) × (error_kind error ≢ Interrupted)

-- a read can be interrupted
pub record CanBeInterrupted {R : Type 0} (fails_with : R → Error → Bool) (reader : R)
    : Type 0 where
  pub error : Error
  pub fails : IsTrue (fails_with reader error)
  pub interrupted : error_kind error ≡ Interrupted

-- a sum is the digest of all bytes that the reader had to give, they are too long where this is
-- said of them, and it failed with an error with which a read can fail
abbrev pub IsOutcome : {R : Type 0} → (R → Option (List ℕ)) → (R → Error → Bool) → Algorithm → R
    → Outcome → Type 0
IsOutcome remaining fails_with a reader (Sum digest) =
    IfSome (remaining reader) (λ bytes. IsDigest digest a bytes)
IsOutcome remaining fails_with a reader TooLong =
    IfSome (remaining reader) (λ bytes. max_input_len a < length bytes)
IsOutcome remaining fails_with a reader (Failed error) = IsFailure fails_with reader error

-- the same of bytes that can always be read: their digest, or that they are too long
abbrev pub IsOutcomeOfBytes : Algorithm → List ℕ → Outcome → Type 0
IsOutcomeOfBytes a bytes (Sum digest) = IsDigest digest a bytes
IsOutcomeOfBytes a bytes TooLong = max_input_len a < length bytes
IsOutcomeOfBytes a bytes (Failed error) = ⊥
