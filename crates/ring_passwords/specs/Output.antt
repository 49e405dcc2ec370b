-- SPDX-License-Identifier: ISC
-- What an output takes of some bytes.
use Rattle.std.specs.Prelude.{ℕ, List, Option}
use Rattle.std.specs.Io.{StartsWith}
use Rattle.std.specs.Io.KnownBytes.{Appends}

-- known bytes grow by a front of these
abbrev pub AppendsFront : (old new : Option (List ℕ)) → (bytes : List ℕ) → Type 0
AppendsFront old new bytes = (front : List ℕ) × StartsWith bytes front × Appends old new front
