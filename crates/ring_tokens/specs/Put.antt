-- SPDX-License-Identifier: ISC
-- A piece is written to a buffer.
use Rattle.std.specs.Prelude.{◌≡◌, ℕ, ◌+◌, List, ◌++◌, drop, length, take}

-- the piece stands from the place `at` to the place `end`, and the rest is as it was
pub record IsPut (at end : ℕ) (piece old new : List ℕ) : Type 0 where
  pub place : end ≡ at + length piece
  pub bytes : new ≡ take at old ++ (piece ++ drop end old)
