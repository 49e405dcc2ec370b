-- SPDX-License-Identifier: ISC
-- How a path of a Merkle tree is written. r is the status.
use Rattle.std.specs.Prelude.{◌≡◌, ◌≢◌, ℕ, ℤ, Bool, List, ◌++◌, drop, length, nat_lt, not, ◌&&◌}
use Rattle.ring_c.specs.Status.{YZ_OK, first_of, no_cause}

-- the path is written to the start of a room, and how many hashes it has, where the tree has the
-- path: one that it has not is of no wrong length
pub record WritesPath (has_path : Bool) (path old new : List (List ℕ)) (old_count new_count : ℕ)
    (r : ℤ) : Type 0 where
  pub ok : r ≡ YZ_OK → (new ≡ path ++ drop (length path) old) × (new_count ≡ length path)
  pub status : r ≡ first_of record no_cause {
    wrong_length = has_path && nat_lt (length old) (length path);
    unspecified = not has_path;
  }
  pub unchanged : r ≢ YZ_OK → (new ≡ old) × (new_count ≡ old_count)
