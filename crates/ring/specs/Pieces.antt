-- SPDX-License-Identifier: ISC
-- Lists of pieces, and lists of numbered blocks, as the bytes that they join to.
use Rattle.std.specs.Prelude.{ℕ, zero, suc, List, [], ◌++◌}
use Rattle.std.specs.Borrow.{Bor}
use Rattle.std.specs.List.{flat_map}

-- the bytes of all pieces, in order
abbrev pub joined : List (Bor (List ℕ)) → List ℕ
joined pieces = flat_map (λ piece. piece.now) pieces

-- f(1) || f(2) || .. || f(r)
unfoldable pub joined_blocks : (ℕ → List ℕ) → ℕ → List ℕ
joined_blocks f zero = []
joined_blocks f (suc r) = joined_blocks f r ++ f (suc r)
