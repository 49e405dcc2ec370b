-- SPDX-License-Identifier: ISC
-- A schedule: words that each follow from those before it.
use Rattle.std.specs.Prelude.{ℕ, zero, suc, List, [], ◌∷◌, ◌++◌, slice_index}

-- the list made by appending `next ws t` to the words ws before it, for t = 0, .., n - 1
unfoldable pub listed : (List ℕ → ℕ → ℕ) → ℕ → List ℕ
listed next zero = []
listed next (suc n) = listed next n ++ next (listed next n) n ∷ []

-- its word t
unfoldable pub listed_at : (List ℕ → ℕ → ℕ) → ℕ → ℕ
listed_at next t = slice_index (listed next (suc t)) t
