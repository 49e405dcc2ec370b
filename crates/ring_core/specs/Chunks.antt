-- SPDX-License-Identifier: ISC
-- A list cut into chunks of one length.
use Rattle.std.specs.Prelude.{ℕ, zero, suc, List, [], ◌*◌, ◌/◌, length, take, drop}
use Rattle.std.specs.List.{slice_index_or}
use Rattle.std.specs.Simd.{first_chunks}

-- how many whole chunks of n items there are in so many items; none where n is 0, as len / 0 is 0
abbrev pub chunk_count : ℕ → ℕ → ℕ
chunk_count n len = len / n

-- the i-th chunk of n items
abbrev pub chunk_at : {A : Type 0} → ℕ → List A → ℕ → List A
chunk_at n xs i = take n (drop (i * n) xs)

-- the array at a place of several
abbrev pub array_at : {A : Type 0} → List (List A) → ℕ → List A
array_at arrays i = slice_index_or arrays i []

-- the whole chunks of n items, in order
abbrev pub chunks : {A : Type 0} → ℕ → List A → List (List A)
chunks n xs = first_chunks n (chunk_count n (length xs)) xs

-- what `step` makes of h and the first k chunks of n bytes, in turn
unfoldable pub fold_chunks : (List ℕ → List ℕ → List ℕ) → ℕ → List ℕ → List ℕ → ℕ → List ℕ
fold_chunks step n h p zero = h
fold_chunks step n h p (suc k) = step (fold_chunks step n h p k) (chunk_at n p k)
