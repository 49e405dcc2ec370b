-- SPDX-License-Identifier: ISC
-- What a kernel holds between the rounds of a block: a part of the schedule w, whose words the
-- standard has all at once, and the variables.
use Rattle.std.specs.Prelude.{◌≡◌, ℕ, ◌+◌, ◌*◌, ◌%◌, ◌<◌, ◌≤◌, List, [], ◌∷◌, length, slice_index}
use Rattle.ring_core.specs.Chunks.{array_at}

-- a window holds the last sixteen of the words w before word t, word k in slot k % 16
pub record IsWindow (w : ℕ → ℕ) (window : List ℕ) (t : ℕ) : Type 0 where
  pub sixteen : length window ≡ 16
  pub held : (k : ℕ) → k < t → t ≤ k + 16 → slice_index window (k % 16) ≡ w k

-- before round t: the window holds the words w before word t, and v the variables after t rounds
pub record IsBefore (w : ℕ → ℕ) (rounds : ℕ → List ℕ) (window v : List ℕ) (t : ℕ) : Type 0 where
  pub words : IsWindow w window t
  pub variables : v ≡ rounds t

-- words 4 g to 4 g + 3 of w
abbrev pub four : (ℕ → ℕ) → ℕ → List ℕ
four w g = w (4 * g) ∷ w (4 * g + 1) ∷ w (4 * g + 2) ∷ w (4 * g + 3) ∷ []

-- words 4 g to 4 g + 15 of w, in fours
abbrev pub sixteen : (ℕ → ℕ) → ℕ → List (List ℕ)
sixteen w g = four w g ∷ four w (g + 1) ∷ four w (g + 2) ∷ four w (g + 3) ∷ []

-- sums has the last sixteen of the sums s before sum 4 n, in fours: four g at place g % 4
pub record HoldsSums (s : ℕ → ℕ) (sums : List (List ℕ)) (n : ℕ) : Type 0 where
  pub fours : length sums ≡ 4
  pub held : (g : ℕ) → g < n → n ≤ g + 4 → array_at sums (g % 4) ≡ four s g

-- before round 4 g: the sums s from 4 g on, and v are the variables after 4 g rounds
pub record IsSummed (s : ℕ → ℕ) (rounds : ℕ → List ℕ) (sums : List (List ℕ)) (v : List ℕ) (g : ℕ)
    : Type 0 where
  pub ready : HoldsSums s sums (g + 4)
  pub variables : v ≡ rounds (4 * g)

-- before round 4 g: the sixteen words of w from 4 g on, in fours, and their sums s
pub record IsReady (w s : ℕ → ℕ) (words sums : List (List ℕ)) (g : ℕ) : Type 0 where
  pub sixteen : words ≡ sixteen w g
  pub ready : HoldsSums s sums (g + 4)

-- the same, and v are the variables after 4 g rounds
pub record IsAhead (w s : ℕ → ℕ) (rounds : ℕ → List ℕ) (words sums : List (List ℕ)) (v : List ℕ)
    (g : ℕ) : Type 0 where
  pub schedule : IsReady w s words sums g
  pub variables : v ≡ rounds (4 * g)
