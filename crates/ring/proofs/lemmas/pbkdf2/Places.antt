-- SPDX-License-Identifier: ISC
-- What holds at the places of a list, and what a meter rises by there.
use Rattle.std.proofs.Common.{◌≡◌, ℕ, ◌+◌, ◌<◌, [], List, arith, drop, get_or, length}
use Rattle.std.proofs.Common.{slice_set, take, get_or-set_other, Bor}
use Rattle.std.proofs.lemmas.Grind.{common_steps}
use Rattle.ring.specs.Prelude.{Counts, raised, sum_below}
use Rattle.ring_core.proofs.Costs.{raised-none}
use Rattle.ring.proofs.Sums.{raised-sum, sum_below-next}

-- the bytes at a place, as an index reads them
abbrev pub read_at : List (Bor (List ℕ)) → ℕ → List ℕ
read_at items k = (get_or items k record { ref_ptr = (0, 0); now = [] }).now

-- some of the items
abbrev pub items_from : {X : Type 0} (i k : ℕ) → List X → List X
items_from i k items = take k (drop i items)

-- P holds of the items at the first m places
pub record HoldsBelow {X : Type 0} (P : ℕ → X → Type 0) (m : ℕ) (xs : List X) : Type 0 where
  pub each : (i : ℕ) (d : X) → i < m → P i (get_or xs i d)

-- and of the next
pub places-next : {X : Type 0} (P : ℕ → X → Type 0) {xs : List X} {x : X} (m : ℕ)
    → HoldsBelow P m xs → m < length xs → P m x → HoldsBelow P (m + 1) (slice_set xs m x)
places-next P {xs} {x} m have room is =
    record {
      each = λ i d below. grind (arith, common_steps, have.each i d, get_or-set_other);
    }

-- a meter has risen by what belongs to the first m places
pub record HasRisen (f : ℕ → ℕ) (m : ℕ) (before now : Counts) : Type 0 where
  pub cost : now ≡ raised before (sum_below f m) 0

pub risen-none : {f : ℕ → ℕ} {m : Counts} → HasRisen f 0 m m
unfolding sum_below
risen-none {m} = record { cost = raised-none m }

-- and by what belongs to the next
pub risen-next : {f : ℕ → ℕ} {m : ℕ} {before now after : Counts} → HasRisen f m before now
    → after ≡ raised now (f m) 0 → HasRisen f (m + 1) before after
risen-next {f} {m} h e = record { cost = raised-sum _ _ _ h.cost e (sum_below-next f m) }
