-- SPDX-License-Identifier: ISC
-- The steps of SHA-1's definitions.
use Rattle.std.proofs.Common.{◌≡◌, ℕ, ◌+◌, ◌-◌, ◌<◌, ◌≤◌, List, refl, sym, ◌∙◌, add-one}
use Rattle.std.proofs.Common.{arith, nat_lt, true, false}
use Rattle.ring_core.specs.Prelude.{IsWindow, word_at}
use Rattle.ring_core.specs.Sha1.{W, add_state, block_step, next_word, round, rounds_from, scheduled}
use Rattle.ring_core.proofs.Schedule.{listed_at-next, window-same, slice_index-listed}

pub W-first : (b : List ℕ) (t : ℕ) → t < 16 → W b t ≡ word_at 32 b t
unfolding W
W-first b t h =
    let e : nat_lt t 16 ≡ true = search arith in listed_at-next (next_word b) t ∙ rw e refl

-- the words of a block are the first sixteen of its schedule
pub window-loaded : (b window : List ℕ) → IsWindow (word_at 32 b) window 16
    → IsWindow (W b) window 16
window-loaded b window loaded =
    window-same (word_at 32 b) (W b) window 16 loaded (λ k below. sym (W-first b k below))

pub W-next : (b : List ℕ) (t : ℕ)
    → W b (t + 16) ≡ scheduled (W b (t + 13)) (W b (t + 8)) (W b (t + 2)) (W b t)
unfolding W
W-next b t =
    let e : nat_lt (t + 16) 16 ≡ false = search arith in
    let before = slice_index-listed (next_word b) (t + 16) in
    grind (arith, e, before, listed_at-next (next_word b) (t + 16))

-- a word and the next, each from the words before it
pub W-next_two : (b : List ℕ) (t : ℕ) → 16 ≤ t
    → (scheduled (W b (t - 3)) (W b (t - 8)) (W b (t - 14)) (W b (t - 16)) ≡ W b t)
    × (scheduled (W b (t - 3 + 1)) (W b (t - 8 + 1)) (W b (t - 14 + 1)) (W b (t - 16 + 1))
    ≡ W b (t + 1))
W-next_two b t h =
    (sym (grind (arith, W-next b (t - 16))), sym (grind (arith, W-next b (t - 15))))

pub rounds-next : (h b : List ℕ) (t : ℕ)
    → rounds_from h b (t + 1) ≡ round (rounds_from h b t) t (W b t)
unfolding rounds_from
rounds-next h b t = rw add-one refl

pub block_step-rounds : (h b : List ℕ) → block_step h b ≡ add_state h (rounds_from h b 80)
unfolding block_step
block_step-rounds h b = refl
