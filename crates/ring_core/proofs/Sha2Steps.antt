-- SPDX-License-Identifier: ISC
-- The steps of SHA-2's definitions.
use Rattle.std.proofs.Common.{◌≡◌, ◌⊎◌, ℕ, ◌+◌, ◌-◌, ◌*◌, ◌/◌, ◌<◌, ◌≤◌, List, length, slice_index}
use Rattle.std.proofs.Common.{refl, sym, ap, ◌∙◌, add-one, arith, inl, inr, nat_lt, true, false}
use Rattle.ring_core.specs.Prelude.{Family, IsWindow, W, add_state, block_step, family_256}
use Rattle.ring_core.specs.Prelude.{family_512, next_word, round, rounds_from, scheduled, word_at}
use Rattle.ring_core.proofs.Schedule.{listed-before, listed_at-next, window-same}

pub W-first : (f : Family) (b : List ℕ) (t : ℕ) → t < 16 → W f b t ≡ word_at f.bits b t
unfolding W
W-first f b t h =
    let e : nat_lt t 16 ≡ true = search arith in listed_at-next (next_word f b) t ∙ rw e refl

-- the words of a block are the first sixteen of its schedule
pub window-loaded : (f : Family) (bits : ℕ) (b window : List ℕ) → bits ≡ f.bits
    → IsWindow (word_at bits b) window 16 → IsWindow (W f b) window 16
window-loaded f bits b window same loaded =
    window-same (word_at f.bits b) (W f b) window 16 (rw same at loaded)
    (λ k below. sym (W-first f b k below))

pub W-next : (f : Family) (b : List ℕ) (t : ℕ) → let w = W f b in
    w (t + 16) ≡ scheduled f (w (t + 14)) (w (t + 9)) (w (t + 1)) (w t)
unfolding W
W-next f b t =
    let e : nat_lt (t + 16) 16 ≡ false = search arith in
    let before = listed-before (next_word f b) (t + 16) in
    listed_at-next (next_word f b) (t + 16)
    ∙ rw (
      e,
      before 2 (t + 14) (omega arith) (omega arith),
      before 7 (t + 9) (omega arith) (omega arith),
      before 15 (t + 1) (omega arith) (omega arith),
      before 16 t (omega arith) (omega arith),
    ) refl

-- a word and the next, each from the words before it
pub W-next_two : (f : Family) (b : List ℕ) (t : ℕ) → 16 ≤ t
    → (scheduled f (W f b (t - 2)) (W f b (t - 7)) (W f b (t - 15)) (W f b (t - 16)) ≡ W f b t)
    × (scheduled f (W f b (t - 2 + 1)) (W f b (t - 7 + 1)) (W f b (t - 15 + 1))
    (W f b (t - 16 + 1)) ≡ W f b (t + 1))
W-next_two f b t h =
    (sym (grind (arith, W-next f b (t - 16))), sym (grind (arith, W-next f b (t - 15))))

pub rounds-next : (f : Family) (h b : List ℕ) (t : ℕ)
    → rounds_from f h b (t + 1)
    ≡ round f (rounds_from f h b t) (slice_index f.constants t) (W f b t)
unfolding rounds_from
rounds-next f h b t = rw add-one refl

-- the rounds come in whole turns of sixteen
pub rounds-turns : (f : Family) → (f ≡ family_256) ⊎ (f ≡ family_512)
    → (1 ≤ f.rounds / 16) × (16 * (f.rounds / 16) ≡ f.rounds)
rounds-turns f (inl e) =
    let r : f.rounds ≡ 64 = ap (λ (x : Family). x.rounds) e in (omega arith, omega arith)
rounds-turns f (inr e) =
    let r : f.rounds ≡ 80 = ap (λ (x : Family). x.rounds) e in (omega arith, omega arith)

pub block_step-rounds : (f : Family) (h b : List ℕ)
    → block_step f h b ≡ add_state f.bits h (rounds_from f h b f.rounds)
unfolding block_step
block_step-rounds f h b = refl

-- a block function gives eight words
pub length-block_step : (f : Family) (h b : List ℕ) → length (block_step f h b) ≡ 8
length-block_step f h b = ap length (block_step-rounds f h b)
