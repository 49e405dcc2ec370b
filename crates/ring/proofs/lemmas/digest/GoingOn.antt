-- SPDX-License-Identifier: ISC
-- A context that goes on after a piece's front, and after blocks that ran in a lane.
use Rattle.std.proofs.lemmas.Grind.{common_steps}
use Rattle.std.proofs.Common.{◌≡◌, ℕ, ◌+◌, ◌*◌, ◌/◌, ◌%◌, ◌<◌, ◌≤◌, List, [], ◌++◌, length, take}
use Rattle.std.proofs.Common.{drop, refl, sym, ap, subst, ◌∙◌, arith, append_assoc, length-append}
use Rattle.std.proofs.Math.Nat.{add-mul-div_left, mod-add-div, mod-add-mod}
use Rattle.std.proofs.lemmas.List.{drop_all, length-take-le, take-append-drop}
use Rattle.ring_core.specs.Prelude.{fold_chunks}
use Rattle.ring.specs.Prelude.{Algorithm, Context, Counts, DynState, HasRunBlocks}
use Rattle.ring.specs.Prelude.{IsPartway, IsUpdated, StandsFor, block_function, block_len}
use Rattle.ring.specs.Prelude.{blocks_from, chaining_words, context_algorithm, cut_off, digest_with}
use Rattle.ring.specs.Prelude.{pending_bytes, raised, spare_words, state_word_len, update_blocks}
use Rattle.ring.specs.Prelude.{word_len}
use Rattle.ring_core.proofs.ChunkFolds.{fold_chunks-append}
use Rattle.ring.proofs.lemmas.digest.Blocks.{moved_front, mul_whole}
use Rattle.ring.proofs.Rows.{block_len-positive}
use Rattle.ring.proofs.lemmas.digest.Updating.{updated_moved}
use Rattle.ring.proofs.Sums.{raised_zero}

-- the quotients of a sum that comes in two steps
pub div-then : (p x y b : ℕ) → 0 < b → (p + x) / b + ((p + x) % b + y) / b ≡ (p + (x + y)) / b
div-then p x y b pos =
    let whole = mod-add-div (p + x) b in
    let sum : p + (x + y) ≡ (p + x) % b + y + b * ((p + x) / b) = omega (arith, whole) in
    omega (
      arith,
      ap (λ (z : ℕ). z / b) sum,
      add-mul-div_left ((p + x) % b + y) ((p + x) / b) pos,
    )

module _ {s mid new : Context} (x y : List ℕ) where
  -- a piece and then another are one piece
  pub updated-then : IsUpdated s mid x → IsUpdated mid new y → IsUpdated s new (x ++ y)
  updated-then u v =
      let long = length-append x y in
      let b = block_len (context_algorithm s) in
      let size : block_len (context_algorithm mid) ≡ b = ap block_len u.algorithm in
      record {
        stands = λ m h. subst (StandsFor new) (append_assoc m x y) (v.stands _ (u.stands m h));
        any = λ z n. v.any z n ∙ u.any (y ++ z) n
            ∙ ap (λ (w : List ℕ). digest_with s w n) (sym (append_assoc x y z));
        algorithm = v.algorithm ∙ u.algorithm;
        counted = omega (arith, long, u.counted, v.counted);
        pending = v.pending
            ∙ rw (size, u.pending, long) (mod-add-mod (s.num_pending + length x) b (length y)
            ∙ ap (λ (z : ℕ). z % b) (omega arith));
      }

-- and complete as many blocks
pub blocks-then : {s mid : Context} (x y : List ℕ) → IsUpdated s mid x
    → update_blocks s (length x) + update_blocks mid (length y) ≡ update_blocks s (length (x ++ y))
blocks-then {s} {mid} x y u =
    grind (arith, common_steps, block_len-positive, div-then, length-append)

-- a context after the front of a piece
pub partway : {s mid : Context} {piece : List ℕ} (front rest : List ℕ) → front ++ rest ≡ piece
    → IsUpdated s mid front → IsPartway s mid piece rest
partway {s} {mid} {piece} front rest e u =
    record {
      algorithm = u.algorithm;
      goes_on = λ new v. subst (IsUpdated s new) e (updated-then front rest u v);
      within = rw (← e) (omega (arith, blocks-then front rest u));
    }

-- the context s became mid by the first `done` bytes of a piece, which are `count` blocks
pub record HasRun (s mid : Context) (piece : List ℕ) (count done : ℕ) : Type 0 where
  pub size : done ≡ count * block_len s.block.algorithm
  pub fits : done ≤ length piece
  pub empty : s.num_pending ≡ 0
  pub pending : mid.num_pending ≡ 0
  pub algorithm : mid.block.algorithm ≡ s.block.algorithm
  pub words : chaining_words s.block.algorithm mid.block.state
      ≡ fold_chunks (block_function s.block.algorithm) (block_len s.block.algorithm)
      (chaining_words s.block.algorithm s.block.state) piece count
  pub spare : spare_words s.block.algorithm mid.block.state
      ≡ spare_words s.block.algorithm s.block.state
  pub counted : mid.block.completed_bytes ≡ cut_off (s.block.completed_bytes + done)

module _ {s mid : Context} {piece : List ℕ} {count done : ℕ} where
  front_len : HasRun s mid piece count done → length (take done piece) ≡ done
  front_len h = length-take-le done piece h.fits

  -- the blocks at the front moved
  moved_run : (m : Counts) → HasRun s mid piece count done
      → HasRunBlocks (block_len s.block.algorithm) s.block mid.block
      (pending_bytes s ++ take done piece) (pending_bytes mid) m (raised m count 0)
  moved_run m h =
      let a = s.block.algorithm in
      let b = block_len a in
      let x : List ℕ = take done piece in
      let long : length x ≡ count * b = front_len h ∙ h.size in
      let number : length x / b ≡ count =
      ap (λ (z : ℕ). z / b) long ∙ (mul_whole count b (block_len-positive a)).1 in
      let step = block_function a in
      let old = chaining_words a s.block.state in
      let front = fold_chunks-append step b old x (drop done piece) count (omega (arith, long)) in
      let run : chaining_words a mid.block.state ≡ blocks_from a old x =
      cc (h.words, front, take-append-drop done piece, number) in
      let none : [] ≡ drop (length x / b * b) x =
      sym (drop_all (length x / b * b) x (omega (arith, long, ap (λ (z : ℕ). z * b) number))) in
      rw (h.empty, h.pending) (moved_front h.algorithm none run h.spare
      (omega (arith, h.counted, front_len h)) (ap (λ (z : ℕ). raised m z 0) (sym number)))

  -- and after the rest
  pub updated_rest : {rest : List ℕ} {new : Context} → Counts → HasRun s mid piece count done
      → rest ≡ drop done piece → IsUpdated mid new rest → IsUpdated s new piece
  updated_rest {rest} {new} m h e u =
      let all : take done piece ++ rest ≡ piece =
      ap (λ (z : List ℕ). take done piece ++ z) e ∙ take-append-drop done piece in
      let front = updated_moved s mid (take done piece) (moved_run m h)
      (omega (arith, h.empty)) (rw h.pending refl) in
      subst (IsUpdated s new) all (updated-then (take done piece) rest front u)

-- a state of a context of the algorithm
pub sized_of : (y : Context) {s : DynState} {w : ℕ} (a : Algorithm) → s ≡ y.block.state
    → context_algorithm y ≡ a → word_len a ≡ w → state_word_len s ≡ w
sized_of y a e is size =
    grind (arith, common_steps)

pub ruleset part_rules = (common_steps, partway, raised_zero, take-append-drop)
