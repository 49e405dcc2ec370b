-- SPDX-License-Identifier: ISC
-- How the words after blocks follow a list of whole blocks as it grows.
use Rattle.std.proofs.lemmas.Grind.{common_steps}
use Rattle.std.proofs.Common.{◌≤◌, ◌≡◌, ℕ, zero, ◌+◌, ◌-◌, ◌*◌, ◌/◌, ◌%◌, ◌<◌, List, [], ◌++◌}
use Rattle.std.proofs.Common.{length, take, drop, sym, ap, ◌∙◌, arith, add_comm, length-append}
use Rattle.std.proofs.Common.{replicate}
use Rattle.std.proofs.lemmas.List.{length-take-le, take-append-drop}
use Rattle.std.proofs.Math.Nat.{mul-div_cancel, div-mul-le_self, add-mul-div_left, mod-add-mod}
use Rattle.std.proofs.lemmas.Nat.{div-add-mod', mod-mul-add}
use Rattle.ring_core.specs.Prelude.{fold_chunks}
use Rattle.ring.specs.Prelude.{Algorithm, BlockContext, Counts, HasRunBlocks, HasTaken, IsWhole}
use Rattle.ring.specs.Prelude.{block_function, block_len, blocks_from, chaining_words, cut_off}
use Rattle.ring.specs.Prelude.{initial_words, raised, spare_words, whole_blocks, word_count}
use Rattle.ring.specs.Prelude.{words_after}
use Rattle.ring_core.proofs.ChunkFolds.{fold_chunks-none, fold_chunks-then, fold_chunks-append}
use Rattle.ring.proofs.Rows.{block_len-positive}

-- a multiple divided
pub mul_whole : (n b : ℕ) → zero < b → (n * b % b ≡ 0) × (n * b / b ≡ n)
mul_whole n b pos =
    grind (arith, common_steps, mod-mul-add, mul-div_cancel)

-- nothing divided
zero_whole : (b : ℕ) → zero < b → (0 % b ≡ 0) × (0 / b ≡ 0)
zero_whole b pos =
    grind (arith, common_steps, mul_whole)

-- a number with no remainder
pub whole_mul : (x b : ℕ) → x % b ≡ 0 → x ≡ x / b * b
whole_mul x b h = let e = div-add-mod' x b in omega (arith, e)

-- a multiple and more, divided
pub whole_div-add : (x y b : ℕ) → zero < b → x % b ≡ 0 → (x + y) / b ≡ x / b + y / b
whole_div-add x y b pos hx =
    let ex : x ≡ x / b * b = whole_mul x b hx in
    let e : x + y ≡ y + b * (x / b) = grind (arith, ex) in
    ap (λ (z : ℕ). z / b) e ∙ add-mul-div_left y (x / b) pos ∙ add_comm (y / b) (x / b)

pub IsWhole-append : (a : Algorithm) (p x : List ℕ) → IsWhole a p → IsWhole a x
    → IsWhole a (p ++ x)
IsWhole-append a p x hp hx =
    grind (arith, common_steps, length-append, mod-add-mod)

-- after no block
pub words_after-nil : (a : Algorithm) → words_after a [] ≡ initial_words a
unfolding words_after
words_after-nil a =
    grind (arith, common_steps, zero_whole, block_len-positive, fold_chunks-none)

-- the words after whole blocks and more
pub blocks_from-then : (a : Algorithm) (h p x : List ℕ) → IsWhole a p
    → blocks_from a h (p ++ x) ≡ blocks_from a (blocks_from a h p) x
blocks_from-then a h p x hp =
    grind (
      arith,
      common_steps,
      block_len-positive,
      fold_chunks-then,
      length-append,
      whole_div-add,
      whole_mul,
    )

-- after a longer list
pub words_after-append : (a : Algorithm) (p x : List ℕ) → IsWhole a p
    → words_after a (p ++ x) ≡ blocks_from a (words_after a p) x
unfolding words_after
words_after-append a p x whole = blocks_from-then a (initial_words a) p x whole

-- no block taken
pub HasTaken-nil : (b : BlockContext)
    → chaining_words b.algorithm b.state ≡ initial_words b.algorithm
    → spare_words b.algorithm b.state ≡ replicate (8 - word_count b.algorithm) 0
    → b.completed_bytes ≡ 0 → HasTaken b []
HasTaken-nil b ew es ec =
    grind (arith, common_steps, zero_whole, block_len-positive, words_after-nil)

-- the whole blocks at the front of a list
abbrev whole_front : Algorithm → List ℕ → List ℕ
whole_front a x = take (whole_blocks a (length x) * block_len a) x

length-whole_front : (a : Algorithm) (x : List ℕ)
    → length (whole_front a x) ≡ whole_blocks a (length x) * block_len a
length-whole_front a x = length-take-le _ x (div-mul-le_self (length x) (block_len a))

blocks-whole_front : (a : Algorithm) (x : List ℕ)
    → IsWhole a (whole_front a x)
    × (whole_blocks a (length (whole_front a x)) ≡ whole_blocks a (length x))
blocks-whole_front a x =
    grind (arith, common_steps, mul_whole, block_len-positive, length-whole_front)

-- the words after them, which are all that is counted
blocks_from-front : (a : Algorithm) (h x : List ℕ)
    → blocks_from a h (whole_front a x) ≡ blocks_from a h x
blocks_from-front a h x =
    let k : ℕ = whole_blocks a (length x) in
    let size : ℕ = k * block_len a in
    let long : k * block_len a ≤ length (take size x) = omega (arith, length-whole_front a x) in
    let step = block_function a in
    rw (blocks-whole_front a x).1
    (sym (fold_chunks-append step (block_len a) h (take size x) (drop size x) k long)
    ∙ ap (λ (z : List ℕ). fold_chunks step (block_len a) h z k) (take-append-drop size x))

-- from the block context b to n
module _ {b n : BlockContext} where
  -- whole blocks more
  HasTaken-append : {p : List ℕ} (x : List ℕ) → HasTaken b p → IsWhole b.algorithm x
      → n.algorithm ≡ b.algorithm
      → chaining_words b.algorithm n.state
      ≡ blocks_from b.algorithm (chaining_words b.algorithm b.state) x
      → spare_words b.algorithm n.state ≡ spare_words b.algorithm b.state
      → n.completed_bytes ≡ cut_off (b.completed_bytes + length x) → HasTaken n (p ++ x)
  HasTaken-append {p = p} x h hx ea ew es ec =
      grind (arith, common_steps, IsWhole-append, words_after-append)

  -- the whole blocks at the front of y moved
  pub moved_front : {y left : List ℕ} {before after : Counts} → n.algorithm ≡ b.algorithm
      → left ≡ drop (whole_blocks b.algorithm (length y) * block_len b.algorithm) y
      → chaining_words b.algorithm n.state
      ≡ blocks_from b.algorithm (chaining_words b.algorithm b.state) y
      → spare_words b.algorithm n.state ≡ spare_words b.algorithm b.state
      → n.completed_bytes ≡ cut_off (b.completed_bytes + (length y - length left))
      → after ≡ raised before (whole_blocks b.algorithm (length y)) 0
      → HasRunBlocks (block_len b.algorithm) b n y left before after
  moved_front {y = y} {left = left} ea el ew es ec em =
      let a : Algorithm = b.algorithm in
      let old = chaining_words a b.state in
      let front = whole_front a y in
      let parts : front ++ left ≡ y = rw el (take-append-drop _ y) in
      let done : length y - length left ≡ length front =
      omega (arith, ap length parts, length-append front left) in
      let words = ew ∙ sym (blocks_from-front a old y) in
      let whole = (blocks-whole_front a y).0 in
      record {
        front = front;
        blocks = whole_blocks a (length y);
        size = length-whole_front a y;
        parts = parts;
        algorithm = ea;
        taken = λ p h. HasTaken-append _ h whole ea words es (omega (arith, ec, done));
        words = λ z. rw (ea, words) (sym (blocks_from-then a old front z whole));
        counted = omega (arith, ec, done);
        cost = em;
      }
