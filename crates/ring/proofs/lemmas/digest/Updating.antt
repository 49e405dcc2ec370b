-- SPDX-License-Identifier: ISC
-- How update keeps what a context stands for, what it counts and what it costs.
use Rattle.std.proofs.lemmas.Grind.{common_steps}
use Rattle.std.proofs.Common.{◌≡◌, ℕ, ◌+◌, ◌-◌, ◌*◌, ◌/◌, ◌%◌, ◌<◌, ◌≤◌, List, [], ◌++◌}
use Rattle.std.proofs.Common.{length, take, refl, sym, ap, subst, ◌∙◌, arith}
use Rattle.std.proofs.Common.{length-append, length-take-le, append_assoc}
use Rattle.std.proofs.lemmas.List.{append-nil, nil_from_length}
use Rattle.std.proofs.lemmas.Nat.{div-mul-add, mod-mul-add}
use Rattle.ring.specs.Prelude.{Algorithm, BlockContext, Context, Counts, HasRunBlocks}
use Rattle.ring.specs.Prelude.{IsJoined, IsWhole}
use Rattle.ring.specs.Prelude.{block_words, digest_after}
use Rattle.ring.specs.Prelude.{StandsFor, block_len, counted_bytes, cut_off, pending_bytes, raised}
use Rattle.ring.specs.Prelude.{IsUpdated, whole_blocks}
use Rattle.ring_core.proofs.Costs.{raised-none, raised-raised}
use Rattle.ring.proofs.lemmas.digest.Blocks.{mul_whole, whole_div-add}
use Rattle.std.proofs.Math.Nat.{div-eq_of_lt}
use Rattle.ring.proofs.Rows.{block_len-positive}
use Rattle.ring.proofs.lemmas.digest.Tails.{tail_of-append}
use Rattle.ring.proofs.Rows.{block_len-most}
use Rattle.ring.proofs.lemmas.digest.Blocks.{moved_front}

-- no block moved
pub moved_none : {n : ℕ} {b new : BlockContext} {x left : List ℕ} {m : Counts} → new ≡ b
    → left ≡ x → HasRunBlocks n b new x left m m
moved_none {m = m} same e =
    record {
      front = [];
      blocks = 0;
      size = omega arith;
      parts = e;
      algorithm = ap (λ (z : BlockContext). z.algorithm) same;
      taken = λ p h. rw (same, append-nil) h;
      words = λ y. rw same refl;
      counted = omega (arith, ap counted_bytes same);
      cost = raised-none m;
    }

module _ {n : ℕ} {b new : BlockContext} {before after : Counts} where
  -- the blocks that moved, where less than a block is left
  pub moved_count : {x left : List ℕ} (j : HasRunBlocks n b new x left before after)
      → length left < n → (j.blocks ≡ length x / n) × (length left ≡ length x % n)
  moved_count {x = x} {left = left} j short =
      grind (arith, common_steps, div-mul-add, length-append, mod-mul-add)

  -- the one block that moved, where less than a block is left of it
  pub moved_block : {y rest : List ℕ} (j : HasRunBlocks n b new y rest before after)
      → length rest < n → length y ≡ n → (j.blocks ≡ 1) × (j.front ≡ y)
  moved_block {rest = rest} j short ly =
      let unit : 1 * n ≡ n = omega arith in
      let one = mul_whole 1 n (omega arith) in
      let count = moved_count j short in
      let left = ap (λ (z : ℕ). z % n) (ly ∙ sym unit) ∙ one.0 in
      let none : rest ≡ [] = nil_from_length rest (count.1 ∙ left) in (
        count.0 ∙ ap (λ (z : ℕ). z / n) (ly ∙ sym unit) ∙ one.1,
        sym (append-nil j.front) ∙ ap (λ z. j.front ++ z) (sym none) ∙ j.parts,
      )

  -- one whole block y moved, and `left` comes after it
  pub moved_one : {x y left rest : List ℕ} → HasRunBlocks n b new y rest before after
      → length rest < n → length y ≡ n → y ++ left ≡ x → HasRunBlocks n b new x left before after
  moved_one j short ly ex =
      record {
        front = j.front;
        blocks = j.blocks;
        size = j.size;
        parts = rw (moved_block j short ly).1 ex;
        algorithm = j.algorithm;
        taken = j.taken;
        words = j.words;
        counted = j.counted;
        cost = j.cost;
      }

-- blocks moved, and then more of what they left
moved_then : {n : ℕ} {b mid new : BlockContext} {x rest left : List ℕ} {m0 m1 m2 : Counts}
    → HasRunBlocks n b mid x rest m0 m1 → HasRunBlocks n mid new rest left m1 m2
    → HasRunBlocks n b new x left m0 m2
moved_then {n = n} {left = left} {m0 = m0} i j =
    let sum : (i.blocks + j.blocks) * n ≡ i.blocks * n + j.blocks * n = grind arith in
    let long = length-append i.front j.front in
    record {
      front = i.front ++ j.front;
      blocks = i.blocks + j.blocks;
      size = omega (arith, long, sum, i.size, j.size);
      parts = append_assoc i.front j.front left ∙ ap (λ z. i.front ++ z) j.parts ∙ i.parts;
      algorithm = j.algorithm ∙ i.algorithm;
      taken = λ p h. rw (← append_assoc p i.front j.front) (j.taken _ (i.taken p h));
      words = λ y. rw append_assoc (j.words y ∙ i.words (j.front ++ y));
      counted = omega (arith, i.counted, j.counted, long);
      cost = j.cost ∙ rw i.cost (raised-raised m0 i.blocks 0 j.blocks 0);
    }

-- the same, where the second size is the second block context's
pub moved_both : {b mid new : BlockContext} {x rest left : List ℕ} {m0 m1 m2 : Counts}
    → HasRunBlocks (block_len b.algorithm) b mid x rest m0 m1
    → HasRunBlocks (block_len mid.algorithm) mid new rest left m1 m2
    → HasRunBlocks (block_len b.algorithm) b new x left m0 m2
moved_both {mid} {new} {rest} {left} {m1} {m2} i j =
    let P : ℕ → Type 0 = λ n. HasRunBlocks n mid new rest left m1 m2 in
    moved_then i (subst P (ap block_len i.algorithm) j)

-- the digest after blocks moved, whatever bytes y go on
pub digest_moved : (b n : BlockContext) (x : List ℕ) {left : List ℕ} {before after : Counts}
    → HasRunBlocks (block_len b.algorithm) b n x left before after → (y : List ℕ) (m : ℕ)
    → digest_after n.algorithm (block_words n) (left ++ y) m
    ≡ digest_after b.algorithm (block_words b) (x ++ y) m
unfolding digest_after
digest_moved b n x {left = left} j y m =
    grind (arith, common_steps, append_assoc, block_len-positive, mul_whole, tail_of-append)

-- a message whose blocks so far are p, where the blocks at the front of x and d moved
pub message_moved : {n : ℕ} {b new : BlockContext} {left : List ℕ} {before after : Counts}
    (p x d : List ℕ) {m : List ℕ} (j : HasRunBlocks n b new (x ++ d) left before after)
    → m ≡ p ++ x → m ++ d ≡ (p ++ j.front) ++ left
message_moved {left = left} p x d j e =
    ap (λ z. z ++ d) e ∙ append_assoc p x d ∙ ap (λ z. p ++ z) (sym j.parts)
    ∙ sym (append_assoc p j.front left)

-- what a context s stands for after the bytes d
stands_moved : (s n : Context) (d : List ℕ) {k : ℕ} {before after : Counts}
    → HasRunBlocks k s.block n.block (pending_bytes s ++ d) (pending_bytes n) before after
    → (m : List ℕ) → StandsFor s m → StandsFor n (m ++ d)
unfolding StandsFor
stands_moved s n d j m h =
    record {
      whole = h.whole ++ j.front;
      taken = j.taken h.whole h.taken;
      message = message_moved h.whole _ d j h.message;
    }

-- the bytes ahead of an update: the first q of p, which are pending, and d
module _ (p : List ℕ) (q : ℕ) (d : List ℕ) where
  pub ahead_len : q ≤ length p → length (take q p ++ d) ≡ q + length d
  ahead_len fits =
      grind (arith, common_steps, length-take-le)

  -- the block context b, which has blocks of k bytes, became n by these bytes
  module _ {k : ℕ} {b n : BlockContext} {left : List ℕ} {before after : Counts} where
    -- how many bytes are pending then
    pub pending_moved : {r : ℕ} → HasRunBlocks k b n (take q p ++ d) left before after
        → q ≤ length p → r ≡ length left → length left < k → r ≡ (q + length d) % k
    pending_moved j fits el short =
        el ∙ (moved_count j short).1 ∙ ap (λ (z : ℕ). z % k) (ahead_len fits)

    -- what is counted then
    pub counted_moved : {r : ℕ} → HasRunBlocks k b n (take q p ++ d) left before after
        → q ≤ length p → r ≡ length left
        → cut_off (counted_bytes n + r) ≡ cut_off (cut_off (counted_bytes b + q) + length d)
    counted_moved j fits el =
        omega (arith, ap length j.parts, length-append j.front left, ahead_len fits, j.counted, el)

    -- what an update costs
    pub cost_moved : HasRunBlocks k b n (take q p ++ d) left before after
        → q ≤ length p → length left < k
        → after ≡ raised before ((q + length d) / k) 0
    cost_moved j fits short =
        let blocks = (moved_count j short).0 ∙ ap (λ (z : ℕ). z / k) (ahead_len fits) in
        j.cost ∙ ap (λ (z : ℕ). raised before z 0) blocks

-- a context s that became n by the bytes d
pub updated_moved : (s n : Context) (d : List ℕ) {before after : Counts}
    → HasRunBlocks (block_len s.block.algorithm) s.block n.block (pending_bytes s ++ d)
    (pending_bytes n) before after
    → s.num_pending ≤ length s.pending → length (pending_bytes n) ≡ n.num_pending → IsUpdated s n d
updated_moved s n d j fits long =
    let a = s.block.algorithm in
    record {
      stands = stands_moved s n d j;
      any = λ y m. digest_moved s.block n.block (pending_bytes s ++ d) j y m
          ∙ ap (λ (z : List ℕ). digest_after a (block_words s.block) z m)
          (append_assoc (pending_bytes s) d y);
      algorithm = j.algorithm;
      counted = counted_moved s.pending s.num_pending d j fits (sym long);
      pending = pending_moved s.pending s.num_pending d j fits (sym long)
          (omega (arith, long, n.partial, ap block_len j.algorithm));
    }

-- the length of a message that a context stands for
pub stands_len : (s : Context) (m : List ℕ) → (h : IsJoined s m) → s.num_pending ≤ length s.pending
    → length m ≡ length h.whole + s.num_pending
stands_len s m h fits =
    grind (arith, common_steps, length-take-le)

-- the blocks that d bytes more complete, after the message m, whose whole blocks are w and whose
-- last q bytes are pending
pub more_blocks : (a : Algorithm) (w m : List ℕ) (q d : ℕ) → IsWhole a w
    → length m ≡ length w + q → q < block_len a
    → whole_blocks a (q + d) ≡ whole_blocks a (length m + d) - whole_blocks a (length m)
more_blocks a w m q d whole len partial =
    let b : ℕ = block_len a in
    let pos = block_len-positive a in
    let more : length m + d ≡ length w + (q + d) = omega (arith, len) in
    let with_more = ap (λ (z : ℕ). z / b) more ∙ whole_div-add (length w) (q + d) b pos whole in
    let without = ap (λ (z : ℕ). z / b) len ∙ whole_div-add (length w) q b pos whole in
    omega (arith, with_more, without, div-eq_of_lt partial)

-- the same of a context
pub stands_blocks : (s : Context) (m : List ℕ) (d : ℕ) → StandsFor s m
    → s.num_pending ≤ length s.pending
    → whole_blocks s.block.algorithm (s.num_pending + d)
    ≡ whole_blocks s.block.algorithm (length m + d) - whole_blocks s.block.algorithm (length m)
unfolding StandsFor
stands_blocks s m d h fits =
    more_blocks s.block.algorithm h.whole m s.num_pending d h.taken.whole (stands_len s m h fits)
    s.partial

pub ruleset update_rules = (common_steps, block_len-most, moved_both, moved_none, stands_blocks)

pub ruleset moves = (moved_front, moved_none)
