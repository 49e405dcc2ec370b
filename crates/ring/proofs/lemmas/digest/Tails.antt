-- SPDX-License-Identifier: ISC
-- What follows the whole blocks of a padded message.
use Rattle.std.proofs.lemmas.Grind.{common_steps}
use Rattle.std.proofs.Common.{◌≡◌, ℕ, suc, ◌+◌, ◌-◌, ◌*◌, ◌%◌, ◌<◌, ◌≤◌, List, ◌∷◌, ◌++◌, length}
use Rattle.std.proofs.Common.{take, drop, replicate, slice_set, sym, ap, ◌∙◌, arith}
use Rattle.std.proofs.lemmas.List.{drop-replicate, take-replicate, take_at}
use Rattle.std.proofs.Math.Seq.{set-append_seam, take-append-add}
use Rattle.std.specs.Int.{bytes_high_first}
use borrow.Rule.Slice.PartMut.{put_mid}
use Rattle.ring.specs.Prelude.{Algorithm, IsWhole, block_len}
use Rattle.ring.specs.Prelude.{length_len, padded, padded_blocks}
use Rattle.ring.specs.Prelude.{tail_of, zeros_of}
use Rattle.ring.proofs.lemmas.digest.Outputs.{length-bytes_high_first}
use Rattle.ring.proofs.Rows.{by_sizes}
use Rattle.ring.proofs.Rows.{short_field}

-- the tail has room for all that is written, and no more than two blocks
pub tail_sizes : (a : Algorithm) (r : ℕ) → r < block_len a
    → (padded_blocks a r * block_len a ≤ 256)
    × (r + 1 + length_len a ≤ padded_blocks a r * block_len a)
tail_sizes a r =
    grind (arith, common_steps, by_sizes)

-- the zeros depend only on what is left of the message
pub zeros_past : (a : Algorithm) (n r : ℕ) → n % block_len a ≡ 0
    → zeros_of a (n + r) ≡ zeros_of a r
zeros_past a n r =
    grind (arith, common_steps, by_sizes)

-- whole blocks before a tail
pub tail_of-append : (a : Algorithm) (p x : List ℕ) (n : ℕ) → IsWhole a p
    → tail_of a (p ++ x) n ≡ p ++ tail_of a x n
tail_of-append a p x n whole =
    grind (arith, common_steps, zeros_past)

-- the padded message is its whole blocks and the tail
pub padded-append : (a : Algorithm) (p x : List ℕ) → IsWhole a p
    → padded a (p ++ x) ≡ p ++ tail_of a x (length (p ++ x))
unfolding padded
padded-append a p x whole =
    grind (arith, common_steps, zeros_past)

-- a length field of l bytes written before a place
pub length_put : (a : Algorithm) (xs : List ℕ) {be : List ℕ} (n end : ℕ) {l : ℕ}
    → l ≡ length_len a → l ≤ end → be ≡ bytes_high_first l (8 * n)
    → put_mid (end - l) (end - (end - l)) xs be
    ≡ take (end - length_len a) xs ++ bytes_high_first (length_len a) (8 * n) ++ drop end xs
length_put a xs n end {l = l} el room eb =
    grind (arith, common_steps)

-- zeros with x and the byte 0x80 written over their front
abbrev marked : List ℕ → List ℕ
marked x = slice_set (put_mid 0 (length x) (replicate 256 0) x) (length x) 128

marked-is : (x : List ℕ) → length x < 256
    → marked x ≡ x ++ 128 ∷ replicate (255 - length x) 0
marked-is x below =
    let s : ℕ = length x in
    let more : 256 - s ≡ suc (255 - s) = omega arith in
    let over : drop {A = ℕ} s (replicate 256 0) ≡ 0 ∷ replicate (255 - s) 0 =
    drop-replicate s 256 0 ∙ ap (λ (m : ℕ). replicate m 0) more in
    rw over (set-append_seam x 0 (replicate (255 - s) 0) 128)

-- the front of them that has z zeros
take-marked : (x : List ℕ) (z : ℕ) → length x + suc z ≤ 256
    → take (length x + suc z) (marked x) ≡ x ++ 128 ∷ replicate z 0
take-marked x z fits =
    grind (arith, common_steps, marked-is, take-append-add, take-replicate)

length-tail_of : (a : Algorithm) (x : List ℕ) (n : ℕ)
    → length (tail_of a x n) ≡ length x + suc (zeros_of a (length x)) + length_len a
length-tail_of a x n =
    grind (arith, common_steps, length-bytes_high_first)

-- the tail, as it is written over zeros
pub tail_written : (a : Algorithm) (x : List ℕ) (n t : ℕ) → length x < block_len a
    → t ≡ padded_blocks a (length x) * block_len a
    → take t (take (t - length_len a) (marked x) ++ bytes_high_first (length_len a) (8 * n)
    ++ drop t (marked x))
    ≡ tail_of a x n
tail_written a x n t below et =
    let z : ℕ = zeros_of a (length x) in
    let field : List ℕ = bytes_high_first (length_len a) (8 * n) in
    let sizes = tail_sizes a (length x) below in
    let size : t ≡ length x + suc z + length_len a = omega (arith, sizes.1) in
    let front : t - length_len a ≡ length x + suc z = omega arith in
    let fits : length x + suc z ≤ 256 = omega (arith, sizes.0) in
    let kept : take (t - length_len a) (marked x) ++ field ≡ tail_of a x n =
    rw front (ap (λ (zs : List ℕ). zs ++ field) (take-marked x z fits)) in
    rw kept (take_at (tail_of a x n) (drop t (marked x)) t (length-tail_of a x n ∙ sym size))

pub ruleset length_rules = (common_steps, length_put, short_field)
