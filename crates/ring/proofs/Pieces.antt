-- SPDX-License-Identifier: ISC
-- Numbered blocks of one length, one after another, and their fronts.
use Rattle.std.proofs.lemmas.Grind.{common_steps}
use Rattle.std.proofs.Common.{◌≡◌, ℕ, List, [], ◌++◌, ◌+◌, ◌*◌, ◌≤◌, ◌<◌, ◌↔◌, length, take, drop}
use Rattle.std.proofs.Common.{suc, zero, refl, sym, ap, ◌∙◌, arith, length-append, length-take-le}
use Rattle.std.proofs.Common.{mul-le-mul_right, suc-mul, append_assoc, slice_index_or}
use Rattle.std.specs.Borrow.{Bor}
use Rattle.std.proofs.lemmas.List.{take_more}
use Rattle.std.proofs.Math.Seq.{drop-append_seam, take-add, take-append-add, take-append_seam}
use Rattle.ring.specs.Prelude.{joined, joined_blocks}

-- one piece more
pub joined-more : (pieces : List (Bor (List ℕ))) (i : ℕ) (d : Bor (List ℕ)) → i < length pieces
    → joined (take (i + 1) pieces) ≡ joined (take i pieces) ++ (slice_index_or pieces i d).now
joined-more pieces i d below =
    grind (arith, common_steps, take_more)

pub joined_blocks-none : (f : ℕ → List ℕ) → joined_blocks f 0 ≡ []
unfolding joined_blocks
joined_blocks-none f = refl

pub joined_blocks-next : (f : ℕ → List ℕ) (r : ℕ)
    → joined_blocks f (suc r) ≡ joined_blocks f r ++ f (suc r)
unfolding joined_blocks
joined_blocks-next f r = refl

-- k blocks more
pub joined_blocks-append : (f : ℕ → List ℕ) (r k : ℕ)
    → joined_blocks f (r + k) ≡ joined_blocks f r ++ joined_blocks (λ i. f (r + i)) k
unfolding joined_blocks
joined_blocks-append f r zero = grind (arith, common_steps)
joined_blocks-append f r (suc k) =
    let e : r + suc k ≡ suc (r + k) = omega arith in
    rw (e, joined_blocks-append f r k)
    (append_assoc (joined_blocks f r) (joined_blocks (λ i. f (r + i)) k) (f (suc (r + k))))

-- each block has L bytes
pub record IsEven (f : ℕ → List ℕ) (L : ℕ) : Type 0 where
  pub each : (i : ℕ) → length (f (suc i)) ≡ L

module _ {f : ℕ → List ℕ} {L : ℕ} where
  pub length-joined_blocks : IsEven f L → (r : ℕ) → length (joined_blocks f r) ≡ r * L
  length-joined_blocks even zero = rw (joined_blocks-none f) (grind arith)
  length-joined_blocks even (suc r) =
      rw (joined_blocks-next f r)
      (grind (arith, common_steps, length-joined_blocks even r, even.each r))

  -- a front of the first r blocks is one of d blocks more
  joined_blocks-front : IsEven f L → (r d R n : ℕ) → R ≡ d + r → n ≤ r * L
      → take n (joined_blocks f R) ≡ take n (joined_blocks f r)
  joined_blocks-front even r zero R n e fits = let same : R ≡ r = omega arith in rw same refl
  joined_blocks-front even r (suc d) R n e fits =
      let more : R ≡ suc (d + r) = omega arith in
      let wide : r * L ≤ (d + r) * L = mul-le-mul_right L (omega arith) in
      let front = joined_blocks-front even r d (d + r) n refl fits in
      rw (more, joined_blocks-next f (d + r))
      (grind (arith, common_steps, length-joined_blocks even (d + r)))

  -- fronts of enough blocks agree
  pub joined_blocks-agree : IsEven f L → (r s n : ℕ) → n ≤ r * L → n ≤ s * L
      → take n (joined_blocks f r) ≡ take n (joined_blocks f s)
  joined_blocks-agree even r s n p q =
      sym (joined_blocks-front even r s (s + r) n refl p)
      ∙ joined_blocks-front even s r (s + r) n (omega arith) q

  -- a front of r blocks and n bytes of the next
  pub joined_blocks-part : IsEven f L → (r w n R : ℕ) → w ≡ r * L → n ≤ L → w + n ≤ R * L
      → take (w + n) (joined_blocks f R) ≡ joined_blocks f r ++ take n (f (suc r))
  joined_blocks-part even r w n R e fits room =
      let wide : w + n ≤ suc r * L = rw (suc-mul r L) (omega (arith, e)) in
      let agree = joined_blocks-agree even R (suc r) (w + n) room wide in
      let part = take-append-add (joined_blocks f r) (f (suc r)) n in
      grind (arith, common_steps, length-joined_blocks even r, joined_blocks-next f r)

-- one block more is written, after the first r ones
pub written-more : (f : ℕ → List ℕ) (r : ℕ) {xs block out : List ℕ} (rest : List ℕ)
    → xs ≡ joined_blocks f r → block ≡ f (suc r) → out ≡ xs ++ block ++ rest
    → take (length xs + length block) out ≡ joined_blocks f (r + 1)
written-more f r {xs = xs} {block = block} rest front e eo =
    grind (arith, common_steps, joined_blocks-next f r)

-- a list begins with a front and a part exactly where it begins with the front, and has the part
-- after it
pub same_part : (xs front part : List ℕ) → length front ≤ length xs
    → (take (length (front ++ part)) xs ≡ front ++ part)
    ↔ ((take (length front) xs ≡ front) × (take (length part) (drop (length front) xs) ≡ part))
same_part xs front part below =
    let w : ℕ = length front in
    let n : ℕ = length part in
    let split : take (length (front ++ part)) xs ≡ take w xs ++ take n (drop w xs) =
    ap (λ (m : ℕ). take m xs) (length-append front part) ∙ take-add w n xs in
    let short : length (take w xs) ≡ w = length-take-le w xs below in
    let before = rw short at (take-append_seam (take w xs) (take n (drop w xs))) in
    let after = rw short at (drop-append_seam (take w xs) (take n (drop w xs))) in
    let first = take-append_seam front part in
    let second = drop-append_seam front part in
    (λ h. (cc, cc), λ h. cc)
