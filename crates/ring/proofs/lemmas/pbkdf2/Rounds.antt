-- SPDX-License-Identifier: ISC
-- The rounds of keys of one length, and what has come of those before one.
use Rattle.std.proofs.Common.{◌≡◌, ◌≢◌, ◌∙◌, ℕ, ◌+◌, ◌-◌, ◌*◌, ◌<◌, ◌≤◌, ◌++◌, [], List, add-one}
use Rattle.std.proofs.Common.{arith, length, min, mul-le-mul_right, refl, suc, take, take_all, zero}
use Rattle.std.proofs.Math.Nat.{lt_of_mul-lt-mul_right}
use Rattle.std.proofs.lemmas.Grind.{common_steps, div_ceil_times}
use Rattle.ring.specs.Prelude.{Algorithm, AreOfKeys, Counts, IsRound, Receives, Round, Takes}
use Rattle.ring.specs.Prelude.{bytes_before, derive_rounds, dk, front, len_before, next_round}
use Rattle.ring.specs.Prelude.{output_len, pbkdf2_t, raised, round_on, rounds_before, sum_below}
use Rattle.ring.proofs.lemmas.pbkdf2.Iterates.{length-pbkdf2_t}
use Rattle.ring.proofs.Pieces.{IsEven, joined_blocks-none, joined_blocks-part, length-joined_blocks}
use Rattle.ring.proofs.Rows.{output_len-positive}
use Rattle.ring.proofs.Sums.{raised-both, sum_below-next, sum_below-none}
use Rattle.ring.proofs.lemmas.pbkdf2.Taking.{takes-at, takes-none, takes-same}

-- one product more
pub mul-more : (r b : ℕ) → r * b + b ≡ (r + 1) * b
mul-more r b = grind arith

-- and some products more
pub mul-sum : (p d k n : ℕ) → d + k ≡ n → p * d + p * k ≡ p * n
mul-sum p d k n e = rw (← e) (grind arith)

-- r rounds reach k bytes, and no fewer do
pub rounds-reach : (a : Algorithm) (r k : ℕ) → k ≤ r * output_len a
    → r * output_len a < k + output_len a → derive_rounds a k ≡ r
rounds-reach a r k wide needed =
    let L : ℕ = output_len a in
    let up = div_ceil_times k L (output_len-positive a) in
    let more = mul-more (derive_rounds a k) L in
    grind (arith, common_steps, mul-more r L, lt_of_mul-lt-mul_right)

-- the rounds of keys of n bytes
module _ (a : Algorithm) (n : ℕ) (r : Round) where
  pub round_on-next : (k : ℕ) → round_on a n r (k + 1) ≡ next_round a n (round_on a n r k)
  unfolding round_on
  round_on-next k = rw add-one refl

  pub round_on-none : round_on a n r 0 ≡ r
  unfolding round_on
  round_on-none = refl

module _ {a : Algorithm} {n : ℕ} {r : Round} (is : IsRound a n r) where
  pub is_round-next : IsRound a n (next_round a n r)
  unfolding next_round
  is_round-next = grind (arith, common_steps, mul-more)

  -- the last round of a key
  index-last : n ≤ r.from + output_len a → r.index ≡ derive_rounds a n
  index-last all = grind (arith, common_steps, rounds-reach a r.index n)

pub is_round-on : {a : Algorithm} {n : ℕ} {r : Round} → IsRound a n r → (k : ℕ)
    → IsRound a n (round_on a n r k)
is_round-on {a} {n} {r} is zero = rw (round_on-none a n r) is
is_round-on {a} {n} {r} is (suc k) =
    rw (← add-one k, round_on-next a n r k) (is_round-next (is_round-on is k))

-- the first round of all
abbrev pub first_round : Round
first_round = record { place = 0; index = 1; from = 0 }

pub is_round-first : {a : Algorithm} {n : ℕ} → 0 < n → IsRound a n first_round
is_round-first some = record { some = omega arith; begins = omega arith; within = some }

-- keys of no byte have none
pub no_rounds : (a : Algorithm) (b : ℕ) → derive_rounds a 0 * b ≡ 0
no_rounds a b = grind (arith, common_steps, rounds-reach a 0 0, output_len-positive a)

module _ {a : Algorithm} {n : ℕ} {r : Round} (is : IsRound a n r) where
  before-here : rounds_before a n r r.place + 1 ≡ r.index
  unfolding rounds_before
  before-here = grind (arith, common_steps, is.some)

  before-next_here : rounds_before a n (next_round a n r) r.place ≡ r.index
  unfolding rounds_before next_round
  before-next_here = grind (arith, common_steps, index-last is)

  before-next_other : (i : ℕ) → i ≢ r.place
      → rounds_before a n (next_round a n r) i ≡ rounds_before a n r i
  unfolding rounds_before next_round
  before-next_other i other = grind (arith, common_steps)

-- none come before the first round, and all of a key before a round of a later one
before-first : (a : Algorithm) (n i : ℕ)
    → rounds_before a n first_round i ≡ 0
unfolding rounds_before
before-first a n i = grind (arith, common_steps)

before-later : (a : Algorithm) (n : ℕ) (r : Round) (i : ℕ) → i < r.place
    → rounds_before a n r i ≡ derive_rounds a n
unfolding rounds_before
before-later a n r i below = grind (arith, common_steps)

module _ {L : ℕ} (n : ℕ) {f : ℕ → List ℕ} (even : IsEven f L) where
  pub length-front : (k : ℕ) → length (front L n f k) ≡ min n (k * L)
  length-front k = grind (arith, common_steps, length-joined_blocks even k)

  -- those of one block more
  front-next : (k j w : ℕ) → k + 1 ≡ j → w ≡ k * L → w < n
      → front L n f j ≡ front L n f k ++ take (min L (n - w)) (f j)
  front-next k j w count from more =
      let part = joined_blocks-part even k w (min L (n - w)) (suc k) from (omega arith) in
      grind (arith, common_steps, mul-more k L, length-joined_blocks even k)

pub even_rounds : (a : Algorithm) (p s : List ℕ) (c : ℕ)
    → IsEven (λ i. pbkdf2_t a p s i c) (output_len a)
even_rounds a p s c = record { each = λ i. length-pbkdf2_t a p s (suc i) c }

-- all rounds have all bytes of a derivation
dk-front : (a : Algorithm) (p s : List ℕ) (c n : ℕ)
    → dk a p s c n ≡ front (output_len a) n (λ i. pbkdf2_t a p s i c) (derive_rounds a n)
unfolding dk
dk-front a p s c n =
    let up = div_ceil_times n (output_len a) (output_len-positive a) in
    let all : min n (derive_rounds a n * output_len a) ≡ n = omega (arith, up.0) in
    rw all refl

pub length-dk : (a : Algorithm) (p s : List ℕ) (c n : ℕ) → length (dk a p s c n) ≡ n
length-dk a p s c n =
    let up = div_ceil_times n (output_len a) (output_len-positive a) in
    let size = length-front n (even_rounds a p s c) (derive_rounds a n) in
    rw (dk-front a p s c n) (omega (arith, size))

-- r is a round of m keys, or that of the key that would come after them
pub record IsUpTo (m : ℕ) (r : Round) : Type 0 where
  pub place : r.place ≤ m
  pub first : r.place ≡ m → (r.index ≡ 1) × (r.from ≡ 0)

-- the blocks of the rounds before r, of which each at the place i has b i
abbrev pub blocks_before : Algorithm → (ℕ → ℕ) → ℕ → Round → ℕ
blocks_before a b n r = derive_rounds a n * sum_below b r.place + (r.index - 1) * b r.place

product-more : (k s b : ℕ) → (k + 1) * s + k * b + b ≡ (k + 1) * (s + b) + 0
product-more k s b = grind arith

pub up_to-first : (m : ℕ) → IsUpTo m first_round
up_to-first m = record { place = omega arith; first = λ none. (refl, refl) }

pub blocks-first : (a : Algorithm) (b : ℕ → ℕ) (n : ℕ) → blocks_before a b n first_round ≡ 0
blocks-first a b n = grind (arith, sum_below-none b)

module _ {a : Algorithm} {n : ℕ} {r : Round} (is : IsRound a n r) where
  pub up_to-next : {m : ℕ} → r.place < m → IsUpTo m (next_round a n r)
  unfolding next_round
  up_to-next below = grind (arith, common_steps)

  blocks-next : (b : ℕ → ℕ)
      → blocks_before a b n r + b r.place ≡ blocks_before a b n (next_round a n r)
  unfolding next_round
  blocks-next b =
      let count : r.index ≡ r.index - 1 + 1 = omega (arith, is.some) in
      let next = sum_below-next b r.place in
      let more = mul-more (r.index - 1) (b r.place) in
      let all = product-more (r.index - 1) (sum_below b r.place) (b r.place) in
      grind (arith, common_steps, index-last is)

  pub len-next : len_before n r + min (output_len a) (n - r.from) ≡ len_before n (next_round a n r)
  unfolding next_round
  len-next = grind (arith, common_steps, mul-more)

  pub len-more : len_before n r < len_before n (next_round a n r)
  len-more = rw (← len-next) (omega (arith, output_len-positive a, is.within))

  -- they are fewer than those of all keys
  pub len-most : {m : ℕ} → r.place < m → len_before n r < m * n
  len-most {m} below =
      grind (
        arith,
        common_steps,
        mul-more r.place n,
        is.within,
        mul-le-mul_right {m = r.place + 1} {n = m} n,
      )

pub blocks-on : {a : Algorithm} {n : ℕ} {r : Round} (is : IsRound a n r) (b : ℕ → ℕ) (k : ℕ)
    → blocks_before a b n r + sum_below (λ i. b (round_on a n r i).place) k
    ≡ blocks_before a b n (round_on a n r k)
blocks-on {a} {n} {r} is b zero = rw (round_on-none a n r, sum_below-none) (omega arith)
blocks-on {a} {n} {r} is b (suc k) =
    let f : ℕ → ℕ = λ i. b (round_on a n r i).place in
    rw (← add-one k, ← sum_below-next f k, round_on-next a n r k)
    (omega (arith, blocks-on is b k, blocks-next (is_round-on is k) b))

-- k rounds have k bytes or more, and are of the same keys
pub len-on : {a : Algorithm} {n : ℕ} {r : Round} → IsRound a n r → (k : ℕ)
    → len_before n r + k ≤ len_before n (round_on a n r k)
len-on {a} {n} {r} is zero = rw (round_on-none a n r) (omega arith)
len-on {a} {n} {r} is (suc k) =
    rw (← add-one k, round_on-next a n r k)
    (omega (arith, len-on is k, len-more (is_round-on is k)))

-- fewer rounds are of as many keys
pub fewer_rounds : {a : Algorithm} {n m k : ℕ} {r : Round} (l : ℕ) → AreOfKeys a n r m k → l ≤ m
    → AreOfKeys a n r l k
fewer_rounds l are few = record { each = λ i below. are.each i (omega (arith, few, below)) }

pub up_to-on : {a : Algorithm} {n m : ℕ} {r : Round} → IsRound a n r → IsUpTo m r → (k : ℕ)
    → AreOfKeys a n r k m → IsUpTo m (round_on a n r k)
up_to-on {a} {n} {r = r} is up_to zero are = rw (round_on-none a n r) up_to
up_to-on {a} {n} {r = r} is up_to (suc k) are =
    rw (← add-one k, round_on-next a n r k)
    (up_to-next (is_round-on is k) (are.each k (omega arith)))

-- and as much as the meter has risen, once they are made
pub raised-on : {a : Algorithm} {n : ℕ} {r : Round} (is : IsRound a n r) (b : ℕ → ℕ) (k : ℕ)
    (m0 : Counts) (q : ℕ) {m1 m2 : Counts} → m1 ≡ raised m0 (blocks_before a b n r) q
    → m2 ≡ raised m1 (sum_below (λ i. b (round_on a n r i).place) k) 0
    → m2 ≡ raised m0 (blocks_before a b n (round_on a n r k)) q
raised-on {a} {n} {r} is b k m0 q before made =
    raised-both m0 (blocks_before a b n r) q (sum_below (λ i. b (round_on a n r i).place) k) 0
    (before, made) (blocks-on is b k) (omega arith)

module _ {R : Type 0} {H : R → R → ℕ → List ℕ → Type 0} {a : Algorithm} {n first m : ℕ}
    {f : ℕ → ℕ → List ℕ} (even : (i : ℕ) → IsEven (f i) (output_len a)) where
  -- the round r is taken
  pub taken-next : {r : Round} {part : List ℕ} {x y z : R} → IsRound a n r → r.place < m
      → Receives H first m (bytes_before a n f r) x y
      → part ≡ take (min (output_len a) (n - r.from)) (f r.place r.index)
      → Takes H (first + r.place) r.from part y z
      → Receives H first m (bytes_before a n f (next_round a n r)) x z
  taken-next {r} {part} is below taken same took =
      let k : ℕ = rounds_before a n r r.place in
      let count : k + 1 ≡ r.index = before-here is in
      let from : r.from ≡ k * output_len a = grind (arith, common_steps, mul-more k) in
      takes-at taken took below
      (length-front n (even r.place) k ∙ omega (arith, from, is.within))
      (rw (before-next_here is, same)
      (front-next n (even r.place) k r.index r.from count from is.within))
      (λ i other. rw (before-next_other is i other) refl)

-- keys of no byte take none
pub derived-none : {R : Type 0} {H : R → R → ℕ → List ℕ → Type 0} {first m : ℕ} (a : Algorithm)
    (p s : ℕ → List ℕ) (c : ℕ) {x : R} → Receives H first m (λ i. dk a (p i) (s i) c 0) x x
unfolding dk
derived-none a p s c = takes-none (λ i below. refl)

-- at the start none are taken, and at the end the derivations
module _ {R : Type 0} {H : R → R → ℕ → List ℕ → Type 0} (a : Algorithm) (n : ℕ) {first m : ℕ} where
  pub taken-first : (f : ℕ → ℕ → List ℕ) {x : R}
      → Receives H first m (bytes_before a n f first_round) x x
  taken-first f = takes-none (λ i below.
      rw (before-first a n i, joined_blocks-none (f i)) (take_all _ [] (omega arith)))

  pub taken-derived : (p s : ℕ → List ℕ) (c : ℕ) (r : Round) {x y : R} → r.place ≡ m
      → Receives H first m (bytes_before a n (λ i j. pbkdf2_t a (p i) (s i) j c) r) x y
      → Receives H first m (λ i. dk a (p i) (s i) c n) x y
  taken-derived p s c r all taken = takes-same taken (λ i below.
      rw (before-later a n r i (omega (arith, all, below)), dk-front a (p i) (s i) c n) refl)
