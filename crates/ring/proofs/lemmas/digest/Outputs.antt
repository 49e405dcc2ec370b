-- SPDX-License-Identifier: ISC
-- How the bytes of words are written one word after another.
use Rattle.std.proofs.Common.{◌≡◌, ℕ, zero, suc, ◌+◌, ◌*◌, ◌/◌, ◌%◌, ◌^◌, ◌<◌, ◌≤◌, List, []}
use Rattle.std.proofs.Common.{◌∷◌, ◌++◌, length, drop, get_or, refl}
use Rattle.std.proofs.Common.{sym, ap, ◌∙◌, arith, length-append, map}
use Rattle.std.proofs.Math.Nat.{mod-eq_of_lt}
use Rattle.std.proofs.Math.Seq.{drop-cons}
use Rattle.std.proofs.lemmas.List.{drop_all, drop_more}
use Rattle.std.proofs.lemmas.Simd.{get_or_narrower}
use Rattle.std.specs.Int.{byte_at, bytes_high_first}
use Rattle.std.specs.Simd.Lanes.{Each1, digits_l, number_l}
use Rattle.std.specs.declared.num.Wrapping.{Wrapping}
use Rattle.ring.specs.Prelude.{word_bytes}

pub length-bytes_high_first : (n x : ℕ) → length (bytes_high_first n x) ≡ n
length-bytes_high_first zero x = refl
length-bytes_high_first (suc n) x = omega (arith, length-bytes_high_first n x)

pub length-word_bytes : (n : ℕ) (ws : List ℕ) → length (word_bytes n ws) ≡ n * length ws
length-word_bytes n [] = grind arith
length-word_bytes n (w ∷ ws) =
    let e : n * (length ws + 1) ≡ n * length ws + n = grind arith in
    omega (
      arith,
      length-append (bytes_high_first n w) (word_bytes n ws),
      length-bytes_high_first n w,
      length-word_bytes n ws,
    )

-- the numbers of c words of a list, from word i on
abbrev pub numbers : (ws : List (Wrapping ℕ)) (i c : ℕ) → List ℕ
numbers ws i zero = []
numbers ws i (suc c) = (get_or ws i (record { 0 = 0 })).0 ∷ numbers ws (i + 1) c

-- those of all words, of w bits each
pub numbers_from : (w : ℕ) (ws : List (Wrapping ℕ)) (i c : ℕ) → i + c ≡ length ws
    → map (λ x. x % 2 ^ w) (numbers ws i c) ≡ map (λ (x : Wrapping ℕ). x.0 % 2 ^ w) (drop i ws)
numbers_from w ws i zero all =
    sym (ap (map (λ (x : Wrapping ℕ). x.0 % 2 ^ w)) (drop_all i ws (omega arith)))
numbers_from w ws i (suc c) all =
    let d : Wrapping ℕ = record { 0 = 0 } in
    let rest = numbers_from w ws (i + 1) c (omega arith) in
    (λ t. (get_or ws i d).0 % 2 ^ w ∷ rest t)
    ∙ sym (ap (map (λ (x : Wrapping ℕ). x.0 % 2 ^ w)) (drop_more ws i d (omega arith)))

-- byte i of a number
pub byte_is : (i x : ℕ) → x / 256 ^ i % 256 ≡ byte_at i x
byte_is zero x = omega arith
byte_is (suc i) x = refl

-- byte i of lane j, where a lane has k bytes
lane_byte : (k n : ℕ) (xs : List ℕ) (j i : ℕ)
    → Each1 (λ x. x < 256 ^ k) xs → i < k → k * j + i < n
    → get_or (digits_l 256 n (number_l (256 ^ k) xs)) (k * j + i) 0 ≡ byte_at i (get_or xs j 0)
lane_byte k n xs j i fits below within =
    get_or_narrower (256 ^ k) k 256 n xs j i refl fits below within ∙ byte_is i (get_or xs j 0)

-- the numbers below n, the greatest first
abbrev pub down : ℕ → List ℕ
down zero = []
down (suc i) = i ∷ down i

-- the lowest i bytes of lane j, the highest first
pub lane_bytes : (k n : ℕ) (xs : List ℕ) (j i : ℕ)
    → Each1 (λ x. x < 256 ^ k) xs → i ≤ k → k * j + k ≤ n
    → map (λ m. get_or (digits_l 256 n (number_l (256 ^ k) xs)) (k * j + m) 0) (down i)
    ≡ bytes_high_first i (get_or xs j 0)
lane_bytes k n xs j zero fits below within = refl
lane_bytes k n xs j (suc i) fits below within =
    let one = lane_byte k n xs j i fits (omega arith) (omega arith) in
    let rest = lane_bytes k n xs j i fits (omega arith) within in
    (λ t. one t ∷ rest t)

-- the bytes of lane j and of those after it, c lanes of k bytes, where each is swapped
abbrev pub swapped : (k n : ℕ) (xs : List ℕ) (j c : ℕ) → List ℕ
swapped k n xs j zero = []
swapped k n xs j (suc c) =
    map (λ m. get_or (digits_l 256 n (number_l (256 ^ k) xs)) (k * j + m) 0) (down k)
    ++ swapped k n xs (suc j) c

swapped_from : (k n : ℕ) (xs : List ℕ) (j c : ℕ) → Each1 (λ x. x < 256 ^ k) xs
    → j + c ≡ length xs → n ≡ k * length xs → swapped k n xs j c ≡ word_bytes k (drop j xs)
swapped_from k n xs j zero fits all e = sym (ap (word_bytes k) (drop_all j xs (omega arith)))
swapped_from k n xs j (suc c) fits all e =
    let parts : k * (j + suc c) ≡ k * j + k * c + k = grind arith in
    let within : k * j + k ≤ n = omega (arith, parts, ap (λ l. k * l) all, e) in
    let one = lane_bytes k n xs j k fits (omega arith) within in
    let rest = swapped_from k n xs (suc j) c fits (omega arith) e in
    (λ t. one t ++ rest t) ∙ sym (ap (word_bytes k) (drop-cons xs j 0 (omega arith)))

remainders : (m : ℕ) (xs : List ℕ) → Each1 (λ x. x < m) xs → map (λ x. x % m) xs ≡ xs
remainders m [] fits = refl
remainders m (x ∷ xs) (below, fits) = λ t. mod-eq_of_lt below t ∷ remainders m xs fits t

-- the bytes of words of k bytes, swapped in a vector
pub swapped_words : (k : ℕ) (xs : List ℕ) → Each1 (λ x. x < 256 ^ k) xs
    → swapped k (k * length xs) xs 0 (length xs) ≡ word_bytes k (map (λ x. x % 256 ^ k) xs)
swapped_words k xs fits =
    swapped_from k (k * length xs) xs 0 (length xs) fits (omega arith) refl
    ∙ sym (ap (word_bytes k) (remainders (256 ^ k) xs fits))

-- the sixteen bytes of a number are those of its halves
pub bytes-halves : (x : ℕ) → x < 2 ^ 128
    → bytes_high_first 16 x ≡ bytes_high_first 8 (x / 2 ^ 64) ++ bytes_high_first 8 (x % 2 ^ 64)
bytes-halves x fits =
    let xs : List ℕ = x % 2 ^ 64 ∷ x / 2 ^ 64 ∷ [] in
    let same : number_l (256 ^ 8) xs ≡ number_l (256 ^ 16) (x ∷ []) = omega arith in
    let whole = lane_bytes 16 16 (x ∷ []) 0 16 (omega arith, tt) (omega arith) (omega arith) in
    let half = λ (j : ℕ) (within : 8 * j + 8 ≤ 16).
    lane_bytes 8 16 xs j 8 (omega arith, (omega arith, tt)) (omega arith) within in
    let high = half 1 (omega arith) in
    let low = half 0 (omega arith) in
    sym whole ∙ sym (ap (λ (z : ℕ). map (λ m. get_or (digits_l 256 16 z) m 0) (down 16)) same)
    ∙ (λ t. high t ++ low t)
