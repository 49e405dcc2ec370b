-- SPDX-License-Identifier: ISC
-- Bytes of words: which words they write, and what an exclusive or of words does to them.
use Rattle.std.proofs.lemmas.Grind.{common_steps}
use Rattle.std.proofs.Common.{◌≡◌, ℕ, zero, suc, ◌+◌, ◌*◌, ◌/◌, ◌%◌, ◌^◌, ◌<◌, ◌≤◌, List, [], ◌∷◌}
use Rattle.std.proofs.Common.{◌++◌, length, map, take, drop, slice_index, refl, sym, ap, ◌∙◌, arith}
use Rattle.std.proofs.Common.{length-append, length-drop, length-take-le, pow_pos, suc-mul}
use Rattle.std.proofs.Common.{zero-mul}
use Rattle.std.proofs.lemmas.List.{length-take, take-append-drop, take_at}
use Rattle.std.specs.declared.num.Wrapping.{Wrapping}
use Rattle.std.proofs.lemmas.Bool.{cases_lt}
use Rattle.std.proofs.lemmas.List.Concat.{flat_map-append}
use Rattle.std.proofs.lemmas.Nat.{mod-pow-add, pow-add, xor_mod, xor_shr}
use Rattle.std.proofs.Math.Nat.{mod-eq_of_lt, pow-suc}
use Rattle.std.proofs.Math.Seq.{drop-append-add}
use Rattle.std.specs.Int.{byte_at, bytes_high_first}
use Rattle.std.specs.Int.Digits.{number_from_digits_after}
use Rattle.ring_core.specs.Prelude.{◌⊕◌, IsBlockOf, big_endian, word_at, xor_lists}
use Rattle.ring.specs.Prelude.{Algorithm, IsPaddingOf, digest_bytes, prepared_padding}
use Rattle.ring.specs.Prelude.{word_bytes, word_len}
use Rattle.ring_core.proofs.Bytes.{xor_lists-none, xor_lists-take}
use Rattle.ring_core.proofs.Mapped.{past_front}
use Rattle.ring.proofs.lemmas.digest.Outputs.{byte_is, length-bytes_high_first, length-word_bytes}

-- one byte more
more_bits : (i : ℕ) → 2 ^ (8 * suc i) ≡ 256 * 2 ^ (8 * i)
more_bits i =
    let turn : 8 * suc i ≡ 8 + 8 * i = omega arith in
    ap (λ (z : ℕ). 2 ^ z) turn ∙ pow-add 2 8 (8 * i)

pow_256 : (i : ℕ) → 256 ^ i ≡ 2 ^ (8 * i)
pow_256 zero = refl
pow_256 (suc i) = pow-suc 256 i ∙ omega (arith, pow_256 i, more_bits i)

-- byte i of a number, by shifts
byte-shifted : (i x : ℕ) → byte_at i x ≡ x / 2 ^ (8 * i) % 2 ^ 8
byte-shifted i x = sym (byte_is i x) ∙ ap (λ (z : ℕ). x / z % 256) (pow_256 i)

byte-xor : (i x y : ℕ) → byte_at i (x ⊕ y) ≡ byte_at i x ⊕ byte_at i y
byte-xor i x y =
    rw (byte-shifted i (x ⊕ y), byte-shifted i x, byte-shifted i y, xor_shr x y (8 * i))
    (xor_mod (x / 2 ^ (8 * i)) (y / 2 ^ (8 * i)) 8)

bytes-xor : (n x y : ℕ)
    → bytes_high_first n (x ⊕ y) ≡ xor_lists (bytes_high_first n x) (bytes_high_first n y)
bytes-xor zero x y = refl
bytes-xor (suc n) x y =
    let first = byte-xor n x y in
    let rest = bytes-xor n x y in
    (λ t. first t ∷ rest t)

xor-append : (xs us ys vs : List ℕ) → length xs ≡ length us
    → xor_lists (xs ++ ys) (us ++ vs) ≡ xor_lists xs us ++ xor_lists ys vs
xor-append [] [] ys vs same = refl
xor-append [] (u ∷ us) ys vs same = absurd (omega arith)
xor-append (x ∷ xs) [] ys vs same = absurd (omega arith)
xor-append (x ∷ xs) (u ∷ us) ys vs same =
    ap (λ zs. (x ⊕ u) ∷ zs) (xor-append xs us ys vs (omega arith))

word_bytes-xor : (n : ℕ) (ws vs : List ℕ)
    → word_bytes n (xor_lists ws vs) ≡ xor_lists (word_bytes n ws) (word_bytes n vs)
word_bytes-xor n [] vs = refl
word_bytes-xor n (w ∷ ws) [] = sym (xor_lists-none (word_bytes n (w ∷ ws)))
word_bytes-xor n (w ∷ ws) (v ∷ vs) =
    let same : length (bytes_high_first n w) ≡ length (bytes_high_first n v) =
    length-bytes_high_first n w ∙ sym (length-bytes_high_first n v) in
    rw (bytes-xor n w v, word_bytes-xor n ws vs) (sym (xor-append (bytes_high_first n w)
    (bytes_high_first n v) (word_bytes n ws) (word_bytes n vs) same))

-- a front of an exclusive or is that of the front
take-xor_lists : (n : ℕ) (xs ys : List ℕ) → take n (xor_lists xs ys) ≡ xor_lists (take n xs) ys
take-xor_lists zero xs ys = refl
take-xor_lists (suc n) [] ys = refl
take-xor_lists (suc n) (x ∷ xs) [] = refl
take-xor_lists (suc n) (x ∷ xs) (y ∷ ys) = ap (λ zs. (x ⊕ y) ∷ zs) (take-xor_lists n xs ys)

-- the digest of the exclusive or of words
pub digest_bytes-xor : (a : Algorithm) (ws vs : List ℕ)
    → digest_bytes a (xor_lists ws vs) ≡ xor_lists (digest_bytes a ws) (digest_bytes a vs)
digest_bytes-xor a ws vs =
    grind (arith, common_steps, length-take, word_bytes-xor, take-xor_lists, xor_lists-take)

-- the number that its bytes write, after others
number-bytes : (n x high : ℕ)
    → number_from_digits_after 256 high (bytes_high_first n x)
    ≡ high * 2 ^ (8 * n) + x % 2 ^ (8 * n)
number-bytes zero x high = omega arith
number-bytes (suc n) x high =
    let p : ℕ = 2 ^ (8 * n) in
    let turn : 8 + 8 * n ≡ 8 * suc n = omega arith in
    let split : x % 2 ^ (8 * suc n) ≡ byte_at n x * p + x % p =
    ap (λ (z : ℕ). x % 2 ^ z) (sym turn) ∙ mod-pow-add x 8 (8 * n)
    ∙ ap (λ (z : ℕ). z * p + x % p) (sym (byte-shifted n x)) in
    let more : 2 ^ (8 * suc n) ≡ 256 * p = more_bits n in
    number-bytes n x (high * 256 + byte_at n x)
    ∙ rw (split, more) (grind arith)

word-number : (n x : ℕ) → x < 2 ^ (8 * n) → big_endian (bytes_high_first n x) ≡ x
word-number n x fits = number-bytes n x 0 ∙ omega (arith, mod-eq_of_lt fits)

-- the bytes of word j
word_at-bytes : (n : ℕ) (ws : List ℕ) (j : ℕ) → j < length ws
    → take n (drop (j * n) (word_bytes n ws)) ≡ bytes_high_first n (slice_index ws j)
word_at-bytes n [] j below = absurd (omega arith)
word_at-bytes n (w ∷ ws) zero below =
    rw (zero-mul n)
    (take_at (bytes_high_first n w) (word_bytes n ws) n (length-bytes_high_first n w))
word_at-bytes n (w ∷ ws) (suc j) below =
    let bytes : List ℕ = bytes_high_first n w in
    let turn : suc j * n ≡ length bytes + j * n =
    suc-mul j n ∙ omega (arith, length-bytes_high_first n w) in
    ap (λ (z : ℕ). take n (drop z (bytes ++ word_bytes n ws))) turn
    ∙ ap (take n) (drop-append-add bytes (word_bytes n ws) (j * n))
    ∙ word_at-bytes n ws j (omega arith)

-- each number of the list is below m
abbrev pub AllBelow : ℕ → List ℕ → Type 0
AllBelow m xs = (t : ℕ) → slice_index xs t < m

pub map-below : {X : Type 0} (f : X → ℕ) (m : ℕ) (xs : List X) → 0 < m → ((x : X) → f x < m)
    → AllBelow m (map f xs)
map-below f m [] some each t = some
map-below f m (x ∷ xs) some each zero = each x
map-below f m (x ∷ xs) some each (suc t) = map-below f m xs some each t

front-below : (m n : ℕ) (xs ys : List ℕ) → n ≤ length xs → AllBelow m xs → AllBelow m ys
    → AllBelow m (take n xs ++ drop n ys)
front-below m n xs ys room hx hy t =
    grind (arith, common_steps, cases_lt, length-take-le, past_front)

-- the words of w bits whose bytes these are
block-words : (w n : ℕ) (ws : List ℕ) (t : ℕ) → w / 8 ≡ n → t < length ws
    → AllBelow (2 ^ (8 * n)) ws → slice_index ws t ≡ word_at w (word_bytes n ws) t
block-words w n ws t size below fits =
    grind (arith, common_steps, word_at-bytes, word-number)

-- a front of the bytes of words
take-word_bytes : (n k : ℕ) (ws : List ℕ) → k ≤ length ws
    → take (k * n) (word_bytes n ws) ≡ word_bytes n (take k ws)
take-word_bytes n k ws room =
    let front : List ℕ = word_bytes n (take k ws) in
    let turn : n * k ≡ k * n = grind arith in
    let long : length front ≡ k * n =
    length-word_bytes n (take k ws) ∙ ap (λ (z : ℕ). n * z) (length-take-le k ws room) ∙ turn in
    ap (λ z. take (k * n) (word_bytes n z)) (sym (take-append-drop k ws))
    ∙ ap (take (k * n)) (flat_map-append (bytes_high_first n) (take k ws) (drop k ws))
    ∙ take_at front (word_bytes n (drop k ws)) (k * n) long

-- the numbers that words of w bits stand for
abbrev pub values : (w : ℕ) → List (Wrapping ℕ) → List ℕ
values w words = map (λ x. x.0 % 2 ^ w) words

-- behind a digest in the words of a lane, its padding makes a block
pub padded-words : {X : Type 0} {a : Algorithm} {w k : ℕ} {padding : List ℕ} {f : X → ℕ}
    (xs : List X) → IsPaddingOf a w k padding → AllBelow (2 ^ w) padding → length (map f xs) ≡ 8
    → ((x : X) → f x < 2 ^ w)
    → IsBlockOf w k (map f xs) padding (digest_bytes a (map f xs) ++ prepared_padding a)
padded-words {a = a} {w = w} {k = k} {padding = vs} {f} xs t small eight each =
    let n : ℕ = word_len a in
    let ws : List ℕ = map f xs in
    let all : List ℕ = take k ws ++ drop k vs in
    let room : k ≤ length ws = omega (arith, t.room, eight) in
    let long : length all ≡ 16 =
    length-append (take k ws) (drop k vs)
    ∙ omega (arith, length-take-le k ws room, length-drop k vs, t.sixteen, t.room) in
    let below : AllBelow (2 ^ w) all =
    front-below (2 ^ w) k ws vs room (map-below f (2 ^ w) xs (pow_pos w) each) small in
    let fits : AllBelow (2 ^ (8 * n)) all = λ (j : ℕ). rw (← t.bits) (below j) in
    let block : word_bytes n all ≡ digest_bytes a ws ++ prepared_padding a =
    cc (
      flat_map-append (bytes_high_first n) (take k ws) (drop k vs),
      t.digest,
      t.bytes,
      take-word_bytes n k ws room,
    ) in
    let size : w / 8 ≡ n = omega (arith, t.bits) in
    record {
      word = λ j below. block-words w n all j size (omega (arith, long)) fits
          ∙ ap (λ z. word_at w z j) block;
    }
