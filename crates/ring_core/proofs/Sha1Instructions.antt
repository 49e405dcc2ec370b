-- SPDX-License-Identifier: ISC
-- The steps of the processors' instructions for SHA-1 are the standard's.
use Rattle.std.proofs.Common.{◌≡◌, ℕ, ◌+◌, ◌-◌, ◌*◌, ◌%◌, ◌^◌, ◌<◌, ◌≤◌, List, [], ◌∷◌}
use Rattle.std.proofs.Common.{ap, arith, bit_xor, refl, slice_index, ◌∙◌}
use Rattle.std.proofs.Math.Nat.{add-mod-mod, mod-add-mod}
use Rattle.std.proofs.lemmas.Nat.{xor_lt}
use Rattle.std.proofs.lemmas.Nat.Bits.{bit_at_xor, same_from_bits}
use Rattle.std.specs.Simd.Lanes.{zip2}
use Rattle.ring_core.specs.FourWords.{next_four}
use Rattle.ring_core.specs.Instructions.{sha1_constant, sha1_function, sha1hash_step, sha1msg1}
use Rattle.ring_core.specs.Instructions.{sha1hash, sha1msg2, sha1rnds4, sha1su0, sha1su1}
use Rattle.ring_core.specs.Instructions.{sha1rnds4_first, sha1rnds4_next}
use Rattle.ring_core.specs.Prelude.{◌⊕◌, add_words, four, rotl, rotr, sixteen}
use Rattle.ring_core.specs.Sha1.{W, round, round_constant, round_function, rounds_from}
use Rattle.ring_core.proofs.Sha2Instructions.{add-none}
use Rattle.ring_core.proofs.Rotation.{rotr-lt}
use Rattle.ring_core.proofs.Schedule.{steps-four}
use Rattle.ring_core.proofs.Sha1FourWords.{W-next_words, rotl-twice, rotl-xor, xor-lt}
use Rattle.ring_core.proofs.Sha1Steps.{rounds-next}

-- a round has function and constant i: those of twenty rounds each
pub record IsOf (i t : ℕ) : Type 0 where
  pub below : i < 4
  pub from : 20 * i ≤ t
  pub to : t < 20 * i + 20

pub function-of : (i t x y z : ℕ) → IsOf i t → round_function t x y z ≡ sha1_function i x y z
function-of i t x y z of = grind (arith, of.below, of.from, of.to)

pub constant-of : (i t : ℕ) → IsOf i t → round_constant t ≡ sha1_constant i
constant-of i t of = grind (arith, of.below, of.from, of.to)

-- the orders in which the parts of a round's sum are added
first-order : (n f r w e k : ℕ)
    → (((f + r) % n + (w + e) % n) % n + k) % n ≡ ((((r + f) % n + e) % n + k) % n + w) % n
first-order n f r w e k =
    simp (add-mod-mod, mod-add-mod) (ap (λ (x : ℕ). x % n) (omega arith))

next-order : (n f r w e k : ℕ)
    → ((((f + r) % n + w) % n + e) % n + k) % n ≡ ((((r + f) % n + e) % n + k) % n + w) % n
next-order n f r w e k = simp mod-add-mod (ap (λ (x : ℕ). x % n) (omega arith))

step-order : (n f r w e k : ℕ)
    → (((e + r) % n + f) % n + (k + w) % n) % n ≡ ((((r + f) % n + e) % n + k) % n + w) % n
step-order n f r w e k =
    simp (add-mod-mod, mod-add-mod) (ap (λ (x : ℕ). x % n) (omega arith))

-- the first round of SHA1RNDS4, with the variable e added to the word
pub rnds4-first : (i t : ℕ) (v : List ℕ) (w : ℕ) → IsOf i t → let x = slice_index v in
    sha1rnds4_first i (x 0 ∷ x 1 ∷ x 2 ∷ x 3 ∷ []) (add_words 32 w (x 4)) ≡ round v t w
unfolding sha1rnds4_first round
rnds4-first i t v w of =
    let x = slice_index v in
    rw (← function-of i t (x 1) (x 2) (x 3) of, ← constant-of i t of, first-order) refl

-- each other
pub rnds4-next : (i t : ℕ) (v : List ℕ) (w : ℕ) → IsOf i t → sha1rnds4_next i v w ≡ round v t w
unfolding sha1rnds4_next round
rnds4-next i t v w of =
    let x = slice_index v in
    let f = round_function t (x 1) (x 2) (x 3) in
    let order = next-order (2 ^ 32) f (rotl 32 5 (x 0)) w (x 4) (round_constant t) in
    rw (← function-of i t (x 1) (x 2) (x 3) of, ← constant-of i t of, order) refl

-- a step of SHA1C, SHA1P or SHA1M, with the constant added to the word
pub sha1hash-step : (t : ℕ) (v : List ℕ) (w : ℕ)
    → sha1hash_step (round_function t) v (add_words 32 (round_constant t) w) ≡ round v t w
unfolding sha1hash_step round
sha1hash-step t v w = rw step-order refl

-- a word is the sum of a constant and of what it takes beside that
pub with-constant : (t x : ℕ) → x < 2 ^ 32
    → add_words 32 (round_constant t) (x + 2 ^ 32 - round_constant t) ≡ x
with-constant t x fits = grind arith

-- the same by the number of its twenty rounds
pub sha1hash-round : (i t : ℕ) (v : List ℕ) (w : ℕ) → IsOf i t
    → sha1hash_step (sha1_function i) v (add_words 32 (sha1_constant i) w) ≡ round v t w
unfolding sha1hash_step round
sha1hash-round i t v w of =
    let x = slice_index v in
    rw (← function-of i t (x 1) (x 2) (x 3) of, ← constant-of i t of, step-order) refl

-- the rounds of SHA1RNDS4 from the variable e, where it is added to the word, as 0
pub rnds4-all : (i : ℕ) (v ws : List ℕ) → i < 4 → slice_index ws 3 < 2 ^ 32
    → let x = slice_index v in
    let w = slice_index ws in
    let r = λ (v : List ℕ) (w : ℕ). round v (20 * i) w in
    let next = sha1rnds4_next i in
    next (next (next (sha1rnds4_first i (x 3 ∷ x 2 ∷ x 1 ∷ x 0 ∷ []) (w 3)) (w 2)) (w 1)) (w 0)
    ≡ r (r (r (r (x 3 ∷ x 2 ∷ x 1 ∷ x 0 ∷ 0 ∷ []) (w 3)) (w 2)) (w 1)) (w 0)
rnds4-all i v ws below fits =
    let x = slice_index v in
    let w = slice_index ws in
    let of : IsOf i (20 * i) = record { below = below; from = omega arith; to = omega arith } in
    rw (
      ← rnds4-first i (20 * i) (x 3 ∷ x 2 ∷ x 1 ∷ x 0 ∷ 0 ∷ []) (w 3) of,
      add-none (w 3) fits,
      rnds4-next i (20 * i) _ (w 2) of,
      rnds4-next i (20 * i) _ (w 1) of,
      rnds4-next i (20 * i) _ (w 0) of,
    ) refl

-- the order in which the parts of a word of the schedule stand under exclusive or
xor-order : (p q r s : ℕ) → p ⊕ q ⊕ r ⊕ s ≡ s ⊕ r ⊕ p ⊕ q
xor-order p q r s = same_from_bits _ _ (λ n. simp bit_at_xor (omega arith))

-- four words in the order of SHA1MSG1
abbrev pub turned : List ℕ → List ℕ
turned x = slice_index x 3 ∷ slice_index x 2 ∷ slice_index x 1 ∷ slice_index x 0 ∷ []

-- SHA1MSG1, an exclusive or and SHA1MSG2 give the next four words
pub intel-next-words : (b : List ℕ) (g : ℕ) (x y z u : List ℕ)
    → turned x ∷ turned y ∷ turned z ∷ turned u ∷ [] ≡ sixteen (W b) g
    → let c = slice_index z in
    turned (sha1msg2 (zip2 bit_xor (sha1msg1 x y) (c 0 ∷ c 1 ∷ c 2 ∷ c 3 ∷ [])) u)
    ≡ four (W b) (g + 4)
intel-next-words b g x y z u words =
    let a = slice_index x in
    let v = slice_index y in
    let c = slice_index z in
    let d = slice_index u in
    let r = rotl 32 1 in
    let e0 = ap r (xor-order (a 1) (a 3) (c 3) (d 2)) in
    let e1 = ap r (xor-order (a 0) (a 2) (c 2) (d 1)) in
    let e2 = ap r (xor-order (v 3) (a 1) (c 1) (d 0)) in
    let e3 = ap (λ (w : ℕ). r (v 2 ⊕ a 0 ⊕ c 0 ⊕ w)) e0 ∙ ap r (xor-order (v 2) (a 0) (c 0) _) in
    (λ i. e0 i ∷ e1 i ∷ e2 i ∷ e3 i ∷ []) ∙ W-next_words b g words

-- SHA1SU0 and SHA1SU1 give the next four words
pub arm-next-sha1 : (x y z u : List ℕ) → ((i : ℕ) → slice_index x i < 2 ^ 32)
    → ((i : ℕ) → slice_index y i < 2 ^ 32) → ((i : ℕ) → slice_index z i < 2 ^ 32)
    → ((i : ℕ) → slice_index u i < 2 ^ 32)
    → sha1su1 (sha1su0 x y z) u ≡ next_four x y z u
arm-next-sha1 x y z u fx fy fz fu =
    let a = slice_index x in
    let b = slice_index y in
    let c = slice_index z in
    let d = slice_index u in
    let r = rotl 32 1 in
    let t0 = a 2 ⊕ a 0 ⊕ c 0 ⊕ d 1 in
    let t3 = b 1 ⊕ a 3 ⊕ c 3 in
    let f0 : t0 < 2 ^ 32 = xor-lt (fx 2) (fx 0) (fz 0) (fu 1) in
    let f3 : t3 < 2 ^ 32 =
    xor_lt 32 (b 1 ⊕ a 3) (c 3) (xor_lt 32 (b 1) (a 3) (fy 1) (fx 3)) (fz 3) in
    let e0 = ap r (xor-order (a 2) (a 0) (c 0) (d 1)) in
    let e1 = ap r (xor-order (a 3) (a 1) (c 1) (d 2)) in
    let e2 = ap r (xor-order (b 0) (a 2) (c 2) (d 3)) in
    let e3 : r t3 ⊕ rotl 32 2 t0 ≡ r (t3 ⊕ r t0) =
    rw (rotl-xor t3 (r t0) f3 (rotr-lt 32 t0 31 (omega arith) f0), rotl-twice t0 f0) refl in
    let e3' = e3 ∙ ap (λ (w : ℕ). r (t3 ⊕ w)) e0 ∙ ap r (xor-order (b 1) (a 3) (c 3) _) in
    λ i. e0 i ∷ e1 i ∷ e2 i ∷ e3' i ∷ []

-- four rounds, of which each is the next
pub four-steps : (i : ℕ) (h b : List ℕ) (g : ℕ) → (i < 4) × (5 * i ≤ g) × (g < 5 * i + 5)
    → {w0 w1 w2 w3 : ℕ} → w0 ∷ w1 ∷ w2 ∷ w3 ∷ [] ≡ four (W b) g
    → {v0 v1 v2 v3 v4 : List ℕ} → v0 ≡ rounds_from h b (4 * g)
    → ((t : ℕ) → IsOf i t → (v1 ≡ round v0 t w0) × (v2 ≡ round v1 t w1) × (v3 ≡ round v2 t w2)
    × (v4 ≡ round v3 t w3))
    → v4 ≡ rounds_from h b (4 * (g + 1))
four-steps i h b g (below, from, to) words {v0} {v1} {v2} {v3} start steps =
    let at = λ (k : ℕ). ap (λ (l : List ℕ). slice_index l k) words in
    let t = 4 * g in
    let step = λ (t : ℕ) (l : 20 * i ≤ t) (u : t < 20 * i + 20).
    steps t (record { below = below; from = l; to = u }) in
    steps-four (λ v t. round v t (W b t)) (rounds-next h b) g start
    ((step t (omega arith) (omega arith)).0 ∙ ap (round v0 t) (at 0))
    ((step (t + 1) (omega arith) (omega arith)).1 ∙ ap (round v1 (t + 1)) (at 1))
    ((step (t + 2) (omega arith) (omega arith)).2 ∙ ap (round v2 (t + 2)) (at 2))
    ((step (t + 3) (omega arith) (omega arith)).3 ∙ ap (round v3 (t + 3)) (at 3))

-- the variables after SHA1RNDS4
pub rnds4-variables : (i : ℕ) (abcd words : List ℕ)
    → let x = slice_index (sha1rnds4 i abcd words) in
    let v = slice_index abcd in
    let w = slice_index words in
    let next = sha1rnds4_next i in
    x 3 ∷ x 2 ∷ x 1 ∷ x 0 ∷ rotl 32 30 (v 3) ∷ []
    ≡ next (next (next (sha1rnds4_first i (v 3 ∷ v 2 ∷ v 1 ∷ v 0 ∷ []) (w 3)) (w 2)) (w 1)) (w 0)
unfolding sha1rnds4_first sha1rnds4_next
rnds4-variables i abcd words = refl

-- the variables after SHA1C, SHA1P or SHA1M and SHA1H
pub sha1hash-variables : (f : ℕ → ℕ → ℕ → ℕ) (abcd : List ℕ) (e : ℕ) (wk : List ℕ)
    → let x = slice_index (sha1hash f abcd e wk) in
    let v = slice_index abcd in
    let w = slice_index wk in
    let step = sha1hash_step f in
    x 0 ∷ x 1 ∷ x 2 ∷ x 3 ∷ rotl 32 30 (v 0) ∷ []
    ≡ step (step (step (step (v 0 ∷ v 1 ∷ v 2 ∷ v 3 ∷ e ∷ []) (w 0)) (w 1)) (w 2)) (w 3)
unfolding sha1hash_step
sha1hash-variables f abcd e wk = refl

-- a word rotated right and then left
pub turned-back : (x : ℕ) → x < 2 ^ 32 → rotl 32 30 (rotr 32 30 x) ≡ x
turned-back x fits = omega arith
