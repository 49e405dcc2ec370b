-- SPDX-License-Identifier: ISC
-- An output, round by round, and what its rounds cost.
use Rattle.std.proofs.lemmas.Grind.{common_steps}
use Rattle.std.proofs.Common.{◌≡◌, ℕ, suc, ◌+◌, ◌-◌, ◌*◌, ◌<◌, ◌≤◌, List, [], ◌∷◌, ◌++◌, length}
use Rattle.std.proofs.Common.{take, drop, refl, sym, ◌∙◌, arith, add-one, length-take-le, zero-mul}
use Rattle.std.proofs.Math.Nat.{lt_of_mul-lt-mul_right}
use Rattle.std.proofs.lemmas.Bool.{cases_lt}
use Rattle.ring.specs.Prelude.{Algorithm, Counts, Key, KeyStandsFor, Tag, fill_rounds, hmac_of}
use Rattle.ring.specs.Prelude.{joined_blocks, key_algorithm, okm, output_len, padded_blocks, raised}
use Rattle.ring.specs.Prelude.{hkdf_t, tag_algorithm, tag_bytes}
use Rattle.ring_core.proofs.Costs.{raised-raised}
use Rattle.ring.proofs.lemmas.hmac.Keys.{length-hmac_of}
use Rattle.ring.proofs.Pieces.{IsEven, joined_blocks-part, written-more}
use Rattle.ring.proofs.lemmas.pbkdf2.Rounds.{mul-more, rounds-reach}

-- T(0) is empty
pub hkdf_t-none : (a : Algorithm) (k info : List ℕ) → hkdf_t a k info 0 ≡ []
unfolding hkdf_t
hkdf_t-none a k info = refl

pub hkdf_t-next : (a : Algorithm) (k info : List ℕ) (i : ℕ)
    → hkdf_t a k info (suc i) ≡ hmac_of a k (hkdf_t a k info i ++ info ++ suc i ∷ [])
unfolding hkdf_t
hkdf_t-next a k info i = refl

-- each T(i) from T(1) on is a tag
pub length-hkdf_t : (a : Algorithm) (k info : List ℕ) (i : ℕ)
    → length (hkdf_t a k info (suc i)) ≡ output_len a
length-hkdf_t a k info i = rw hkdf_t-next (length-hmac_of a k _)

-- the first round's tag
pub first_round : (a : Algorithm) (k info : List ℕ) {bytes : List ℕ}
    → bytes ≡ hmac_of a k ([] ++ info ++ 1 ∷ []) → bytes ≡ hkdf_t a k info 1
first_round a k info e = e ∙ sym (rw (hkdf_t-next a k info 0, hkdf_t-none a k info) refl)

-- the tag of the round after r rounds and one
pub next_round : (a : Algorithm) (k info : List ℕ) {previous bytes : List ℕ} (r : ℕ)
    → previous ≡ hkdf_t a k info (suc r)
    → bytes ≡ hmac_of a k (previous ++ info ++ (r + 1 + 1) ∷ [])
    → bytes ≡ hkdf_t a k info (suc (r + 1))
next_round a k info r ep e =
    e ∙ rw (ep, hkdf_t-next a k info (r + 1), add-one r, add-one (suc r)) refl

-- fewer rounds than 255 before another byte
pub round-lt : (L r w n : ℕ) → w ≡ r * L → w < n → n ≤ 255 * L → r < 255
round-lt L r w n e p q =
    grind (arith, common_steps, lt_of_mul-lt-mul_right)

-- the rounds but the last of n bytes: r, where r tags are written, and one more, or a front of it,
-- is left
pub rounds_at : (a : Algorithm) (r w n : ℕ) → w ≡ r * output_len a → w ≤ n → n - w ≤ output_len a
    → (0 < r → w < n) → fill_rounds a n - 1 ≡ r
rounds_at a r w n e below left needed =
    grind (arith, common_steps, cases_lt, mul-more, rounds-reach, zero-mul)

-- the blocks of the first round, whose info has i bytes, and those of each further one
abbrev pub first_blocks : Algorithm → ℕ → ℕ
first_blocks a i = padded_blocks a (i + 1) + 1

abbrev pub next_blocks : Algorithm → ℕ → ℕ
next_blocks a i = padded_blocks a (output_len a + i + 1) + 1

-- r tags are written, the next one is made, and the meter rose by them all
pub record IsWritten (key : Key) (info : List ℕ) (r written : ℕ) (tag : Tag) (out : List ℕ)
    (before now : Counts) : Type 0 where
  pub place : written ≡ r * output_len (key_algorithm key)
  pub few : r < 255
  pub in_out : written ≤ length out
  pub needed : 0 < r → written < length out
  pub algorithm : tag_algorithm tag ≡ key_algorithm key
  pub next : (k : List ℕ) → KeyStandsFor key k
      → tag_bytes tag ≡ hkdf_t (key_algorithm key) k info (suc r)
  pub done : (k : List ℕ) → KeyStandsFor key k
      → take written out ≡ joined_blocks (hkdf_t (key_algorithm key) k info) r
  pub cost : now ≡ raised before (first_blocks (key_algorithm key) (length info)
      + r * next_blocks (key_algorithm key) (length info)) 0

module _ {key : Key} {info : List ℕ} {r w : ℕ} {tag : Tag} {out : List ℕ} {m0 m1 : Counts} where
  -- the tag, of L bytes, is written too
  pub written-next : {k bytes out' : List ℕ} {L : ℕ} (rest : List ℕ)
      → IsWritten key info r w tag out m0 m1 → KeyStandsFor key k
      → L ≡ output_len (key_algorithm key) → bytes ≡ tag_bytes tag
      → out' ≡ take w out ++ bytes ++ rest
      → take (w + L) out' ≡ joined_blocks (hkdf_t (key_algorithm key) k info) (r + 1)
  written-next {k = k} {bytes = bytes} {L = L} rest t stands el eb eo =
      grind (arith, common_steps, length-hkdf_t, length-take-le, written-more)

  -- the tag, or a front of it, is all that was left to be written
  pub written-last : {k bytes out' : List ℕ} (n : ℕ) → IsWritten key info r w tag out m0 m1
      → KeyStandsFor key k → length out ≤ 255 * output_len (key_algorithm key)
      → length out ≡ w + n → n ≤ output_len (key_algorithm key) → bytes ≡ tag_bytes tag
      → out' ≡ take w out ++ take n bytes ++ drop (w + length (take n bytes)) out
      → out' ≡ okm (key_algorithm key) k info (length out)
  unfolding okm
  written-last {k = k} {bytes = bytes} n t stands room whole fits eb eo =
      let a : Algorithm = key_algorithm key in
      let even : IsEven (hkdf_t a k info) (output_len a) =
      record { each = length-hkdf_t a k info } in
      let part = joined_blocks-part even r w n 255 t.place fits (omega arith) in
      rw (whole, part) (grind (arith, common_steps, t.next k, t.done k, length-hkdf_t a k info r))

  -- the cost of one round more, after a tag of n bytes
  pub cost_next : {n : ℕ} {m2 : Counts} → IsWritten key info r w tag out m0 m1
      → n ≡ output_len (key_algorithm key)
      → m2 ≡ raised m1 (padded_blocks (key_algorithm key) (n + length info + 1) + 1) 0
      → m2 ≡ raised m0 (first_blocks (key_algorithm key) (length info)
      + (r + 1) * next_blocks (key_algorithm key) (length info)) 0
  cost_next t en em =
      grind (arith, common_steps, t.cost, raised-raised, mul-more r)

-- the cost of the first round, before which there is no tag
pub cost_first : (a : Algorithm) (y i : ℕ) (m0 : Counts) {m1 : Counts}
    → m1 ≡ raised m0 (padded_blocks a (0 + i + 1) + 1) 0
    → m1 ≡ raised m0 (first_blocks a i + 0 * y) 0
cost_first a y i m0 e =
    grind (arith, common_steps)
