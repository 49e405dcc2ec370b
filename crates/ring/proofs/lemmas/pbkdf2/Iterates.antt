-- SPDX-License-Identifier: ISC
-- Iterates of a tag, and their exclusive or.
use Rattle.std.proofs.lemmas.Grind.{common_steps}
use Rattle.std.proofs.Common.{◌≡◌, ℕ, ◌+◌, ◌-◌, ◌*◌, ◌≤◌, [], ◌∷◌, ◌++◌, ◌∙◌, List, ap}
use Rattle.std.proofs.Common.{arith, length, refl, replicate, suc, sym, zero}
use Rattle.std.proofs.lemmas.List.{length-replicate}
use Rattle.std.specs.Int.{bytes_high_first}
use Rattle.ring_core.specs.Prelude.{xor_lists}
use Rattle.ring.specs.Prelude.{Algorithm, hmac_of, output_len, pbkdf2_t, pbkdf2_u}
use Rattle.ring.proofs.lemmas.hmac.Keys.{length-hmac_of}

length-xor_lists : (xs ys : List ℕ) → length (xor_lists xs ys) ≡ length xs
length-xor_lists [] ys = refl
length-xor_lists (x ∷ xs) [] = refl
length-xor_lists (x ∷ xs) (y ∷ ys) = ap suc (length-xor_lists xs ys)

xor_lists-zeros : (ys : List ℕ) → xor_lists (replicate (length ys) 0) ys ≡ ys
xor_lists-zeros [] = refl
xor_lists-zeros (y ∷ ys) = ap (λ zs. y ∷ zs) (xor_lists-zeros ys)

-- the round i of the password p and the salt s
module _ (a : Algorithm) (p s : List ℕ) (i : ℕ) where
  pub pbkdf2_u-first : pbkdf2_u a p s i 1 ≡ hmac_of a p (s ++ bytes_high_first 4 i)
  unfolding pbkdf2_u
  pbkdf2_u-first = refl

  pub pbkdf2_u-next : (j : ℕ) → pbkdf2_u a p s i (suc j) ≡ hmac_of a p (pbkdf2_u a p s i j)
  unfolding pbkdf2_u
  pbkdf2_u-next j = refl

  pbkdf2_t-none : pbkdf2_t a p s i 0 ≡ replicate (output_len a) 0
  unfolding pbkdf2_t
  pbkdf2_t-none = refl

  pub pbkdf2_t-next : (j : ℕ)
      → pbkdf2_t a p s i (suc j) ≡ xor_lists (pbkdf2_t a p s i j) (pbkdf2_u a p s i (suc j))
  unfolding pbkdf2_t
  pbkdf2_t-next j = refl

  -- a round has the output's length
  pub length-pbkdf2_t : (c : ℕ) → length (pbkdf2_t a p s i c) ≡ output_len a
  length-pbkdf2_t zero = rw pbkdf2_t-none (length-replicate {A = ℕ} (output_len a) 0)
  length-pbkdf2_t (suc j) =
      rw (pbkdf2_t-next j) (length-xor_lists (pbkdf2_t a p s i j) _ ∙ length-pbkdf2_t j)

  -- the exclusive or of the first iterate alone
  pub pbkdf2_t-first : pbkdf2_t a p s i 1 ≡ pbkdf2_u a p s i 1
  pbkdf2_t-first =
      let len : length (pbkdf2_u a p s i 1) ≡ output_len a =
      ap length (pbkdf2_u-next 0) ∙ length-hmac_of a p _ in
      rw (pbkdf2_t-next 0, pbkdf2_t-none, ← len) (xor_lists-zeros (pbkdf2_u a p s i 1))

-- j iterates of the round i are made: the last, and their exclusive or
pub record IsMade (a : Algorithm) (p s : List ℕ) (i j : ℕ) (u t : List ℕ) : Type 0 where
  pub last : u ≡ pbkdf2_u a p s i j
  pub sum : t ≡ pbkdf2_t a p s i j

module _ {a : Algorithm} {p s : List ℕ} {i : ℕ} where
  pub made-first : {first : List ℕ} → first ≡ hmac_of a p (s ++ bytes_high_first 4 i)
      → IsMade a p s i 1 first first
  made-first h =
      let first = h ∙ sym (pbkdf2_u-first a p s i) in
      record { last = first; sum = first ∙ sym (pbkdf2_t-first a p s i) }

  pub made-next : {j : ℕ} {last sum last' sum' : List ℕ} → IsMade a p s i j last sum
      → last' ≡ hmac_of a p last → sum' ≡ xor_lists sum last'
      → IsMade a p s i (j + 1) last' sum'
  made-next {j = j} t h e =
      let u = pbkdf2_u-next a p s i j in
      grind (arith, common_steps, pbkdf2_t-next a p s i j)

-- the blocks of one more in n lanes, after the first block and those of the j - 1 past it
pub blocks-next : (n j : ℕ) → 1 ≤ j → n * (1 + 2 * (j - 1)) + 2 * n ≡ n * (1 + 2 * (j + 1 - 1))
blocks-next n j some = let up : j + 1 - 1 ≡ j - 1 + 1 = omega arith in rw up (grind arith)
