-- SPDX-License-Identifier: ISC
-- One step more.
use Rattle.std.proofs.Common.{◌≡◌, ℕ, zero, suc, ◌+◌, ◌/◌, ◌<◌, List, length, refl, add-one}
use Rattle.std.proofs.Math.Nat.{div_self, zero-mul}
use Rattle.std.proofs.Math.Seq.{take-length}
use Rattle.std.specs.Fn.{iterate}
use Rattle.ring_core.specs.Chunks.{fold_chunks}
use Rattle.ring_speed.specs.Repeats.{numbered, words_after_steps}

module _ {A : Type 0} (h : A → A) where
  iterate_suc : (n : ℕ) (x : A) → iterate h (suc n) x ≡ h (iterate h n x)
  iterate_suc zero x = refl
  iterate_suc (suc n) x = iterate_suc n (h x)

  -- one application more comes last
  pub iterate_next : (n : ℕ) (x : A) → iterate h (n + 1) x ≡ h (iterate h n x)
  iterate_next n x = rw add-one (iterate_suc n x)

module _ (f : List ℕ → List ℕ → List ℕ) (len : ℕ) where
  pub words_first : (h : List ℕ) → words_after_steps f len h 0 ≡ h
  unfolding words_after_steps
  words_first h = refl

  -- one step more runs twice over the block of its number
  pub words_next : (h : List ℕ) (n : ℕ) → words_after_steps f len h (n + 1)
      ≡ f (f (words_after_steps f len h n) (numbered len n)) (numbered len n)
  unfolding words_after_steps
  words_next h n = rw add-one refl

  -- the fold over one block is one run
  pub fold_chunks-one : (h block : List ℕ) → 0 < len → length block ≡ len
      → fold_chunks f len h block (length block / len) ≡ f h block
  unfolding fold_chunks
  fold_chunks-one h block some is_len =
      let one : length block / len ≡ 1 = rw is_len (div_self some) in
      rw (one, zero-mul, ← is_len, take-length) refl
