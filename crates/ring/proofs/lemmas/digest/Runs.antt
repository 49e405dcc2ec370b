-- SPDX-License-Identifier: ISC
-- How block functions over the chunks of a list make the words after its whole blocks.
use Rattle.std.proofs.lemmas.Grind.{common_steps}
use Rattle.std.proofs.Common.{◌≡◌, ℕ, ◌*◌, ◌/◌, ◌<◌, List, length, take, drop, refl, ap, ◌∙◌}
use Rattle.std.proofs.Common.{arith}
use Rattle.std.proofs.lemmas.List.{length-take-le, take-append-drop, take_all}
use Rattle.std.proofs.Math.Nat.{mul-div_cancel, div-mul-le_self}
use Rattle.ring_core.specs.Prelude.{fold_chunks}
use Rattle.ring.specs.Prelude.{Algorithm, AlgorithmId, DynState, Sha1, Sha256, blocks_from}
use Rattle.ring.specs.Prelude.{chaining_words, row_of, word_count, words}
use Rattle.ring_core.specs.Sha1 as sha1
use Rattle.ring_core.specs.Sha2 as sha2
use Rattle.ring_core.proofs.ChunkFolds.{fold_chunks-append}
use Rattle.ring.proofs.Rows.{block_len-positive}

-- what the choice of a block function needs of a row
pub record IsRow (i : AlgorithmId) (step : List ℕ → List ℕ → List ℕ) (block count : ℕ)
    : Type 0 where
  pub step_is : (row_of i).block_function ≡ step
  pub block_is : (row_of i).block_len ≡ block
  pub count_is : (row_of i).chaining_len / (row_of i).word_len ≡ count

-- an algorithm of 64-bit words
pub long_row : (i : AlgorithmId) → 8 ≡ (row_of i).word_len
    → IsRow i (sha2.block_step sha2.family_512) 128 8
long_row Sha1 h = absurd (omega arith)
long_row Sha256 h = absurd (omega arith)
long_row other h = record { step_is = refl; block_is = refl; count_is = refl }

-- an algorithm of 32-bit words other than SHA-1
pub short_row : (i : AlgorithmId) → 4 ≡ (row_of i).word_len → (i ≡ Sha1 → ⊥)
    → IsRow i (sha2.block_step sha2.family_256) 64 8
short_row Sha1 h other = absurd (other refl)
short_row Sha256 h other = record { step_is = refl; block_is = refl; count_is = refl }
short_row i h other = absurd (omega arith)

pub sha1_row : (i : AlgorithmId) → i ≡ Sha1 → IsRow i sha1.block_step 64 5
sha1_row i e = rw e (record { step_is = refl; block_is = refl; count_is = refl })

-- the chunks of a view of a list are the whole chunks at its front
fold_chunks-front : (step : List ℕ → List ℕ → List ℕ) (n : ℕ) (h y items : List ℕ) → 0 < n
    → items ≡ take (length y / n * n) y
    → fold_chunks step n h items (length items / n) ≡ fold_chunks step n h y (length y / n)
fold_chunks-front step n h y items pos e =
    let k : ℕ = length y / n in
    let front : List ℕ = take (k * n) y in
    let long : length front ≡ k * n = length-take-le (k * n) y (div-mul-le_self (length y) n) in
    let count : length items / n ≡ k =
    ap (λ (x : List ℕ). length x / n) e ∙ ap (λ (x : ℕ). x / n) long ∙ mul-div_cancel k pos in
    cc (
      e,
      count,
      take-append-drop (k * n) y,
      fold_chunks-append step n h front (drop (k * n) y) k (omega (arith, long)),
    )

-- the chaining words after the whole blocks of a list, of which there is a view
pub words_run : {step : List ℕ → List ℕ → List ℕ} {n count : ℕ} {old new items : List ℕ}
    {a : Algorithm} (s t : DynState) (y : List ℕ)
    → IsRow a.id step n count → chaining_words a s ≡ old → chaining_words a t ≡ new
    → items ≡ take (length y / n * n) y → new ≡ fold_chunks step n old items (length items / n)
    → chaining_words a t ≡ blocks_from a (chaining_words a s) y
words_run {step} {n} {old = old} {items = items} s t y row es et view en =
    grind (arith, common_steps, block_len-positive, fold_chunks-front)

-- all words chain where there are eight
all_chaining : (a : Algorithm) (step : List ℕ → List ℕ → List ℕ) (n : ℕ) (ws : List ℕ)
    → IsRow a.id step n 8 → length ws ≡ 8
    → take (word_count a) ws ≡ ws
all_chaining a step n ws row len = rw row.count_is (take_all 8 ws (omega (arith, len)))

-- the run of a state of eight words that chain
pub words_run_all : {step : List ℕ → List ℕ → List ℕ} {n : ℕ} {items : List ℕ}
    {a : Algorithm} (s t : DynState) (y : List ℕ)
    → IsRow a.id step n 8 → length (words s) ≡ 8 → length (words t) ≡ 8
    → items ≡ take (length y / n * n) y
    → words t ≡ fold_chunks step n (words s) items (length items / n)
    → chaining_words a t ≡ blocks_from a (chaining_words a s) y
words_run_all {step} {n} s t y row ls lt =
    grind (arith, common_steps, words_run, all_chaining)
