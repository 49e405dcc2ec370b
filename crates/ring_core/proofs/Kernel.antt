-- SPDX-License-Identifier: ISC
-- The blocks that a kernel has run and counted.
use Rattle.std.proofs.Common.{◌≡◌, ◌∙◌, ℕ, ◌+◌, List, refl, sym}
use Rattle.ring_core.specs.Kernel.{RunsBlocks}
use Rattle.ring_core.specs.Prelude.{Counts, chunk_at, raised}
use Rattle.ring_core.proofs.ChunkFolds.{fold_chunks-next, fold_chunks-none}
use Rattle.ring_core.proofs.Costs.{raised-none, raised-raised}

-- no block
pub runs-none : {step : List ℕ → List ℕ → List ℕ} {len : ℕ} {old new message : List ℕ} {m : Counts}
    → new ≡ old → RunsBlocks step len old new message 0 m m
runs-none {step} {len} {old} {new} {message} {m} same = record {
  words = same ∙ sym (fold_chunks-none step len old message);
  cost = raised-none m;
}

-- one block more
pub runs-next : {step : List ℕ → List ℕ → List ℕ} {len k : ℕ} {old now new message : List ℕ}
    {m0 m1 m2 : Counts} → RunsBlocks step len old now message k m0 m1
    → new ≡ step now (chunk_at len message k) → m2 ≡ raised m1 1 0
    → RunsBlocks step len old new message (k + 1) m0 m2
runs-next {step} {len} {k} {old} {now} {new} {message} runs next counted = record {
  words = rw (next, runs.words) (sym (fold_chunks-next step len old message k));
  cost = rw (counted, runs.cost, raised-raised) refl;
}
