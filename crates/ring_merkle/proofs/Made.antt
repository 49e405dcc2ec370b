-- SPDX-License-Identifier: ISC
-- Paths that are made, and what is counted of several calls.
use Rattle.std.proofs.Common.{◌≡◌, ◌+◌, ◌++◌, ℕ, List, length, take}
use Rattle.std.proofs.Math.Seq.{take-append_seam}
use Rattle.ring.specs.Prelude.{Counts, raised}
use Rattle.ring.proofs.Costs.{raised-raised}

-- the blocks of two calls one after another
pub rises : (m0 : Counts) {m1 m2 : Counts} (a b : ℕ) → m1 ≡ raised m0 a 0 → m2 ≡ raised m1 b 0
    → m2 ≡ raised m0 (a + b) 0
rises m0 a b e f = rw (f, e, raised-raised)

-- what is written to the front of a buffer is its front
pub front : {l : ℕ} {path whole : List (List ℕ)} (rest : List (List ℕ)) → l ≡ length path
    → whole ≡ path ++ rest → take l whole ≡ path
front {l} {path} {whole} rest len e = rw (e, len) (take-append_seam path rest)
