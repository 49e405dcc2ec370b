-- SPDX-License-Identifier: ISC
-- What a run gives: each clause stands here once, for any allocator and for the global one.
use Rattle.std.specs.Prelude.{◌≡◌, ◌<◌, ◌≤◌, ℕ, List, Option, Result, IfOk, IfSome, IsErrOf, OnOk}
use Rattle.std.specs.Prelude.{length, take}
use Rattle.std.specs.Io.KnownBytes.{Appends, IsAtEnd}
use Rattle.ring_bench.specs.Text.{answers, ended_lines, lines, replies, status_of}
use Rattle.ring_bench.specs.declared.answers.BenchError.{BenchError}
use Rattle.ring_bench.specs.declared.answers.BenchError.TheVariants.{Memory, Read}
use Rattle.ring_bench.specs.declared.answers.Status.{Status}

-- r is the result of a run over these bytes of its reader, of which `left` are left, and of its
-- writer, before and after
pub record Runs (text left old new : Option (List ℕ)) (r : Result Status BenchError)
    : Type 0 where
  -- the whole text was read, and its answers were written, and nothing else
  pub end : OnOk r (IsAtEnd left)
  pub written : OnOk r (IfSome text (λ bytes. Appends old new (answers bytes)))
  pub status : IfOk r (λ status. IfSome text (λ bytes. status ≡ status_of (lines bytes)))
  -- the answers to the first lines were written, and a line is left: never over the empty text
  pub memory : IsErrOf r Memory → IfSome text (λ bytes.
      (k : ℕ) × (k < length (lines bytes)) × Appends old new (replies (take k (lines bytes))))
  -- the answers to the first lines were written, each of which was ended by a line feed
  pub read : IsErrOf r Read → IfSome text (λ bytes.
      (k : ℕ) × (k ≤ ended_lines bytes) × Appends old new (replies (take k (lines bytes))))
