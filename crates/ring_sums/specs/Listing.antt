-- SPDX-License-Identifier: ISC
-- The lines of files, as a run without `--check` writes them.
use Rattle.std.specs.Prelude.{◌≡◌, ℕ, Bool, true, false, List, [], Option, flat_map, map, zip}
use Rattle.std.specs.Borrow.{Bor}
use Rattle.std.specs.List.{AllZip, list_all}
use Rattle.std.specs.declared.io.Error.{Error}
use Rattle.ring_sums.specs.Console.{AreWritten, HasWritten}
use Rattle.ring_sums.specs.Line.{file_line}
use Rattle.ring_sums.specs.Outcomes.{IsOutcomeOf}
use Rattle.ring_sums.specs.declared.console.Console.{Console}
use Rattle.ring_sums.specs.declared.options.Options.{Options}
use Rattle.ring_sums.specs.declared.outcome.Outcome.{Outcome}
use Rattle.ring_sums.specs.declared.outcome.Outcome.TheVariants.{Sum}
use Rattle.ring_sums.specs.declared.outcomes.Wanted.{Wanted}

-- whether a file could be read to its end
abbrev pub is_sum : Outcome → Bool
is_sum (Sum digest) = true
is_sum outcome = false

-- the line of a file that could be, and nothing of another
abbrev pub line_of : Options → (name : List ℕ) → Outcome → List ℕ
line_of options name (Sum digest) = file_line options digest name
line_of options name outcome = []

-- the lines of files, one after another
abbrev pub lines_of : Options → (names : List (Bor (List ℕ))) → List Outcome → List ℕ
lines_of options names outcomes =
    flat_map (λ file. line_of options file.0.now file.1) (zip names outcomes)

-- the same, apart
abbrev pub each_line_of : Options → (names : List (Bor (List ℕ))) → List Outcome
    → List (List ℕ)
each_line_of options names outcomes =
    map (λ file. line_of options file.0.now file.1) (zip names outcomes)

-- each file has its outcome, their lines are written, none behind one that could not be, and
-- `is_fine` is whether all have one
pub record IsListed {S R W : Type 0} (remaining : S → Option (List ℕ))
    (fails_with : S → Error → Bool) (contents : W → Option (List ℕ)) (options : Options)
    (names : List (Bor (List ℕ))) (wanted : List (Wanted S)) (is_fine : Bool)
    (old new : Console R W) : Type 0 where
  pub outcomes : List Outcome
  pub read : AllZip (IsOutcomeOf remaining fails_with) wanted outcomes
  pub written : HasWritten contents (lines_of options names outcomes) old new
  pub stops : AreWritten contents (each_line_of options names outcomes) old new
  pub fine : is_fine ≡ list_all is_sum outcomes
