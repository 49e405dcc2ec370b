-- SPDX-License-Identifier: ISC
-- Lines of a list that are checked, one after another.
use Rattle.std.proofs.Common.{◌≡◌, ℕ, ◌+◌, ◌-◌, ◌^◌, ◌<◌, ◌≤◌, List, [], ◌∷◌, ◌++◌, ◌∙◌, Option}
use Rattle.std.proofs.Common.{Bool, ap, append-nil, arith, drop, get_or, length, length-append, map}
use Rattle.std.proofs.Common.{sym, take}
use Rattle.std.proofs.lemmas.List.{length-map, map_push, take-append-drop, take_more}
use Rattle.std.proofs.lemmas.List.Elements.{filter_map-append}
use Rattle.std.proofs.lemmas.Slice.Zip.{AllZip-long}
use Rattle.std.specs.declared.io.Error.{Error}
use Rattle.ring_sums.specs.Check.{Finding, IsChecked, entries_of, entry_in}
use Rattle.ring_sums.specs.Outcomes.{IsOutcomeOf}
use Rattle.ring_sums.specs.declared.check.Counts.{Counts}
use Rattle.ring_sums.specs.declared.console.Console.{Console}
use Rattle.ring_sums.specs.declared.entry.Entry.{Entry}
use Rattle.ring_sums.specs.declared.list.Line.{Line}
use Rattle.ring_sums.specs.declared.list.Line.TheVariants as line
use Rattle.ring_sums.specs.declared.options.Options.{Options}
use Rattle.ring_sums.specs.declared.outcomes.Wanted.{Wanted}

module _ (lines : List Line) (n : ℕ) (l : Line) (below : n < length lines) where
  next : {here : Line} → get_or lines n l ≡ here
      → entries_of (take (n + 1) lines) ≡ entries_of (take n lines) ++ entries_of (here ∷ [])
  next {here} e =
      ap entries_of (take_more lines n l below ∙ ap (λ (z : Line). take n lines ++ z ∷ []) e)
      ∙ filter_map-append entry_in (take n lines) (here ∷ [])

  pub entries-bad : (number : ℕ) → get_or lines n l ≡ line.Bad number
      → entries_of (take (n + 1) lines) ≡ entries_of (take n lines)
  entries-bad number e = next e ∙ append-nil (entries_of (take n lines))

  pub entries-entry : (entry : Entry) → get_or lines n l ≡ line.Entry entry
      → entries_of (take (n + 1) lines) ≡ entries_of (take n lines) ++ entry ∷ []
  entries-entry entry e = next e

  -- a file that is listed behind the first n lines is one of all
  pub entry-below : (entry : Entry) → get_or lines n l ≡ line.Entry entry
      → length (entries_of (take n lines)) < length (entries_of lines)
  entry-below entry e =
      let front = entries_of (take n lines) in
      let rest = drop (n + 1) lines in
      let more = ap length (entries-entry entry e) ∙ length-append front (entry ∷ []) in
      let all = ap (λ z. length (entries_of z)) (sym (take-append-drop (n + 1) lines))
      ∙ ap length (filter_map-append entry_in (take (n + 1) lines) rest)
      ∙ length-append (entries_of (take (n + 1) lines)) (entries_of rest) in
      omega (arith, more, all)

-- there are as many files as entries, and as many outcomes as findings
pub files-many : {S : Type 0} (entries : List Entry) (wanted : List (Wanted S))
    → map (λ file. file.algorithm) wanted ≡ map (λ entry. entry.algorithm) entries
    → length wanted ≡ length entries
files-many entries wanted files =
    sym (length-map wanted (λ file. file.algorithm)) ∙ ap length files
    ∙ length-map entries (λ entry. entry.algorithm)

pub findings-many : {S R W : Type 0} {remaining : S → Option (List ℕ)}
    {fails_with : S → Error → Bool} {contents : W → Option (List ℕ)} {options : Options}
    {lines : List Line} {done : List (Wanted S)} {counts : Counts} {old new : Console R W}
    → IsChecked remaining fails_with contents options lines done counts old new
    → length done ≡ length (entries_of lines)
findings-many {remaining = remaining} {fails_with} {done = done} is =
    omega (
      arith,
      AllZip-long (IsOutcomeOf remaining fails_with) done (map (λ f. f.outcome) is.findings)
          is.read,
      length-map is.findings (λ (f : Finding). f.outcome),
      length-map is.findings (λ (f : Finding). f.entry),
      ap length is.entries,
    )

pub entries-few : (lines : List Line) → length (entries_of lines) ≤ length lines
entries-few [] = omega arith
entries-few (line.Entry entry ∷ lines) = omega (arith, entries-few lines)
entries-few (line.Bad number ∷ lines) = omega (arith, entries-few lines)

-- one finding more can be counted
pub findings-few : (lines : List Line) (n : ℕ) (findings : List Finding)
    → length lines < 2 ^ 64
    → map (λ f. f.entry) findings ≡ entries_of (take n lines)
    → length (entries_of (take n lines)) < length (entries_of lines)
    → length (map (λ (f : Finding). f.found) findings) < 2 ^ 64 - 1
findings-few lines n findings few same below =
    omega (
      arith,
      few,
      below,
      length-map findings (λ (f : Finding). f.found),
      length-map findings (λ (f : Finding). f.entry),
      ap length same,
      entries-few lines,
    )

pub entries-push : {entries all : List Entry} (findings : List Finding) (one : Finding)
    → map (λ f. f.entry) findings ≡ entries → all ≡ entries ++ one.entry ∷ []
    → map (λ f. f.entry) (findings ++ one ∷ []) ≡ all
entries-push findings one same more =
    map_push (λ (f : Finding). f.entry) findings one ∙ ap (λ z. z ++ one.entry ∷ []) same
    ∙ sym more
