-- SPDX-License-Identifier: ISC
-- What a check finds of the files that a list has, and says of them.
use Rattle.std.specs.Prelude.{◌≡◌, ℕ, All, Bool, true, false, ◌<◌, List, [], Option, None, Some}
use Rattle.std.specs.Prelude.{◌++◌, IsNone, IsTrue, codes, count_by, filter_map, flat_map, is_none}
use Rattle.std.specs.Prelude.{length, map, pos}
use Rattle.std.specs.Io.KnownBytes.{Consumes, IsAtEnd}
use Rattle.std.specs.List.{AllZip}
use Rattle.std.specs.IoError.{error_kind, os_error_kind}
use Rattle.std.specs.declared.io.Error.{Error}
use Rattle.ring.specs.declared.digest.algorithm.Algorithm.{Algorithm}
use Rattle.ring_sums.specs.Console.{AreWritten, HasWritten}
use Rattle.ring_sums.specs.Entry.{IsVerdict}
use Rattle.ring_sums.specs.Line.{verdict_line}
use Rattle.ring_sums.specs.List.{LinesSay, lines_in, said_by}
use Rattle.ring_sums.specs.Outcomes.{IsOutcomeOf}
use Rattle.ring_sums.specs.declared.check.Counts.{Counts}
use Rattle.ring_sums.specs.declared.console.Console.{Console}
use Rattle.ring_sums.specs.declared.entry.Entry.{Entry}
use Rattle.ring_sums.specs.declared.entry.Gap.{Gap}
use Rattle.ring_sums.specs.declared.entry.Verdict.{Verdict}
use Rattle.ring_sums.specs.declared.entry.Verdict.TheVariants.{Same, Other, Unread}
use Rattle.ring_sums.specs.declared.list.Line.{Line}
use Rattle.ring_sums.specs.declared.list.Line.TheVariants as line
use Rattle.ring_sums.specs.declared.options.Amount.{Amount}
use Rattle.ring_sums.specs.declared.options.Amount.TheVariants.{Quiet, Status}
use Rattle.ring_sums.specs.declared.options.Options.{Options}
use Rattle.ring_sums.specs.declared.outcome.Outcome.{Outcome}
use Rattle.ring_sums.specs.declared.outcome.Outcome.TheVariants.{Failed}
use Rattle.ring_sums.specs.declared.outcomes.Wanted.{Wanted}

-- the file is not there (the system's error 2), and such files are passed over
abbrev pub IsLeftOut : Options → Outcome → Type 0
IsLeftOut options (Failed error) =
    IsTrue options.ignores_missing × (error_kind error ≡ os_error_kind (pos 2))
IsLeftOut options outcome = ⊥

-- nothing is found of a file that is left out
abbrev pub IsFound : Options → (listed : List ℕ) → Outcome → Option Verdict → Type 0
IsFound options listed outcome None = IsLeftOut options outcome
IsFound options listed outcome (Some verdict) =
    (IsLeftOut options outcome → ⊥) × IsVerdict outcome listed verdict

-- the text behind a name
abbrev pub text_of_verdict : Verdict → List ℕ
text_of_verdict Same = codes "OK"
text_of_verdict Other = codes "FAILED"
text_of_verdict Unread = codes "FAILED open or read"

-- the same, where something is said: of no file with `--status`, and with `--quiet` of those alone
-- that have not the listed digest
abbrev pub text_of : Amount → Verdict → Option (List ℕ)
text_of Status verdict = None
text_of Quiet Same = None
text_of amount verdict = Some (text_of_verdict verdict)

-- the line with this text, if there is one
abbrev pub line_with : (name : List ℕ) → Option (List ℕ) → List ℕ
line_with name None = []
line_with name (Some text) = verdict_line name text

-- the line of a file, of which none is written where it is left out
abbrev pub said_of : Amount → (name : List ℕ) → (found : Option Verdict) → List ℕ
said_of amount name None = []
said_of amount name (Some verdict) = line_with name (text_of amount verdict)

-- whether this is found
abbrev pub is_found : Verdict → Option Verdict → Bool
is_found Same (Some Same) = true
is_found Other (Some Other) = true
is_found Unread (Some Unread) = true
is_found verdict found = false

-- how often it is
abbrev pub count_of : Verdict → List (Option Verdict) → ℕ
count_of verdict founds = count_by (is_found verdict) founds

abbrev pub AreCounted : (founds : List (Option Verdict)) → Counts → Type 0
AreCounted founds counts =
    (counts.entries ≡ length founds) × (counts.same ≡ count_of Same founds)
    × (counts.others ≡ count_of Other founds) × (counts.unread ≡ count_of Unread founds)

-- a list passes that was read to its end: it lists a file that has the listed digest, none that has
-- not or could not be read, and under `--strict` no line has another form
abbrev pub Passes : Options → Counts → Type 0
Passes options counts =
    (0 < counts.same) × (counts.others ≡ 0) × (counts.unread ≡ 0)
    × (IsTrue options.is_strict → counts.bad_lines ≡ 0)

-- the file that a line lists, if it lists one
abbrev pub entry_in : Line → Option Entry
entry_in (line.Entry entry) = Some entry
entry_in (line.Bad number) = None

-- the files that lines list, and how many lines list none
abbrev pub entries_of : List Line → List Entry
entries_of lines = filter_map entry_in lines

abbrev pub bad_lines_of : List Line → ℕ
bad_lines_of lines = count_by (λ line. is_none (entry_in line)) lines

-- the algorithm of the last file that is listed, behind a line
abbrev pub known_after : (known : Option Algorithm) → Line → Option Algorithm
known_after known (line.Entry entry) = Some entry.algorithm
known_after known (line.Bad number) = known

-- each file is read under the algorithm of its entry
abbrev pub AreFilesOf : {S : Type 0} → List Entry → (wanted : List (Wanted S)) → Type 0
AreFilesOf entries wanted =
    map (λ file. file.algorithm) wanted ≡ map (λ entry. entry.algorithm) entries

-- an entry, the outcome of its file, and what is found
pub record Finding : Type 0 where
  pub entry : Entry
  pub outcome : Outcome
  pub found : Option Verdict

-- each file that a list has is read and its digest found beside the listed one, what is found of
-- each is said, in their order, none behind a line that could not be written, and counted, and so
-- are the lines that have not the form of one
pub record IsChecked {S R W : Type 0} (remaining : S → Option (List ℕ))
    (fails_with : S → Error → Bool) (contents : W → Option (List ℕ)) (options : Options)
    (lines : List Line) (wanted : List (Wanted S)) (counts : Counts) (old new : Console R W)
    : Type 0 where
  pub findings : List Finding
  pub entries : map (λ f. f.entry) findings ≡ entries_of lines
  pub read : AllZip (IsOutcomeOf remaining fails_with) wanted (map (λ f. f.outcome) findings)
  pub found : All (λ f. IsFound options f.entry.listed.items f.outcome f.found) findings
  pub said : HasWritten contents
      (flat_map (λ f. said_of options.amount f.entry.name.items f.found) findings) old new
  pub stops : AreWritten contents
      (map (λ f. said_of options.amount f.entry.name.items f.found) findings) old new
  pub counted : AreCounted (map (λ f. f.found) findings) counts
  pub bad : counts.bad_lines ≡ bad_lines_of lines

-- of the lines of a text, the first of which has the number, some are checked and their findings
-- written: all, unless a line could not be written
pub record TextIsChecked {S R W : Type 0} (remaining : S → Option (List ℕ))
    (fails_with : S → Error → Bool) (name : S → Option (List ℕ)) (contents : W → Option (List ℕ))
    (options : Options) (is_standard_input : Bool) (number : ℕ) (gap after : Gap)
    (text : List ℕ) (counts : Counts) (old new : Console R W) : Type 0 where
  pub lines : List Line
  pub others : List Line
  pub done : List (Wanted S)
  pub rest : List (Wanted S)
  pub says : LinesSay options.algorithm is_standard_input number gap (lines_in text)
      (map said_by (lines ++ others)) after
  pub files : AreFilesOf (entries_of (lines ++ others)) (done ++ rest)
  pub names : map (λ file. name file.reader) (done ++ rest)
      ≡ map (λ entry. Some entry.name.items) (entries_of (lines ++ others))
  pub is : IsChecked remaining fails_with contents options lines done counts old new
  pub all : IsNone new.failure → (others ≡ []) × (rest ≡ [])

-- so are those of a list, which is read to its end, unless a read fails or a line could not be
-- written
pub record ListIsChecked {S R W : Type 0} (remaining : S → Option (List ℕ))
    (fails_with : S → Error → Bool) (name : S → Option (List ℕ)) (contents : W → Option (List ℕ))
    (options : Options) (is_standard_input : Bool) (list : Option (List ℕ))
    (failure : Option Error) (gap after : Gap) (counts : Counts) (old new : Console R W)
    : Type 0 where
  pub text : List ℕ
  pub left : Option (List ℕ)
  pub read : Consumes list left text
  pub end : IsNone failure → IsNone new.failure → IsAtEnd left
  pub is : TextIsChecked remaining fails_with name contents options is_standard_input 1 gap after
      text counts old new
