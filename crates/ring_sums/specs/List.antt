-- SPDX-License-Identifier: ISC
-- What a list says, line by line.
use Rattle.std.specs.Prelude.{◌==◌, ◌+◌, ◌-◌, ◌&&◌, ◌||◌, ℕ, Bool, List, [], ◌∷◌, ◌++◌}
use Rattle.std.specs.Prelude.{Option, None, Some, codes, drop, if◌then◌else◌, length}
use Rattle.std.specs.Prelude.{slice_index, take, ◌≡◌, ◌≢◌, ◌<◌, ◌⊎◌, true, false}
use Rattle.std.specs.List.{slice_split}
use Rattle.std.specs.Str.{bytes_eq}
use Rattle.ring.specs.declared.digest.algorithm.Algorithm.{Algorithm}
use Rattle.ring.specs.declared.digest.algorithm.TheConstants.{SHA512_256}
use Rattle.ring_sums.specs.Entry.{IsDigestOf, IsReading, Listed, Reading, gap_after, listed_by}
use Rattle.ring_sums.specs.Entry.{listed_in, tag_of}
use Rattle.ring_sums.specs.Line.{mark_of, plain_line, tagged_line}
use Rattle.ring_sums.specs.declared.entry.Gap.{Gap}
use Rattle.ring_sums.specs.declared.list.Line.{Line}
use Rattle.ring_sums.specs.declared.list.Line.TheVariants as line

-- what a line says: what it lists, or the number of a line that has not the form of one
pub data Said : Type 0 where
  lists : Listed → Said
  bad : ℕ → Said

abbrev pub said_by : Line → Said
said_by (line.Entry entry) = lists (listed_by entry)
said_by (line.Bad number) = bad number

-- a line without the one carriage return that may stand at its end
unfoldable pub without_return : List ℕ → List ℕ
without_return line =
    if bytes_eq (drop (length line - 1) line) (codes "\r") then take (length line - 1) line
    else line

-- whether nothing is read of a line: it is empty, or a comment
unfoldable pub is_passed_over : List ℕ → Bool
is_passed_over line = length line == 0 || slice_index line 0 == 35

-- a list on standard input does not list that
unfoldable pub said_of : Option Listed → (number : ℕ) → (is_standard_input : Bool) → Said
said_of None number is_standard_input = bad number
said_of (Some listed) number is_standard_input =
    if is_standard_input && bytes_eq listed.name (codes "-") then bad number else lists listed

-- a text says this, and leaves the gap at that
pub record TextSays (asked : Option Algorithm) (is_standard_input : Bool) (number : ℕ) (gap : Gap)
    (text : List ℕ) (said : Said) (after : Gap) : Type 0 where
  pub reading : Reading
  pub reads : IsReading asked text reading
  pub is : said
      ≡ said_of (listed_in gap reading.is_escaped reading.shape) number is_standard_input
  pub leaves : after ≡ gap_after gap reading.shape

-- so it does unless it is passed over
abbrev pub SaysUnless : (is_passed_over : Bool) → (asked : Option Algorithm)
    → (is_standard_input : Bool) → (number : ℕ) → Gap → (text : List ℕ) → List Said
    → (after : Gap) → Type 0
SaysUnless true asked is_standard_input number gap text said after = (said ≡ []) × (after ≡ gap)
SaysUnless false asked is_standard_input number gap text said after =
    (one : Said) × (said ≡ one ∷ []) × TextSays asked is_standard_input number gap text one after

pub record LineSays (asked : Option Algorithm) (is_standard_input : Bool) (number : ℕ) (gap : Gap)
    (line : List ℕ) (said : List Said) (after : Gap) : Type 0 where
  pub is : SaysUnless (is_passed_over (without_return line)) asked is_standard_input number gap
      (without_return line) said after

-- lines say this, of which the first has the number, each with the gap behind those before it
unfoldable pub LinesSay : (asked : Option Algorithm) → (is_standard_input : Bool) → (number : ℕ)
    → Gap → (lines : List (List ℕ)) → List Said → (after : Gap) → Type 0
LinesSay asked is_standard_input number gap [] said after = (said ≡ []) × (after ≡ gap)
LinesSay asked is_standard_input number gap (line ∷ lines) said after =
    (first : List Said) × (rest : List Said) × (between : Gap)
    × LineSays asked is_standard_input number gap line first between
    × LinesSay asked is_standard_input (number + 1) between lines rest after
    × (said ≡ first ++ rest)

-- what a line says is put behind what those before it say
pub record IsAppended (asked : Option Algorithm) (is_standard_input : Bool) (number : ℕ)
    (gap after : Gap) (line : List ℕ) (old new : List Said) : Type 0 where
  pub said : List Said
  pub says : LineSays asked is_standard_input number gap line said after
  pub is : new ≡ old ++ said

-- the lines of a text
abbrev pub lines_in : List ℕ → List (List ℕ)
lines_in text = slice_split (λ byte. byte == 10) text

-- ---- lists that are written

-- the line that lists this, in BSD's style or with the digest first
abbrev pub line_of : (is_tagged : Bool) → (is_binary : Option Bool) → Listed → List ℕ
line_of is_tagged is_binary listed =
    if is_tagged then tagged_line false (tag_of listed.algorithm) listed.digest listed.name
    else plain_line false (mark_of is_binary) listed.digest listed.name

-- a check finds the algorithm of such a line, its name is not empty unless it has a tag, and a list
-- on standard input does not list that
pub record CanReadBack (asked : Option Algorithm) (is_standard_input is_tagged : Bool)
    (listed : Listed) : Type 0 where
  pub digest : IsDigestOf listed.algorithm listed.digest
  pub algorithm : (asked ≡ Some listed.algorithm)
      ⊎ ((asked ≡ None) × (is_tagged ≡ false → listed.algorithm ≢ SHA512_256))
  pub name : is_tagged ≡ false → 0 < length listed.name
  pub other : is_standard_input ≡ true → listed.name ≢ codes "-"
