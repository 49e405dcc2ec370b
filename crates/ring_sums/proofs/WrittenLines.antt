-- SPDX-License-Identifier: ISC
-- Written lines read back, in both styles.
use Rattle.std.proofs.Common.{◌≡◌, ℕ, ◌*◌, ◌<◌, eqb, Bool, true, false, not, ◌||◌, List, [], ◌∷◌}
use Rattle.std.proofs.Common.{◌++◌, if◌then◌else◌, length, get_or, Option, Some, None, refl, sym}
use Rattle.std.proofs.Common.{ap, ◌∙◌, append_assoc, arith}
use Rattle.std.proofs.lemmas.Bool.{le-leb, ne_eqb, true≢false}
use Rattle.std.proofs.lemmas.List.{append_cancel_right}
use Rattle.std.proofs.lemmas.List.Elements.{All-cons}
use Rattle.std.proofs.lemmas.List.Folds.{list_all-append}
use Rattle.std.specs.Char.{is_ascii_hexdigit}
use Rattle.std.specs.List.{Contains, list_all}
use Rattle.std.specs.Option.{option_or}
use Rattle.hex.specs.Hex.{encode_lower, lower_digits}
use Rattle.hex.proofs.HexLemmas.{length-encode_with}
use Rattle.ring_text.specs.Cut.{IsWithout}
use Rattle.ring_text.proofs.LowerHex.{IsWithout-hex}
use Rattle.ring.specs.Prelude.{output_len}
use Rattle.ring.specs.declared.digest.algorithm.Algorithm.{Algorithm}
use Rattle.ring.specs.declared.digest.algorithm.AlgorithmId.{AlgorithmId}
use Rattle.ring.specs.declared.digest.algorithm.AlgorithmId.TheVariants.{Sha1, Sha512_256}
use Rattle.ring.specs.declared.digest.algorithm.TheConstants.{SHA512_256}
use Rattle.ring_sums.specs.Entry.{HasPlainForm, HasTaggedForm, IsDigestOf, IsShape, Listed}
use Rattle.ring_sums.specs.Entry.{ReadsAs, Shape, algorithm_of_count, algorithms_read, gap_after}
use Rattle.ring_sums.specs.Entry.{gap_shown, is_marked, listed_in, named_by, tag_of}
use Rattle.ring_sums.specs.Entry.{with_digits, with_tag}
use Rattle.ring_sums.specs.Line.{mark_of}
use Rattle.ring_sums.specs.List.{line_of}
use Rattle.ring_sums.specs.Names.{escaped, escaped_byte, needs_escape}
use Rattle.ring_sums.specs.declared.entry.Gap.{Gap}
use Rattle.ring_sums.specs.declared.entry.Gap.TheVariants.{Unknown, One, Two}
use Rattle.ring_sums.proofs.Escapes.{escaped-cases}
use Rattle.ring_sums.proofs.Fronts.{white-front}
use Rattle.ring_sums.proofs.LineParts.{digits-pass, digits-start, length-escaped, listed_with-line}
use Rattle.ring_sums.proofs.LineParts.{slash, start-written}
use Rattle.ring_sums.proofs.PlainForm.{plain-first}
use Rattle.ring_sums.proofs.TaggedForm.{tagged-first}

-- ---- bytes

-- two bytes are not one where a test tells them apart
other_byte : (p : ℕ → Bool) (byte other : ℕ) → p byte ≡ true → p other ≡ false
    → eqb byte other ≡ false
other_byte p byte other is not =
    ne_eqb byte other (λ e. true≢false (sym is ∙ ap p e ∙ not))

-- no line feed and no carriage return
abbrev pub is_end : ℕ → Bool
is_end byte = eqb byte 10 || eqb byte 13

abbrev pub is_clean : List ℕ → Bool
is_clean bytes = list_all (λ byte. not (is_end byte)) bytes

pub clean-append : (xs ys : List ℕ) → is_clean xs ≡ true → is_clean ys ≡ true
    → is_clean (xs ++ ys) ≡ true
clean-append xs ys one two = rw (list_all-append (λ b. not (is_end b)) xs ys, one, two)

clean-byte : (byte : ℕ) → is_clean (escaped_byte byte) ≡ true
clean-byte byte =
    escaped-cases byte (λ b escape. is_clean escape ≡ true) refl refl refl
    (λ _ other10 other13. rw (other10, other13))

clean-escaped : (name : List ℕ) → is_clean (escaped name) ≡ true
clean-escaped [] = refl
clean-escaped (byte ∷ name) =
    clean-append (escaped_byte byte) (escaped name) (clean-byte byte) (clean-escaped name)

clean-tag : (id : AlgorithmId) → is_clean (tag_of (record { id = id })) ≡ true
clean-tag Sha1 = refl
clean-tag other = refl

-- ---- marks

-- a line's mark is one, which ends no line
is_mark : (is_binary : Option Bool)
    → ((eqb (mark_of is_binary) 32 || eqb (mark_of is_binary) 42) ≡ true)
    × (is_end (mark_of is_binary) ≡ false)
is_mark None = (refl, refl)
is_mark (Some true) = (refl, refl)
is_mark (Some false) = (refl, refl)

marked : (is_binary : Option Bool) (name : List ℕ) → 0 < length name
    → is_marked (mark_of is_binary ∷ name) ≡ true
unfolding is_marked
marked is_binary name h =
    rw (le-leb 2 (length (mark_of is_binary ∷ name)) (omega arith), (is_mark is_binary).0)

-- the name behind a mark, and the gap that it shows
behind_mark : (gap : Gap) → (gap ≡ One → ⊥) → (is_binary : Option Bool) (name : List ℕ)
    → 0 < length name → (named_by gap (mark_of is_binary ∷ name) ≡ Some name)
    × (gap_shown gap (is_marked (mark_of is_binary ∷ name)) ≡ Two)
unfolding named_by
behind_mark Unknown free is_binary name h = rw (marked is_binary name h) (refl, refl)
behind_mark One free is_binary name h = absurd (free refl)
behind_mark Two free is_binary name h = rw (marked is_binary name h) (refl, refl)

-- ---- lines

count_of : (id : AlgorithmId) → (record { id = id } ≡ SHA512_256 → ⊥)
    → algorithm_of_count (2 * output_len (record { id = id })) ≡ Some (record { id = id })
count_of Sha512_256 h = absurd (h refl)
count_of other h = refl

-- a line between its backslash and its line feed
abbrev pub text_of : (is_tagged : Bool) → (is_binary : Option Bool) → Listed → List ℕ
text_of is_tagged is_binary listed =
    if is_tagged
    then tag_of listed.algorithm
    ++ 32 ∷ 40 ∷ (escaped listed.name ++ 41 ∷ 32 ∷ 61 ∷ 32 ∷ encode_lower listed.digest)
    else encode_lower listed.digest ++ 32 ∷ mark_of is_binary ∷ escaped listed.name

pub line-text : (is_tagged : Bool) (is_binary : Option Bool) (listed : Listed)
    → line_of is_tagged is_binary listed
    ≡ (slash (needs_escape listed.name) ++ text_of is_tagged is_binary listed) ++ 10 ∷ []
line-text true is_binary listed = simp append_assoc
line-text false is_binary listed = simp append_assoc

-- a digit, or the first byte of a tag
abbrev pub is_start : ℕ → Bool
is_start byte = is_ascii_hexdigit byte || eqb byte 83

-- what a written text is
pub record IsText (asked : Option Algorithm) (gap : Gap) (listed : Listed) (after : Gap)
    (text : List ℕ) : Type 0 where
  pub shape : Shape
  pub is : IsShape asked text shape
  pub lists : listed_in gap (needs_escape listed.name) shape ≡ Some listed
  pub leaves : gap_after gap shape ≡ after
  pub starts : (byte : ℕ) → is_start byte ≡ false → eqb (get_or text 0 0) byte ≡ false
  pub clean : is_clean text ≡ true

-- it reads back behind its backslash
pub text-reads : {asked : Option Algorithm} {gap after : Gap} {listed : Listed} {text : List ℕ}
    → IsText asked gap listed after text → (line : List ℕ)
    → line ≡ slash (needs_escape listed.name) ++ text → ReadsAs asked gap line listed after
text-reads {listed = listed} {text} is line written = record {
  reading = record { is_escaped = needs_escape listed.name; shape = is.shape };
  is = record {
    text = text;
    start = rw written (start-written (needs_escape listed.name) text
        (rw (is.starts 32 refl, is.starts 9 refl)) (is.starts 92 refl));
    shape = is.is;
  };
  lists = is.lists;
  leaves = is.leaves;
}

-- and so does its line, without its line feed
pub line-reads : {asked : Option Algorithm} {gap after : Gap} (is_tagged : Bool)
    (is_binary : Option Bool) (listed : Listed)
    → IsText asked gap listed after (text_of is_tagged is_binary listed) → (line : List ℕ)
    → line_of is_tagged is_binary listed ≡ line ++ 10 ∷ [] → ReadsAs asked gap line listed after
line-reads is_tagged is_binary listed is line written =
    text-reads is line
    (append_cancel_right _ _ (10 ∷ []) (sym written ∙ line-text is_tagged is_binary listed))

module _ (listed : Listed) (is : IsDigestOf listed.algorithm listed.digest) where
  abbrev digits : List ℕ
  digits = encode_lower listed.digest

  abbrev name : List ℕ
  name = escaped listed.name

  len : length digits ≡ 2 * output_len listed.algorithm
  len =
      let l = length-encode_with lower_digits listed.digest in let n = is.len in omega arith

  all_digits : list_all is_ascii_hexdigit digits ≡ true
  all_digits = digits-pass is_ascii_hexdigit listed.digest refl is.bytes

  clean_digits : is_clean digits ≡ true
  clean_digits = digits-pass (λ byte. not (is_end byte)) listed.digest refl is.bytes

  -- the algorithm that so many digits show
  pub shown : (listed.algorithm ≡ SHA512_256 → ⊥)
      → option_or None (algorithm_of_count (length digits)) ≡ Some listed.algorithm
  shown other = rw len (count_of listed.algorithm.id other)

  pub plain-text : {asked : Option Algorithm}
      → option_or asked (algorithm_of_count (length digits)) ≡ Some listed.algorithm
      → 0 < length listed.name → (is_binary : Option Bool) (gap : Gap) → (gap ≡ One → ⊥)
      → IsText asked gap listed Two (text_of false is_binary listed)
  unfolding listed_in
  plain-text {asked} found some is_binary gap free =
      let a = listed.algorithm in
      let text = digits ++ 32 ∷ mark_of is_binary ∷ name in
      let form : HasPlainForm asked text a digits (mark_of is_binary ∷ name) = record {
        space = 32;
        algorithm = found;
        white = refl;
        count = len;
        are_digits = all_digits;
        whole = refl;
        more = omega arith;
      } in
      let mark = behind_mark gap free is_binary name (length-escaped listed.name some) in
      record {
        shape = with_digits a digits (mark_of is_binary ∷ name);
        is = form;
        lists = rw mark.0 (listed_with-line a listed.digest listed.name is);
        leaves = mark.1;
        starts = λ byte other. other_byte is_start (get_or text 0 0) byte
            (rw (plain-first form) refl) other;
        clean = clean-append digits (32 ∷ mark_of is_binary ∷ name)
            clean_digits (rw (is_mark is_binary).1 (clean-escaped listed.name));
      }

  pub tagged-text : {asked : Option Algorithm}
      → Contains (algorithms_read asked) listed.algorithm
      → (is_binary : Option Bool) (gap : Gap)
      → IsText asked gap listed gap (text_of true is_binary listed)
  unfolding listed_in
  tagged-text asked_for is_binary gap =
      let a = listed.algorithm in
      let behind = 41 ∷ 32 ∷ 61 ∷ 32 ∷ digits in
      let P : ℕ → Type 0 = λ b. eqb b 41 ≡ false in
      let none : IsWithout 41 digits = IsWithout-hex 41 refl listed.digest is.bytes in
      let white = white-front digits (digits-start digits all_digits) in
      let form : HasTaggedForm (tag_of a ++ 32 ∷ 40 ∷ (name ++ behind)) (tag_of a) name digits =
      record {
        opened = 32 ∷ 40 ∷ (name ++ behind);
        inner = name ++ behind;
        rest = 32 ∷ 61 ∷ 32 ∷ digits;
        behind = 32 ∷ digits;
        begins = refl;
        opens = refl;
        cut = record {
          whole = refl;
          last = All-cons P 32 (61 ∷ 32 ∷ digits) refl
              (All-cons P 61 (32 ∷ digits) refl (All-cons P 32 digits refl none));
        };
        equals = refl;
        ends = sym white.1;
      } in
      record {
        shape = with_tag a name digits;
        is = (asked_for, form);
        lists = listed_with-line a listed.digest listed.name is;
        leaves = refl;
        starts = λ byte other. rw (tagged-first a form)
            (other_byte is_start 83 byte refl other);
        clean = clean-append (tag_of a) (32 ∷ 40 ∷ (name ++ behind)) (clean-tag a.id)
            (clean-append name behind (clean-escaped listed.name) clean_digits);
      }
