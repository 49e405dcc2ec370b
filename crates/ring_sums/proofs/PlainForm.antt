-- SPDX-License-Identifier: ISC
-- The form of lines that begin with the digits.
use Rattle.std.proofs.Common.{◌≡◌, ℕ, ◌+◌, ◌*◌, ◌<◌, ◌≤◌, Bool, not, true, List, []}
use Rattle.std.proofs.Common.{◌∷◌, ◌++◌, length, take, drop, get_or, Option, Some, sym}
use Rattle.std.proofs.Common.{ap, ◌∙◌, arith, add-one, length-append, length-drop}
use Rattle.std.proofs.Common.{length-take, subst}
use Rattle.std.proofs.Math.Seq.{get_or-append_seam, split_at}
use Rattle.std.proofs.lemmas.Bool.{and_parts, not-false, true≢false}
use Rattle.std.proofs.lemmas.List.{get_or-take}
use Rattle.std.proofs.lemmas.List.Elements.{All-from_get_or}
use Rattle.std.proofs.lemmas.List.Quantifiers.{position-Some}
use Rattle.std.proofs.lemmas.List.Sums.{AllPass-from_list_all, list_all-from_AllPass}
use Rattle.std.proofs.lemmas.Option.{same_Some}
use Rattle.std.specs.Char.{is_ascii_hexdigit}
use Rattle.std.specs.List.{list_all, position}
use Rattle.std.specs.Option.{option_or}
use Rattle.ring.specs.Prelude.{output_len}
use Rattle.ring.specs.declared.digest.algorithm.Algorithm.{Algorithm}
use Rattle.ring.proofs.Rows.{output_len-positive}
use Rattle.ring_text.proofs.Cuts.{run_same}
use Rattle.ring_sums.specs.Entry.{HasPlainForm, algorithm_of_count, is_white}
use Rattle.ring_sums.proofs.Fronts.{digits_end_at, white-no_digit}

abbrev is_other : ℕ → Bool
is_other byte = not (is_ascii_hexdigit byte)

-- what has been tested of a line has the form
pub plain-made : {asked : Option Algorithm} {line : List ℕ} {a : Algorithm} (len : ℕ)
    → Some len ≡ position is_other line → Some a ≡ option_or asked (algorithm_of_count len)
    → len ≡ 2 * output_len a → len + 2 ≤ length line → is_white (get_or line len 0) ≡ true
    → HasPlainForm asked line a (take len line) (drop (len + 1) line)
plain-made {asked} {line} {a} len at found count long white =
    let first = position-Some is_other line len 0 (sym at) in
    let many : length (take len line) ≡ len = simp length-take (omega arith) in
    record {
      space = get_or line len 0;
      algorithm = ap (λ n. option_or asked (algorithm_of_count n)) many ∙ sym found;
      white = white;
      count = many ∙ count;
      are_digits = list_all-from_AllPass is_ascii_hexdigit (take len line)
          (All-from_get_or (λ b. is_ascii_hexdigit b ≡ true) (take len line) 0 (λ i within.
          let before : i < len = omega (arith, many) in
          rw (get_or-take len line i 0 before) (not-false _ (first.2 i before))));
      whole = rw add-one (split_at line len 0 first.0);
      more = simp length-drop (omega arith);
    }

-- the digits of the form are those that the line begins with, and its algorithm is found by them
pub plain-known : {asked : Option Algorithm} {line : List ℕ} {b : Algorithm} {digits rest : List ℕ}
    → HasPlainForm asked line b digits rest → position is_other line ≡ Some (length digits)
plain-known {digits = digits} {rest} form =
    rw form.whole (digits_end_at digits form.space rest form.are_digits
    (white-no_digit form.space form.white))

-- a line with the form passes the tests
module _ {asked : Option Algorithm} {line : List ℕ} {b : Algorithm} {digits rest : List ℕ}
    (form : HasPlainForm asked line b digits rest) {len : ℕ}
    (at : Some len ≡ position is_other line) where
  pub plain-len : length digits ≡ len
  plain-len = same_Some (length digits) len (sym (plain-known form) ∙ sym at)

  pub plain-algorithm : option_or asked (algorithm_of_count len) ≡ Some b
  plain-algorithm =
      ap (λ n. option_or asked (algorithm_of_count n)) (sym plain-len) ∙ form.algorithm

  pub plain-long : len + 2 ≤ length line
  plain-long =
      omega (
        arith,
        plain-len,
        form.more,
        ap length form.whole,
        length-append digits (form.space ∷ rest),
      )

  pub plain-white : is_white (get_or line len 0) ≡ true
  plain-white =
      rw (form.whole, ← plain-len, get_or-append_seam digits form.space rest 0) form.white

-- its parts are known from the line
pub plain-same : {asked : Option Algorithm} {line : List ℕ} {a b : Algorithm} {d e r s : List ℕ}
    → HasPlainForm asked line a d r → HasPlainForm asked line b e s
    → (a ≡ b) × (d ≡ e) × (r ≡ s)
plain-same {asked} {line} {a} {b} {d} {e} {r} {s} one two =
    let P : ℕ → Type 0 = λ byte. is_ascii_hexdigit byte ≡ true in
    let run = run_same P {x = one.space} {y = two.space}
    (λ is. true≢false (sym is ∙ white-no_digit one.space one.white))
    (λ is. true≢false (sym is ∙ white-no_digit two.space two.white)) d e
    (AllPass-from_list_all is_ascii_hexdigit d one.are_digits)
    (AllPass-from_list_all is_ascii_hexdigit e two.are_digits) (sym one.whole ∙ two.whole) in
    let same = same_Some a b (sym one.algorithm
    ∙ ap (λ z. option_or asked (algorithm_of_count (length z))) run.0 ∙ two.algorithm) in
    (same, run.0, run.2)

-- a digest has a byte or more, and so begins with a digit
first-digit : (digits rest : List ℕ) → 0 < length digits
    → list_all is_ascii_hexdigit digits ≡ true
    → is_ascii_hexdigit (get_or (digits ++ rest) 0 0) ≡ true
first-digit [] rest more all = absurd (omega arith)
first-digit (digit ∷ digits) rest more all =
    (and_parts (is_ascii_hexdigit digit) (list_all is_ascii_hexdigit digits) all).0

pub plain-first : {asked : Option Algorithm} {line : List ℕ} {a : Algorithm} {d r : List ℕ}
    → HasPlainForm asked line a d r → is_ascii_hexdigit (get_or line 0 0) ≡ true
plain-first {asked} {line} {a} {d} {r} form =
    let some = output_len-positive a in
    let count = form.count in
    let more : 0 < length d = omega arith in
    subst (λ l. is_ascii_hexdigit (get_or l 0 0) ≡ true) (sym form.whole)
    (first-digit d (form.space ∷ r) more form.are_digits)
