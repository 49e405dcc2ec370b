-- SPDX-License-Identifier: ISC
-- The parameters of a hash's text are read in one way.
use Rattle.std.proofs.Common.{◌≡◌, ◌≢◌, ◌≤◌, ◌<◌, ◌==◌, ◌++◌, ◌∙◌, ℕ, Bool, true, false, List, []}
use Rattle.std.proofs.Common.{ap, append_assoc, arith, codes, length, refl, sym}
use Rattle.std.specs.Prelude.{◌^◌, ◌&&◌, ◌||◌, nat_le, not}
use Rattle.std.proofs.lemmas.Bool.Decides.{nat_tests}
use Rattle.std.proofs.lemmas.List.{append_cancel_left, length-append}
use Rattle.std.specs.declared.num.NonZeroU32.{NonZeroU32}
use Rattle.ring_text.proofs.Cuts.{first_of_list}
use Rattle.ring_text.proofs.Numbers.{IsDigit, count_same, number_same, same_count}
use Rattle.ring_password_hash.specs.Scheme.{Row, count_end, count_end_of, count_mark}
use Rattle.ring_password_hash.specs.Scheme.{count_mark_of, keeps_keys, kept_len_of, names_len}
use Rattle.ring_password_hash.specs.Scheme.{prefix_of, row_of}
use Rattle.ring_password_hash.specs.Stored.{parameters_where}
use Rattle.ring_password_hash.specs.Text.{IsCount, IsLen, IsNamed, count_then, head_then}
use Rattle.ring_password_hash.specs.Text.{number_then, parameters_then}
use Rattle.ring_password_hash.specs.declared.scheme.Scheme.{Scheme}
use Rattle.ring_password_hash.specs.declared.text.Parameters.{Parameters}
use Rattle.ring_password_hash.specs.declared.text.Parameters.TheVariants.{Count, CountThenLen}
use Rattle.ring_password_hash.specs.declared.text.Parameters.TheVariants.{LenThenCount}
use Rattle.ring_password_hash.proofs.Schemes.{each_row}
use Rattle.ring_password_hash.proofs.Texts.{not_colon, not_comma, not_dollar}

-- a row of the table keeps 1 to 64 bytes: 10 and more where a text can name it, 64 where it is keys
abbrev is_row : Row → Bool
is_row r =
    nat_le 1 r.kept_len && nat_le r.kept_len 64 && (not r.names_len || nat_le 10 r.kept_len)
    && (not r.keeps_keys || (r.kept_len == 64 && not r.names_len))

all_rows : (k : Scheme) → is_row (row_of k) ≡ true
all_rows = each_row is_row refl

-- a text keeps 1 to 64 bytes
pub len_few : (k : Scheme) (p : Parameters) (n : ℕ) → IsLen k p n → (0 < n) × (n ≤ 64)
len_few k Count n h =
    let is = all_rows k in (grind (arith, nat_tests, is, h), grind (arith, nat_tests, is, h))
len_few k CountThenLen n h = let least = h.least in (omega arith, h.most)
len_few k LenThenCount n h = let least = h.least in (omega arith, h.most)

-- keys are 64 bytes
pub keys_len : (k : Scheme) (p : Parameters) (n : ℕ) → IsLen k p n → keeps_keys k ≡ true → n ≡ 64
keys_len k Count n h keys = let is = all_rows k in grind (arith, nat_tests, is, h, keys)
keys_len k CountThenLen n h keys =
    let is = all_rows k in let named = h.named in absurd (grind (arith, nat_tests, is, named, keys))
keys_len k LenThenCount n h keys =
    let is = all_rows k in let named = h.named in absurd (grind (arith, nat_tests, is, named, keys))

-- a length that is named is a number of 32 bits, above zero
pub named_small : {k : Scheme} {n : ℕ} → IsNamed k n → n < 2 ^ 32
named_small is = let most = is.most in omega arith

pub named_some : {k : Scheme} {n : ℕ} → IsNamed k n → 0 < n
named_some is = let least = is.least in omega arith

abbrev pub count_of : {k : Scheme} {n : ℕ} → IsNamed k n → NonZeroU32
count_of {n = n} is = record { value = n; ok = named_some is }

-- with the parameters that its own system writes a text keeps as many bytes as the row says
usual_at : (named : Bool) (k : Scheme) → names_len k ≡ named
    → IsLen k (parameters_where named) (kept_len_of k)
usual_at false k e = refl
usual_at true k e =
    let is = all_rows k in record {
      named = e;
      least = grind (arith, nat_tests, is, e);
      most = grind (arith, nat_tests, is, e);
    }

pub usual_len : (k : Scheme) → IsLen k (parameters_where (names_len k)) (kept_len_of k)
usual_len k = usual_at (names_len k) k refl

-- no digit ends a count, and no comma ends one that stands alone
pub not_end : (keys : Bool) → IsDigit (count_end keys) → ⊥
not_end true = not_colon
not_end false = not_dollar

end_apart : (keys : Bool) → count_end keys ≢ 44
end_apart true e = omega (arith, e)
end_apart false e = omega (arith, e)

-- where parameters are named, the count alone is none that a length follows
lone_apart : (k : Scheme) (c d : NonZeroU32) (s t : List ℕ) {n : ℕ} → IsNamed k n → IsCount c
    → IsCount d
    → count_mark_of k ++ count_then c (count_end_of k) s ≢ codes "i=" ++ count_then d 44 t
lone_apart k c d s t is hc hd e =
    let end = count_end_of k in
    let moved = sym (ap (λ (b : Bool). count_mark b ++ count_then c end s) is.named) ∙ e in
    let behind = append_cancel_left (codes "i=") _ _ moved in
    let read = count_same (not_end (keeps_keys k)) not_comma c d hc hd behind in
    end_apart (keeps_keys k) read.1

pub letter_apart : (s t : List ℕ) → codes "i=" ++ s ≢ codes "l=" ++ t
letter_apart s t e = let same : 105 ≡ 108 = ap (first_of_list 0) e in omega (arith, same)

lone_apart_len : (k : Scheme) (c : NonZeroU32) (s t : List ℕ) {n : ℕ} → IsNamed k n
    → count_mark_of k ++ count_then c (count_end_of k) s ≢ codes "l=" ++ t
lone_apart_len k c s t is e =
    letter_apart (count_then c (count_end_of k) s) t
    (sym (ap (λ (b : Bool). count_mark b ++ count_then c (count_end_of k) s) is.named) ∙ e)

-- two numbers, each behind its mark, are read in one way
module _ {a b x y : ℕ} {s t : List ℕ} (ha : a < 2 ^ 32) (hb : b < 2 ^ 32) (hx : x < 2 ^ 32)
    (hy : y < 2 ^ 32) where
  pub two_same : (first second : List ℕ)
      → first ++ number_then a 44 (second ++ number_then b 36 s)
      ≡ first ++ number_then x 44 (second ++ number_then y 36 t)
      → (a ≡ x) × (b ≡ y) × (s ≡ t)
  two_same first second e =
      let one = number_same not_comma not_comma a x ha hx (append_cancel_left first _ _ e) in
      let two = number_same not_dollar not_dollar b y hb hy (append_cancel_left second _ _ one.2) in
      (one.0, two.0, two.2)

-- what is read of a text before its salt
abbrev pub SameHead : (p q : Parameters) (c d : NonZeroU32) (m n : ℕ) (s t : List ℕ) → Type 0
SameHead p q c d m n s t = (p ≡ q) × (c ≡ d) × (m ≡ n) × (s ≡ t)

module _ (k : Scheme) {c d : NonZeroU32} {m n : ℕ} {s t : List ℕ} (hc : IsCount c)
    (hd : IsCount d) where
  parameters_then-injective : (p q : Parameters) → IsLen k p m → IsLen k q n
      → parameters_then k p c m s ≡ parameters_then k q d n t → SameHead p q c d m n s t
  unfolding parameters_then
  parameters_then-injective Count Count hm hn e =
      let behind = append_cancel_left (count_mark_of k) _ _ e in
      let end = not_end (keeps_keys k) in
      let read = count_same end end c d hc hd behind in
      (refl, read.0, hm ∙ sym hn, read.2)
  parameters_then-injective Count CountThenLen hm hn e =
      absurd (lone_apart k c d s _ hn hc hd e)
  parameters_then-injective Count LenThenCount hm hn e =
      absurd (lone_apart_len k c s _ hn e)
  parameters_then-injective CountThenLen Count hm hn e =
      absurd (lone_apart k d c t _ hm hd hc (sym e))
  parameters_then-injective LenThenCount Count hm hn e =
      absurd (lone_apart_len k d t _ hm (sym e))
  parameters_then-injective CountThenLen CountThenLen hm hn e =
      let read = two_same hc (named_small hm) hd (named_small hn) (codes "i=") (codes "l=") e in
      (refl, same_count c d read.0, read.1, read.2)
  parameters_then-injective CountThenLen LenThenCount hm hn e = absurd (letter_apart _ _ e)
  parameters_then-injective LenThenCount CountThenLen hm hn e = absurd (letter_apart _ _ (sym e))
  parameters_then-injective LenThenCount LenThenCount hm hn e =
      let read = two_same (named_small hm) hc (named_small hn) hd (codes "l=") (codes "i=") e in
      (refl, same_count c d read.1, read.0, read.2)

  pub head_then-injective : (p q : Parameters) → IsLen k p m → IsLen k q n
      → head_then k p c m s ≡ head_then k q d n t → SameHead p q c d m n s t
  head_then-injective p q hm hn e =
      parameters_then-injective p q hm hn (append_cancel_left (prefix_of k) _ _ e)

-- a text with no count alone, and with no length, has no parameters
pub no_parameters : {k : Scheme} {text : List ℕ}
    → ((c : NonZeroU32) (rest : List ℕ) → IsCount c
    → text ≢ count_mark_of k ++ count_then c (count_end_of k) rest)
    → ((c : NonZeroU32) (n : ℕ) (rest : List ℕ) → IsCount c → IsNamed k n
    → (text ≢ parameters_then k CountThenLen c n rest)
    × (text ≢ parameters_then k LenThenCount c n rest))
    → (p : Parameters) (c : NonZeroU32) (n : ℕ) (rest : List ℕ) → IsCount c → IsLen k p n
    → text ≢ parameters_then k p c n rest
unfolding parameters_then
no_parameters lone named Count c n rest hc len e = lone c rest hc e
no_parameters lone named CountThenLen c n rest hc len e = (named c n rest hc len).0 e
no_parameters lone named LenThenCount c n rest hc len e = (named c n rest hc len).1 e

-- what follows a head can be appended to it
pub append-head_then : (k : Scheme) (p : Parameters) (c : NonZeroU32) (n : ℕ) (rest : List ℕ)
    → head_then k p c n [] ++ rest ≡ head_then k p c n rest
unfolding parameters_then
append-head_then k Count c n rest = simp append_assoc
append-head_then k CountThenLen c n rest = simp append_assoc
append-head_then k LenThenCount c n rest = simp append_assoc

-- so it is no longer than the whole
pub rest_within : (k : Scheme) (p : Parameters) (c : NonZeroU32) (n : ℕ) (rest : List ℕ)
    {text : List ℕ} → text ≡ head_then k p c n rest → length rest ≤ length text
rest_within k p c n rest e =
    let whole = ap length (e ∙ sym (append-head_then k p c n rest)) in
    let parts = length-append (head_then k p c n []) rest in
    omega (arith, whole, parts)
