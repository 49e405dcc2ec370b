-- SPDX-License-Identifier: ISC
-- Lines of a store's text: each is read in one way.
use Rattle.std.proofs.Common.{◌≡◌, ◌≢◌, ℕ, ◌<◌, List, [], ◌∷◌, length, drop, All}
use Rattle.std.proofs.Common.{refl, sym, ap, ◌∙◌, arith}
use Rattle.std.proofs.Common.{length-append, append_assoc}
use Rattle.std.specs.Prelude.{None}
use Rattle.std.specs.declared.num.NonZeroU32.{NonZeroU32}
use Rattle.std.proofs.lemmas.List.Elements.{All-head, All-tail}
use Rattle.hex.specs.Hex.{IsBytes, encode_lower, hex_digit_value}
use Rattle.hex.proofs.HexLemmas.{length-encode_with}
use Rattle.ring_text.specs.Cut.{IsFirstCut}
use Rattle.ring_text.proofs.Cuts.{cut_same, first_cut}
use Rattle.ring_text.proofs.LowerHex.{IsWithout-hex, encode_lower-injective}
use Rattle.ring_text.proofs.Numbers.{count_then-injective}
use Rattle.ring_store_text.specs.Text.{IsEntry, IsHead, head_then, hex_then, lines_of, record_then}
use Rattle.ring_store.specs.declared.credential.Record.{Record}

-- ---- bytes in hex

pub hex_then-injective : (end : ℕ) → hex_digit_value end ≡ None → {xs ys s t : List ℕ}
    → IsBytes xs → IsBytes ys → hex_then xs end s ≡ hex_then ys end t → (xs ≡ ys) × (s ≡ t)
hex_then-injective end none {xs} {ys} hx hy e =
    let cut = cut_same end _ _ _ _ (IsWithout-hex end none xs hx)
    (IsWithout-hex end none ys hy) e in
    (encode_lower-injective xs ys hx hy cut.0, cut.1)

-- ---- lines

pub record_then-injective : {e f : List ℕ × Record} {s t : List ℕ} → IsEntry e → IsEntry f
    → record_then e s ≡ record_then f t → (e ≡ f) × (s ≡ t)
unfolding record_then
record_then-injective {e} {f} he hf same =
    let name = hex_then-injective 32 refl he.name_bytes hf.name_bytes same in
    let count = count_then-injective 32 (λ h. omega arith) e.1.iterations f.1.iterations
    he.iterations hf.iterations name.1 in
    let last = hex_then-injective 10 refl he.credential_bytes hf.credential_bytes count.1 in
    ((λ i. (name.0 i, record { iterations = count.0 i; credential = last.0 i })), last.1)

pub head_then-injective : {x y : List ℕ} {c d : NonZeroU32} {s t : List ℕ} → IsHead x c
    → IsHead y d → head_then x c s ≡ head_then y d t → (x ≡ y) × (c ≡ d) × (s ≡ t)
unfolding head_then
head_then-injective {c} {d} hx hy same =
    let salt = hex_then-injective 32 refl hx.salt_bytes hy.salt_bytes (ap (drop 13) same) in
    let count = count_then-injective 10 (λ h. omega arith) c d hx.iterations hy.iterations
    salt.1 in
    (salt.0, count.0, count.1)

-- a line is some bytes, and then what follows
pub record_then-grows : (e : List ℕ × Record) (s : List ℕ) → length s < length (record_then e s)
unfolding record_then
record_then-grows e s = simp length-append (omega arith)

-- the first line, and then the others
pub lines_of-cons : (e : List ℕ × Record) (es : List (List ℕ × Record))
    → lines_of (e ∷ es) ≡ record_then e (lines_of es)
unfolding record_then
lines_of-cons e es = simp append_assoc

pub no_line : (e : List ℕ × Record) (s : List ℕ) → record_then e s ≢ []
no_line e s h = omega (arith, record_then-grows e s, ap length h)

pub lines_of-injective : (es fs : List (List ℕ × Record)) → All IsEntry es → All IsEntry fs
    → lines_of es ≡ lines_of fs → es ≡ fs
lines_of-injective [] [] he hf same = refl
lines_of-injective [] (f ∷ fs) he hf same = grind (arith, no_line, lines_of-cons)
lines_of-injective (e ∷ es) [] he hf same = grind (arith, no_line, lines_of-cons)
lines_of-injective (e ∷ es) (f ∷ fs) he hf same =
    let one = record_then-injective (All-head IsEntry e es he) (All-head IsEntry f fs hf)
    (sym (lines_of-cons e es) ∙ same ∙ lines_of-cons f fs) in
    let others = lines_of-injective es fs (All-tail IsEntry e es he) (All-tail IsEntry f fs hf)
    one.1 in
    λ i. one.0 i ∷ others i

-- ---- what a text that was written gives when it is read

-- bytes were written, and what followed
pub hex_cut : {end : ℕ} {text before behind : List ℕ} → IsFirstCut end text before behind
    → hex_digit_value end ≡ None → (bytes rest : List ℕ) → IsBytes bytes
    → text ≡ hex_then bytes end rest → (before ≡ encode_lower bytes) × (behind ≡ rest)
hex_cut {end} cut none bytes rest h e =
    first_cut cut (encode_lower bytes) rest (IsWithout-hex end none bytes h) e

-- how many digits some bytes have
pub ruleset hex_lengths = (length-encode_with)

-- what is appended piece by piece
pub ruleset appended = (append_assoc)
