-- SPDX-License-Identifier: ISC
-- A text is read in one way.
use Rattle.std.proofs.Common.{◌≡◌, ◌==◌, ◌++◌, ◌∙◌, ℕ, Bool, true, false, List, ap, drop}
use Rattle.std.proofs.Common.{inl, length, refl, subst, sym, take}
use Rattle.std.specs.Prelude.{◌||◌, None, Option, Some, not}
use Rattle.std.proofs.lemmas.Bool.{and_parts}
use Rattle.std.proofs.lemmas.List.{take-append-drop}
use Rattle.std.specs.List.{list_all}
use Rattle.std.specs.declared.num.NonZeroU32.{NonZeroU32}
use Rattle.hex.specs.Hex.{IsBytes}
use Rattle.ring_text.proofs.Cuts.{IsWithout-lacks}
use Rattle.ring_text.proofs.LowerHex.{IsWithout-hex}
use Rattle.ring_text.specs.Cut.{IsWithout}
use Rattle.ring_text.proofs.Base64.{bytes_behind, bytes_front}
use Rattle.ring_password_hash.specs.Scheme.{keeps_keys, kept_encoding_of, salt_encoding_of}
use Rattle.ring_password_hash.specs.Stored.{IsParts, IsReading, IsTextOf, Parts, is_salt, is_text}
use Rattle.ring_password_hash.specs.Stored.{parts_text, text_of}
use Rattle.ring_password_hash.specs.Text.{IsCount, IsLen, field_then, head_then, kept_by, kept_text}
use Rattle.ring_password_hash.specs.Text.{written}
use Rattle.ring_password_hash.specs.declared.scheme.Encoding.{Encoding}
use Rattle.ring_password_hash.specs.declared.scheme.Encoding.TheVariants.{Plain, Hex, Base64}
use Rattle.ring_password_hash.specs.declared.scheme.Encoding.TheVariants.{Base64NoPad, Adapted}
use Rattle.ring_password_hash.specs.declared.scheme.Scheme.{Scheme}
use Rattle.ring_password_hash.specs.declared.text.Parameters.{Parameters}
use Rattle.ring_password_hash.proofs.Fields.{field_then-injective, written-injective}
use Rattle.ring_password_hash.proofs.Heads.{head_then-injective}
use Rattle.ring_password_hash.proofs.Keys.{keys_read}
use Rattle.ring_password_hash.proofs.SchemesApart.{same_scheme}
use Rattle.ring_password_hash.proofs.Symbols.{IsWithout-adapted, IsWithout-base64}
use Rattle.ring_password_hash.proofs.Symbols.{IsWithout-base64_no_pad}

plain_apart : (x : Encoding) (s : List ℕ)
    → (not (is_text x) || list_all (λ b. not (b == 36)) s) ≡ true → IsBytes s
    → IsWithout 36 (written x s)
plain_apart Plain s plain h = IsWithout-lacks 36 s plain
plain_apart Hex s plain h = IsWithout-hex 36 refl s h
plain_apart Base64 s plain h = IsWithout-base64 36 (inl refl) s h
plain_apart Base64NoPad s plain h = IsWithout-base64_no_pad 36 (inl refl) s h
plain_apart Adapted s plain h = IsWithout-adapted 36 (inl refl) s h

-- the byte that ends a salt is not in it
pub salt_apart : (k : Scheme) (s : List ℕ) → is_salt k s ≡ true → IsBytes s
    → IsWithout 36 (written (salt_encoding_of k) s)
salt_apart k s is h = plain_apart (salt_encoding_of k) s (and_parts _ _ is).1 h

kept_by-injective : (keys : Bool) (x : Encoding) (g h : List ℕ) → IsBytes g → IsBytes h
    → kept_by keys x g ≡ kept_by keys x h → g ≡ h
kept_by-injective false x g h hg hh e = written-injective x g h hg hh e
kept_by-injective true x g h hg hh e =
    let read = keys_read (take 32 g) h _ (bytes_front 32 g hg) hh refl e in
    let behind = written-injective Base64 (drop 32 g) (drop 32 h) (bytes_behind 32 g hg)
    (bytes_behind 32 h hh) read.1 in
    sym (take-append-drop 32 g) ∙ ap (λ l. l ++ drop 32 g) read.0
    ∙ ap (λ l. take 32 h ++ l) behind ∙ take-append-drop 32 h

-- one text is of one value of a scheme
parts_text-injective : {k : Scheme} {p q : Parameters} {c d : NonZeroU32} {s t h g : List ℕ}
    → IsParts k p c s h → IsParts k q d t g → parts_text k p c s h ≡ parts_text k q d t g
    → (p ≡ q) × (c ≡ d) × (s ≡ t) × (h ≡ g)
unfolding parts_text
parts_text-injective {k} {p} {q} {s = s} {t = t} {h = h} {g = g} one two e =
    let head = head_then-injective k one.iterations two.iterations p q one.kept two.kept e in
    let salt = field_then-injective (salt_encoding_of k) 36 one.salt_bytes two.salt_bytes
    (salt_apart k s one.salt one.salt_bytes) (salt_apart k t two.salt two.salt_bytes) head.3 in
    let kept = kept_by-injective (keeps_keys k) (kept_encoding_of k) h g one.kept_bytes
    two.kept_bytes salt.1 in
    (head.0, head.1, salt.0, kept)

-- the parts and the text of a value of a scheme, by an equation of its scheme
pub parts_at : {k : Scheme} {text : List ℕ} (h : Parts) → h.scheme ≡ k → IsTextOf h text
    → IsParts k h.parameters h.iterations h.salt h.kept
    × (text ≡ parts_text k h.parameters h.iterations h.salt h.kept)
parts_at h same of = (
  subst (λ (k : Scheme). IsParts k h.parameters h.iterations h.salt h.kept) same of.is,
  sym of.has ∙ ap (λ (k : Scheme). parts_text k h.parameters h.iterations h.salt h.kept) same,
)

-- one text is of one value
pub one_value : (g h : Parts) {text : List ℕ} → IsTextOf g text → IsTextOf h text → g ≡ h
one_value g h one two =
    let same = same_scheme g h one two in
    let at = parts_at h (sym same) two in
    let rest = parts_text-injective one.is at.0 (one.has ∙ at.1) in
    λ i. record {
      scheme = same i;
      parameters = rest.0 i;
      iterations = rest.1 i;
      salt = rest.2 i;
      kept = rest.3 i;
    }

-- what a text is read as is the value that has it
pub read_back : (h : Parts) (text : List ℕ) (found : Option Parts) → IsTextOf h text
    → IsReading text found → found ≡ Some h
read_back h text None of reads = absurd (reads h of)
read_back h text (Some g) of reads = ap (λ (v : Parts). Some v) (one_value g h reads of)

pub own_text : (h : Parts) {text : List ℕ} → IsTextOf h text → IsTextOf h (text_of h)
own_text h of = subst (IsTextOf h) (sym of.has) of

-- what is read of a text that a value has is the value's
module _ {k : Scheme} {p : Parameters} {c : NonZeroU32} {s h text : List ℕ}
    (parts : IsParts k p c s h) (whole : text ≡ parts_text k p c s h) where
  pub head_read : (q : Parameters) (d : NonZeroU32) {n : ℕ} {rest : List ℕ}
      → text ≡ head_then k q d n rest → IsCount d → IsLen k q n
      → (n ≡ length h) × (rest ≡ field_then (salt_encoding_of k) s 36 (kept_text k h))
  unfolding parts_text
  head_read q d read small len =
      let both = head_then-injective k small parts.iterations q p len parts.kept
      (sym read ∙ whole) in
      (both.2, both.3)

  salt_read : {rest salt behind : List ℕ}
      → rest ≡ field_then (salt_encoding_of k) s 36 (kept_text k h)
      → rest ≡ field_then (salt_encoding_of k) salt 36 behind → IsBytes salt
      → IsWithout 36 (written (salt_encoding_of k) salt) → (salt ≡ s) × (behind ≡ kept_text k h)
  salt_read head read bytes apart =
      field_then-injective (salt_encoding_of k) 36 bytes parts.salt_bytes apart
      (salt_apart k s parts.salt parts.salt_bytes) (sym read ∙ head)

-- a value's parts, where a text that it has is read to the end of the salt
pub front_read : {k : Scheme} {text : List ℕ} (h : Parts) → h.scheme ≡ k → IsTextOf h text
    → (q : Parameters) (d : NonZeroU32) {n : ℕ} {rest salt behind : List ℕ}
    → (text ≡ head_then k q d n rest) × IsCount d × IsLen k q n
    → (rest ≡ field_then (salt_encoding_of k) salt 36 behind)
    × IsWithout 36 (written (salt_encoding_of k) salt) → IsBytes salt
    → IsParts k h.parameters h.iterations h.salt h.kept × (n ≡ length h.kept) × (salt ≡ h.salt)
    × (behind ≡ kept_text k h.kept)
front_read h same of q d read found bytes =
    let at = parts_at h same of in
    let head = head_read at.0 at.1 q d read.0 read.1 read.2 in
    let salt = salt_read at.0 at.1 head.1 found.0 bytes found.1 in
    (at.0, head.0, salt.0, salt.1)
