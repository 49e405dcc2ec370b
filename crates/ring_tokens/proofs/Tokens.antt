-- SPDX-License-Identifier: ISC
-- A token's text is read in one way.
use Rattle.std.proofs.Common.{◌≡◌, ℕ, ◌+◌, List, [], ◌∷◌, ◌++◌, refl, ap, sym, subst, ◌∙◌}
use Rattle.std.proofs.Common.{append_assoc, arith, length, length-append}
use Rattle.std.specs.Prelude.{Err, IfOk, Ok, Result, Some, codes, slice_index}
use Rattle.std.proofs.lemmas.List.{append-nil, nil_from_length}
use Rattle.json.specs.Find.{get}
use Rattle.json.specs.Json.{Json, null, boolean, number, string, array, object, document}
use Rattle.ring_tokens.specs.Alg.{algorithm_of, name_of}
use Rattle.ring.specs.Prelude.{IsTagWithin, hmac_of}
use Rattle.ring_tokens.specs.Header.{IsHeader}
use Rattle.ring_tokens.specs.declared.alg.Alg.TheVariants.{Hs256, Hs384, Hs512}
use Rattle.hex.specs.Hex.{IsBytes}
use Rattle.ring_text.proofs.Cuts.{cut_same}
use Rattle.ring_tokens.specs.Jws.{IsJws, IsTokenUnder, base64url, part_then, signature_of}
use Rattle.ring_tokens.specs.Jws.{signing_input}
use Rattle.ring_tokens.specs.Parts.{AreParts, IsCut, IsUnsigned}
use Rattle.ring_tokens.specs.declared.alg.Alg.{Alg}
use Rattle.ring_tokens.specs.declared.parts.Parts.{Parts}
use Rattle.ring_tokens.proofs.Dates.{json_or_null}
use Rattle.ring_tokens.proofs.Symbols.{IsWithout-base64url, base64url-injective}

-- a part and the rest are known from the whole
pub part_then-injective : (xs ys s t : List ℕ) → IsBytes xs → IsBytes ys
    → part_then xs s ≡ part_then ys t → (xs ≡ ys) × (s ≡ t)
part_then-injective xs ys s t hx hy e =
    let cut = cut_same 46 (base64url xs) (base64url ys) s t (IsWithout-base64url xs hx)
    (IsWithout-base64url ys hy) e in
    (base64url-injective xs ys hx hy cut.0, cut.1)

-- a text is cut in one way
pub cuts_same : {token h p s g q t : List ℕ} → IsCut token h p s → IsCut token g q t
    → (h ≡ g) × (p ≡ q) × (s ≡ t)
cuts_same {token} {h} {p} {s} {g} {q} {t} one two =
    let first = cut_same 46 h g _ _ one.header two.header (sym one.whole ∙ two.whole) in
    let second = cut_same 46 p q s t one.payload two.payload first.1 in
    (first.0, second.0, second.1)

-- a token is cut to its parts
pub token_cut : {a : Alg} {k h token p : List ℕ} → IsBytes h → IsTokenUnder a k h token p
    → IsCut token (base64url h) (base64url p) (base64url (signature_of a k h p))
token_cut {h = h} {p = p} octets is = record {
  whole = is.parts;
  header = IsWithout-base64url h octets;
  payload = IsWithout-base64url p is.octets;
}

-- what a token was cut to, where the key signed it
module _ {token : List ℕ} {q : Parts} (at : AreParts token q) {a : Alg} {k h p : List ℕ}
    (octets : IsBytes h) (is : IsTokenUnder a k h token p) where
  cut : (q.header.now ≡ base64url h) × (q.payload.now ≡ base64url p)
      × (q.signature.now ≡ base64url (signature_of a k h p))
  cut = cuts_same at.cut (token_cut octets is)

  pub header_is : q.header.now ≡ base64url h
  header_is = cut.0

  pub payload_is : q.payload.now ≡ base64url p
  payload_is = cut.1

  pub input_is : q.input.now ≡ signing_input h p
  input_is = at.input ∙ ap (λ g. g ++ 46 ∷ q.payload.now) header_is ∙ ap (part_then h) payload_is

  pub signature_is : q.signature.now ≡ base64url (signature_of a k h p)
  signature_is = cut.2

-- the headers and payloads of two valid tokens, of which one may go on
valid_same : {a b : Alg} {k l token p q : List ℕ} (rest : List ℕ) (one : IsJws a k token p)
    (two : IsJws b l (token ++ rest) q)
    → (one.header ≡ two.header) × (p ≡ q)
    × (base64url (signature_of a k one.header p) ++ rest
    ≡ base64url (signature_of b l two.header q))
valid_same {a} {b} {k} {l} {token} {p} {q} rest one two =
    let s = base64url (signature_of a k one.header p) in
    let t = base64url (signature_of b l two.header q) in
    let whole : part_then one.header (part_then p (s ++ rest))
    ≡ part_then two.header (part_then q t) =
    sym (append_assoc (base64url one.header) (46 ∷ part_then p s) rest
    ∙ ap (λ m. base64url one.header ++ 46 ∷ m)
    (append_assoc (base64url p) (46 ∷ s) rest))
    ∙ sym (ap (λ m. m ++ rest) one.signed.parts) ∙ two.signed.parts in
    let first = part_then-injective one.header two.header _ _ one.header_octets two.header_octets
    whole in
    let second = part_then-injective p q _ _ one.signed.octets two.signed.octets first.1 in
    (first.0, second.0, second.1)

-- the names of two algorithms differ in their third byte
third : List ℕ → ℕ
third s = slice_index s 2

names_apart : (a b : Alg) → name_of a ≡ name_of b → a ≡ b
unfolding third
names_apart Hs256 Hs256 e = refl
names_apart Hs256 Hs384 e = let n : 50 ≡ 51 = ap third e in absurd (omega (arith, n))
names_apart Hs256 Hs512 e = let n : 50 ≡ 53 = ap third e in absurd (omega (arith, n))
names_apart Hs384 Hs256 e = let n : 51 ≡ 50 = ap third e in absurd (omega (arith, n))
names_apart Hs384 Hs384 e = refl
names_apart Hs384 Hs512 e = let n : 51 ≡ 53 = ap third e in absurd (omega (arith, n))
names_apart Hs512 Hs256 e = let n : 53 ≡ 50 = ap third e in absurd (omega (arith, n))
names_apart Hs512 Hs384 e = let n : 53 ≡ 51 = ap third e in absurd (omega (arith, n))
names_apart Hs512 Hs512 e = refl

abbrev string_of : Json → List ℕ
string_of null = []
string_of (boolean b) = []
string_of (number s) = []
string_of (string s) = s
string_of (array js) = []
string_of (object ms) = []

-- one header is for one algorithm
headers_same : (a b : Alg) (text : List ℕ) → IsHeader a text → IsHeader b text → a ≡ b
headers_same a b text one two =
    let j : one.json ≡ two.json = ap json_or_null (sym one.is ∙ two.is) in
    let named : Some (string (name_of a)) ≡ Some (string (name_of b)) =
    sym one.alg ∙ ap (get (codes "alg")) j ∙ two.alg in
    names_apart a b (ap (λ o. string_of (json_or_null o)) named)

pub one_algorithm : {a b : Alg} {k l token p q : List ℕ} → IsJws a k token p
    → IsJws b l token q → (a ≡ b) × (p ≡ q)
one_algorithm {a} {b} {k} {l} {token} {p} {q} one two =
    let other : IsJws b l (token ++ []) q =
    subst (λ t. IsJws b l t q) (sym (append-nil token)) two in
    let same = valid_same [] one other in
    (headers_same a b other.header (subst (IsHeader a) same.0 one.accepted) other.accepted, same.1)

pub other_algorithm : {a : Alg} {k p : List ℕ} (header rest : List ℕ) {json : Json}
    → IsBytes header
    → document header ≡ Some json → (get (codes "alg") json ≡ Some (string (name_of a)) → ⊥)
    → IsJws a k (part_then header rest) p → ⊥
other_algorithm {a} {k} {p} header rest {json} octets read other is =
    let cut = part_then-injective header is.header rest _ octets is.header_octets is.signed.parts in
    let j : is.accepted.json ≡ json =
    ap json_or_null (sym is.accepted.is ∙ ap document (sym cut.0) ∙ read) in
    other (ap (get (codes "alg")) (sym j) ∙ is.accepted.alg)

pub no_beginning : {a : Alg} {k token p q : List ℕ} (rest : List ℕ) → IsJws a k token p
    → IsJws a k (token ++ rest) q → rest ≡ []
no_beginning {a} {k} {token} {p} {q} rest one two =
    let same = valid_same rest one two in
    let t = base64url (signature_of a k two.header q) in
    let goes : t ++ rest ≡ t =
    ap (λ m. base64url m ++ rest)
    (sym (ap (λ h. signature_of a k h p) same.0 ∙ ap (signature_of a k two.header) same.1))
    ∙ same.2 in
    nil_from_length rest (rest_none t rest goes)
  where
    rest_none : (t rest : List ℕ) → t ++ rest ≡ t → length rest ≡ 0
    rest_none t rest e =
        let l : length (t ++ rest) ≡ length t = ap length e in
        let s : length (t ++ rest) ≡ length t + length rest = length-append t rest in
        omega (arith, l, s)

-- what is signed is within HMAC's limit, and its signature stands behind it
abbrev pub IsSigned : Alg → (k : List ℕ) → Parts → Type 0
IsSigned a k q = IsTagWithin (algorithm_of a) (length q.input.now)
    × (q.signature.now ≡ base64url (hmac_of (algorithm_of a) k q.input.now))

-- what the key signed is not unsigned
pub signed_apart : {token : List ℕ} {q : Parts} (a : Alg) (k : List ℕ) → AreParts token q
    → IsUnsigned a k token → IsSigned a k q → ⊥
signed_apart {token} {q} a k at unsigned is =
    unsigned q.header.now q.payload.now q.signature.now at.cut
    (subst (λ m. IsTagWithin (algorithm_of a) (length m)) at.input is.0)
    (is.1 ∙ ap (λ m. base64url (hmac_of (algorithm_of a) k m)) at.input)

-- a token whose parts are those of a header, a payload and its signature
pub token_under : {token : List ℕ} {q : Parts} → AreParts token q → (a : Alg) (k h p : List ℕ)
    → q.header.now ≡ base64url h → (q.payload.now ≡ base64url p) × IsBytes p → IsSigned a k q
    → IsTokenUnder a k h token p
token_under {token} {q} at a k h p header payload is =
    let input : q.input.now ≡ signing_input h p =
    at.input ∙ ap (λ t. t ++ 46 ∷ q.payload.now) header ∙ ap (part_then h) payload.0 in
    let signed : q.signature.now ≡ base64url (signature_of a k h p) =
    is.1 ∙ ap (λ m. base64url (hmac_of (algorithm_of a) k m)) input in
    record {
      octets = payload.1;
      parts = at.cut.whole ∙ ap (λ t. t ++ 46 ∷ (q.payload.now ++ 46 ∷ q.signature.now)) header
          ∙ ap (λ t. part_then h (t ++ 46 ∷ q.signature.now)) payload.0
          ∙ ap (λ t. part_then h (part_then p t)) signed;
      within = subst (λ m. IsTagWithin (algorithm_of a) (length m)) input is.0;
    }

pub if_ok_map : {T E : Type 0} (r : Result T E) {P Q : T → Type 0} → ((x : T) → P x → Q x)
    → IfOk r P → IfOk r Q
if_ok_map (Ok x) f h = f x h
if_ok_map (Err e) f h = tt
