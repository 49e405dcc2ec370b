-- SPDX-License-Identifier: ISC
-- The header that is written is accepted.
use Rattle.std.proofs.Common.{◌≡◌, ◌≢◌, ℕ, zero, suc, ◌<◌, true, List, [], ◌∷◌}
use Rattle.std.proofs.Common.{refl, ap, arith, length}
use Rattle.std.proofs.Common.{inl, inr, subst, sym, ◌∙◌}
use Rattle.std.specs.Prelude.{codes, nat_lt, slice_index}
use Rattle.std.specs.List.{list_all}
use Rattle.std.proofs.lemmas.List.Elements.{All-nil, All-cons}
use Rattle.std.proofs.lemmas.List.Kept.{AllPairs-cons}
use Rattle.std.proofs.lemmas.Str.{IsUtf8-from_ascii}
use Rattle.std.proofs.lemmas.Str.Ascii.{IsAscii-from_reads}
use Rattle.std.specs.Str.{IsUtf8}
use Rattle.hex.specs.Hex.{IsBytes}
use Rattle.json.specs.Json.{Json, object, member, no_members, string}
use Rattle.json.specs.Strict.{AreDistinct}
use Rattle.json.proofs.OnLiterals.{json_on_literals}
use Rattle.ring_tokens.specs.Alg.{name_of}
use Rattle.ring_tokens.specs.Header.{IsHeader, bare_header, older_header, usual_header}
use Rattle.ring_tokens.specs.Jws.{CanSign, IsJws, IsTokenUnder, base64url, usual_token}
use Rattle.ring_tokens.specs.InPlace.{IsUsual, IsUsualText}
use Rattle.ring_tokens.specs.declared.alg.Alg.{Alg}
use Rattle.ring_tokens.specs.declared.alg.Alg.TheVariants.{Hs256, Hs384, Hs512}

below_by_test : (n : ℕ) (xs : List ℕ) → 0 < n → list_all (λ b. nat_lt b n) xs ≡ true
    → (i : ℕ) → slice_index xs i < n
below_by_test n [] some h i = omega arith
below_by_test n (x ∷ xs) some h zero = grind arith
below_by_test n (x ∷ xs) some h (suc i) = below_by_test n xs some (grind arith) i

ascii_by_test : (xs : List ℕ) → list_all (λ b. nat_lt b 128) xs ≡ true → IsUtf8 xs
ascii_by_test xs h =
    IsUtf8-from_ascii xs (IsAscii-from_reads xs (length xs) (omega arith)
    (λ k within. below_by_test 128 xs (omega arith) h k))

first_of : List ℕ → ℕ
first_of s = slice_index s 0

one_distinct : (a : List ℕ) → AreDistinct (a ∷ [])
one_distinct a i j d before within = absurd (omega (arith, before, within))

two_distinct : (a b : List ℕ) → a ≢ b → AreDistinct (a ∷ b ∷ [])
two_distinct a b apart =
    AllPairs-cons (λ x y. x ≢ y) a (b ∷ [])
    (All-cons (λ y. a ≢ y) b [] apart (All-nil (λ y. a ≢ y))) (one_distinct b)

names_apart : codes "alg" ≢ codes "typ"
unfolding first_of
names_apart e = let n : 97 ≡ 116 = ap first_of e in omega (arith, n)

usual_json : Alg → Json
usual_json a = object (member (codes "alg") (string (name_of a))
    (member (codes "typ") (string (codes "JWT")) no_members))

older_json : Alg → Json
older_json a = object (member (codes "typ") (string (codes "JWT"))
    (member (codes "alg") (string (name_of a)) no_members))

bare_json : Alg → Json
bare_json a = object (member (codes "alg") (string (name_of a)) no_members)

usual_accepted : (a : Alg) → IsHeader a (usual_header a)
unfolding json_on_literals usual_json
usual_accepted Hs256 = record {
  utf8 = ascii_by_test (usual_header Hs256) refl;
  json = usual_json Hs256;
  is = refl;
  unique = (two_distinct (codes "alg") (codes "typ") names_apart, (tt, (tt, tt)));
  alg = refl;
  crit = refl;
}
usual_accepted Hs384 = record {
  utf8 = ascii_by_test (usual_header Hs384) refl;
  json = usual_json Hs384;
  is = refl;
  unique = (two_distinct (codes "alg") (codes "typ") names_apart, (tt, (tt, tt)));
  alg = refl;
  crit = refl;
}
usual_accepted Hs512 = record {
  utf8 = ascii_by_test (usual_header Hs512) refl;
  json = usual_json Hs512;
  is = refl;
  unique = (two_distinct (codes "alg") (codes "typ") names_apart, (tt, (tt, tt)));
  alg = refl;
  crit = refl;
}

usual_octets : (a : Alg) → IsBytes (usual_header a)
usual_octets Hs256 = below_by_test 256 (usual_header Hs256) (omega arith) refl
usual_octets Hs384 = below_by_test 256 (usual_header Hs384) (omega arith) refl
usual_octets Hs512 = below_by_test 256 (usual_header Hs512) (omega arith) refl

older_accepted : (a : Alg) → IsHeader a (older_header a)
unfolding json_on_literals older_json
older_accepted Hs256 = record {
  utf8 = ascii_by_test (older_header Hs256) refl;
  json = older_json Hs256;
  is = refl;
  unique = (two_distinct (codes "typ") (codes "alg") (λ e. names_apart (sym e)), (tt, (tt, tt)));
  alg = refl;
  crit = refl;
}
older_accepted Hs384 = record {
  utf8 = ascii_by_test (older_header Hs384) refl;
  json = older_json Hs384;
  is = refl;
  unique = (two_distinct (codes "typ") (codes "alg") (λ e. names_apart (sym e)), (tt, (tt, tt)));
  alg = refl;
  crit = refl;
}
older_accepted Hs512 = record {
  utf8 = ascii_by_test (older_header Hs512) refl;
  json = older_json Hs512;
  is = refl;
  unique = (two_distinct (codes "typ") (codes "alg") (λ e. names_apart (sym e)), (tt, (tt, tt)));
  alg = refl;
  crit = refl;
}

older_octets : (a : Alg) → IsBytes (older_header a)
older_octets Hs256 = below_by_test 256 (older_header Hs256) (omega arith) refl
older_octets Hs384 = below_by_test 256 (older_header Hs384) (omega arith) refl
older_octets Hs512 = below_by_test 256 (older_header Hs512) (omega arith) refl

bare_accepted : (a : Alg) → IsHeader a (bare_header a)
unfolding json_on_literals bare_json
bare_accepted Hs256 = record {
  utf8 = ascii_by_test (bare_header Hs256) refl;
  json = bare_json Hs256;
  is = refl;
  unique = (one_distinct (codes "alg"), (tt, tt));
  alg = refl;
  crit = refl;
}
bare_accepted Hs384 = record {
  utf8 = ascii_by_test (bare_header Hs384) refl;
  json = bare_json Hs384;
  is = refl;
  unique = (one_distinct (codes "alg"), (tt, tt));
  alg = refl;
  crit = refl;
}
bare_accepted Hs512 = record {
  utf8 = ascii_by_test (bare_header Hs512) refl;
  json = bare_json Hs512;
  is = refl;
  unique = (one_distinct (codes "alg"), (tt, tt));
  alg = refl;
  crit = refl;
}

bare_octets : (a : Alg) → IsBytes (bare_header a)
bare_octets Hs256 = below_by_test 256 (bare_header Hs256) (omega arith) refl
bare_octets Hs384 = below_by_test 256 (bare_header Hs384) (omega arith) refl
bare_octets Hs512 = below_by_test 256 (bare_header Hs512) (omega arith) refl

pub usual_valid : (a : Alg) (k payload : List ℕ) → IsBytes payload
    → CanSign a (usual_header a) payload → IsJws a k (usual_token a k payload) payload
usual_valid a k payload octets within = record {
  header = usual_header a;
  header_octets = usual_octets a;
  signed = record { octets = octets; parts = refl; within = within };
  accepted = usual_accepted a;
}

-- ---- each of the three headers

pub octets_of : (a : Alg) (h : List ℕ) → IsUsual a h → IsBytes h
octets_of a h (inl e) = subst IsBytes (sym e) (usual_octets a)
octets_of a h (inr (inl e)) = subst IsBytes (sym e) (older_octets a)
octets_of a h (inr (inr e)) = subst IsBytes (sym e) (bare_octets a)

pub accepted_of : (a : Alg) (h : List ℕ) → IsUsual a h → IsHeader a h
accepted_of a h (inl e) = subst (IsHeader a) (sym e) (usual_accepted a)
accepted_of a h (inr (inl e)) = subst (IsHeader a) (sym e) (older_accepted a)
accepted_of a h (inr (inr e)) = subst (IsHeader a) (sym e) (bare_accepted a)

-- a token under one of them is valid
abbrev pub valid_of : {a : Alg} {k h token p : List ℕ} → IsUsual a h → IsTokenUnder a k h token p
    → IsJws a k token p
valid_of {a} {k} {h} {token} {p} usual w = record {
  header = h;
  header_octets = octets_of a h usual;
  signed = w;
  accepted = accepted_of a h usual;
}

pub header_of : (a : Alg) (text : List ℕ) → IsUsualText a text
    → (h : List ℕ) × IsUsual a h × (text ≡ base64url h)
header_of a text (inl e) = (usual_header a, inl refl, e)
header_of a text (inr (inl e)) = (older_header a, inr (inl refl), e)
header_of a text (inr (inr e)) = (bare_header a, inr (inr refl), e)

pub text_of : (a : Alg) (h text : List ℕ) → IsUsual a h → text ≡ base64url h → IsUsualText a text
text_of a h text (inl u) e = inl (e ∙ ap base64url u)
text_of a h text (inr (inl u)) e = inr (inl (e ∙ ap base64url u))
text_of a h text (inr (inr u)) e = inr (inr (e ∙ ap base64url u))
