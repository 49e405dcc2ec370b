-- SPDX-License-Identifier: ISC
-- Bytes are written piece by piece.
use Rattle.std.proofs.Common.{◌≡◌, ◌++◌, ◌∙◌, ℕ, List, [], Option, ap, append_assoc, drop, length}
use Rattle.std.proofs.Common.{refl, subst, sym, take}
use Rattle.std.proofs.KnownBytes.{Appends-kept, Appends-nil, Appends-trans}
use Rattle.std.proofs.Math.Seq.{take-append_seam}
use Rattle.std.proofs.lemmas.List.{append-nil, take-append-drop}
use Rattle.std.specs.Io.KnownBytes.{Appends, Keeps}
use Rattle.ring_passwords.specs.Output.{AppendsFront}

-- all but the rest is written
abbrev pub AppendsBefore : (old new : Option (List ℕ)) → (bytes rest : List ℕ) → Type 0
AppendsBefore old new bytes rest =
    (front : List ℕ) × (bytes ≡ front ++ rest) × Appends old new front

pub nothing_written : (a : Option (List ℕ)) (bytes : List ℕ) → AppendsBefore a a bytes bytes
nothing_written a bytes = ([], refl, Appends-nil a)

pub written_more : (a b c : Option (List ℕ)) (bytes rest next : List ℕ) (n : ℕ)
    → AppendsBefore a b bytes rest → Appends b c (take n rest) → next ≡ drop n rest
    → AppendsBefore a c bytes next
written_more a b c bytes rest next n (front, is, first) more same = (
  front ++ take n rest,
  is ∙ ap (λ (l : List ℕ). front ++ l) (sym (take-append-drop n rest))
      ∙ ap (λ (l : List ℕ). front ++ (take n rest ++ l)) (sym same)
      ∙ sym (append_assoc front (take n rest) next),
  Appends-trans a b c front (take n rest) first more,
)

pub written_no_more : (a b c : Option (List ℕ)) (bytes rest : List ℕ)
    → AppendsBefore a b bytes rest → Keeps b c → AppendsBefore a c bytes rest
written_no_more a b c bytes rest (front, is, first) kept =
    (front, is, Appends-kept a b c front first kept)

pub all_written : (a b : Option (List ℕ)) (bytes rest : List ℕ) → AppendsBefore a b bytes rest
    → rest ≡ [] → Appends a b bytes
all_written a b bytes rest (front, is, first) none =
    subst (Appends a b)
    (sym (is ∙ ap (λ (l : List ℕ). front ++ l) none ∙ append-nil front)) first

pub front_written : (a b : Option (List ℕ)) (bytes rest : List ℕ) → AppendsBefore a b bytes rest
    → AppendsFront a b bytes
front_written a b bytes rest (front, is, first) =
    (front, ap (take (length front)) is ∙ take-append_seam front rest, first)
