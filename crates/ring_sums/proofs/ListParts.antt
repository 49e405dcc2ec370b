-- SPDX-License-Identifier: ISC
-- A list in parts.
use Rattle.std.proofs.Common.{◌≡◌, ℕ, List, [], ◌∷◌, ◌++◌, ◌∙◌, Option, None, Some, ap}
use Rattle.std.proofs.Common.{append_assoc, inl, inr, refl, sym}
use Rattle.std.proofs.KnownBytes.{Consumes-trans}
use Rattle.std.proofs.lemmas.Bool.{cases_Bool}
use Rattle.std.specs.Io.KnownBytes.{Consumes, IsAtEnd, Keeps, prepend_known}
use Rattle.ring_sums.specs.Parts.{IsPart, left_of}
use Rattle.ring_sums.specs.declared.parts.Part.{Part}
use Rattle.ring_sums.specs.declared.parts.Parts.{Parts}

pub prepend-none : (known : Option (List ℕ)) → prepend_known [] known ≡ known
prepend-none None = refl
prepend-none (Some all) = refl

-- what came is put behind what was left, and the text is taken off
pub left-moved : (old new : Option (List ℕ)) (before came text behind : List ℕ)
    → Consumes old new came → before ++ came ≡ text ++ behind
    → Consumes (prepend_known before old) (prepend_known behind new) text
left-moved None new before came text behind given same = tt
left-moved (Some all) None before came text behind given same = absurd given
left-moved (Some all) (Some rest) before came text behind given same =
    ap (λ z. before ++ z) given ∙ sym (append_assoc before came rest)
    ∙ ap (λ z. z ++ rest) same ∙ append_assoc text behind rest

-- nothing came
pub left-kept : (old new : Option (List ℕ)) (before : List ℕ) → Keeps old new
    → Consumes (prepend_known before old) (prepend_known before new) []
left-kept None new before kept = tt
left-kept (Some all) None before kept = absurd kept
left-kept (Some all) (Some rest) before kept = ap (λ z. before ++ z) (sym kept)

-- all that is left is taken off
pub left-taken : (known : Option (List ℕ)) (before after text : List ℕ) → text ≡ before
    → after ≡ []
    → Consumes (prepend_known before known) (prepend_known after known) text
left-taken None before after text same none = tt
left-taken (Some all) before after text same none =
    ap (λ (z : List ℕ). z ++ all) (sym same)
    ∙ ap (λ (z : List ℕ). text ++ (z ++ all)) (sym none)

pub left-ended : (known : Option (List ℕ)) (after : List ℕ) → after ≡ [] → IsAtEnd known
    → IsAtEnd (prepend_known after known)
left-ended None after none end = tt
left-ended (Some all) after none end = ap (λ (z : List ℕ). z ++ all) none ∙ end

-- what is behind a line feed, and that, are behind the text before it
pub consumes-front : (old new : Option (List ℕ)) (text behind : List ℕ)
    → Consumes old new (text ++ behind) → Consumes old (prepend_known behind new) text
consumes-front None new text behind given = tt
consumes-front (Some all) None text behind given = absurd given
consumes-front (Some all) (Some left) text behind given = given ∙ append_assoc text behind left

module _ {R : Type 0} {remaining : R → Option (List ℕ)} {part : Part} where
  -- a part comes later
  pub part-behind : {old mid new : Parts R}
      → Consumes (left_of remaining old) (left_of remaining mid) []
      → IsPart remaining part mid new → IsPart remaining part old new
  part-behind {old} {mid} {new} none is =
      record {
        lines = λ more. Consumes-trans (left_of remaining old) (left_of remaining mid)
            (left_of remaining new) [] (part.text.items ++ 10 ∷ []) none (is.lines more);
        last = λ last. Consumes-trans (left_of remaining old) (left_of remaining mid)
            (left_of remaining new) [] part.text.items none (is.last last);
        all = is.all;
      }

  -- what a part leaves of a list
  pub part-rest : {old new : Parts R} → IsPart remaining part old new
      → (rest : Option (List ℕ)) × Consumes (left_of remaining old) rest part.text.items
  part-rest {old} {new} is = elim (cases_Bool part.is_last) [
    | inl last ↦ (left_of remaining new, is.last last)
    | inr more ↦ (
      prepend_known (10 ∷ []) (left_of remaining new),
      consumes-front (left_of remaining old) (left_of remaining new) part.text.items (10 ∷ [])
          (is.lines more),
    )
  ]
