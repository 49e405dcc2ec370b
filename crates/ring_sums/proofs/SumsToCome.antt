-- SPDX-License-Identifier: ISC
-- Readers whose outcomes are to come.
use Rattle.std.proofs.Common.{◌≡◌, ℕ, ◌+◌, ◌<◌, List, [], ◌∷◌, ◌++◌, ◌∙◌, Bool, Option, None, Some}
use Rattle.std.proofs.Common.{ap, append_assoc, arith, drop, get_or, inl, inr, length}
use Rattle.std.proofs.Common.{length-append, length-drop, refl, subst, sym}
use Rattle.std.proofs.Common.{Global}
use Rattle.std.proofs.Math.Seq.{get_or-append_seam}
use Rattle.std.proofs.lemmas.Bool.{cases_lt}
use Rattle.std.proofs.lemmas.List.{drop-append-le}
use Rattle.std.specs.Prelude.{IsSomeAnd}
use Rattle.std.specs.Vec.Iter.{into_iter_items}
use Rattle.std.specs.declared.collections.VecDeque.{VecDeque}
use Rattle.std.specs.declared.io.Error.{Error}
use Rattle.ring.specs.declared.digest.algorithm.Algorithm.{Algorithm}
use Rattle.ring_sums.specs.Found.{AreFound, IsFirst, IsReady}
use Rattle.ring_sums.specs.Lane.{left_of}
use Rattle.ring_sums.specs.Lanes.{AreIn, GoOn, KeepPlaces}
use Rattle.ring_sums.specs.Outcome.{IsOutcome}
use Rattle.ring_sums.specs.Sums.{ReaderIsGiven, ReadersToCome}
use Rattle.ring_sums.specs.declared.lanes.Lanes.{Lanes}
use Rattle.ring_sums.specs.declared.outcome.Outcome.{Outcome}
use Rattle.ring_sums.specs.declared.sums.Sums.{Sums}
use Rattle.ring_sums.proofs.FoundOutcomes.{found-first, found-kept, found-rest}

pub whole-many : {X : Type 0} (xs ys zs : List X) → xs ≡ ys ++ zs
    → length xs ≡ length ys + length zs
whole-many xs ys zs e = ap length e ∙ length-append ys zs

-- the reader behind those that are begun
pub reader-next : {R : Type 0} {readers : List R} (given begun rest : List R) (reader : R)
    (place : ℕ) → readers ≡ begun ++ reader ∷ rest → place ≡ length given + length begun
    → (r : R) → get_or (given ++ readers) place r ≡ reader
reader-next given begun rest reader place whole at r =
    ap (λ z. get_or (given ++ z) place r) whole
    ∙ ap (λ z. get_or z place r) (sym (append_assoc given begun (reader ∷ rest)))
    ∙ ap (λ (z : ℕ). get_or ((given ++ begun) ++ reader ∷ rest) z r)
    (at ∙ sym (length-append given begun))
    ∙ get_or-append_seam (given ++ begun) reader rest r

none-waits : (found : List (Option Outcome)) (lanes waiting : ℕ) → length found ≡ 0
    → IsReady found lanes waiting → waiting ≡ 0
none-waits [] lanes waiting none ready = ready
none-waits (f ∷ found) lanes waiting none ready = absurd (omega (arith, none))

none-first : (found : List (Option Outcome)) (outcome : Option Outcome) → length found ≡ 0
    → IsFirst found outcome → outcome ≡ None
none-first [] None none is = refl
none-first [] (Some x) none is = absurd (cc is)
none-first (f ∷ found) outcome none is = absurd (omega (arith, none))

-- what is found and the lanes change, and nothing else
pub to-come : {R : Type 0} {remaining : R → Option (List ℕ)} {fails_with : R → Error → Bool}
    {a : Algorithm} {readers : List R} {old : Sums R} (found : VecDeque (Option Outcome) Global)
    (lanes : Lanes R) (first : ReadersToCome remaining fails_with a readers old)
    → length found.items ≡ length old.found.items
    → AreIn remaining fails_with a (first.given ++ readers) left_of lanes.lanes.items
    lanes.contexts.items
    → AreFound remaining fails_with a (first.given ++ readers) (length first.given) found.items
    lanes.lanes.items
    → ReadersToCome remaining fails_with a readers (record old { found = found; lanes = lanes })
to-come found lanes first count reading are = record {
  given = first.given;
  begun = first.begun;
  whole = first.whole;
  algorithm = first.algorithm;
  total = first.total;
  count = count ∙ first.count;
  reading = reading;
  found = are;
}

-- the first outcome is taken out, and nothing else changes
pub given-next : {R : Type 0} {remaining : R → Option (List ℕ)} {fails_with : R → Error → Bool}
    {a : Algorithm} {old : Sums R} (found : VecDeque (Option Outcome) Global)
    (outcome : Option Outcome) (readers : List R) → found.items ≡ drop 1 old.found.items
    → IsFirst old.found.items outcome
    → IsReady old.found.items (length old.lanes.lanes.items) (length (into_iter_items old.waiting))
    → ReadersToCome remaining fails_with a readers old
    → ReaderIsGiven remaining fails_with a readers outcome (record old { found = found })
given-next {old = old} found outcome [] shifted is ready first =
    let none = whole-many [] first.begun (into_iter_items old.waiting) first.whole in
    let empty : length old.found.items ≡ 0 = omega (arith, first.count, none) in
    let over : length found.items ≡ 0 =
    ap length shifted ∙ length-drop 1 old.found.items ∙ omega (arith, empty) in
    record {
      is = (
        none-first old.found.items outcome empty is,
        to-come found old.lanes first (over ∙ sym empty) first.reading
            (record { each = λ k r o below. absurd (omega (arith, below, over)) }),
      );
    }
given-next {remaining = remaining} {fails_with} {a} {old} found outcome (r ∷ rest) shifted is ready
    first =
    let given = first.given in
    let waiting = into_iter_items old.waiting in
    let all = whole-many (r ∷ rest) first.begun waiting first.whole in
    let some : 0 < length old.found.items = elim (cases_lt 0 (length old.found.items)) [
      | inl lt ↦ lt
      | inr ge ↦
          let none = none-waits old.found.items _ _ (omega (arith, ge)) ready in
          absurd (omega (arith, ge, first.count, none, all))
    ] in
    let more = sym (append_assoc given (r ∷ []) rest) in
    let behind : length given + 1 ≡ length (given ++ r ∷ []) =
    omega (arith, length-append given (r ∷ [])) in
    record {
      is = (
        subst (λ z. IsSomeAnd outcome (IsOutcome remaining fails_with a z))
            (get_or-append_seam given r rest r)
            (found-first _ r old.found.items outcome some first.found is ready),
        record {
          given = given ++ r ∷ [];
          begun = drop 1 first.begun;
          whole = ap (drop 1) first.whole
              ∙ drop-append-le 1 first.begun waiting (omega (arith, some, first.count));
          algorithm = first.algorithm;
          total = first.total ∙ omega (arith, behind);
          count = ap length shifted ∙ length-drop 1 old.found.items
              ∙ omega (arith, first.count, length-drop 1 first.begun);
          reading = subst (λ z. AreIn remaining fails_with a z left_of old.lanes.lanes.items
              old.lanes.contexts.items) more first.reading;
          found = rw shifted
              (subst (λ z. AreFound remaining fails_with a z (length (given ++ r ∷ []))
              (drop 1 old.found.items) old.lanes.lanes.items) more
              (subst (λ (z : ℕ). AreFound remaining fails_with a (given ++ r ∷ rest) z
              (drop 1 old.found.items) old.lanes.lanes.items) behind (found-rest first.found)));
        },
      );
    }

-- the lanes go on, and nothing else changes
pub lanes-kept : {R : Type 0} {remaining : R → Option (List ℕ)} {fails_with : R → Error → Bool}
    {a : Algorithm} {readers : List R} {old : Sums R} {lanes : Lanes R}
    → KeepPlaces old.lanes.lanes.items lanes.lanes.items
    → GoOn remaining fails_with left_of left_of old.lanes lanes
    → ReadersToCome remaining fails_with a readers old
    → ReadersToCome remaining fails_with a readers (record old { lanes = lanes })
lanes-kept {a = a} {readers} {old} {lanes} places going first =
    to-come old.found lanes first refl (going a (first.given ++ readers) first.reading)
    (found-kept first.found places)
