-- SPDX-License-Identifier: ISC
-- Outcomes that are found, and the lanes of those that are not.
use Rattle.std.proofs.Common.{◌≡◌, ℕ, ◌+◌, ◌<◌, List, [], ◌∷◌, ◌++◌, ◌∙◌, Option, None, Some, ap}
use Rattle.std.proofs.Common.{arith, drop, get_or, inl, inr, length, length-append, length-drop}
use Rattle.std.proofs.Common.{refl, subst, suc, sym}
use Rattle.std.proofs.Math.Seq.{get_or-append_seam}
use Rattle.std.specs.Prelude.{Bool, IsSomeAnd, MatchOption}
use Rattle.std.proofs.lemmas.Bool.{cases_eq, cases_lt}
use Rattle.std.proofs.lemmas.List.{get_or-drop, get_or_append_left, length-map, map_push}
use Rattle.std.proofs.lemmas.List.Elements.{Contains-append_left, Contains-append_right}
use Rattle.std.proofs.lemmas.List.Sorted.{Contains-permutation, IsPermutation-map}
use Rattle.std.proofs.lemmas.List.Sorted.{IsPermutation-swap_remove}
use Rattle.std.proofs.lemmas.Map.Made.{Contains-tail}
use Rattle.std.specs.List.{Contains, swap_remove}
use Rattle.std.specs.List.Sorted.{IsPermutation}
use Rattle.std.specs.declared.io.Error.{Error}
use Rattle.ring.specs.declared.digest.algorithm.Algorithm.{Algorithm}
use Rattle.ring_sums.specs.Found.{AreFound, IsFirst, IsPut, IsReady}
use Rattle.ring_sums.specs.Lane.{places_of}
use Rattle.ring_sums.specs.Lanes.{IsBegun, KeepPlaces}
use Rattle.ring_sums.specs.Outcome.{IsOutcome}
use Rattle.ring_sums.specs.declared.lane.Lane.{Lane}
use Rattle.ring_sums.specs.declared.outcome.Outcome.{Outcome}

or-none : {X A B : Type 0} (P : X → Type 0) (o : Option X) → (A → B) → MatchOption o A P
    → MatchOption o B P
or-none P None to is = to is
or-none P (Some x) to is = is

-- lanes that keep their places have the same
places-same : {R : Type 0} (old new : List (Lane R)) → KeepPlaces old new
    → places_of old ≡ places_of new
places-same [] [] kept = refl
places-same [] (n ∷ new) kept = absurd (omega (arith, kept.count))
places-same (o ∷ old) [] kept = absurd (omega (arith, kept.count))
places-same (o ∷ old) (n ∷ new) kept =
    let first : o.place ≡ n.place = sym (kept.each 0 o) in
    let rest : places_of old ≡ places_of new = places-same old new (record {
      count = omega (arith, kept.count);
      each = λ i l. kept.each (suc i) l;
    }) in
    cc (first, rest)

module _ {R : Type 0} {remaining : R → Option (List ℕ)} {fails_with : R → Error → Bool}
    {a : Algorithm} {readers : List R} {place : ℕ} where
  pub found-kept : {found : List (Option Outcome)} {old new : List (Lane R)}
      → AreFound remaining fails_with a readers place found old → KeepPlaces old new
      → AreFound remaining fails_with a readers place found new
  found-kept {found} {old} {new} all kept =
      record {
        each = λ k r o below.
            or-none (IsOutcome remaining fails_with a (get_or readers (place + k) r))
            (get_or found k o) (subst (λ z. Contains z (place + k)) (places-same old new kept))
            (all.each k r o below);
      }

  -- a place more, of which nothing is found
  pub found-more : {at : ℕ} {found : List (Option Outcome)} {old new : List (Lane R)}
      → AreFound remaining fails_with a readers place found old → IsBegun at old new
      → place + length found ≡ at
      → AreFound remaining fails_with a readers place (found ++ None ∷ []) new
  found-more {at} {found} {old} {new} all begun is =
      let places : places_of new ≡ places_of old ++ at ∷ [] =
      rw (begun.lanes, ← begun.at) (map_push (λ (l : Lane R). l.place) old begun.lane) in
      record {
        each = λ k r o below.
            let Q = IsOutcome remaining fails_with a (get_or readers (place + k) r) in
            let P : Option Outcome → Type 0 =
            λ z. MatchOption z (Contains (places_of new) (place + k)) Q in
            let old_places = places_of old in
            elim (cases_lt k (length found)) [
              | inl lt ↦
                  subst P (sym (get_or_append_left found (None ∷ []) o k lt))
                  (or-none Q (get_or found k o) (λ c. rw places
                  (Contains-append_left old_places (at ∷ []) (place + k) c)) (all.each k r o lt))
              | inr ge ↦
                  let last : k ≡ length found =
                  omega (arith, ge, below, length-append found (None ∷ [])) in
                  subst P (sym (ap (λ (z : ℕ). get_or (found ++ None ∷ []) z o) last
                  ∙ get_or-append_seam found None [] o))
                  (rw places (Contains-append_right old_places (at ∷ []) (place + k)
                  (0, omega arith, omega (arith, is, last))))
            ];
      }

  -- a lane less, whose outcome is put at its place
  pub found-put : {i : ℕ} {outcome : Outcome} {old new : List (Option Outcome)}
      {lanes fewer : List (Lane R)} (lane : Lane R) → i < length lanes
      → lane ≡ get_or lanes i lane → fewer ≡ swap_remove lanes i lane
      → AreFound remaining fails_with a readers place old lanes
      → IsPut place lane.place outcome old new
      → ((r : R) → IsOutcome remaining fails_with a (get_or readers lane.place r) outcome)
      → AreFound remaining fails_with a readers place new fewer
  found-put {i} {outcome} {old} {new} {lanes} {fewer} lane inside is swapped all put made =
      let moved : IsPermutation (places_of lanes) (places_of (lane ∷ fewer)) =
      rw swapped (IsPermutation-map (λ (l : Lane R). l.place) lanes
      (lane ∷ swap_remove lanes i lane) (IsPermutation-swap_remove lanes i lane inside is)) in
      record {
        each = λ k r o below.
            let Q = IsOutcome remaining fails_with a (get_or readers (place + k) r) in
            let P : Option Outcome → Type 0 =
            λ z. MatchOption z (Contains (places_of fewer) (place + k)) Q in
            let there : k < length old = omega (arith, put.count, below) in
            elim (cases_eq (place + k) lane.place) [
              | inl here ↦
                  subst P (sym (put.put k o there here))
                  (subst (λ (z : ℕ). IsOutcome remaining fails_with a (get_or readers z r) outcome)
                  (sym here) (made r))
              | inr other ↦
                  subst P (sym (put.others k o other))
                  (or-none Q (get_or old k o) (λ c. Contains-tail lane.place (places_of fewer)
                  (place + k) (λ e. other (sym e)) (Contains-permutation (places_of lanes)
                  (places_of (lane ∷ fewer)) (place + k) moved c)) (all.each k r o there))
            ];
      }

  -- the outcomes behind the first
  pub found-rest : {found : List (Option Outcome)} {lanes : List (Lane R)}
      → AreFound remaining fails_with a readers place found lanes
      → AreFound remaining fails_with a readers (place + 1) (drop 1 found) lanes
  found-rest {found} {lanes} all =
      record {
        each = λ k r o below.
            let P : Option Outcome → ℕ → Type 0 = λ z n. MatchOption z
            (Contains (places_of lanes) n)
            (IsOutcome remaining fails_with a (get_or readers n r)) in
            subst (λ z. P z (place + 1 + k)) (sym (get_or-drop 1 found k o))
            (subst (P (get_or found (1 + k) o)) (omega arith)
            (all.each (1 + k) r o (omega (arith, below, length-drop 1 found))));
      }

  -- the first outcome is that of its reader where it can be given
  pub found-first : {lanes : List (Lane R)} (waiting : ℕ) (r : R) (found : List (Option Outcome))
      (outcome : Option Outcome) → 0 < length found
      → AreFound remaining fails_with a readers place found lanes → IsFirst found outcome
      → IsReady found (length lanes) waiting
      → IsSomeAnd outcome (IsOutcome remaining fails_with a (get_or readers place r))
  found-first waiting r [] outcome some all is ready = absurd (omega (arith, some))
  found-first waiting r (Some f ∷ rest) None some all is ready = absurd (cc is)
  found-first waiting r (Some f ∷ rest) (Some x) some all is ready =
      subst (λ (z : Option Outcome). IsSomeAnd z
      (IsOutcome remaining fails_with a (get_or readers place r))) (sym is)
      (subst (λ (z : ℕ). IsOutcome remaining fails_with a (get_or readers z r) f)
      (omega arith) (all.each 0 r None some))
  found-first {lanes} waiting r (None ∷ rest) outcome some all is ready =
      let there = all.each 0 r None some in
      absurd (omega (arith, there.1, length-map lanes (λ (l : Lane R). l.place), ready))
