-- SPDX-License-Identifier: ISC
-- What is found of operands, one after another.
use Rattle.std.proofs.Common.{◌≡◌, ◌∙◌, ◌++◌, ◌∷◌, ◌&&◌, ℕ, List, [], Option, ap}
use Rattle.std.proofs.Common.{◌+◌, ◌<◌, Bor, append-nil, append_assoc, get_or, length, map}
use Rattle.std.proofs.Common.{refl, subst, sym, take, true}
use Rattle.std.proofs.Math.Bool.{and-true}
use Rattle.std.proofs.lemmas.List.{map_more, map_push}
use Rattle.std.proofs.lemmas.List.Concat.{flat_map-append}
use Rattle.std.proofs.lemmas.List.Folds.{list_all-append}
use Rattle.std.specs.List.{flat_map, list_all}
use Rattle.std.specs.Prelude.{if◌then◌else◌, Result, Err}
use Rattle.std.specs.declared.io.Error.{Error}
use Rattle.ring_sums.specs.Event.{Did, Does, Event, Operand, Output}
use Rattle.ring_sums.specs.Tree.{AreOperandsFound, IsBehindLook, IsFound, IsNamed, IsLookedAt}
use Rattle.ring_sums.specs.Tree.{IsOfKind, IsOperandFound, Names, is_fine, is_output, names_of}
use Rattle.ring_sums.specs.Tree.{output_of}
use Rattle.ring_sums.specs.declared.steps.Found.{Found}
use Rattle.ring_sums.specs.declared.steps.Identity.{Identity}
use Rattle.ring_sums.specs.declared.steps.Kind.{Kind}
use Rattle.ring_sums.specs.declared.steps.Kind.TheVariants as kind
use Rattle.ring_sums.specs.declared.tree.Walk.{Walk}
use Rattle.ring_sums.proofs.Walked.{Does-nothing, Does-then, IsStill, and_assoc, names_same}
use Rattle.ring_sums.proofs.Walked.{turn-more}

-- an operand that is no directory is listed, unless it is the output
of-kind : (output : Option Identity) (operand : List ℕ) (found : Kind) (file : Identity)
    → (found ≡ kind.Directory → ⊥) → {events : List Event} {names : List (List ℕ)}
    → events ≡ [] → names ≡ (if is_output output file then [] else operand ∷ [])
    → IsOfKind output operand found file events names
of-kind output operand kind.Directory file other none is = absurd (other refl)
of-kind output operand kind.File file other none is = (none, is)
of-kind output operand kind.Link file other none is = (none, is)
of-kind output operand kind.Other file other none is = (none, is)

module _ {S : Type 0} {log : S → Option (List Event)} where
  pub Names-map : {old new : Walk S} (P Q : List Event → List (List ℕ) → Type 0)
      → ((events : List Event) (names : List (List ℕ)) → P events names → Q events names)
      → Names log old new P → Names log old new Q
  Names-map P Q weaker named = record {
    events = named.events;
    added = named.added;
    are = weaker named.events named.added named.are;
    does = named.does;
    output = named.output;
    names = named.names;
    whole = named.whole;
  }

  Names-nothing : (walk : Walk S)
      → Names log walk walk (λ events names. (events ≡ []) × (names ≡ []))
  Names-nothing walk = record {
    events = [];
    added = [];
    are = (refl, refl);
    does = Does-nothing (log walk.steps);
    output = refl;
    names = sym (append-nil (names_of walk));
    whole = sym (and-true walk.is_whole);
  }

  -- a name is listed
  pub listed : {old new : Walk S} (name : List ℕ) → new.steps ≡ old.steps
      → new.output ≡ old.output → names_of new ≡ names_of old ++ name ∷ []
      → new.is_whole ≡ old.is_whole → Names log old new (IsNamed name)
  listed {old} name steps output names whole = record {
    events = [];
    added = name ∷ [];
    are = (refl, refl);
    does = subst (λ s. Does (log old.steps) (log s) []) (sym steps) (Does-nothing (log old.steps));
    output = output;
    names = names;
    whole = whole ∙ sym (and-true old.is_whole);
  }

  -- an operand that is the output is not
  pub output-passed : (walk : Walk S) (operand : List ℕ) (found : Found)
      → (found.kind ≡ kind.Directory → ⊥) → is_output walk.output found.identity ≡ true
      → Names log walk walk (IsOfKind walk.output operand found.kind found.identity)
  output-passed walk operand found other is =
      Names-map (λ events names. (events ≡ []) × (names ≡ []))
      (IsOfKind walk.output operand found.kind found.identity)
      (λ events names none. of-kind walk.output operand found.kind found.identity other none.0
      (rw is none.1)) (Names-nothing walk)

  -- an operand is looked at
  pub looked : {old mid new : Walk S} (operand : List ℕ) (found : Result Found Error)
      → IsStill old mid → Does (log old.steps) (log mid.steps) (Operand operand found ∷ [])
      → Names log mid new (IsBehindLook old.output operand found)
      → Names log old new (IsLookedAt old.output operand)
  looked {old} {mid} {new} operand found still noted behind = record {
    events = Operand operand found ∷ behind.events;
    added = behind.added;
    are = (found, behind.events, behind.are, refl);
    does = Does-then noted behind.does;
    output = behind.output ∙ still.output;
    names = behind.names
        ∙ ap (λ (z : List (List ℕ)). z ++ behind.added) (names_same mid old still.names);
    whole = behind.whole ∙ ap (λ z. z && list_all is_fine behind.events) still.whole;
  }

  -- one that fails is left to its reader
  pub looked-failed : {old mid new : Walk S} (operand name : List ℕ) (error : Error)
      → name ≡ operand → IsStill old mid
      → Does (log old.steps) (log mid.steps) (Operand operand (Err error) ∷ [])
      → Names log mid new (IsNamed name) → Names log old new (IsLookedAt old.output operand)
  looked-failed {old} operand name error same still noted named =
      looked operand (Err error) still noted
      (Names-map (IsNamed name) (IsBehindLook old.output operand (Err error))
      (λ events names one. rw (← same) one) named)

  -- no operand is taken
  pub operands-none : (output : Option Identity) (walk : Walk S)
      → Names log walk walk (AreOperandsFound output [])
  operands-none output walk =
      Names-map (λ events names. (events ≡ []) × (names ≡ [])) (AreOperandsFound output [])
      (λ events names none. record { found = []; each = refl; are = none.0; listed = none.1 })
      (Names-nothing walk)

  -- one more is
  pub operands-more : {old mid new : Walk S} (operands : List (List ℕ)) (operand : List ℕ)
      → Names log old mid (AreOperandsFound old.output operands)
      → Names log mid new (IsOperandFound mid.output operand)
      → Names log old new (AreOperandsFound old.output (operands ++ operand ∷ []))
  operands-more {old} {mid} {new} operands operand so one =
      let IsOne = λ (o : List ℕ × List (List ℕ)) (part : List Event).
      IsOperandFound old.output o.0 part o.1 in
      let more : List ℕ × List (List ℕ) = (operand, one.added) in
      record {
        events = so.events ++ one.events;
        added = so.added ++ one.added;
        are = record {
          found = so.are.found ++ more ∷ [];
          each = map_push (λ o. o.0) so.are.found more
              ∙ ap (λ (z : List (List ℕ)). z ++ operand ∷ []) so.are.each;
          are = turn-more IsOne so.are.found more so.events one.events so.are.are
              (rw so.output at one.are);
          listed = ap (λ (z : List (List ℕ)). z ++ one.added) so.are.listed
              ∙ ap (λ (z : List (List ℕ)). flat_map (λ o. o.1) so.are.found ++ z)
              (sym (append-nil one.added))
              ∙ sym (flat_map-append (λ o. o.1) so.are.found (more ∷ []));
        };
        does = Does-then so.does one.does;
        output = one.output ∙ so.output;
        names = one.names ∙ ap (λ (z : List (List ℕ)). z ++ one.added) so.names
            ∙ append_assoc (names_of old) so.added one.added;
        whole = one.whole ∙ ap (λ z. z && list_all is_fine one.events) so.whole
            ∙ and_assoc old.is_whole _ _
            ∙ ap (λ z. old.is_whole && z) (sym (list_all-append is_fine so.events one.events));
      }

  pub operands-next : {old mid new : Walk S} (operands : List (Bor (List ℕ))) (i : ℕ)
      (d : Bor (List ℕ)) → i < length operands
      → Names log old mid
      (AreOperandsFound old.output (map (λ operand. operand.now) (take i operands)))
      → Names log mid new (IsOperandFound mid.output (get_or operands i d).now)
      → Names log old new
      (AreOperandsFound old.output (map (λ operand. operand.now) (take (i + 1) operands)))
  operands-next operands i d below so one =
      rw (map_more (λ operand. operand.now) operands i d below)
      (operands-more (map (λ operand. operand.now) (take i operands)) (get_or operands i d).now so
      one)

  -- all are, behind the look at standard output
  pub all-found : {before : Option (List Event)} {first last : Walk S}
      (operands : List (List ℕ)) (output : Result Found Error)
      → Names log first last (AreOperandsFound first.output operands)
      → Does before (log first.steps) (Output output ∷ []) → first.output ≡ output_of output
      → names_of first ≡ [] → first.is_whole ≡ true
      → Did before (log last.steps)
      (λ events. IsFound operands events (names_of last) last.is_whole)
  all-found {first = first} {last} operands output so noted is none whole = record {
    events = Output output ∷ so.events;
    are = record {
      output = output;
      rest = so.events;
      are = rw (so.names, none) (rw is at so.are);
      first = refl;
      whole = so.whole ∙ ap (λ z. z && list_all is_fine so.events) whole;
    };
    does = Does-then noted so.does;
  }
