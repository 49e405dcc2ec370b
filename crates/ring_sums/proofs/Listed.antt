-- SPDX-License-Identifier: ISC
-- The lines of files, one after another.
use Rattle.std.proofs.Common.{◌≡◌, ℕ, Bool, ◌<◌, ◌&&◌, List, [], ◌∷◌, ◌++◌, ◌∙◌, Bor, Option, ap}
use Rattle.std.proofs.Common.{append-nil, arith, get_or, length, map, refl, subst, sym}
use Rattle.std.specs.Prelude.{IsNone}
use Rattle.std.proofs.Math.Bool.{and-true}
use Rattle.std.proofs.KnownBytes.{Appends-nil, Appends-trans}
use Rattle.std.proofs.lemmas.List.{map_push}
use Rattle.std.proofs.lemmas.List.Concat.{flat_map-append}
use Rattle.std.proofs.lemmas.List.Folds.{list_all-append}
use Rattle.std.specs.List.{flat_map, list_all, zip}
use Rattle.ring_sums.specs.Console.{AreWritten, HasWritten, InTurn, IsKept}
use Rattle.ring_sums.specs.Listing.{each_line_of, is_sum, line_of, lines_of}
use Rattle.ring_sums.specs.declared.console.Console.{Console}
use Rattle.ring_sums.specs.declared.options.Options.{Options}
use Rattle.ring_sums.specs.declared.outcome.Outcome.{Outcome}

pub zip-none : {X Y : Type 0} (xs : List X) → zip {K = X} {X = Y} xs [] ≡ []
zip-none [] = refl
zip-none (x ∷ xs) = refl

zip-more : {X Y : Type 0} (xs : List X) (ys : List Y) (d : X) (y : Y) → length ys < length xs
    → zip xs (ys ++ y ∷ []) ≡ zip xs ys ++ (get_or xs (length ys) d, y) ∷ []
zip-more [] ys d y below = absurd (omega (arith, below))
zip-more (x ∷ xs) [] d y below = ap (λ z. (x, y) ∷ z) (zip-none xs)
zip-more (x ∷ xs) (b ∷ ys) d y below =
    ap (λ z. (x, b) ∷ z) (zip-more xs ys d y (omega (arith, below)))

module _ {R W : Type 0} {contents : W → Option (List ℕ)} where
  pub written-none : {new : Console R W} → HasWritten contents [] new new
  written-none {new} =
      record { failure = λ none. none; bytes = λ none. Appends-nil (contents new.out) }

  -- what is written behind what was
  pub written-more : {first second third : Console R W} {some more : List ℕ}
      → HasWritten contents some first second → HasWritten contents more second third
      → HasWritten contents (some ++ more) first third
  written-more {first} {second} {third} {some} {more} one two =
      record {
        failure = λ none. one.failure (two.failure none);
        bytes = λ none. Appends-trans (contents first.out) (contents second.out)
            (contents third.out) some more (one.bytes (two.failure none)) (two.bytes none);
      }

  -- nothing is written behind it
  pub written-kept : {first second third : Console R W} {some : List ℕ}
      → HasWritten contents some first second → IsKept second third
      → HasWritten contents some first third
  written-kept one kept =
      record {
        failure = λ none. one.failure (rw kept.failure at none);
        bytes = λ none. rw kept.out (one.bytes (rw kept.failure at none));
      }

  -- what is written of one item more
  pub written-next : {X : Type 0} {first second third : Console R W} (text : X → List ℕ)
      (items : List X) (item : X) → HasWritten contents (flat_map text items) first second
      → HasWritten contents (text item) second third
      → HasWritten contents (flat_map text (items ++ item ∷ [])) first third
  written-next {first = first} {third = third} text items item some one =
      subst (λ z. HasWritten contents z first third)
      (ap (λ z. flat_map text items ++ z) (sym (append-nil (text item)))
      ∙ sym (flat_map-append text items (item ∷ []))) (written-more some one)

turn-kept : {R W : Type 0} (contents : W → Option (List ℕ)) (lines : List (List ℕ))
    (first : Console R W) {second third : Console R W} → InTurn contents lines first second
    → IsKept second third → InTurn contents lines first third
unfolding InTurn
turn-kept contents [] first some kept =
    record { out = kept.out ∙ some.out; failure = kept.failure ∙ some.failure }
turn-kept contents (line ∷ lines) first some kept =
    (some.0, some.1, some.2, turn-kept contents lines some.1 some.3 kept)

module _ {R W : Type 0} {contents : W → Option (List ℕ)} where
  written-behind : {first second third : Console R W} {text : List ℕ} → IsKept first second
      → HasWritten contents text second third → HasWritten contents text first third
  written-behind kept one =
      record {
        failure = λ none. rw kept.failure at one.failure none;
        bytes = λ none. rw kept.out at one.bytes none;
      }

turn-behind : {R W : Type 0} (contents : W → Option (List ℕ)) (lines : List (List ℕ))
    (first second third : Console R W) → IsKept first second
    → InTurn contents lines second third → InTurn contents lines first third
unfolding InTurn
turn-behind contents [] first second third kept more =
    record { out = more.out ∙ kept.out; failure = more.failure ∙ kept.failure }
turn-behind contents (line ∷ lines) first second third kept more =
    (rw kept.failure at more.0, more.1, written-behind kept more.2, more.3)

turn-both : {R W : Type 0} (contents : W → Option (List ℕ)) (lines more : List (List ℕ))
    (first second third : Console R W) → InTurn contents lines first second
    → InTurn contents more second third → InTurn contents (lines ++ more) first third
unfolding InTurn
turn-both contents [] more first second third some others =
    turn-behind contents more first second third some others
turn-both contents (line ∷ lines) more first second third some others =
    (some.0, some.1, some.2, turn-both contents lines more some.1 second third some.3 others)

module _ {R W : Type 0} {contents : W → Option (List ℕ)} where
  -- lines are written, and others behind them
  pub apart-both : {lines more : List (List ℕ)} {first second third : Console R W}
      → AreWritten contents lines first second → AreWritten contents more second third
      → AreWritten contents (lines ++ more) first third
  apart-both {lines} {more} {first} {second} {third} some others =
      record { is = turn-both contents lines more first second third some.is others.is }

  turn-more : (lines : List (List ℕ)) (line : List ℕ) (first : Console R W)
      {second third : Console R W} → InTurn contents lines first second → IsNone second.failure
      → HasWritten contents line second third → InTurn contents (lines ++ line ∷ []) first third
  unfolding InTurn
  turn-more [] line first {third = third} some none one = (
    rw some.failure at none,
    third,
    written-behind some one,
    record { out = refl; failure = refl },
  )
  turn-more (before ∷ lines) line first some none one =
      (some.0, some.1, some.2, turn-more lines line some.1 some.3 none one)

  -- no line is written
  pub apart-none : {new : Console R W} → AreWritten contents [] new new
  unfolding InTurn
  apart-none = record { is = record { out = refl; failure = refl } }

  -- nothing is written behind them
  pub apart-kept : {lines : List (List ℕ)} {first second third : Console R W}
      → AreWritten contents lines first second → IsKept second third
      → AreWritten contents lines first third
  apart-kept {lines} {first} some kept =
      record { is = turn-kept contents lines first some.is kept }

  -- that of one item more is written, where none before has failed
  pub apart-next : {X : Type 0} {first second third : Console R W} (text : X → List ℕ)
      (items : List X) (item : X) → AreWritten contents (map text items) first second
      → IsNone second.failure → HasWritten contents (text item) second third
      → AreWritten contents (map text (items ++ item ∷ [])) first third
  apart-next {first = first} {third = third} text items item some none one =
      record {
        is = subst (λ z. InTurn contents z first third) (sym (map_push text items item))
            (turn-more (map text items) (text item) first some.is none one);
      }

-- the line of one more is written
module _ {R W : Type 0} {contents : W → Option (List ℕ)} {old mid new : Console R W}
    (options : Options) (names : List (Bor (List ℕ))) (outcomes : List Outcome)
    (name : Bor (List ℕ)) (outcome : Outcome) (below : length outcomes < length names) where
  pub lines-more : HasWritten contents (lines_of options names outcomes) old mid
      → HasWritten contents
      (line_of options (get_or names (length outcomes) name).now outcome) mid new
      → HasWritten contents (lines_of options names (outcomes ++ outcome ∷ [])) old new
  lines-more some one =
      rw (zip-more names outcomes name outcome below)
      (written-next (λ file. line_of options file.0.now file.1) (zip names outcomes)
      (get_or names (length outcomes) name, outcome) some one)

  pub each-more : AreWritten contents (each_line_of options names outcomes) old mid
      → IsNone mid.failure
      → HasWritten contents
      (line_of options (get_or names (length outcomes) name).now outcome) mid new
      → AreWritten contents (each_line_of options names (outcomes ++ outcome ∷ [])) old new
  each-more some none one =
      rw (zip-more names outcomes name outcome below)
      (apart-next (λ file. line_of options file.0.now file.1) (zip names outcomes)
      (get_or names (length outcomes) name, outcome) some none one)

pub fine-more : (outcomes : List Outcome) (outcome : Outcome) {is_fine : Bool}
    → is_fine ≡ list_all is_sum outcomes
    → (is_fine && is_sum outcome) ≡ list_all is_sum (outcomes ++ outcome ∷ [])
fine-more outcomes outcome {is_fine} fine =
    rw (fine, list_all-append is_sum outcomes (outcome ∷ []), and-true (is_sum outcome))
