-- SPDX-License-Identifier: ISC
-- Lanes and their contexts, as they read, take in and end.
use Rattle.std.proofs.Common.{◌≡◌, ℕ, ◌+◌, ◌-◌, ◌<◌, ◌≤◌, List, [], ◌∷◌, ◌++◌, ◌∙◌, Option, Bool}
use Rattle.std.proofs.Common.{None, Some, ap, append_assoc, arith, get_or, length, map, slice_set}
use Rattle.std.proofs.Common.{subst, suc, sym, take, zero}
use Rattle.std.proofs.Math.ListN.{get_or-map}
use Rattle.std.proofs.lemmas.List.{get_or-set_other, get_or-set_same, get_or_default, length-map}
use Rattle.std.proofs.lemmas.List.{length-set, take-append-drop}
use Rattle.std.proofs.lemmas.Slice.Zip.{AllZip-long, all_zipped_more}
use Rattle.std.proofs.KnownBytes.{Consumes-nil}
use Rattle.std.specs.Borrow.{Bor}
use Rattle.std.specs.List.{AllZip, swap_remove}
use Rattle.std.specs.Prelude.{IfSome}
use Rattle.std.specs.declared.io.Error.{Error}
use Rattle.std.specs.Io.KnownBytes.{Consumes, IsAtEnd}
use Rattle.ring.specs.Prelude.{StandsFor, context_algorithm, message_at}
use Rattle.ring.specs.Updates.{AreUpdated, IsUpdated}
use Rattle.ring.specs.declared.digest.algorithm.Algorithm.{Algorithm}
use Rattle.ring.specs.declared.digest.context.Context.{Context}
use Rattle.ring_sums.specs.Lane.{IsFresh, IsIn, IsRead, IsSkipped, behind_of, front_of, left_of}
use Rattle.ring_sums.specs.Lanes.{AreIn, IsPlaced}
use Rattle.ring_sums.specs.Outcome.{IsFailure}
use Rattle.ring_sums.specs.declared.lane.Lane.{Lane}
use borrow.Author.Count.{below_more}

-- ---- two lists, place by place

module _ {A B : Type 0} (P : A → B → Type 0) where
  pub zipped-at : (xs : List A) (ys : List B) (i : ℕ) (x : A) (y : B) → AllZip P xs ys
      → i < length xs → P (get_or xs i x) (get_or ys i y)
  zipped-at [] ys i x y all below = absurd (omega (arith, below))
  zipped-at (a ∷ xs) [] i x y all below = absurd all
  zipped-at (a ∷ xs) (b ∷ ys) zero x y all below = all.0
  zipped-at (a ∷ xs) (b ∷ ys) (suc i) x y all below =
      zipped-at xs ys i x y all.1 (omega (arith, below))

  zipped-from : (xs : List A) (ys : List B) → length ys ≡ length xs
      → ((i : ℕ) (x : A) (y : B) → i < length xs → P (get_or xs i x) (get_or ys i y))
      → AllZip P xs ys
  zipped-from [] [] same each = tt
  zipped-from [] (b ∷ ys) same each = absurd (omega (arith, same))
  zipped-from (a ∷ xs) [] same each = absurd (omega (arith, same))
  zipped-from (a ∷ xs) (b ∷ ys) same each = (
    each 0 a b (omega arith),
    zipped-from xs ys (omega (arith, same)) (λ i x y h. each (suc i) x y (omega (arith, h))),
  )

  zipped-take : (n : ℕ) (xs : List A) (ys : List B) → AllZip P xs ys
      → AllZip P (take n xs) (take n ys)
  zipped-take zero xs ys all = tt
  zipped-take (suc n) [] [] all = tt
  zipped-take (suc n) [] (b ∷ ys) all = absurd all
  zipped-take (suc n) (a ∷ xs) [] all = absurd all
  zipped-take (suc n) (a ∷ xs) (b ∷ ys) all = (all.0, zipped-take n xs ys all.1)

  zipped-set : (i : ℕ) (x : A) (y : B) (xs : List A) (ys : List B) → P x y → AllZip P xs ys
      → AllZip P (slice_set xs i x) (slice_set ys i y)
  zipped-set i x y [] [] is all = tt
  zipped-set i x y [] (b ∷ ys) is all = absurd all
  zipped-set i x y (a ∷ xs) [] is all = absurd all
  zipped-set zero x y (a ∷ xs) (b ∷ ys) is all = (is, all.1)
  zipped-set (suc i) x y (a ∷ xs) (b ∷ ys) is all = (all.0, zipped-set i x y xs ys is all.1)

-- ---- lanes

-- the first i lanes have changed by a step
pub record AreStepped {R : Type 0} (Step : Lane R → Lane R → Type 0) (old now : List (Lane R))
    (i : ℕ) : Type 0 where
  pub count : length now ≡ length old
  pub done : (k : ℕ) → k < i → (l : Lane R) → Step (get_or old k l) (get_or now k l)
  pub others : (k : ℕ) (l : Lane R) → i ≤ k → get_or now k l ≡ get_or old k l

pub stepped-next : {R : Type 0} {Step : Lane R → Lane R → Type 0} {old now : List (Lane R)} (i : ℕ)
    (d x : Lane R) → AreStepped Step old now i
    → i < length old → Step (get_or now i d) x
    → AreStepped Step old (slice_set now i x) (i + 1)
stepped-next {R = R} {Step = Step} {old} {now} i d x have below s =
    record {
      count = length-set now i x ∙ have.count;
      done = below_more (λ (k : ℕ). (l : Lane R)
          → Step (get_or old k l) (get_or (slice_set now i x) k l)) i
          (λ k h l. rw (get_or-set_other now i k x l (omega (arith, h))) (have.done k h l))
          (λ l. rw (get_or-set_same now i x l (omega (arith, have.count, below)))
          (subst (λ z. Step z x)
          (have.others i d (omega arith) ∙ get_or_default old i d l below) s));
      others = λ k l from. get_or-set_other now i k x l (omega (arith, from))
          ∙ have.others k l (omega (arith, from));
    }

-- a failure of two readers whose reads can fail with the same errors
failure-of : {R : Type 0} (fails_with : R → Error → Bool) (x y : R) (failure : Option Error)
    → fails_with x ≡ fails_with y → IfSome failure (IsFailure fails_with y)
    → IfSome failure (IsFailure fails_with x)
failure-of fails_with x y None same is = tt
failure-of fails_with x y (Some error) same is =
    (ap (λ (f : Error → Bool). f error) same ∙ is.0, is.1)

module _ {R : Type 0} {remaining : R → Option (List ℕ)} {fails_with : R → Error → Bool}
    {a : Algorithm} {first : R} where
  -- a lane that has read
  pub in-read : {old new : Lane R} {c : Context}
      → IsRead remaining fails_with old new
      → IsIn remaining fails_with a first (left_of old) old c
      → IsIn remaining fails_with a first (left_of new) new c
  in-read {old} {new} s i =
      record {
        algorithm = i.algorithm;
        same = s.same ∙ i.same;
        failed = failure-of fails_with new.reader old.reader new.failure s.same
            (s.failed i.failed);
        taken = λ none.
            let t = i.taken (s.failure none) in
            record {
              bytes = t.bytes;
              stands = t.stands;
              read = s.bytes none (remaining first) t.bytes t.read;
            };
        end = λ none over. s.end none i.end over;
      }

  -- a context that has taken in the first n bytes of what was left
  pub in-taken : {l : Lane R} {c d : Context} (n : ℕ)
      → IsIn remaining fails_with a first (left_of l) l c
      → IsUpdated c d (front_of n l) → IsIn remaining fails_with a first (behind_of n l) l d
  in-taken {l} n i s =
      record {
        algorithm = s.algorithm ∙ i.algorithm;
        same = i.same;
        failed = i.failed;
        taken = λ none.
            let t = i.taken none in
            let all : List ℕ = t.bytes ++ front_of n l in
            let same : all ++ behind_of n l ≡ t.bytes ++ left_of l =
            append_assoc t.bytes (front_of n l) (behind_of n l)
            ∙ ap (λ (z : List ℕ). t.bytes ++ z) (take-append-drop n (left_of l)) in
            record {
              bytes = all;
              stands = s.stands t.bytes t.stands;
              read = subst (Consumes (remaining first) (remaining l.reader)) (sym same) t.read;
            };
        end = i.end;
      }

  -- a lane of which they are counted
  pub in-skipped : {n : ℕ} {old new : Lane R} {c : Context} → IsSkipped n old new
      → IsIn remaining fails_with a first (behind_of n old) old c
      → IsIn remaining fails_with a first (left_of new) new c
  in-skipped {n} {old} {new} s i =
      record {
        algorithm = i.algorithm;
        same = ap fails_with s.reader ∙ i.same;
        failed = rw (s.failure, s.reader) i.failed;
        taken = λ none.
            let t = i.taken (rw s.failure at none) in
            record {
              bytes = t.bytes;
              stands = t.stands;
              read = subst (λ (z : R). Consumes (remaining first) (remaining z)
                  (t.bytes ++ left_of new)) (sym s.reader)
                  (subst (λ (z : List ℕ). Consumes (remaining first) (remaining old.reader)
                  (t.bytes ++ z)) (sym s.left) t.read);
            };
        end = λ none over. subst (λ (z : R). IsAtEnd (remaining z)) (sym s.reader)
            (i.end (rw s.failure at none) (s.end over));
      }

  -- a lane that begins
  in-new : {place : ℕ} {lane : Lane R} {context : Context} → IsFresh place first lane
      → StandsFor context [] → context_algorithm context ≡ a
      → IsIn remaining fails_with a first (left_of lane) lane context
  in-new {lane = lane} fresh stands of =
      record {
        algorithm = of;
        same = ap fails_with fresh.reads;
        failed = rw fresh.failure tt;
        taken = λ none.
            record {
              bytes = [];
              stands = stands;
              read = subst (λ (z : R). Consumes (remaining first) (remaining z) (left_of lane))
                  (sym fresh.reads) (subst (Consumes (remaining first) (remaining first))
                  (sym fresh.left) (Consumes-nil (remaining first)));
            };
        end = λ none over. absurd (cc (fresh.goes_on, over));
      }

module _ {R : Type 0} {remaining : R → Option (List ℕ)} {fails_with : R → Error → Bool}
    {a : Algorithm} {readers : List R} where
  -- all contexts
  pub are-taken : {lanes : List (Lane R)} {old new : List Context}
      {pieces : List (Bor (List ℕ))} (n : ℕ)
      → AreIn remaining fails_with a readers left_of lanes old
      → map (λ piece. piece.now) pieces ≡ map (front_of n) lanes → AreUpdated old new pieces
      → AreIn remaining fails_with a readers (behind_of n) lanes new
  are-taken {lanes} {old} {new} {pieces} n all same took =
      let P = IsPlaced remaining fails_with a readers in
      let many = AllZip-long (P left_of) lanes old all.each in
      record {
        each = zipped-from (P (behind_of n)) lanes new (took.count ∙ many) (λ i l c below r.
            let read : message_at pieces i ≡ front_of n (get_or lanes i l) =
            ap (λ (z : List (List ℕ)). get_or z i []) same
            ∙ get_or_default (map (front_of n) lanes) i [] (front_of n l)
            (omega (arith, length-map lanes (front_of {R = R} n), below))
            ∙ get_or-map (front_of n) lanes i l in
            let one = took.each i c (omega (arith, many, below)) in
            in-taken n (zipped-at (P left_of) lanes old i l c all.each below r)
            (subst (IsUpdated (get_or old i c) (get_or new i c)) read one));
      }

  -- all lanes
  pub stepped-all : {Step : Lane R → Lane R → Type 0} {before after : Lane R → List ℕ}
      {old now : List (Lane R)} {contexts : List Context} {i : ℕ}
      → ((x y : Lane R) → Step x y → y.place ≡ x.place)
      → ((first : R) (x y : Lane R) (c : Context) → Step x y
      → IsIn remaining fails_with a first (before x) x c
      → IsIn remaining fails_with a first (after y) y c)
      → AreStepped Step old now i → length old ≤ i
      → AreIn remaining fails_with a readers before old contexts
      → AreIn remaining fails_with a readers after now contexts
  stepped-all {before = before} {after} {old} {now} {contexts} kept goes have all first =
      let P = IsPlaced remaining fails_with a readers in
      let many = AllZip-long (P before) old contexts first.each ∙ sym have.count in
      record {
        each = zipped-from (P after) now contexts many (λ k l c below r.
            let x = get_or old k l in
            let y = get_or now k l in
            let inside : k < length old = omega (arith, have.count, below) in
            let step = have.done k (omega (arith, inside, all)) l in
            subst (λ (z : ℕ). IsIn remaining fails_with a (get_or readers z r)
            (after y) y (get_or contexts k c)) (sym (kept x y step))
            (goes (get_or readers x.place r) x y (get_or contexts k c) step
            (zipped-at (P before) old contexts k l c first.each inside r)));
      }

  -- without those at place i, where the last ones stand then
  pub in-swapped : {lanes : List (Lane R)} {contexts : List Context} (i : ℕ) (lane : Lane R)
      (context : Context) → AreIn remaining fails_with a readers left_of lanes contexts
      → 0 < length lanes
      → AreIn remaining fails_with a readers left_of (swap_remove lanes i lane)
      (swap_remove contexts i context)
  in-swapped {lanes} {contexts} i lane context all some =
      let last = length lanes - 1 in
      let P = IsPlaced remaining fails_with a readers left_of in
      let Q : ℕ → Type 0 = λ n. AllZip P (swap_remove lanes i lane)
      (take (n - 1) (slice_set contexts i (get_or contexts (n - 1) context))) in
      record {
        each = subst Q (sym (AllZip-long P lanes contexts all.each))
            (zipped-take P last _ _ (zipped-set P i _ _ lanes contexts
            (zipped-at P lanes contexts last lane context all.each (omega (arith, some)))
            all.each));
      }

  -- one that begins
  pub in-begun : {place : ℕ} {reader : R} {lanes : List (Lane R)} {contexts : List Context}
      (lane : Lane R) (context : Context)
      → AreIn remaining fails_with a readers left_of lanes contexts
      → ((r : R) → get_or readers place r ≡ reader) → IsFresh place reader lane
      → StandsFor context [] → context_algorithm context ≡ a
      → AreIn remaining fails_with a readers left_of (lanes ++ lane ∷ []) (contexts ++ context ∷ [])
  in-begun {lanes = lanes} {contexts} lane context all at fresh stands of =
      record {
        each = all_zipped_more (IsPlaced remaining fails_with a readers left_of) lanes contexts
            lane context all.each (λ r.
            subst (λ (z : R). IsIn remaining fails_with a z (left_of lane) lane context)
            (sym (ap (λ (z : ℕ). get_or readers z r) fresh.placed ∙ at r))
            (in-new fresh stands of));
      }

  -- no lane
  pub in-none : AreIn remaining fails_with a readers left_of [] []
  in-none = record { each = tt }
