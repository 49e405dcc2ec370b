-- SPDX-License-Identifier: ISC
-- Contexts at places, of which the first have changed, and the blocks of their pieces.
use Rattle.std.proofs.lemmas.Grind.{common_steps, drop_more_same}
use Rattle.std.proofs.Common.{◌≢◌, ◌≡◌, ℕ, ◌+◌, ◌-◌, ◌<◌, ◌≤◌, List, [], ◌∷◌, ◌++◌, ◌∙◌, ap, arith}
use Rattle.std.proofs.Common.{drop, get_or, length, length-append, refl, slice_set, subst, sum_by}
use Rattle.std.proofs.Common.{sym, take, Bor, zip}
use Rattle.std.proofs.Math.Seq.{get_or-append_right, take-add}
use Rattle.std.proofs.lemmas.List.{drop-set-lt, get_or-drop, get_or_append_left, get_or_default}
use Rattle.std.proofs.lemmas.List.{length-set, length-take-le, take_all, take_more, take_more_set}
use Rattle.std.proofs.lemmas.List.{get_or-take}
use Rattle.std.proofs.lemmas.List.Sums.{sum_by-append}
use Rattle.ring.specs.Prelude.{AreUpdated, Context, EachChange, IsPartway, IsUpdated, message_at}
use Rattle.ring.specs.Prelude.{pending_len, update_blocks, update_each_blocks}
use Rattle.ring.proofs.Each.{message-read, message_at-append, set-more}
use Rattle.ring.proofs.lemmas.digest.GoingOn.{sized_of}
use Rattle.std.proofs.lemmas.Option.{slice_get-get_or}
use Rattle.ring_core.proofs.Costs.{raised-none}

-- two lists of pairs, one after the other
zip-append : {A B : Type 0} (xs us : List A) (ys vs : List B) → length xs ≡ length ys
    → zip (xs ++ us) (ys ++ vs) ≡ zip xs ys ++ zip us vs
zip-append [] us [] vs e = refl
zip-append [] us (y ∷ ys) vs e = absurd (omega (arith, e))
zip-append (x ∷ xs) us [] vs e = absurd (omega (arith, e))
zip-append (x ∷ xs) us (y ∷ ys) vs e =
    ap (λ z. (x, y) ∷ z) (zip-append xs us ys vs (omega (arith, e)))

-- what is past the first list has no pair
zip-take : {A B : Type 0} (xs : List A) (ys : List B) → zip xs (take (length xs) ys) ≡ zip xs ys
zip-take [] ys = refl
zip-take (x ∷ xs) [] = refl
zip-take (x ∷ xs) (y ∷ ys) = ap (λ z. (x, y) ∷ z) (zip-take xs ys)

pub blocks-take : {n : ℕ} (contexts : List Context) (pieces : List (Bor (List ℕ)))
    → length contexts ≡ n
    → update_each_blocks contexts (take n pieces) ≡ update_each_blocks contexts pieces
blocks-take contexts pieces e =
    rw (← e) (ap (sum_by (λ place. update_blocks place.0 (length place.1.now)))
    (zip-take contexts pieces))

pub blocks-all : {n : ℕ} (contexts : List Context) (pieces : List (Bor (List ℕ)))
    → length contexts ≡ n
    → update_each_blocks (take n contexts) (take n pieces) ≡ update_each_blocks contexts pieces
blocks-all {n} contexts pieces e =
    rw (take_all n contexts (omega (arith, e))) (blocks-take contexts pieces e)

-- the blocks of some contexts and of others
blocks-append : (cs ds : List Context) (ps qs : List (Bor (List ℕ))) → length cs ≡ length ps
    → update_each_blocks (cs ++ ds) (ps ++ qs) ≡ update_each_blocks cs ps + update_each_blocks ds qs
blocks-append cs ds ps qs e =
    grind (arith, common_steps, sum_by-append, zip-append)

-- the blocks of the first n contexts and of the next k
pub blocks-more : (contexts : List Context) (pieces : List (Bor (List ℕ))) (n k : ℕ)
    → n ≤ length contexts → n ≤ length pieces
    → update_each_blocks (take n contexts) (take n pieces)
    + update_each_blocks (take k (drop n contexts)) (take k (drop n pieces))
    ≡ update_each_blocks (take (n + k) contexts) (take (n + k) pieces)
blocks-more contexts pieces n k fits enough =
    grind (arith, common_steps, blocks-append, length-take-le, take-add)

-- and of one context more
pub blocks-next : (contexts : List Context) (pieces : List (Bor (List ℕ))) (i : ℕ) (c : Context)
    → i < length contexts → i < length pieces
    → update_each_blocks (take i contexts) (take i pieces)
    + update_blocks (get_or contexts i c) (length (message_at pieces i))
    ≡ update_each_blocks (take (i + 1) contexts) (take (i + 1) pieces)
blocks-next contexts pieces i c below there =
    grind (arith, common_steps, blocks-append, length-take-le, message-read, take_more)

-- where a context and a piece are put there
pub blocks-put : (contexts : List Context) (pieces : List (Bor (List ℕ))) (i : ℕ) (x : Context)
    (p : Bor (List ℕ)) → i < length contexts → i < length pieces
    → update_each_blocks (take (i + 1) (slice_set contexts i x))
    (take (i + 1) (slice_set pieces i p))
    ≡ update_each_blocks (take i contexts) (take i pieces) + update_blocks x (length p.now)
blocks-put contexts pieces i x p below there =
    grind (arith, common_steps, blocks-append, length-take-le, take_more_set)

-- the message at a place of the first n
pub message_at-take : (messages : List (Bor (List ℕ))) (n i : ℕ) → i < n
    → message_at (take n messages) i ≡ message_at messages i
message_at-take messages n i below =
    grind (arith, common_steps, message-read)

-- the first i contexts have changed so that R holds at each place, and the others are as they were
pub record HaveChanged (R : ℕ → Context → Context → Type 0) (old now : List Context) (i : ℕ)
    : Type 0 where
  pub count : length now ≡ length old
  pub each : (k : ℕ) (c : Context) → k < i → R k (get_or old k c) (get_or now k c)
  pub others : drop i now ≡ drop i old

pub changed-none : (R : ℕ → Context → Context → Type 0) (old : List Context)
    → HaveChanged R old old 0
changed-none R old =
    grind (arith, common_steps)

module _ {R : ℕ → Context → Context → Type 0} {old now : List Context} {i : ℕ} where
  -- a context that is as it was
  pub changed-other : (k : ℕ) (c : Context) → HaveChanged R old now i → i ≤ k
      → get_or now k c ≡ get_or old k c
  changed-other k c have from =
      let at : i + (k - i) ≡ k = omega (arith, from) in
      let Q : ℕ → Type 0 = λ z. get_or now z c ≡ get_or old z c in
      subst Q at (sym (get_or-drop i now (k - i) c)
      ∙ ap (λ (z : List Context). get_or z (k - i) c) have.others
      ∙ get_or-drop i old (k - i) c)

  pub changed-at : (d c : Context) → HaveChanged R old now i → i < length old
      → get_or now i d ≡ get_or old i c
  changed-at d c have below =
      changed-other i d have (omega arith) ∙ get_or_default old i d c below

  -- one more has changed
  pub changed-next : (x : Context) → HaveChanged R old now i → i < length old
      → ((c : Context) → R i (get_or old i c) x) → HaveChanged R old (slice_set now i x) (i + 1)
  changed-next x have below is =
      grind (arith, common_steps, drop-set-lt, drop_more_same, length-set, set-more)

  -- of which another relation follows
  pub changed-with : (Q : ℕ → Context → Context → Type 0) → HaveChanged R old now i
      → ((k : ℕ) (c d : Context) → k < i → R k c d → Q k c d) → HaveChanged Q old now i
  changed-with Q have follows =
      grind (arith, common_steps)

-- the message at a place of two lists, one after the other
message_at-both : (ps qs : List (Bor (List ℕ))) (k : ℕ)
    → (k < length ps → message_at (ps ++ qs) k ≡ message_at ps k)
    × (length ps ≤ k → message_at (ps ++ qs) k ≡ message_at qs (k - length ps))
message_at-both ps qs k =
    grind (arith, common_steps, message_at-append)

-- the context at a place is updated with the piece there
abbrev pub IsUpdatedAt : List (Bor (List ℕ)) → ℕ → Context → Context → Type 0
IsUpdatedAt pieces k old new = IsUpdated old new (message_at pieces k)

-- what holds at the places of two lists, at those of one after the other
changes-append : {P Q R : ℕ → Context → Context → Type 0} (old new olds news : List Context)
    → length new ≡ length old → EachChange old new P → EachChange olds news Q
    → ((k : ℕ) (x y : Context) → k < length old → P k x y → R k x y)
    × ((k : ℕ) (x y : Context) → Q k x y → R (length old + k) x y)
    → EachChange (old ++ olds) (new ++ news) R
changes-append old new olds news same first second both =
    grind (arith, get_or-append_right, get_or_append_left, length-append)

-- the contexts of two lists, one after the other
pub updated-append : {old new olds news : List Context} (ps qs : List (Bor (List ℕ)))
    → length ps ≡ length old → AreUpdated old new ps → AreUpdated olds news qs
    → AreUpdated (old ++ olds) (new ++ news) (ps ++ qs)
updated-append {old} {new} {olds} {news} ps qs as_many first second =
    record {
      count = omega (
        arith,
        first.count,
        second.count,
        length-append old olds,
        length-append new news,
      );
      each = changes-append {P = IsUpdatedAt ps} {Q = IsUpdatedAt qs} {R = IsUpdatedAt (ps ++ qs)}
          old new olds news first.count first.each second.each (
            λ k x y below is. rw ((message_at-both ps qs k).0 (omega (arith, as_many, below))) is,
            λ k x y is.
                let back : length old + k - length ps ≡ k = omega (arith, as_many) in
                rw ((message_at-both ps qs (length old + k)).1 (omega (arith, as_many)), back) is,
          );
    }

-- the context at a place has no begun block, or nothing is left of the piece there
pub record IsBegun (pieces rests : List (Bor (List ℕ))) (k : ℕ) (old mid : Context) : Type 0 where
  pub partway : IsPartway old mid (message_at pieces k) (message_at rests k)
  pub ready : 0 < length (message_at rests k) → pending_len mid ≡ 0

-- the message at a place, where one is put to the place i
message_at-put : (messages : List (Bor (List ℕ))) (i : ℕ) (m : Bor (List ℕ)) (k : ℕ)
    → (k ≢ i → message_at (slice_set messages i m) k ≡ message_at messages k)
    × (k ≡ i → i < length messages → message_at (slice_set messages i m) k ≡ m.now)
message_at-put messages i m k =
    grind (arith, common_steps, message-read)

-- one more has no begun block
pub begun-next : {old now : List Context} {pieces rests : List (Bor (List ℕ))} {i : ℕ}
    (x d : Context) (r : Bor (List ℕ)) → HaveChanged (IsBegun pieces rests) old now i
    → i < length old → i < length rests
    → IsPartway (get_or now i d) x (message_at pieces i) r.now
    → (0 < length r.now → pending_len x ≡ 0)
    → HaveChanged (IsBegun pieces (slice_set rests i r)) old (slice_set now i x) (i + 1)
begun-next {old} {now} {pieces} {rests} {i} x d r have below room partway ready =
    let put = message_at-put rests i r in
    changed-next x (changed-with (IsBegun pieces (slice_set rests i r)) have (λ k c e h is.
    record {
      partway = rw ((put k).0 (omega (arith, h))) is.partway;
      ready = rw ((put k).0 (omega (arith, h))) is.ready;
    })) below (λ c.
    record {
      partway = rw ((put i).1 refl room, ← changed-at d c have below) partway;
      ready = rw ((put i).1 refl room) ready;
    })

pub ruleset context_rules = (
  common_steps,
  blocks-all,
  blocks-take,
  changed-none,
  get_or-take,
  get_or_default,
  length-set,
  length-take-le,
  message_at-take,
  raised-none,
  set-more,
  sized_of,
  slice_get-get_or,
)

pub ruleset fronts = (get_or-take, length-take-le)
