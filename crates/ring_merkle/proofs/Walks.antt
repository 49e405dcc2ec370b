-- SPDX-License-Identifier: ISC
-- A walk is a fold of the path over the sides on which its values stand.
use Rattle.std.proofs.lemmas.Bool.{cases_Bool, cases_lt}
use Rattle.std.proofs.lemmas.Bool.Decides.{nat_tests}
use Rattle.std.proofs.lemmas.List.{drop_all, drop_more}
use Rattle.std.proofs.Common.{◌≡◌, ◌+◌, ◌/◌, ◌^◌, ◌<◌, ◌≤◌, [], ◌∷◌, ◌∙◌, ℕ, zero}
use Rattle.std.proofs.Common.{suc, Bool, true, false, cond, List, length, refl, ap, sym, arith}
use Rattle.std.proofs.Common.{⊎_elim}
use Rattle.std.proofs.Common.{Option, Some, None, drop, get_or, ◌||◌}
use Rattle.ring_merkle.specs.Cost.{hashed_count, is_alone, left_count, path_len, sides}
use Rattle.ring_merkle.specs.Walk.{is_odd_or_zero, is_right, next_last, next_node}
use Rattle.ring_merkle.specs.Walk.{walk}
use Rattle.ring_merkle.proofs.Shifts.{shift-again, shift-same, shift-stop}
use Rattle.ring_merkle.proofs.Sides.{alone_is, sides-alone, sides-joined, sides-none}
use Rattle.ring_merkle.proofs.Trees.{pow-sum}

-- what a step makes of the side, the value and the hash so far
abbrev pub Step : Type 0
Step = Bool → List ℕ → List ℕ → List ℕ

-- the values of a path stepped over, each on its side: none where there are too few or too many
abbrev pub fold_sides : Step → List Bool → List ℕ → List (List ℕ) → Option (List ℕ)
fold_sides f [] r [] = Some r
fold_sides f [] r (p ∷ ps) = None
fold_sides f (s ∷ ss) r [] = None
fold_sides f (s ∷ ss) r (p ∷ ps) = fold_sides f ss (f s p r) ps

-- a path that leads anywhere has a value for each side, and such a path does
fold-length : (f : Step) (ss : List Bool) (r x : List ℕ) (ps : List (List ℕ))
    → fold_sides f ss r ps ≡ Some x → length ps ≡ length ss
fold-length f [] r x [] e = refl
fold-length f [] r x (p ∷ ps) e = absurd (cc)
fold-length f (s ∷ ss) r x [] e = absurd (cc)
fold-length f (s ∷ ss) r x (p ∷ ps) e = ap suc (fold-length f ss (f s p r) x ps e)

fold-leads : (f : Step) (ss : List Bool) (r : List ℕ) (ps : List (List ℕ))
    → length ps ≡ length ss → (x : List ℕ) × (fold_sides f ss r ps ≡ Some x)
fold-leads f [] r [] e = (r, refl)
fold-leads f [] r (p ∷ ps) e = absurd (omega arith)
fold-leads f (s ∷ ss) r [] e = absurd (omega arith)
fold-leads f (s ∷ ss) r (p ∷ ps) e = fold-leads f ss (f s p r) ps (omega arith)

module _ (f : Step) (n m : ℕ) (r : List ℕ) where
  -- a step of a walk, and its end
  walk-step : (p : List ℕ) (ps : List (List ℕ)) → 0 < m → walk f n m r (p ∷ ps)
      ≡ walk f (next_node n m) (next_last n m) (f (is_right n m) p r) ps
  unfolding walk
  walk-step p ps pos = grind (arith, nat_tests)

  walk-short : 0 < m → walk f n m r [] ≡ None
  unfolding walk
  walk-short pos = grind (arith, nat_tests)

  walk-root : (ps : List (List ℕ)) → m ≡ 0 → walk f n m r ps ≡ fold_sides f [] r ps
  unfolding walk
  walk-root [] z = rw z
  walk-root (p ∷ ps) z = rw z

-- a walk that leads to x
pub record Leads (f : Step) (n m : ℕ) (r : List ℕ) (path : List (List ℕ)) (x : List ℕ)
    : Type 0 where
  pub ends : walk f n m r path ≡ Some x

module _ {f : Step} {n m : ℕ} {r x : List ℕ} where
  pub leads-end : Leads f n m r [] x → (m ≡ 0) × (r ≡ x)
  leads-end l =
      let e = l.ends in
      ⊎_elim
      (λ lt. let s = walk-short f n m r lt in absurd (cc))
      (λ le. let z : m ≡ 0 = omega arith in let s = walk-root f n m r [] z in (z, cc))
      (cases_lt 0 m)

  pub leads-on : {p : List ℕ} {ps : List (List ℕ)} → Leads f n m r (p ∷ ps) x
      → (0 < m) × Leads f (next_node n m) (next_last n m) (f (is_right n m) p r) ps x
  leads-on {p} {ps} l =
      let e = l.ends in
      ⊎_elim
      (λ lt. (lt, record { ends = sym (walk-step f n m r p ps lt) ∙ e }))
      (λ le. let s = walk-root f n m r (p ∷ ps) (omega arith) in absurd (cc))
      (cases_lt 0 m)

  -- along a path, from its place i on
  pub leads-next : (path : List (List ℕ)) (i : ℕ) → i < length path
      → Leads f n m r (drop i path) x
      → Leads f (next_node n m) (next_last n m) (f (is_right n m) (get_or path i []) r)
      (drop (i + 1) path) x
  leads-next path i lt l = (leads-on (rw (drop_more path i [] lt) at l)).1

  pub leads-stop : (path : List (List ℕ)) (i : ℕ) → length path ≤ i
      → Leads f n m r (drop i path) x → r ≡ x
  leads-stop path i le l = (leads-end (rw (drop_all i path le) at l)).1

-- the place after a step from a node that has a sibling, and from one that has none
next-joined : (n m : ℕ) → is_alone n m ≡ false → (next_node n m ≡ n / 2) × (next_last n m ≡ m / 2)
next-joined n m f =
    let same = shift-same is_odd_or_zero 64 n in
    let a = shift-stop is_odd_or_zero 64 n n in
    let b = shift-stop is_odd_or_zero 64 n m in
    (grind (arith, nat_tests), grind (arith, nat_tests))

next-alone : (n m : ℕ) → is_alone n m ≡ true → 0 < m → m < 2 ^ 64
    → (next_node n m ≡ next_node (n / 2) (m / 2)) × (next_last n m ≡ next_last (n / 2) (m / 2))
next-alone n m t pos lt =
    let a = alone_is n m t in
    let half = ap (λ k. k / 2) a.1 in
    let not : is_odd_or_zero n ≡ false = grind (arith, nat_tests) in
    let again = shift-again is_odd_or_zero refl 63 n in
    let i = again n (omega arith) not in
    let j = again m (omega arith) not in
    let same = shift-same is_odd_or_zero 64 n in
    let above = shift-same is_odd_or_zero 64 (n / 2) in
    (grind (arith, nat_tests), grind (arith, nat_tests))

-- a node without a sibling is the one above it
walk-alone : (f : Step) (n m : ℕ) (r : List ℕ) (ps : List (List ℕ)) → is_alone n m ≡ true
    → 0 < m → m < 2 ^ 64 → walk f n m r ps ≡ walk f (n / 2) (m / 2) r ps
walk-alone f n m r [] t pos lt =
    let a = alone_is n m t in
    walk-short f n m r pos ∙ sym (walk-short f (n / 2) (m / 2) r (omega arith))
walk-alone f n m r (p ∷ ps) t pos lt =
    let a = alone_is n m t in
    let x = next-alone n m t pos lt in
    let right : is_right n m ≡ is_right (n / 2) (m / 2) =
    grind (arith, nat_tests, ap (λ k. k / 2) a.1) in
    let b = walk-step f n m r p ps pos in
    let c = walk-step f (n / 2) (m / 2) r p ps (omega arith) in
    cc

-- one with a sibling takes a value
walk-joined : (f : Step) (n m : ℕ) (r p : List ℕ) (ps : List (List ℕ)) → is_alone n m ≡ false
    → 0 < m → walk f n m r (p ∷ ps) ≡ walk f (n / 2) (m / 2) (f (is_right n m) p r) ps
walk-joined f n m r p ps t pos =
    let x = next-joined n m t in let b = walk-step f n m r p ps pos in cc

-- the sides of at most h levels are all
pub record Within (h n m : ℕ) : Type 0 where
  pub node : n ≤ m
  pub all : m < 2 ^ h
  pub fits : m < 2 ^ 64

within-up : (h n m : ℕ) → Within (suc h) n m → Within h (n / 2) (m / 2)
within-up h n m w = record {
  node = omega (arith, w.node);
  all = omega (arith, w.all, pow-sum h);
  fits = omega (arith, w.fits);
}

pub walk-fold : (f : Step) (h n m : ℕ) (r : List ℕ) (ps : List (List ℕ)) → Within h n m
    → walk f n m r ps ≡ fold_sides f (sides h n m) r ps
walk-fold f zero n m r ps w =
    rw (sides-none zero n m w.node (omega (arith, w.all)))
    (walk-root f n m r ps (omega (arith, w.all)))
walk-fold f (suc h) n m r ps w =
    let up = within-up h n m w in
    ⊎_elim
    (λ pos. ⊎_elim
    (λ t. rw (sides-alone h n m t)
    (walk-alone f n m r ps t pos w.fits ∙ walk-fold f h (n / 2) (m / 2) r ps up))
    (λ t. rw (sides-joined h n m t) (elim ps as (λ qs. walk f n m r qs
    ≡ fold_sides f (is_right n m ∷ sides h (n / 2) (m / 2)) r qs) [
      | [] ↦ walk-short f n m r pos
      | p ∷ qs ↦ walk-joined f n m r p qs t pos
          ∙ walk-fold f h (n / 2) (m / 2) (f (is_right n m) p r) qs up
    ]))
    (cases_Bool (is_alone n m)))
    (λ none. rw (sides-none (suc h) n m w.node (omega arith))
    (walk-root f n m r ps (omega arith)))
    (cases_lt 0 m)

-- a path leads anywhere exactly if it has as many values as there are siblings
pub leads-length : {f : Step} {n m : ℕ} {r x : List ℕ} {ps : List (List ℕ)} → n ≤ m → m < 2 ^ 64
    → Leads f n m r ps x → length ps ≡ path_len n m
leads-length {f} {n} {m} {r} {x} {ps} le fits l =
    fold-length f (sides 64 n m) r x ps
    (sym (walk-fold f 64 n m r ps (record { node = le; all = fits; fits = fits })) ∙ l.ends)

pub walk-leads : (f : Step) (n m : ℕ) (r : List ℕ) (ps : List (List ℕ)) → n ≤ m → m < 2 ^ 64
    → length ps ≡ path_len n m → (x : List ℕ) × (walk f n m r ps ≡ Some x)
walk-leads f n m r ps le fits e =
    let l = fold-leads f (sides 64 n m) r ps e in
    (l.0, walk-fold f 64 n m r ps (record { node = le; all = fits; fits = fits }) ∙ l.1)

-- the values that are hashed, from the place i of a path on
pub hashed-next : (whole : Bool) (path : List (List ℕ)) (i n m : ℕ) → i < length path
    → hashed_count whole n m (drop i path) ≡ cond (whole || is_right n m) 1 0
    + hashed_count whole (next_node n m) (next_last n m) (drop (i + 1) path)
unfolding left_count
hashed-next true path i n m lt = omega (arith, ap length (drop_more path i [] lt))
hashed-next false path i n m lt = ap (λ qs. left_count n m qs) (drop_more path i [] lt)

pub hashed-stop : (whole : Bool) (path : List (List ℕ)) (i n m : ℕ) → length path ≤ i
    → hashed_count whole n m (drop i path) ≡ 0
unfolding left_count
hashed-stop true path i n m le = ap length (drop_all i path le)
hashed-stop false path i n m le = ap (λ qs. left_count n m qs) (drop_all i path le)
