-- SPDX-License-Identifier: ISC
-- The path of a leaf leads from it to the root, and to the root of the leaves up to it.
use Rattle.std.proofs.Common.{◌≡◌, ◌+◌, ◌-◌, ◌/◌, ◌%◌, ◌^◌, ◌<◌, ◌≤◌, [], ◌∷◌, ◌++◌, ℕ, zero, suc}
use Rattle.std.proofs.Common.{Bool, true, false, cond, List, length, get_or, take, drop, refl, sym}
use Rattle.std.proofs.Common.{arith, ⊎_elim, Some, length-append, length-drop, length-take}
use Rattle.std.proofs.lemmas.List.{drop_more, take-append-drop, take_more}
use Rattle.ring_merkle.specs.Cost.{path_len, sides}
use Rattle.ring_merkle.specs.Inclusion.{IsIncluded, path_at, path_of}
use Rattle.ring_merkle.specs.Stack.{halves, last}
use Rattle.ring_merkle.specs.Tree.{node_hash, root_at, root_of}
use Rattle.ring_merkle.specs.Walk.{step_of, walk}
use Rattle.ring_merkle.proofs.Levels.{beside-even, beside-odd, length-halves, pair-even, pair-odd}
use Rattle.ring_merkle.proofs.Pairs.{beside, length-pair_up, pair_up, path-up, root-up}
use Rattle.ring_merkle.proofs.Sides.{parity, sides-last, sides-left, sides-right}
use Rattle.ring_merkle.proofs.Trees.{below-pow, pow-sum}
use Rattle.ring_merkle.proofs.Walks.{fold_sides, leads-length, walk-fold}

-- of the whole tree all leaves are kept, and of its beginning none after the node
abbrev pub kept : (whole : Bool) → List (List ℕ) → List (List ℕ)
kept true xs = xs
kept false xs = []

-- the hashes of a level up, where the node's is r
kept-right : (b : Bool) (p r : List ℕ) (zs : List (List ℕ))
    → node_hash p r ∷ pair_up (kept b zs) ≡ step_of b true p r ∷ kept b (pair_up zs)
unfolding pair_up
kept-right true p r zs = refl
kept-right false p r zs = refl

kept-left : (b : Bool) (p r : List ℕ) (zs : List (List ℕ))
    → pair_up (r ∷ kept b (p ∷ zs)) ≡ step_of b false p r ∷ kept b (pair_up zs)
unfolding pair_up
kept-left true p r zs = refl
kept-left false p r zs = refl

length-kept : (b : Bool) (zs : List (List ℕ)) → length (kept b zs) ≤ length zs
length-kept true zs = omega arith
length-kept false zs = omega arith

kept-last : (b : Bool) (r : List ℕ) → pair_up (r ∷ kept b []) ≡ r ∷ kept b []
unfolding pair_up
kept-last true r = refl
kept-last false r = refl

-- one level up from the node x, whose hash is r: a step, where x has a sibling
record Above (b : Bool) (before after : List (List ℕ)) (x r : List ℕ) : Type 0 where
  node : List ℕ
  reached : List ℕ
  rest : List (List ℕ)
  last : (length before + length after) / 2 ≡ length (halves before) + length rest
  nodes : pair_up (before ++ x ∷ after) ≡ halves before ++ node ∷ rest
  hashes : pair_up (before ++ r ∷ kept b after) ≡ halves before ++ reached ∷ kept b rest
  step : (h : ℕ) (ps : List (List ℕ))
      → fold_sides (step_of b) (sides (suc h) (length before) (length before + length after)) r
      (beside (length before) (before ++ x ∷ after) ++ ps)
      ≡ fold_sides (step_of b) (sides h (length before / 2) ((length before + length after) / 2))
      reached ps

above-even : (b : Bool) (before after : List (List ℕ)) (x r : List ℕ) → length before % 2 ≡ 0
    → Above b before after x r
unfolding beside pair_up
above-even b before [] x r even = record {
  node = x;
  reached = r;
  rest = [];
  last = omega (arith, length-halves before);
  nodes = pair-even before (x ∷ []) even;
  hashes = rw (pair-even before (r ∷ kept b []) even, kept-last b r);
  step = λ h ps. rw (
    beside-even before (x ∷ []) even,
    sides-last h (length before) (length before + 0) even (omega arith),
  );
}
above-even b before (y ∷ after) x r even = record {
  node = node_hash x y;
  reached = step_of b false y r;
  rest = pair_up after;
  last = omega (arith, length-halves before, length-pair_up after);
  nodes = pair-even before (x ∷ y ∷ after) even;
  hashes = rw (pair-even before (r ∷ kept b (y ∷ after)) even, kept-left b y r after);
  step = λ h ps. rw (
    beside-even before (x ∷ y ∷ after) even,
    sides-left h (length before) (length before + suc (length after)) even (omega arith),
  );
}

above-odd : (b : Bool) (before after : List (List ℕ)) (x r : List ℕ) → length before % 2 ≡ 1
    → Above b before after x r
above-odd b before after x r odd = record {
  node = node_hash (last before) x;
  reached = step_of b true (last before) r;
  rest = pair_up after;
  last = omega (arith, length-halves before, length-pair_up after);
  nodes = pair-odd before after x odd;
  hashes = rw (pair-odd before (kept b after) r odd, kept-right b (last before) r after);
  step = λ h ps. rw (
    beside-odd before after x odd,
    sides-right h (length before) (length before + length after) odd,
  );
}

-- from the hash r of a node a path leads to the root of the leaves with r in the node's place
leads : (b : Bool) (h : ℕ) (before after : List (List ℕ)) (x r : List ℕ)
    → length before + length after < 2 ^ h
    → fold_sides (step_of b) (sides h (length before) (length before + length after)) r
    (path_at h (length before) (before ++ x ∷ after))
    ≡ Some (root_at h (before ++ r ∷ kept b after))
unfolding sides path_at root_at
leads b zero [] after x r lt = refl
leads b zero (y ∷ before) after x r lt = absurd (omega arith)
leads b (suc h) before after x r lt =
    let a = ⊎_elim (above-even b before after x r) (above-odd b before after x r)
    (parity (length before)) in
    let lx = length-append before (x ∷ after) in
    let lr = length-append before (r ∷ kept b after) in
    let lk = length-kept b after in
    let pow = pow-sum h in
    rw (
      path-up h (length before) (before ++ x ∷ after) (omega arith) (omega arith),
      a.step h,
      a.nodes,
      a.last,
      ← length-halves before,
      root-up h (before ++ r ∷ kept b after) (omega arith),
      a.hashes,
    ) (leads b h (halves before) a.rest a.node a.reached (omega (arith, a.last)))

kept-split : (b : Bool) (m : ℕ) (xs : List (List ℕ)) → m < length xs
    → take m xs ++ get_or xs m [] ∷ kept b (drop (m + 1) xs) ≡ cond b xs (take (m + 1) xs)
kept-split true m xs lt = rw (← drop_more xs m [] lt) (take-append-drop m xs)
kept-split false m xs lt = sym (take_more xs m [] lt)

-- so a leaf's path leads from it to the root, and to that of the leaves up to it
pub walk-path : (b : Bool) (h m : ℕ) (xs : List (List ℕ)) → m < length xs → length xs ≤ 2 ^ h
    → length xs ≤ 2 ^ 64 → walk (step_of b) m (length xs - 1) (get_or xs m []) (path_at h m xs)
    ≡ Some (root_at h (cond b xs (take (m + 1) xs)))
walk-path b h m xs lt le fits =
    let before = take m xs in
    let after = drop (m + 1) xs in
    let x = get_or xs m [] in
    let front : length before ≡ m = omega (arith, length-take m xs) in
    let back : m + length after ≡ length xs - 1 = omega (arith, length-drop (m + 1) xs) in
    let l = leads b h before after x x (omega arith) in
    rw (walk-fold (step_of b) h m (length xs - 1) x (path_at h m xs)
    (record { node = omega arith; all = omega arith; fits = omega arith }))
    (rw (front, back, kept-split true m xs lt, kept-split b m xs lt) at l)

pub included : (xs : List (List ℕ)) (m : ℕ) → m < length xs → length xs ≤ 2 ^ 64
    → IsIncluded (get_or xs m []) m (length xs) (path_of m xs) (root_of xs)
unfolding path_of root_of
included xs m lt fits = record {
  within = lt;
  leads = walk-path true (length xs) m xs lt (omega (arith, below-pow (length xs))) fits;
}

-- the path has a value for each level with a sibling
pub length-path : (xs : List (List ℕ)) (m : ℕ) → m < length xs → length xs ≤ 2 ^ 64
    → length (path_of m xs) ≡ path_len m (length xs - 1)
length-path xs m lt fits =
    leads-length (omega arith) (omega arith) (record { ends = (included xs m lt fits).leads })
