-- SPDX-License-Identifier: ISC
-- Builders level by level.
use Rattle.std.proofs.Common.{◌≡◌, ◌+◌, ◌/◌, ◌%◌, ◌^◌, ◌<◌, ◌≤◌, [], ◌∷◌, ◌++◌, ◌∙◌, ℕ, suc}
use Rattle.std.proofs.Common.{List, length, get_or, take, drop, set, refl, ap, sym, arith, Option}
use Rattle.std.proofs.Common.{None, Some, length-append, append_assoc, add-one}
use Rattle.std.proofs.lemmas.List.{append-nil, drop_more, nil_from_length, set_split, take_more}
use Rattle.ring_merkle.specs.Tree.{node_hash, root_at, root_of}
use Rattle.ring_merkle.specs.Stack.{IsStack, halves, node_over, last, last_of}
use Rattle.ring_merkle.proofs.Levels.{length-halves, pair-even, pair-odd}
use Rattle.ring_merkle.proofs.Pairs.{length-pair_up, pair_up, root-up}
use Rattle.ring_merkle.proofs.Trees.{pow-sum, root-any}

halves-odd : (xs : List (List ℕ)) (z : List ℕ) → length xs % 2 ≡ 1
    → halves (xs ++ z ∷ []) ≡ halves xs ++ node_hash (last xs) z ∷ []
halves-odd [] z h = absurd (omega arith)
halves-odd (x ∷ []) z h = refl
halves-odd (x ∷ y ∷ []) z h = absurd (omega arith)
halves-odd (x ∷ y ∷ w ∷ ws) z h =
    ap (λ vs. node_hash x y ∷ vs) (halves-odd (w ∷ ws) z (omega arith))

halves-even : (xs : List (List ℕ)) (z : List ℕ) → length xs % 2 ≡ 0
    → halves (xs ++ z ∷ []) ≡ halves xs
halves-even [] z h = refl
halves-even (x ∷ []) z h = absurd (omega arith)
halves-even (x ∷ y ∷ xs) z h = ap (λ ws. node_hash x y ∷ ws) (halves-even xs z (omega arith))

last-push : (xs : List (List ℕ)) (z : List ℕ) → last (xs ++ z ∷ []) ≡ z
last-push [] z = refl
last-push (x ∷ []) z = refl
last-push (x ∷ y ∷ xs) z = last-push (y ∷ xs) z

pub none-at-all : (n : ℕ) → (roots : List (List ℕ)) → length roots ≡ n → IsStack roots []
none-at-all n [] e = refl
none-at-all n (r ∷ rs) e = (λ odd. absurd (omega arith), none-at-all (length rs) rs refl)

-- what the leaf has become at this level, over its nodes so far
pub record Carried (roots xs : List (List ℕ)) (level count : ℕ) (hash leaf : List ℕ)
    : Type 0 where
  pub nodes : List (List ℕ)
  pub number : length nodes ≡ count
  pub stack : IsStack (drop level roots) nodes
  pub gives : (after : List (List ℕ)) → IsStack after (nodes ++ hash ∷ [])
      → IsStack (take level roots ++ after) (xs ++ leaf ∷ [])

-- the leaf one level up, where this level has a node left over
pub carried-on : {roots xs : List (List ℕ)} {j n : ℕ} {hash leaf : List ℕ} → j < length roots
    → n % 2 ≡ 1 → Carried roots xs j n hash leaf
    → Carried roots xs (j + 1) (n / 2) (node_hash (get_or roots j []) hash) leaf
carried-on {roots} {xs} {j} {n} {hash} {leaf} lt odd k =
    let root = get_or roots j [] in
    let o : length k.nodes % 2 ≡ 1 = omega (arith, k.number) in
    let s = rw (drop_more roots j [] lt) at k.stack in
    record {
      nodes = halves k.nodes;
      number = omega (arith, length-halves k.nodes, k.number);
      stack = s.1;
      gives = λ after t. rw (take_more roots j [] lt, append_assoc)
          (k.gives (root ∷ after) (
            λ two. absurd (omega (arith, length-append k.nodes (hash ∷ []))),
            rw (halves-odd k.nodes hash o, ← s.0 o) t,
          ));
    }

-- the leaf is kept where this level has none
pub carried-kept : {roots xs : List (List ℕ)} {j n : ℕ} {hash leaf : List ℕ} → j < length roots
    → n % 2 ≡ 0 → Carried roots xs j n hash leaf → IsStack (set roots j hash) (xs ++ leaf ∷ [])
carried-kept {roots} {xs} {j} {n} {hash} {leaf} lt even k =
    let s = rw (drop_more roots j [] lt, add-one) at k.stack in
    rw (set_split roots j hash lt) (k.gives (hash ∷ drop (suc j) roots) (
      λ odd. sym (last-push k.nodes hash),
      rw (halves-even k.nodes hash (omega (arith, k.number))) s.1,
    ))

-- the nodes of a level from which on these are the roots: those of complete subtrees, and one more
-- at the end
pub record Reached (roots xs : List (List ℕ)) (count : ℕ) (end : Option (List ℕ)) : Type 0 where
  pub nodes : List (List ℕ)
  pub number : length nodes ≡ count
  pub stack : IsStack roots nodes
  pub within : length (nodes ++ last_of end) ≤ 2 ^ length roots
  pub root : root_at (length roots) (nodes ++ last_of end) ≡ root_of xs

reached-up : {roots xs : List (List ℕ)} {root : List ℕ} {n : ℕ} {e : Option (List ℕ)}
    (f : Option (List ℕ)) (r : Reached (root ∷ roots) xs n e)
    → pair_up (r.nodes ++ last_of e) ≡ halves r.nodes ++ last_of f → Reached roots xs (n / 2) f
reached-up {roots} {xs} {root} {n} {e} f r up = record {
  nodes = halves r.nodes;
  number = omega (arith, length-halves r.nodes, r.number);
  stack = r.stack.1;
  within = omega (
    arith,
    ap length up,
    length-pair_up (r.nodes ++ last_of e),
    r.within,
    pow-sum (length roots),
  );
  root = ap (λ ys. root_at (length roots) ys) (sym up)
      ∙ sym (root-up (length roots) (r.nodes ++ last_of e) r.within) ∙ r.root;
}

pair-none : (e : Option (List ℕ)) → pair_up (last_of e) ≡ last_of e
unfolding pair_up
pair-none None = refl
pair-none (Some x) = refl

pair-joined : (xs : List (List ℕ)) (e : Option (List ℕ)) → length xs % 2 ≡ 1
    → pair_up (xs ++ last_of e) ≡ halves xs ++ node_over (last xs) e ∷ []
unfolding pair_up
pair-joined xs (Some x) odd = pair-odd xs [] x odd
pair-joined [] None odd = absurd (omega arith)
pair-joined (x ∷ []) None odd = refl
pair-joined (x ∷ y ∷ []) None odd = absurd (omega arith)
pair-joined (x ∷ y ∷ w ∷ xs) None odd =
    ap (λ vs. node_hash x y ∷ vs) (pair-joined (w ∷ xs) None (omega arith))

pub reached-keep : {roots xs : List (List ℕ)} {root : List ℕ} {n : ℕ} {e : Option (List ℕ)}
    → n % 2 ≡ 0 → Reached (root ∷ roots) xs n e → Reached roots xs (n / 2) e
reached-keep {e = e} even r =
    reached-up e r (pair-even r.nodes (last_of e) (omega (arith, r.number))
    ∙ ap (λ ys. halves r.nodes ++ ys) (pair-none e))

pub reached-join : {roots xs : List (List ℕ)} {root : List ℕ} {n : ℕ} {e : Option (List ℕ)}
    → n % 2 ≡ 1 → Reached (root ∷ roots) xs n e → Reached roots xs (n / 2) (Some (node_over root e))
reached-join {root = root} {e = e} odd r =
    let o : length r.nodes % 2 ≡ 1 = omega (arith, r.number) in
    reached-up (Some (node_over root e)) r (pair-joined r.nodes e o
    ∙ ap (λ x. halves r.nodes ++ node_over x e ∷ []) (sym (r.stack.0 o)))

pub reached-begin : {roots xs : List (List ℕ)} → length xs ≤ 2 ^ length roots
    → IsStack roots xs → Reached roots xs (length xs) None
reached-begin {roots} {xs} le s = record {
  nodes = xs;
  number = refl;
  stack = s;
  within = rw (append-nil xs) le;
  root = rw (append-nil xs) (root-any (length roots) xs le);
}

pub reached-end : {xs : List (List ℕ)} {n : ℕ} {e : Option (List ℕ)} → Reached [] xs n e
    → root_at 0 (last_of e) ≡ root_of xs
reached-end {xs} {n} {e} r =
    let z = nil_from_length r.nodes r.stack in rw z at r.root
