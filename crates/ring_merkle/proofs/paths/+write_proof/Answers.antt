-- SPDX-License-Identifier: ISC
use Rattle.std.proofs.Common.{◌≡◌, ◌+◌, ◌-◌, ◌==◌, ◌&&◌, ◌<◌, ◌∙◌, [], ◌∷◌, ℕ, Bool, true, false}
use Rattle.std.proofs.Common.{List, cond, length, length-take, set, take, ap, arith, refl, sym}
use Rattle.std.proofs.lemmas.Bool.Decides.{nat_tests}
use Rattle.std.proofs.lemmas.List.{length-set, length_push, nil_from_length}
use Rattle.ring_merkle.specs.Consistency.{subproof_of}
use Rattle.ring_merkle.specs.Cost.{left_out}
use Rattle.ring_merkle.specs.Tree.{root_of}
use Rattle.ring_merkle.proofs.Rises.{raised-more, raised-zero}
use Rattle.ring_merkle.proofs.Trees.{sub-all}
use Rattle.ring_merkle.proofs.paths.+write_proof.Goals as goal

set-only : (xs : List (List ℕ)) (x : List ℕ) → length xs ≡ 1 → set xs 0 x ≡ x ∷ []
set-only [] x e = absurd (omega arith)
set-only (y ∷ []) x e = refl
set-only (y ∷ z ∷ xs) x e = absurd (omega arith)

-- at the end the root over the leaves is the one value, or there is none
module _ (m : ℕ) (xs : List (List ℕ)) {b : Bool} (known : Bool) (all : m ≡ length xs)
    (e : b ≡ known) where
  values-at-end : subproof_of m xs b ≡ cond known [] (root_of xs ∷ [])
  values-at-end = sub-all m xs b all ∙ ap (λ k. cond k [] (root_of xs ∷ [])) e

  left-at-end : (len : ℕ) → len ≡ length (subproof_of m xs b)
      → left_out m xs len + len ≡ cond known m 1
  left-at-end len l =
      let one = ap length (sub-all m xs false all) in
      let values = ap length values-at-end in
      elim known as (λ k. length (subproof_of m xs b) ≡ length (cond k [] (root_of xs ∷ []))
      → left_out m xs len + len ≡ cond k m 1) [
        | true ↦ λ v. grind (arith, nat_tests, one, v, l)
        | false ↦ λ v. grind (arith, nat_tests, one, v, l)
      ] values

-- one level down as many leaves are left out
module _ (m k : ℕ) (xs ys : List (List ℕ)) {len end : ℕ} where
  left-down : (known same : Bool)
      → (len ≡ end + 1) × (end ≡ length (subproof_of k ys (known && same)))
      → (length (subproof_of m xs false) ≡ length (subproof_of k ys false) + 1)
      × (same ≡ true → m ≡ k) → left_out m xs len ≡ left_out k ys end
  left-down false same d u = grind (arith, nat_tests, d.0, d.1, u.0)
  left-down true false d u = grind (arith, nat_tests, d.0, d.1, u.0)
  left-down true true d u = let j = u.1 refl in grind (arith, nat_tests, d.0, d.1, u.0)

pub bounds-out-0 : goal.bounds-out-0
bounds-out-0 t c =
    let one = values-at-end (c.args.node + 1) c.args.leaves.now false c.if-node-leaves.true
    c.if-not-known.true in
    omega (arith, c.requires.len, ap length one)

pub returns-then-not-known-clause-path : goal.returns-then-not-known-clause-path
returns-then-not-known-clause-path t c =
    let one = values-at-end (c.args.node + 1) c.args.leaves.now false c.if-node-leaves.true
    c.if-not-known.true in
    set-only c.args.out.now c.tree_root_counted.result (c.requires.len ∙ ap length one)
    ∙ ap (λ r. r ∷ []) c.tree_root_counted.ensures.root ∙ sym one

pub returns-then-not-known-clause-fewer : goal.returns-then-not-known-clause-fewer
returns-then-not-known-clause-fewer t c =
    omega (
      arith,
      c.requires.within,
      left-at-end (c.args.node + 1) c.args.leaves.now false c.if-node-leaves.true
          c.if-not-known.true (length c.args.out.now) c.requires.len,
    )

pub returns-then-not-known-clause-cost : goal.returns-then-not-known-clause-cost
returns-then-not-known-clause-cost t c =
    raised-more c.args.meter.now (length c.args.leaves.now) 0 _ (omega (arith, c.requires.within))
    c.tree_root_counted.ensures.cost (raised-zero _ refl)
    (omega (
      arith,
      left-at-end (c.args.node + 1) c.args.leaves.now false c.if-node-leaves.true
          c.if-not-known.true (length c.args.out.now) c.requires.len,
    ))

pub returns-else-not-known-clause-path : goal.returns-else-not-known-clause-path
returns-else-not-known-clause-path t c =
    let none = values-at-end (c.args.node + 1) c.args.leaves.now true c.if-node-leaves.true
    c.if-not-known.false in
    nil_from_length c.args.out.now (c.requires.len ∙ ap length none) ∙ sym none

pub returns-else-not-known-clause-fewer : goal.returns-else-not-known-clause-fewer
returns-else-not-known-clause-fewer t c =
    omega (
      arith,
      c.if-node-leaves.true,
      left-at-end (c.args.node + 1) c.args.leaves.now true c.if-node-leaves.true
          c.if-not-known.false (length c.args.out.now) c.requires.len,
    )

pub returns-else-not-known-clause-cost : goal.returns-else-not-known-clause-cost
returns-else-not-known-clause-cost t c =
    raised-zero c.args.meter.now
    (omega (
      arith,
      c.if-node-leaves.true,
      left-at-end (c.args.node + 1) c.args.leaves.now true c.if-node-leaves.true
          c.if-not-known.false (length c.args.out.now) c.requires.len,
    ))

pub returns-clause-cost : goal.returns-clause-cost
returns-clause-cost t c =
    let known = c.args.known in
    let leaves = c.args.leaves.now in
    let out = c.args.out.now in
    let end = length out - 1 in
    let x = c.tree_root_counted-2.result in
    let p = c.parts_of-place in
    let place = p.result.1 in
    let part = p.result.0.now in
    let root = root_of p.result.2.now in
    let lt : c.args.node + 1 < length leaves =
    omega (arith, c.if-node-leaves.false, c.requires.within) in
    let push = length_push (subproof_of (place + 1) part (known && place == c.args.node)) root in
    let long : length out ≡ end + 1 =
    omega (arith, c.requires.len, ap length (p.ensures.subproof known lt), push) in
    let rest : length (take end (set out end x)) ≡ end =
    omega (arith, length-take end (set out end x), length-set out end x) in
    let left = left-down (c.args.node + 1) (place + 1) leaves part known (place == c.args.node) (
      long,
      omega (arith, c.requires.len, ap length (p.ensures.subproof known lt), push),
    ) (
      omega (
        arith,
        ap length (p.ensures.subproof false lt),
        length_push (subproof_of (place + 1) part false) root,
      ),
      λ t. grind (arith, nat_tests),
    ) in
    raised-more c.args.meter.now (length p.result.2.now) _
    (length leaves - (left_out (c.args.node + 1) leaves (length out) + length out)) p.ensures.some
    c.tree_root_counted-2.ensures.cost c.write_proof.ensures.cost
    (omega (
      arith,
      c.write_proof.ensures.fewer,
      p.ensures.all,
      p.ensures.some,
      long,
      rest,
      left,
      ap (λ l. left_out (place + 1) part l) rest,
    ))
