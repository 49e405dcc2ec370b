-- SPDX-License-Identifier: ISC
use Rattle.std.proofs.Common.{◌≡◌, ◌+◌, ◌-◌, ◌==◌, ◌&&◌, arith, false}
use Rattle.std.proofs.lemmas.Bool.Decides.{nat_tests}
use Rattle.ring_merkle.proofs.Trees.{path-left-of, path-right-of, sub-left-of, sub-right-of}
use Rattle.ring_merkle.proofs.paths.parts_of.Goals as goal

pub returns-then-node-split-clause-path : goal.returns-then-node-split-clause-path
returns-then-node-split-clause-path c =
    let s = c.split_of-split.ensures in
    let cut = c.split_at.ensures in
    rw (cut.front, cut.back)
    (path-left-of c.split_of-split.result c.args.leaves.now s.power s.below s.largest c.args.node
    c.if-node-split.true)

pub returns-else-node-split-clause-path : goal.returns-else-node-split-clause-path
returns-else-node-split-clause-path c =
    let s = c.split_of-split.ensures in
    let cut = c.split_at.ensures in
    rw (cut.front, cut.back)
    (path-right-of c.split_of-split.result c.args.leaves.now s.power s.below s.largest c.args.node
    c.if-node-split.false)

pub returns-then-node-split-clause-subproof : goal.returns-then-node-split-clause-subproof
returns-then-node-split-clause-subproof c b within =
    let s = c.split_of-split.ensures in
    let cut = c.split_at.ensures in
    let same : (b && c.args.node == c.args.node) ≡ b = grind (arith, nat_tests) in
    rw (same, cut.front, cut.back)
    (sub-left-of c.split_of-split.result c.args.leaves.now s.power s.below s.largest
    (c.args.node + 1) b (omega (arith, c.if-node-split.true)))

pub returns-else-node-split-clause-subproof : goal.returns-else-node-split-clause-subproof
returns-else-node-split-clause-subproof c b within =
    let n = c.args.node in
    let s = c.split_of-split.result in
    let e = c.split_of-split.ensures in
    let cut = c.split_at.ensures in
    let at = c.if-node-split.false in
    let other : (b && n - s == n) ≡ false = grind (arith, nat_tests, at) in
    let place : n - s + 1 ≡ n + 1 - s = omega arith in
    rw (other, place, cut.front, cut.back)
    (sub-right-of s c.args.leaves.now e.power e.below e.largest (n + 1) b within (omega arith))
