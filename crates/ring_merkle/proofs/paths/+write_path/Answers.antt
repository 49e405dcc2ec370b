-- SPDX-License-Identifier: ISC
use Rattle.std.proofs.Common.{◌-◌, ◌∙◌, length, length-take, set, ap, arith, sym}
use Rattle.std.proofs.lemmas.List.{length-set, length_push, nil_from_length}
use Rattle.ring_merkle.specs.Inclusion.{path_of}
use Rattle.ring_merkle.specs.Tree.{root_of}
use Rattle.ring_merkle.proofs.Rises.{raised-more, raised-zero}
use Rattle.ring_merkle.proofs.Trees.{path-leaf}
use Rattle.ring_merkle.proofs.paths.+write_path.Goals as goal

pub returns-then-leaves-eq1-clause-path : goal.returns-then-leaves-eq1-clause-path
returns-then-leaves-eq1-clause-path t c =
    let leaf = path-leaf c.args.index c.args.leaves.now (omega (arith, c.if-leaves-eq1.true)) in
    nil_from_length c.args.out.now (c.requires.len ∙ ap length leaf) ∙ sym leaf

pub returns-then-leaves-eq1-clause-fewer : goal.returns-then-leaves-eq1-clause-fewer
returns-then-leaves-eq1-clause-fewer t c =
    let leaf = path-leaf c.args.index c.args.leaves.now (omega (arith, c.if-leaves-eq1.true)) in
    omega (arith, c.requires.len, ap length leaf, c.if-leaves-eq1.true)

pub returns-then-leaves-eq1-clause-cost : goal.returns-then-leaves-eq1-clause-cost
returns-then-leaves-eq1-clause-cost t c =
    raised-zero c.args.meter.now (omega (arith, c.if-leaves-eq1.true))

pub returns-clause-cost : goal.returns-clause-cost
returns-clause-cost t c =
    let out = c.args.out.now in
    let end = length out - 1 in
    let x = c.tree_root_counted.result in
    let p = c.parts_of-place in
    raised-more c.args.meter.now (length p.result.2.now) _
    (length c.args.leaves.now - 1 - length out) p.ensures.some c.tree_root_counted.ensures.cost
    c.write_path.ensures.cost
    (omega (
      arith,
      c.write_path.ensures.fewer,
      p.ensures.all,
      p.ensures.some,
      c.requires.len,
      ap length p.ensures.path,
      length_push (path_of p.result.1 p.result.0.now) (root_of p.result.2.now),
      length-take end (set out end x),
      length-set out end x,
    ))
