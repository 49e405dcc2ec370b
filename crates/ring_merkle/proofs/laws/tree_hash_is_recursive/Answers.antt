-- SPDX-License-Identifier: ISC
use Rattle.std.proofs.Common.{◌^◌, map, refl}
use Rattle.std.proofs.Common.{arith}
use Rattle.std.proofs.lemmas.List.{drop-map, length-map, take-map}
use Rattle.std.proofs.Math.Numerals.{add-one}
use Rattle.ring_merkle.specs.Tree.{leaf_hash, root_at, root_of}
use Rattle.ring_merkle.proofs.Trees.{pow-sum, root-split}
use Rattle.ring_merkle.proofs.laws.tree_hash_is_recursive.Goals as goal

pub returns-clause-none : goal.returns-clause-none
unfolding root_of root_at
returns-clause-none c = refl

pub returns-clause-one : goal.returns-clause-one
unfolding root_of root_at
returns-clause-one c d = refl

pub returns-clause-more : goal.returns-clause-more
returns-clause-more c ds j lt le =
    let n = length-map ds leaf_hash in
    let most = rw (add-one j) at le in
    rw (← take-map leaf_hash (2 ^ j) ds, ← drop-map leaf_hash (2 ^ j) ds)
    (root-split (2 ^ j) (map leaf_hash ds) (j, refl) (omega arith) (omega (arith, pow-sum j)))
