-- SPDX-License-Identifier: ISC
use Rattle.std.proofs.Common.{◌^◌}
use Rattle.std.proofs.Common.{map, refl, arith}
use Rattle.std.proofs.lemmas.List.{drop-map, length-map, take-map}
use Rattle.std.proofs.Math.Numerals.{add-one}
use Rattle.ring_merkle.specs.Inclusion.{path_at, path_of}
use Rattle.ring_merkle.specs.Tree.{leaf_hash}
use Rattle.ring_merkle.proofs.Trees.{path-left-of, path-right-of, pow-sum}
use Rattle.ring_merkle.proofs.laws.path_is_recursive.Goals as goal

pub returns-clause-one : goal.returns-clause-one
unfolding path_of path_at
returns-clause-one c d = refl

pub returns-clause-left : goal.returns-clause-left
returns-clause-left c ds j m lt le at =
    let n = length-map ds leaf_hash in
    let most = rw (add-one j) at le in
    rw (← take-map leaf_hash (2 ^ j) ds, ← drop-map leaf_hash (2 ^ j) ds)
    (path-left-of (2 ^ j) (map leaf_hash ds) (j, refl) (omega arith) (omega (arith, pow-sum j)) m
    at)

pub returns-clause-right : goal.returns-clause-right
returns-clause-right c ds j m lt le at =
    let n = length-map ds leaf_hash in
    let most = rw (add-one j) at le in
    rw (← take-map leaf_hash (2 ^ j) ds, ← drop-map leaf_hash (2 ^ j) ds)
    (path-right-of (2 ^ j) (map leaf_hash ds) (j, refl) (omega arith) (omega (arith, pow-sum j)) m
    at)
