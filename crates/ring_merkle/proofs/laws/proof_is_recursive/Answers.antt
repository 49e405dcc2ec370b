-- SPDX-License-Identifier: ISC
use Rattle.std.proofs.Common.{◌^◌}
use Rattle.std.proofs.Common.{length, map, refl, sym, arith}
use Rattle.std.proofs.lemmas.List.{drop-map, length-map, take-map}
use Rattle.std.proofs.Math.Numerals.{add-one}
use Rattle.ring_merkle.specs.Tree.{leaf_hash}
use Rattle.ring_merkle.proofs.Trees.{pow-sum, sub-all, sub-left-of, sub-right-of}
use Rattle.ring_merkle.proofs.laws.proof_is_recursive.Goals as goal

pub returns-clause-proof : goal.returns-clause-proof
returns-clause-proof c m xs = refl

pub returns-clause-whole : goal.returns-clause-whole
returns-clause-whole c ds b =
    sub-all (length ds) (map leaf_hash ds) b (sym (length-map ds leaf_hash))

pub returns-clause-left : goal.returns-clause-left
returns-clause-left c ds j m b lt le at =
    let n = length-map ds leaf_hash in
    let most = rw (add-one j) at le in
    rw (← take-map leaf_hash (2 ^ j) ds, ← drop-map leaf_hash (2 ^ j) ds)
    (sub-left-of (2 ^ j) (map leaf_hash ds) (j, refl) (omega arith) (omega (arith, pow-sum j)) m b
    at)

pub returns-clause-right : goal.returns-clause-right
returns-clause-right c ds j m b lt le at =
    let n = length-map ds leaf_hash in
    let most = rw (add-one j) at le in
    rw (← take-map leaf_hash (2 ^ j) ds, ← drop-map leaf_hash (2 ^ j) ds)
    (sub-right-of (2 ^ j) (map leaf_hash ds) (j, refl) (omega arith) (omega (arith, pow-sum j)) m b
    (omega arith) at)
