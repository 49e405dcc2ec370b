-- SPDX-License-Identifier: ISC
use Rattle.std.proofs.Common.{◌≡◌, [], get_or, map, arith}
use Rattle.std.proofs.lemmas.List.{get_or-map, length-map}
use Rattle.ring.specs.declared.digest.algorithm.TheConstants.{SHA256}
use Rattle.ring_merkle.specs.Tree.{leaf_hash}
use Rattle.ring_merkle.proofs.Collisions.{sound}
use Rattle.ring_merkle.proofs.Hashes.{IsHash, hashes-leaves}
use Rattle.std.proofs.lemmas.List.Elements.{All-cons, All-from_get_or}
use Rattle.ring_merkle.proofs.Included.{included}
use Rattle.ring_merkle.proofs.inclusion.verify_inclusion_counted.Goals as goal

pub returns-clause-plain : goal.returns-clause-plain
returns-clause-plain c =
    let m = c.args.index in
    let exact = c.is_included.ensures.exact in
    let fits = c.ranges.size.fits in
    record {
      exact = exact;
      sound = λ ds len root t.
          let xs = map leaf_hash ds in
          let sized = c.digest_has_output_len.ensures SHA256 in
          let yes = exact.0 t in
          let n = length-map ds leaf_hash in
          let e : get_or xs m [] ≡ leaf_hash (get_or ds m []) =
          get_or-map leaf_hash ds m [] [] (omega (arith, yes.within)) in
          rw (← e, ← len, ← n) (sound sized xs (hashes-leaves sized ds)
          (All-cons IsHash c.args.hash.now c.args.path.now c.told-hash
          (All-from_get_or IsHash c.args.path.now [] c.told-path)) (omega arith)
          (rw (← root, n, len) yes));
      complete = λ leaves len root within hash path.
          exact.1 (rw (hash, path, root, ← len) (included leaves m (omega arith) (omega arith)));
    }
