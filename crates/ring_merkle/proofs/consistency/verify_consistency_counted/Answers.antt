-- SPDX-License-Identifier: ISC
use Rattle.std.proofs.Common.{[], map, arith}
use Rattle.std.proofs.lemmas.List.{length-map, take-map}
use Rattle.ring.specs.declared.digest.algorithm.TheConstants.{SHA256}
use Rattle.ring_merkle.specs.Tree.{leaf_hash}
use Rattle.ring_merkle.proofs.Begun.{consistent}
use Rattle.ring_merkle.proofs.Collisions.{sound-front}
use Rattle.ring_merkle.proofs.Hashes.{IsHash, hashes-leaves}
use Rattle.std.proofs.lemmas.List.Elements.{All-cons, All-from_get_or}
use Rattle.ring_merkle.proofs.consistency.verify_consistency_counted.Goals as goal

pub returns-clause-plain : goal.returns-clause-plain
returns-clause-plain c =
    let m = c.args.first_size in
    let exact = c.is_consistent.ensures.exact in
    let fits = c.ranges.second_size.fits in
    record {
      exact = exact;
      sound = λ ds len root t.
          let sized = c.digest_has_output_len.ensures SHA256 in
          let n = length-map ds leaf_hash in
          rw (← take-map leaf_hash m ds, ← len, ← n) (sound-front sized (map leaf_hash ds)
          (hashes-leaves sized ds) (All-cons IsHash c.args.first.now c.args.path.now c.told-first
          (All-from_get_or IsHash c.args.path.now [] c.told-path)) (omega arith)
          (rw (← root, n, len) (exact.0 t)));
      complete = λ leaves len root pos lt first path.
          exact.1 (rw (first, path, root, ← len)
          (consistent m leaves pos (omega arith) (omega arith)));
    }
