-- SPDX-License-Identifier: ISC
use Rattle.std.proofs.Common.{length}
use Rattle.ring_merkle.proofs.paths.+write_proof.Given as goal

abbrev pub decreases-write_proof : goal.decreases-write_proof
decreases-write_proof l = length l.leaves.now
