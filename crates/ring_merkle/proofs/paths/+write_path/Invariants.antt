-- SPDX-License-Identifier: ISC
use Rattle.std.proofs.Common.{length}
use Rattle.ring_merkle.proofs.paths.+write_path.Given as goal

abbrev pub decreases-write_path : goal.decreases-write_path
decreases-write_path l = length l.leaves.now
