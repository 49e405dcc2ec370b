-- SPDX-License-Identifier: ISC
use Rattle.std.proofs.Common.{[]}
use Rattle.ring.specs.declared.digest.algorithm.TheConstants.{SHA256}
use Rattle.ring_examples.proofs.laws.extract_without_salt.Goals as goal

pub returns-clause-ok : goal.returns-clause-ok
returns-clause-ok c =
    rw (
      c.in_ok-new.ensures.algorithm,
      c.empty_salt_extracts_as_zeros.ensures SHA256 c.args.secret.now,
    ) at
    (c.extract.ensures.ok [] c.in_ok-new.ensures.ok)
