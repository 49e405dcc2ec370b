-- SPDX-License-Identifier: ISC
use Rattle.std.proofs.Common.{rules, arith, ◌≤◌, le-leb, leb-true, refl}
use Rattle.ring.specs.Prelude.{output_len}
use Rattle.ring.specs.declared.digest.algorithm.Algorithm.{Algorithm}
use Rattle.ring.specs.declared.digest.algorithm.TheConstants.{SHA1_FOR_LEGACY_USE_ONLY}
use Rattle.ring_examples.proofs.laws.can_ask_all.Goals as goal

-- no digest is shorter than that of SHA-1
shortest : (a : Algorithm) → 20 ≤ output_len a
shortest a = search rules

pub returns : goal.returns
returns c =
    let of_sha1 = c.limits_in_bytes.ensures.short SHA1_FOR_LEGACY_USE_ONLY refl in (
      λ is a. omega (arith, shortest a, leb-true c.args.len 5100 is),
      λ all. le-leb c.args.len 5100
          ((of_sha1.output c.args.len).0 (all SHA1_FOR_LEGACY_USE_ONLY)),
    )
