-- SPDX-License-Identifier: ISC
use Rattle.std.proofs.Common.{refl}
use Rattle.ring.proofs.hkdf.conversions.SaltTryFromOkmAlgorithm.try_from.Goals as goal

pub returns : goal.returns
returns c =
    let h = rw (c.hmac_algorithm-algorithm.ensures, c.len.ensures) at c.in_ok-into_key.ensures in
    record { ok = h.ok; refused = (λ _. h.refused.0 refl, λ _. refl); algorithm = h.algorithm }
