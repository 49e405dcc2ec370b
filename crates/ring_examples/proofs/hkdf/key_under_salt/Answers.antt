-- SPDX-License-Identifier: ISC
use Rattle.ring_examples.proofs.hkdf.key_under_salt.Goals as goal

pub returns-clause-ok : goal.returns-clause-ok
returns-clause-ok c s stands =
    let asked = c.in_ok-asked.ensures in
    rw (
      asked.algorithm,
      c.in_ok-prk.ensures.algorithm,
      asked.carries,
      c.hmac_algorithm.ensures,
      c.algorithm.ensures,
    ) at
    (c.try_from.ensures.ok _ _ _ (asked.ok _ (c.in_ok-prk.ensures.ok s stands)))
