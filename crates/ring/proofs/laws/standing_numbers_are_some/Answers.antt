-- SPDX-License-Identifier: ISC
use Rattle.std.proofs.Common.{arith}
use Rattle.std.proofs.lemmas.Grind.{common_steps}
use Rattle.ring.specs.Prelude.{RawStandsFor, RawTagStandsFor}
use Rattle.ring.proofs.lemmas.raw.Numbers.{key_block_counted, named_len}
use Rattle.ring.proofs.laws.standing_numbers_are_some.Goals as goal

pub returns-clause-tag_context : goal.returns-clause-tag_context
unfolding RawTagStandsFor RawStandsFor
returns-clause-tag_context c = λ raw a k m h.
    let size = named_len raw.inner.algorithm a h.inner.algorithm in
    grind (arith, common_steps, h.inner.algorithm, h.inner.partial, key_block_counted raw a k m h)
