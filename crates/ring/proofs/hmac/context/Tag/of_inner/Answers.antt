-- SPDX-License-Identifier: ISC
use Rattle.std.proofs.Common.{refl}
use Rattle.ring.proofs.lemmas.hmac.Keys.{tag_is}
use Rattle.ring.proofs.hmac.context.Tag.of_inner.Goals as goal

pub returns-clause-ok : goal.returns-clause-ok
returns-clause-ok c = λ a k m same inner h.
    let outer = c.finish_within.ensures.ok _ h in
    tag_is k m refl (rw same at outer) c.as_ref.ensures.bytes inner
