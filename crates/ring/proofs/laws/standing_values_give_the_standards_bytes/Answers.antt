-- SPDX-License-Identifier: ISC
use Rattle.std.proofs.lemmas.Grind.{common_steps}
use Rattle.std.proofs.Common.{◌++◌, arith}
use Rattle.ring.specs.Prelude.{RawStandsFor, RawTagStandsFor, StandsFor}
use Rattle.ring.specs.Prelude.{signing_algorithm}
use Rattle.ring.proofs.lemmas.digest.Finishing.{digest_with-is}
use Rattle.ring.proofs.lemmas.hmac.Keys.{inner_len, outer_taken, tag_of_inner-is}
use Rattle.ring.proofs.laws.standing_values_give_the_standards_bytes.Goals as goal

pub returns-clause-tag_context : goal.returns-clause-tag_context
unfolding StandsFor
returns-clause-tag_context c = λ x k m y h.
    let a = signing_algorithm x in
    let outer = outer_taken x.outer a _ x.same h.outer in
    let taken = h.inner.taken in
    let inside = digest_with-is a _ _ _ y taken.whole taken.words h.inner.message in
    tag_of_inner-is a k (m ++ y) outer.0 outer.1
    (grind (arith, common_steps, inside, inner_len a k (m ++ y)))

pub returns-clause-raw_tag_context : goal.returns-clause-raw_tag_context
unfolding RawTagStandsFor RawStandsFor
returns-clause-raw_tag_context c = λ raw a k m y h.
    let inner = h.inner in
    let inside = digest_with-is a _ _ _ y inner.state.whole inner.state.words inner.message in
    tag_of_inner-is a k (m ++ y) h.outer.whole h.outer.words
    (grind (arith, common_steps, inside, inner_len a k (m ++ y)))
