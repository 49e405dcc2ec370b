-- SPDX-License-Identifier: ISC
use Rattle.std.proofs.Common.{◌≡◌, ◌∙◌, ap, length}
use Rattle.ring.specs.Prelude.{BlockContext, context_algorithm, key_algorithm}
use Rattle.ring.proofs.Lengths.{counted_end, counted_first, counted_more}
use Rattle.ring.proofs.hmac.key.Key.inner_digest.Goals as goal

pub returns-clause-cost : goal.returns-clause-cost
returns-clause-cost c =
    let context = c.resume-context.ensures in
    let begun : context_algorithm c.resume-context.result ≡ key_algorithm c.args.self.now =
    context.algorithm ∙ ap (λ (b : BlockContext). b.algorithm) c.clone.ensures in
    let salted = c.update_counted.ensures in
    let numbered = c.update_counted-2.ensures in
    let same = salted.plain.algorithm ∙ begun in
    let n = length c.args.front.now in
    let first = counted_first n begun context.pending salted.plain.pending salted.cost in
    let next = counted_more (length c.args.rest.now) same first numbered.plain.pending
    numbered.cost in
    counted_end (numbered.plain.algorithm ∙ same) next c.final_state.ensures.cost
