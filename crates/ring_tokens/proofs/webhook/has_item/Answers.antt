-- SPDX-License-Identifier: ISC
use Rattle.std.proofs.Common.{ap, refl, sym, ◌∙◌}
use Rattle.ring.specs.Prelude.{raised}
use Rattle.ring_tokens.specs.Webhook.{stripe_item}
use Rattle.ring_tokens.proofs.Items.{found_last, found_more}
use Rattle.ring_tokens.proofs.Rises.{pairs_last, pairs_more}
use Rattle.ring_tokens.proofs.webhook.has_item.Goals as goal

pub items-preserved : goal.items-preserved
items-preserved c = (
  found_more c.items.found c.is_named-found.result _ (stripe_item c.args.tag.now)
      c.in-Some.ensures.ok c.is_named-found.ensures.ok c.items.invariant.0,
  pairs_more _ c.in-Some.ensures.ok c.items.invariant.1
      (c.is_named-found.ensures.cost ∙ ap (raised c.items.meter 0) c.requires),
)

pub returns-clause-ok : goal.returns-clause-ok
returns-clause-ok c =
    found_last c.items.found c.is_named.result (stripe_item c.args.tag.now)
    (c.in_default.ensures.refused refl) c.is_named.ensures.ok ∙ sym c.items.invariant.0

pub returns-clause-cost : goal.returns-clause-cost
returns-clause-cost c =
    pairs_last _ _ (c.in_default.ensures.refused refl) c.items.invariant.1
    (c.is_named.ensures.cost ∙ ap (raised c.items.meter 0) c.requires)
