-- SPDX-License-Identifier: ISC
use Rattle.std.proofs.Common.{◌≡◌, ◌*◌, length}
use Rattle.std.specs.Prelude.{◌||◌}
use Rattle.ring.specs.Prelude.{raised}
use Rattle.ring_tokens.specs.Webhook.{has_item, items_of, stripe_item}
use Rattle.ring_tokens.proofs.webhook.has_item.Given as goal

-- an item was found, or is one of the rest, and the rest is still to be compared
abbrev pub invariant-items : goal.invariant-items
invariant-items l =
    (has_item (stripe_item l.tag) l.items ≡ (l.found || has_item (stripe_item l.tag) l.rest))
    × (raised l.fn.meter 0 (32 * length (items_of l.items))
    ≡ raised l.meter 0 (32 * length (items_of l.rest)))

abbrev pub decreases-items : goal.decreases-items
decreases-items l = length l.rest
