-- SPDX-License-Identifier: ISC
use Rattle.std.proofs.Common.{ap, ◌∙◌}
use Rattle.std.specs.Prelude.{Some}
use Rattle.std.specs.Option.{option_copied}
use Rattle.ring_store.proofs.Entries.{nth_name-shown}
use Rattle.ring_store.proofs.records.Records.name_at.Goals as goal

pub returns : goal.returns
returns g c =
    ap Some c.deref.ensures.value
    ∙ (rw c.in_ok-nth.was at (nth_name-shown c.self.inside.by_name.entries c.self.view_is
    c.keys.ensures.ordered _ _ _ c.keys.ensures.rest c.nth.ensures.ran))

pub returns-in_err-nth : goal.returns-in_err-nth
returns-in_err-nth g c =
    ap option_copied c.from_residual.ensures
    ∙ (rw c.in_err-nth.was at (nth_name-shown c.self.inside.by_name.entries c.self.view_is
    c.keys.ensures.ordered _ _ _ c.keys.ensures.rest c.nth.ensures.ran))
