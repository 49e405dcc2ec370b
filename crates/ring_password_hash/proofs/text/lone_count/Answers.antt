-- SPDX-License-Identifier: ISC
use Rattle.std.proofs.Common.{◌∙◌, sym}
use Rattle.std.proofs.lemmas.List.{append_cancel_left}
use Rattle.ring_password_hash.proofs.text.lone_count.Goals as goal

pub returns-clause-refused : goal.returns-clause-refused
returns-clause-refused c = λ none d rest small e.
    c.count_before.ensures.refused none d rest small
    (append_cancel_left c.args.mark.now _ _ (sym c.in_ok-rest.ensures.ok ∙ e))
