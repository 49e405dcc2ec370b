-- SPDX-License-Identifier: ISC
use Rattle.std.proofs.Math.Nat.{add_assoc}
use Rattle.ring_core.proofs.digest.sha1.window.next_four_rounds.Goals as goal

pub returns : goal.returns
returns g c = λ i h b before.
    let two = c.next_two_rounds-v.ensures i h b before in
    simp add_assoc at (c.next_two_rounds.ensures i h b two)
