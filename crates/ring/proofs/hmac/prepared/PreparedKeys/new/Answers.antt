-- SPDX-License-Identifier: ISC
use Rattle.ring.proofs.hmac.prepared.PreparedKeys.new.Goals as goal

pub returns : goal.returns
returns g c = λ i key k m below start stands.
    let s = key.inner.state in
    let inner = c.states_in_lanes.ensures i s below in
    let outer = c.states_in_lanes-2.ensures i s below in
    rw (inner, outer) (start.keyed s s k stands)
