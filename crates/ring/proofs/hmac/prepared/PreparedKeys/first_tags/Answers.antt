-- SPDX-License-Identifier: ISC
use Rattle.ring.proofs.hmac.prepared.PreparedKeys.first_tags.Goals as goal

pub states_in_lanes-requires-clause-sized : goal.states_in_lanes-requires-clause-sized
states_in_lanes-requires-clause-sized g c = λ i s below. (c.requires.set i below).digest s

pub returns-clause-ok : goal.returns-clause-ok
returns-clause-ok g c = λ i key k m below start stands keyed.
    let s = key.inner.state in
    let digest = c.states_in_lanes.ensures i s below in
    c.finish_tags.ensures.ok i k m keyed (rw digest (start.digest s k stands))
