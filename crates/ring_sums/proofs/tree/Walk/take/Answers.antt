-- SPDX-License-Identifier: ISC
use Rattle.std.proofs.Common.{refl}
use Rattle.ring_sums.proofs.Walked.{looked-failed, looked-told, on_ok}
use Rattle.ring_sums.specs.declared.steps.Fault.TheVariants as fault
use Rattle.ring_sums.proofs.tree.Walk.take.Goals as goal

pub returns-in-Err : goal.returns-in-Err
returns-in-Err g c =
    on_ok c.fail.result c.fail.ensures (looked-failed c.args.path.now c.as_bytes.result.now
    c.in-Err.error c.as_bytes.ensures.value
    (record { output = refl; names = refl; files = refl; waiting = refl; whole = refl })
    c.in-Err.ensures)

pub returns-in_ok-tell-in-Link : goal.returns-in_ok-tell-in-Link
returns-in_ok-tell-in-Link g c =
    looked-told c.args.path.now c.as_bytes-in-Link.result.now c.in-Ok.found fault.Link
    c.as_bytes-in-Link.ensures.value (rw c.in-Link.is) refl (rw c.in-Link.is) (rw c.in-Link.is)
    (record { output = refl; names = refl; files = refl; waiting = refl; whole = refl })
    c.in-Ok.ensures c.in_ok-tell-in-Link.ensures

pub returns-in_ok-tell-in-Other : goal.returns-in_ok-tell-in-Other
returns-in_ok-tell-in-Other g c =
    looked-told c.args.path.now c.as_bytes-in-Other.result.now c.in-Ok.found fault.NotRegular
    c.as_bytes-in-Other.ensures.value (rw c.in-Other.is) refl (rw c.in-Other.is)
    (rw c.in-Other.is)
    (record { output = refl; names = refl; files = refl; waiting = refl; whole = refl })
    c.in-Ok.ensures c.in_ok-tell-in-Other.ensures
