-- SPDX-License-Identifier: ISC
use Rattle.std.proofs.Common.{◌≡◌, ◌∙◌, false, refl, true}
use Rattle.ring_sums.specs.Tree.{Finds, IsReadOn, with_slash}
use Rattle.ring_sums.proofs.Walked.{not-opened, on_ok, opened, read-end, read-more}
use Rattle.ring_sums.proofs.tree.Walk.read.Goals as goal

pub returns-in-Err : goal.returns-in-Err
returns-in-Err g c =
    let slash : c.as_str-path.result.now ≡ with_slash c.args.directory.now =
    c.as_str-path.ensures.value ∙ c.in_ok-slashed.ensures in
    on_ok c.fail.result c.fail.ensures (not-opened c.args.directory.now c.as_str-path.result.now
    c.as_bytes.result.now c.in-Err.error slash c.as_bytes.ensures.value
    (record { output = refl; names = refl; files = refl; waiting = refl; whole = refl })
    c.in-Err.ensures)

pub reads-init : goal.reads-init
reads-init g c =
    opened c.args.directory.now c.as_str-path.result.now
    (c.as_str-path.ensures.value ∙ c.in_ok-slashed.ensures)
    (record { output = refl; names = refl; files = refl; waiting = refl; whole = refl })
    c.in-Ok.ensures

pub reads-preserved : goal.reads-preserved
reads-preserved g c =
    let more : Finds g.S.Steps.events c.reads.self c.read_some.new.self
    (IsReadOn true c.args.directory.now c.as_str-path.result.now) =
    rw c.if-not-branch.false at c.in_ok-read_some.ensures in
    read-more c.args.directory.now c.as_str-path.result.now
    (c.as_str-path.ensures.value ∙ c.in_ok-slashed.ensures) c.reads.invariant more

pub returns-then-not-branch : goal.returns-then-not-branch
returns-then-not-branch g c =
    let last : Finds g.S.Steps.events c.reads.self c.read_some.new.self
    (IsReadOn false c.args.directory.now c.as_str-path.result.now) =
    rw c.if-not-branch.true at c.in_ok-read_some.ensures in
    read-end c.args.directory.now c.as_str-path.result.now c.reads.invariant last
