-- SPDX-License-Identifier: ISC
use Rattle.std.proofs.Common.{◌≡◌, ◌∙◌, refl, sym, take}
use Rattle.std.proofs.lemmas.Bool.{true≢false}
use Rattle.std.specs.IoError.{error_kind}
use Rattle.std.specs.declared.io.ErrorKind.TheVariants.{Interrupted}
use Rattle.ring_sums.proofs.Walked.{interrupted, part-read, read-failed}
use Rattle.ring_sums.proofs.tree.Walk.read_some.Goals as goal

pub returns-then-is_interruption : goal.returns-then-is_interruption
returns-then-is_interruption g c =
    interrupted c.args.directory.now c.args.path.now c.in-Err.error
    (c.is_interruption.ensures.0 c.if-is_interruption.true)
    (record { output = refl; names = refl; files = refl; waiting = refl; whole = refl })
    c.in-Err.ensures.noted

pub returns-in_ok-take_names-in-Ok : goal.returns-in_ok-take_names-in-Ok
returns-in_ok-take_names-in-Ok g c =
    part-read c.args.directory.now c.args.path.now (take c.in-Ok.len c.read.new.room) _ refl
    (record { output = refl; names = refl; files = refl; waiting = refl; whole = refl })
    c.in-Ok.ensures.noted c.in_ok-take_names-in-Ok.ensures

pub returns-in_ok-fail-in-Err : goal.returns-in_ok-fail-in-Err
returns-in_ok-fail-in-Err g c =
    let other : error_kind c.in-Err.error ≡ Interrupted → ⊥ = λ is.
    true≢false (sym (c.is_interruption.ensures.1 is) ∙ c.if-is_interruption.false) in
    read-failed c.args.directory.now c.args.path.now c.as_bytes.result.now c.in-Err.error
    c.as_bytes.ensures.value other
    (record { output = refl; names = refl; files = refl; waiting = refl; whole = refl })
    c.in-Err.ensures.noted c.in_ok-fail-in-Err.ensures
