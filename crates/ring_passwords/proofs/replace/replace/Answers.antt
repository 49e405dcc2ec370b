-- SPDX-License-Identifier: ISC
use Rattle.std.proofs.Common.{false, true}
use Rattle.std.proofs.lemmas.Result.{on_ok_weaker}
use Rattle.ring_passwords.specs.Replace.{IsNotReplaced}
use Rattle.ring_passwords.proofs.Events.{Did-exits, Did-if-err}
use Rattle.ring_passwords.proofs.Replaced.{is_replaced, is_undone, not_replaced, not_synced}
use Rattle.ring_passwords.proofs.replace.replace.Goals as goal

pub returns-in_err-new-clause-refused : goal.returns-in_err-new-clause-refused
returns-in_err-new-clause-refused g c =
    Did-exits (IsNotReplaced c.args.path.now c.args.text.now) c.from_residual.result
    c.from_residual.ensures.1
    (λ failed is. rw is
    (not_replaced c.args.path.now c.args.text.now _ c.in_err-new.ensures.refused))

pub returns-in-Ok-clause-ok : goal.returns-in-Ok-clause-ok
returns-in-Ok-clause-ok g c =
    let new = c.in_ok-new.new in
    let put = rw c.as_str.ensures.value at c.in-Ok.ensures.ok in
    on_ok_weaker c.sync_folder.result
    (λ notes. is_replaced c.args.path.now c.args.text.now new.folder _ new.file true
    c.in_ok-new.ensures.ok put notes)
    c.sync_folder.ensures.ok

pub returns-in-Ok-clause-refused : goal.returns-in-Ok-clause-refused
returns-in-Ok-clause-refused g c =
    let new = c.in_ok-new.new in
    let put = rw c.as_str.ensures.value at c.in-Ok.ensures.ok in
    Did-if-err (IsNotReplaced c.args.path.now c.args.text.now) c.sync_folder.result
    (λ failed h. not_synced c.args.path.now c.args.text.now failed h.0
    (is_replaced c.args.path.now c.args.text.now new.folder _ new.file false
    c.in_ok-new.ensures.ok put h.1))
    c.sync_folder.ensures.refused

pub returns-clause-refused : goal.returns-clause-refused
returns-clause-refused g c =
    let new = c.in_ok-new.new in
    let tried = rw c.as_str.ensures.value at c.in-Err.ensures.refused in
    let removed = rw c.as_str-in-Err.ensures.value at c.remove.ensures in
    is_undone c.args.path.now c.args.text.now c.not_replaced.result new.folder _ new.file _
    (c.in-Err.error, c.not_replaced.ensures) c.in_ok-new.ensures.ok tried removed
