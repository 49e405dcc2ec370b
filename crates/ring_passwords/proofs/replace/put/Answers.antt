-- SPDX-License-Identifier: ISC
use Rattle.ring_passwords.specs.Event.{Rename}
use Rattle.ring_passwords.proofs.Events.{on_err, on_err_noted, on_ok_noted}
use Rattle.ring_passwords.proofs.Replaced.{is_put, not_given, not_locked, not_on_disk, not_private}
use Rattle.ring_passwords.proofs.Replaced.{not_renamed, not_written}
use Rattle.ring_passwords.proofs.replace.put.Goals as goal

pub returns-in_err-lock-clause-refused : goal.returns-in_err-lock-clause-refused
returns-in_err-lock-clause-refused g c =
    on_err c.from_residual.result
    (not_locked c.args.path.now c.args.new_path.now c.args.new.now c.args.text.now
    c.in_err-lock.ensures)

pub returns-in_err-set_mode-clause-refused : goal.returns-in_err-set_mode-clause-refused
returns-in_err-set_mode-clause-refused g c =
    on_err c.from_residual-in_err-set_mode.result
    (not_private c.args.path.now c.args.new_path.now c.args.new.now c.args.text.now
    c.in_ok-lock.ensures c.in_err-set_mode.ensures)

pub returns-in_err-write-clause-refused : goal.returns-in_err-write-clause-refused
returns-in_err-write-clause-refused g c =
    on_err c.from_residual-in_err-write.result
    (not_written c.args.path.now c.args.new_path.now c.args.new.now c.args.text.now
    c.in_ok-lock.ensures c.in_ok-set_mode.ensures c.in_err-write.ensures)

pub returns-in_err-keep_access-clause-refused : goal.returns-in_err-keep_access-clause-refused
returns-in_err-keep_access-clause-refused g c =
    on_err c.from_residual-in_err-keep_access.result
    (not_given c.args.path.now c.args.new_path.now c.args.new.now c.args.text.now
    c.in_ok-lock.ensures c.in_ok-set_mode.ensures c.in_ok-write.ensures
    c.in_err-keep_access.ensures.refused)

pub returns-in_err-sync-clause-refused : goal.returns-in_err-sync-clause-refused
returns-in_err-sync-clause-refused g c =
    on_err c.from_residual-in_err-sync.result
    (not_on_disk c.args.path.now c.args.new_path.now c.args.new.now c.args.text.now
    c.in_ok-lock.ensures c.in_ok-set_mode.ensures c.in_ok-write.ensures
    c.in_ok-keep_access.ensures.ok c.in_err-sync.ensures)

pub returns-clause-ok : goal.returns-clause-ok
returns-clause-ok g c =
    let path = c.args.path.now in
    let new_path = c.args.new_path.now in
    on_ok_noted c.rename.result (Rename new_path path) _ _ c.rename.ensures
    (λ renamed. is_put path new_path c.args.new.now c.args.text.now c.in_ok-lock.ensures
    c.in_ok-set_mode.ensures c.in_ok-write.ensures c.in_ok-keep_access.ensures.ok
    c.in_ok-sync.ensures renamed)

pub returns-clause-refused : goal.returns-clause-refused
returns-clause-refused g c =
    let path = c.args.path.now in
    let new_path = c.args.new_path.now in
    on_err_noted c.rename.result (Rename new_path path) _ _ c.rename.ensures
    (λ refused. not_renamed path new_path c.args.new.now c.args.text.now c.in_ok-lock.ensures
    c.in_ok-set_mode.ensures c.in_ok-write.ensures c.in_ok-keep_access.ensures.ok
    c.in_ok-sync.ensures refused)
