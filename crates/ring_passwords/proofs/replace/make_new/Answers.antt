-- SPDX-License-Identifier: ISC
use Rattle.std.proofs.Common.{◌≡◌, length, rules}
use Rattle.std.specs.Prelude.{is_ok}
use Rattle.std.specs.Result.{result_ok}
use Rattle.ring_passwords.specs.Event.{Create, OpenFolder, Random}
use Rattle.ring_passwords.specs.Replace.{IsBefore, IsNotMade}
use Rattle.ring_passwords.proofs.Events.{Did-exits, Did-more, Did-nothing, Did-one}
use Rattle.ring_passwords.proofs.Replaced.{granted_is, is_made, no_memory, opened_before}
use Rattle.ring_passwords.proofs.Replaced.{stops_before}
use Rattle.ring_passwords.proofs.replace.make_new.Goals as goal

pub returns-in_err-folder-clause-refused : goal.returns-in_err-folder-clause-refused
returns-in_err-folder-clause-refused g c =
    let path = c.args.path.now in
    Did-exits (IsNotMade path) c.from_residual.result
    c.from_residual.ensures.1
    (λ failed is. rw is (stops_before path c.open_folder.result _
    (λ r. OpenFolder c.folder_of-folder_path.result.now (result_ok r)) c.in_err-folder.ensures
    (Did-nothing (IsBefore path) _) c.open_folder.ensures (λ e. tt) (λ e. tt)))

pub returns-in_err-granted-clause-refused : goal.returns-in_err-granted-clause-refused
returns-in_err-granted-clause-refused g c =
    let path = c.args.path.now in
    let folder = granted_is c.open_folder.result c.in_ok-folder.folder c.in_ok-folder.ensures in
    let opened = rw (folder, c.folder_of-folder_path.ensures) at c.open_folder.ensures in
    let swept = rw c.folder_of-folder_path.ensures at c.remove_left_over.ensures in
    let before = opened_before path c.in_ok-folder.folder opened swept in
    Did-exits (IsNotMade path) c.from_residual-in_err-granted.result
    c.from_residual-in_err-granted.ensures.1
    (λ failed is. rw is (stops_before path c.random.result _
    (λ r. Random c.random.new.bytes (is_ok r)) c.in_err-granted.ensures before
    c.random.ensures (λ e. tt) (λ e. tt)))

pub returns-in_err-new_path-clause-refused : goal.returns-in_err-new_path-clause-refused
returns-in_err-new_path-clause-refused g c =
    let path = c.args.path.now in
    let folder = granted_is c.open_folder.result c.in_ok-folder.folder c.in_ok-folder.ensures in
    let opened = rw (folder, c.folder_of-folder_path.ensures) at c.open_folder.ensures in
    let swept = rw c.folder_of-folder_path.ensures at c.remove_left_over.ensures in
    let before = opened_before path c.in_ok-folder.folder opened swept in
    let drawn = Did-more (IsBefore path) before (Did-one (IsBefore path)
    {e = Random c.random.new.bytes (is_ok c.random.result)} c.random.ensures tt) in
    Did-exits (IsNotMade path) c.from_residual-in_err-new_path.result
    c.from_residual-in_err-new_path.ensures.1
    (λ failed is. no_memory path failed is drawn)

pub returns-in_err-file-clause-refused : goal.returns-in_err-file-clause-refused
returns-in_err-file-clause-refused g c =
    let path = c.args.path.now in
    let folder = granted_is c.open_folder.result c.in_ok-folder.folder c.in_ok-folder.ensures in
    let opened = rw (folder, c.folder_of-folder_path.ensures) at c.open_folder.ensures in
    let swept = rw c.folder_of-folder_path.ensures at c.remove_left_over.ensures in
    let before = opened_before path c.in_ok-folder.folder opened swept in
    let drawn = Did-more (IsBefore path) before (Did-one (IsBefore path)
    {e = Random c.random.new.bytes (is_ok c.random.result)} c.random.ensures tt) in
    Did-exits (IsNotMade path) c.from_residual-in_err-file.result
    c.from_residual-in_err-file.ensures.1
    (λ failed is. rw is (stops_before path c.create.result _
    (λ r. Create c.as_str.result.now (result_ok r)) c.in_err-file.ensures drawn
    c.create.ensures (λ e. tt) (λ e. tt)))

pub returns-clause-ok : goal.returns-clause-ok
returns-clause-ok g c =
    let path = c.args.path.now in
    let folder = granted_is c.open_folder.result c.in_ok-folder.folder c.in_ok-folder.ensures in
    let random = granted_is c.random.result c.in_ok-granted.field-0 c.in_ok-granted.ensures in
    let file = granted_is c.create.result c.in_ok-file.file c.in_ok-file.ensures in
    let len : length c.random.new.bytes ≡ 8 = search rules in
    is_made path c.in_ok-folder.folder _ c.in_ok-file.file c.random.new.bytes len
    c.in_ok-new_path.ensures.ok
    (rw (folder, c.folder_of-folder_path.ensures) at c.open_folder.ensures)
    (rw c.folder_of-folder_path.ensures at c.remove_left_over.ensures)
    (rw random at c.random.ensures)
    (rw (file, c.as_str.ensures.value) at c.create.ensures)
