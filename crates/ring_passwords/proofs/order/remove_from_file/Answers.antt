-- SPDX-License-Identifier: ISC
use Rattle.std.proofs.Common.{Global, None}
use Rattle.ring_passwords.specs.Order.{IsNotRemoved}
use Rattle.ring_passwords.proofs.Events.{Did-exits, Did-if-err, on_ok_weaker}
use Rattle.ring_passwords.proofs.Kept.{kept_if_not_removed}
use Rattle.ring_passwords.proofs.Ordered.{not_opened_links, not_opened_lock, not_opened_taken}
use Rattle.ring_passwords.proofs.Ordered.{not_removed_opened, not_removed_replaced}
use Rattle.ring_passwords.proofs.Ordered.{not_removed_unknown, opened, removed}
use Rattle.ring_passwords.proofs.Unsynced.{unsynced_if_not_removed}
use Rattle.ring_passwords.proofs.order.remove_from_file.Goals as goal

pub returns-in_err-look_for_links-clause-refused : goal.returns-in_err-look_for_links-clause-refused
returns-in_err-look_for_links-clause-refused g c =
    let path = c.args.path.now in
    let name = c.args.name.now in
    Did-exits (IsNotRemoved Global path name) c.from_residual.result c.from_residual.ensures.1
    (λ failed is. rw is (not_removed_opened path name _
    (not_opened_links path _ c.in_err-look_for_links.ensures.failure
    c.in_err-look_for_links.ensures.noted)))

pub returns-in_err-file-clause-refused : goal.returns-in_err-file-clause-refused
returns-in_err-file-clause-refused g c =
    let path = c.args.path.now in
    let name = c.args.name.now in
    Did-exits (IsNotRemoved Global path name) c.from_residual-in_err-file.result
    c.from_residual-in_err-file.ensures.1
    (λ failed is. rw is (not_removed_opened path name _ (not_opened_lock path _
    c.in_err-file.ensures.refused.0 c.in_ok-look_for_links.ensures.noted
    c.in_err-file.ensures.refused.1)))

pub returns-in_err-store-clause-refused : goal.returns-in_err-store-clause-refused
returns-in_err-store-clause-refused g c =
    let path = c.args.path.now in
    let name = c.args.name.now in
    let taken = rw c.in_ok-file.ensures.ok.0 at c.in_err-store.ensures.refused in
    Did-exits (IsNotRemoved Global path name) c.from_residual-in_err-store.result
    c.from_residual-in_err-store.ensures.1
    (λ failed is. rw is (not_removed_opened path name _ (not_opened_taken path _
    c.in_ok-look_for_links.ensures.noted c.in_ok-file.ensures.ok.1 taken)))

pub returns-in_err-remove-clause-refused : goal.returns-in_err-remove-clause-refused
returns-in_err-remove-clause-refused g c =
    let path = c.args.path.now in
    let name = c.args.name.now in
    let taken = rw c.in_ok-file.ensures.ok.0 at c.in_ok-store.ensures.ok in
    Did-exits (IsNotRemoved Global path name) c.from_residual-in_err-remove.result
    c.from_residual-in_err-remove.ensures.1
    (λ failed is. rw is (not_removed_unknown path name c.in_ok-store.store _
    c.in_err-remove.ensures.no_such_name c.in_err-remove.ensures.refused
    (opened path None c.in_ok-store.store c.in_ok-look_for_links.ensures.noted
    c.in_ok-file.ensures.ok.1 taken)))

pub returns-clause-ok : goal.returns-clause-ok
returns-clause-ok g c =
    let path = c.args.path.now in
    let taken = rw c.in_ok-file.ensures.ok.0 at c.in_ok-store.ensures.ok in
    let first = opened path None c.in_ok-store.store c.in_ok-look_for_links.ensures.noted
    c.in_ok-file.ensures.ok.1 taken in
    let replaced = rw c.in_ok-file.ensures.ok.0 at c.replace.ensures.ok in
    on_ok_weaker c.replace.result
    (λ last. removed path c.args.name.now c.in_ok-store.store _ c.in_ok-remove.ensures.removed
    c.in_ok-remove.ensures.ok first last) replaced

pub returns-clause-refused : goal.returns-clause-refused
returns-clause-refused g c =
    let path = c.args.path.now in
    let taken = rw c.in_ok-file.ensures.ok.0 at c.in_ok-store.ensures.ok in
    let first = opened path None c.in_ok-store.store c.in_ok-look_for_links.ensures.noted
    c.in_ok-file.ensures.ok.1 taken in
    let replaced = rw c.in_ok-file.ensures.ok.0 at c.replace.ensures.refused in
    Did-if-err (IsNotRemoved Global path c.args.name.now) c.replace.result
    (λ failed last. not_removed_replaced path c.args.name.now c.in_ok-store.store _ failed
    c.in_ok-remove.ensures.removed c.in_ok-remove.ensures.ok first last) replaced

pub returns-in_err-look_for_links-clause-unchanged
    : goal.returns-in_err-look_for_links-clause-unchanged
returns-in_err-look_for_links-clause-unchanged g c =
    kept_if_not_removed c.args.path.now Global c.args.name.now c.from_residual.result _ _
    (returns-in_err-look_for_links-clause-refused g c)

pub returns-in_err-file-clause-unchanged : goal.returns-in_err-file-clause-unchanged
returns-in_err-file-clause-unchanged g c =
    kept_if_not_removed c.args.path.now Global c.args.name.now c.from_residual-in_err-file.result
    _ _ (returns-in_err-file-clause-refused g c)

pub returns-in_err-store-clause-unchanged : goal.returns-in_err-store-clause-unchanged
returns-in_err-store-clause-unchanged g c =
    kept_if_not_removed c.args.path.now Global c.args.name.now c.from_residual-in_err-store.result
    _ _ (returns-in_err-store-clause-refused g c)

pub returns-in_err-remove-clause-unchanged : goal.returns-in_err-remove-clause-unchanged
returns-in_err-remove-clause-unchanged g c =
    kept_if_not_removed c.args.path.now Global c.args.name.now c.from_residual-in_err-remove.result
    _ _ (returns-in_err-remove-clause-refused g c)

pub returns-clause-unchanged : goal.returns-clause-unchanged
returns-clause-unchanged g c =
    kept_if_not_removed c.args.path.now Global c.args.name.now c.replace.result _ _
    (returns-clause-refused g c)

pub returns-in_err-look_for_links-clause-unsynced :
    goal.returns-in_err-look_for_links-clause-unsynced
returns-in_err-look_for_links-clause-unsynced g c =
    unsynced_if_not_removed c.args.path.now Global c.args.name.now c.from_residual.result _ _
    (returns-in_err-look_for_links-clause-refused g c)

pub returns-in_err-file-clause-unsynced : goal.returns-in_err-file-clause-unsynced
returns-in_err-file-clause-unsynced g c =
    unsynced_if_not_removed c.args.path.now Global c.args.name.now
    c.from_residual-in_err-file.result _ _
    (returns-in_err-file-clause-refused g c)

pub returns-in_err-store-clause-unsynced : goal.returns-in_err-store-clause-unsynced
returns-in_err-store-clause-unsynced g c =
    unsynced_if_not_removed c.args.path.now Global c.args.name.now
    c.from_residual-in_err-store.result _ _
    (returns-in_err-store-clause-refused g c)

pub returns-in_err-remove-clause-unsynced : goal.returns-in_err-remove-clause-unsynced
returns-in_err-remove-clause-unsynced g c =
    unsynced_if_not_removed c.args.path.now Global c.args.name.now
    c.from_residual-in_err-remove.result _ _
    (returns-in_err-remove-clause-refused g c)

pub returns-clause-unsynced : goal.returns-clause-unsynced
returns-clause-unsynced g c =
    unsynced_if_not_removed c.args.path.now Global c.args.name.now c.replace.result _ _
    (returns-clause-refused g c)
