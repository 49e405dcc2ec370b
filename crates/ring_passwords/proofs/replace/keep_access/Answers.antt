-- SPDX-License-Identifier: ISC
use Rattle.std.proofs.lemmas.Result.{on_err_weaker, on_ok_weaker}
use Rattle.ring_passwords.proofs.Events.{on_err}
use Rattle.ring_passwords.proofs.Replaced.{access_kept, access_refused, not_looked_at}
use Rattle.ring_passwords.proofs.replace.keep_access.Goals as goal

pub returns-in_err-old-clause-refused : goal.returns-in_err-old-clause-refused
returns-in_err-old-clause-refused g c =
    on_err c.from_residual.result
    (not_looked_at c.args.path.now c.args.new.now c.in_err-old.ensures)

pub returns-in-Some-clause-ok : goal.returns-in-Some-clause-ok
returns-in-Some-clause-ok g c =
    let looked = rw c.in-Some.is at c.in_ok-old.ensures in
    on_ok_weaker c.give_access.result
    (λ did. access_kept c.args.path.now c.args.new.now c.in-Some.old looked did)
    c.give_access.ensures.ok

pub returns-in-Some-clause-refused : goal.returns-in-Some-clause-refused
returns-in-Some-clause-refused g c =
    let looked = rw c.in-Some.is at c.in_ok-old.ensures in
    on_err_weaker c.give_access.result
    (λ did. access_refused c.args.path.now c.args.new.now c.in-Some.old looked did)
    c.give_access.ensures.refused
