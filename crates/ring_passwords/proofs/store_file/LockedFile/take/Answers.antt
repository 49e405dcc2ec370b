-- SPDX-License-Identifier: ISC
use Rattle.ring_passwords.specs.Order.{IsNotTaken, IsTaken}
use Rattle.ring_passwords.proofs.Events.{Did-if-err, Did-if-ok}
use Rattle.ring_passwords.proofs.Ordered.{not_taken, taken_new}
use Rattle.ring_passwords.proofs.store_file.LockedFile.take.Goals as goal

pub returns-in-Err-clause-ok : goal.returns-in-Err-clause-ok
returns-in-Err-clause-ok g c =
    let path = c.args.self.now.path.now in
    Did-if-ok (IsTaken path c.args.given c.args.was_missing) c.new_or.result
    (λ store h. taken_new path c.args.given c.args.was_missing c.in-Err.failure store h.2 h.3
    h.0 h.1 c.in-Err.ensures.noted h.4 h.5 h.6)
    c.new_or.ensures.ok

pub returns-in-Err-clause-refused : goal.returns-in-Err-clause-refused
returns-in-Err-clause-refused g c =
    let path = c.args.self.now.path.now in
    Did-if-err (IsNotTaken path c.args.was_missing) c.new_or.result
    (λ other h. not_taken path c.args.was_missing c.in-Err.failure other c.in-Err.ensures.failure
    c.in-Err.ensures.noted h)
    c.new_or.ensures.refused
