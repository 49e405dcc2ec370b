-- SPDX-License-Identifier: ISC
use Rattle.std.proofs.Common.{◌≡◌, ◌<◌, length, rules}
use Rattle.ring_bench.proofs.Runs.{none-answered, open-answered}
use Rattle.ring_bench.proofs.session.Session.finish.Goals as goal
use Rattle.ring_bench.proofs.session.Session.finish.Goals.{then-not-is_empty+in_ok-end_line}
use Rattle.ring_bench.proofs.session.Session.finish.Goals.{else-not-is_empty}

pub returns-clause-ok : goal.returns-clause-ok
returns-clause-ok g c =
    let size = c.args.self.line.ok.0 in
    elim c.if-not-is_empty.branch [
      | then-not-is_empty+in_ok-end_line w ↦
          (let some : 0 < length c.args.self.line.items = search rules in
          let kept = rw w.writer-is at c.flush.ensures.bytes in
          let ended = w.in_ok-end_line.ensures in
          rw w.self-is
          (open-answered c.args.self.line.items _ _ _ _ (c.requires, some)
          (ended.written, kept) ended.status))
      | else-not-is_empty w ↦
          (let none : length c.args.self.line.items ≡ 0 = search rules in
          rw w.self-is (none-answered _ _ _ _ none (rw w.writer-is at c.flush.ensures.bytes)))
    ]
