-- SPDX-License-Identifier: ISC
use Rattle.std.proofs.Common.{arith, drop}
use Rattle.std.proofs.lemmas.List.{length-drop, take_all}
use Rattle.ring_passwords.proofs.Outputs.{written_more, written_no_more}
use Rattle.ring_passwords.proofs.output.write_whole.Goals.{in-Ok, in-Err}
use Rattle.ring_passwords.proofs.output.write_whole.Goals as goal

pub writes-preserved : goal.writes-preserved
writes-preserved g c =
    let old = g.W.Write.contents c.args.writer.now in
    let now = g.W.Write.contents c.writes.writer in
    let new = g.W.Write.contents c.write.new.self in
    let bytes = c.args.bytes.now in
    let rest = c.writes.rest.now in
    elim c.match-write.branch [
      | in-Ok w ↦ written_more old now new bytes rest c.match-write.rest.now w.in-Ok.count
          c.writes.invariant w.in-Ok.ensures.bytes
          (rw w.rest-is (take_all _ (drop w.in-Ok.count rest)
          (omega (arith, length-drop w.in-Ok.count rest))))
      | in-Err w ↦ rw w.rest-is (written_no_more old now new bytes rest c.writes.invariant
          w.in-Err.ensures.bytes)
    ]
