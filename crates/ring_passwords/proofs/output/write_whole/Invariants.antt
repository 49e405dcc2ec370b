-- SPDX-License-Identifier: ISC
use Rattle.ring_passwords.proofs.Outputs.{AppendsBefore}
use Rattle.ring_passwords.proofs.output.write_whole.Given as goal

-- all but the rest is written so far
abbrev pub invariant-writes : goal.invariant-writes
invariant-writes g l =
    AppendsBefore (g.W.Write.contents l.fn.writer) (g.W.Write.contents l.writer) l.bytes l.rest
