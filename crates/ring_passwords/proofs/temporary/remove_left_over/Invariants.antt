-- SPDX-License-Identifier: ISC
use Rattle.ring_passwords.specs.Event.{Did}
use Rattle.ring_passwords.specs.Replace.{AreVisited}
use Rattle.ring_passwords.proofs.temporary.remove_left_over.Given as goal

-- so many names are read so far, and nothing else was done
abbrev pub invariant-names : goal.invariant-names
invariant-names g l =
    Did (g.S.Steps.events l.fn.steps) (g.S.Steps.events l.steps)
    (AreVisited l.path l.folder l._read)
