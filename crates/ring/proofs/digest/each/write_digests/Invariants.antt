-- SPDX-License-Identifier: ISC
use Rattle.ring.proofs.lemmas.digest.Written.{AreBytes}
use Rattle.ring.proofs.digest.each.write_digests.Given as goal

abbrev pub invariant-digests : goal.invariant-digests
invariant-digests l = AreBytes l.digests l.i l.start l.end l.fn.out l.out
