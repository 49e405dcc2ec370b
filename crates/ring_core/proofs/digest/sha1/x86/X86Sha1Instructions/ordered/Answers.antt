-- SPDX-License-Identifier: ISC
use Rattle.std.proofs.Common.{refl}
use Rattle.ring_core.proofs.FourWords.{four_read}
use Rattle.ring_core.proofs.digest.sha1.x86.X86Sha1Instructions.ordered.Goals as goal

pub returns : goal.returns
returns c = rw (four_read c.args.words c.fits-words.0) refl
