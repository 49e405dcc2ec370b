-- SPDX-License-Identifier: ISC
use Rattle.ring_sums.proofs.Listed.{written-none}
use Rattle.ring_sums.proofs.check.answer.Goals as goal

pub returns-then-is_left_out-clause-said : goal.returns-then-is_left_out-clause-said
returns-then-is_left_out-clause-said g c = written-none
