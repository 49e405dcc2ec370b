-- SPDX-License-Identifier: ISC
use Rattle.ring_sums.proofs.WrittenLists.{lists-back}
use Rattle.ring_sums.proofs.laws.lists_read_back.Goals as goal

pub returns : goal.returns
returns c = λ asked is_standard_input is_tagged is_binary.
    lists-back asked is_standard_input is_binary is_tagged
