-- SPDX-License-Identifier: ISC
use Rattle.std.proofs.Common.{ap, length, sym, ◌∙◌}
use Rattle.std.specs.Prelude.{is_ok}
use Rattle.ring_text.proofs.LowerHex.{hex_read, hex_written}
use Rattle.ring_text.proofs.lower_hex.fill_from_hex.Goals as goal

pub returns-then-lacks_upper_case-clause-ok : goal.returns-then-lacks_upper_case-clause-ok
returns-then-lacks_upper_case-clause-ok c = λ told.
    hex_read c.args.digits.now (length c.args.out.now) _ _ c.decode_to_slice.ensures.value
    (sym c.lacks_upper_case.ensures ∙ c.if-lacks_upper_case.true)
    (sym c.is_ok.ensures.value ∙ told)

pub returns-then-lacks_upper_case-clause-refused
    : goal.returns-then-lacks_upper_case-clause-refused
returns-then-lacks_upper_case-clause-refused c = λ bad bytes h len e.
    let read = hex_written c.args.digits.now (length c.args.out.now) _ _
    c.decode_to_slice.ensures.value bytes h len e in
    bad (c.is_ok.ensures.value ∙ ap is_ok read.0)
