-- SPDX-License-Identifier: ISC
use Rattle.std.proofs.Common.{refl}
use Rattle.std.specs.Fmt.{decimal}
use Rattle.std.specs.Int.NonZero.{non_zero_u32_get}
use Rattle.ring_text.proofs.Cuts.{not_cut}
use Rattle.ring_text.proofs.Numbers.{count_cut}
use Rattle.ring_text.proofs.count.count_before.Goals as goal

pub returns-in_err-digits-clause-refused : goal.returns-in_err-digits-clause-refused
returns-in_err-digits-clause-refused c = λ _ d rest small e.
    not_cut c.args.end (decimal (non_zero_u32_get d)) rest c.args.text.now
    (c.in_err-digits.ensures.refused refl) e

pub returns-in_err-iterations-clause-refused : goal.returns-in_err-iterations-clause-refused
returns-in_err-iterations-clause-refused c = λ _ d rest small e.
    let cut = count_cut c.in_ok-digits.ensures.ok c.requires d rest small e in
    c.in_err-iterations.ensures.refused refl d small cut.0
