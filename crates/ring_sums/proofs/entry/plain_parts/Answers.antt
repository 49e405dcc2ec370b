-- SPDX-License-Identifier: ISC
use Rattle.std.proofs.Common.{ap, arith, sym, ℕ, ◌*◌, ◌+◌, ◌∙◌}
use Rattle.std.specs.Option.{option_or}
use Rattle.std.proofs.lemmas.Bool.{true≢false}
use Rattle.std.proofs.lemmas.List.{take_rest}
use Rattle.std.proofs.lemmas.Option.{none-some, same_Some}
use Rattle.ring.specs.Prelude.{output_len}
use Rattle.ring_sums.proofs.PlainForm.{plain-algorithm, plain-known, plain-len, plain-long}
use Rattle.ring_sums.proofs.PlainForm.{plain-made, plain-white}
use Rattle.ring_sums.proofs.entry.plain_parts.Goals as goal

pub returns-in_err-len : goal.returns-in_err-len
returns-in_err-len c = rw c.from_residual.ensures λ parts form.
    none-some _ (c.in_err-len.ensures ∙ plain-known form)

pub returns-in_err-algorithm : goal.returns-in_err-algorithm
returns-in_err-algorithm c = rw c.from_residual-in_err-algorithm.ensures λ parts form.
    none-some parts.0 (c.in_err-algorithm.ensures
    ∙ ap (option_or c.args.asked) c.algorithm_of_count.ensures
    ∙ plain-algorithm form c.in_ok-len.ensures)

pub returns-then-len-output_len : goal.returns-then-len-output_len
returns-then-len-output_len c = λ parts form.
    let same = same_Some c.in_ok-algorithm.algorithm parts.0 (c.in_ok-algorithm.ensures
    ∙ ap (option_or c.args.asked) c.algorithm_of_count.ensures
    ∙ plain-algorithm form c.in_ok-len.ensures) in
    c.if-len-output_len.true (sym (plain-len form c.in_ok-len.ensures) ∙ form.count
    ∙ ap (λ z. 2 * output_len z) (sym same) ∙ ap (λ (n : ℕ). 2 * n) (sym c.output_len.ensures))

pub returns-then-line-len : goal.returns-then-line-len
returns-then-line-len c = λ parts form.
    let long = plain-long form c.in_ok-len.ensures in omega (arith, long)

pub returns-then-not-is_white : goal.returns-then-not-is_white
returns-then-not-is_white c = λ parts form.
    true≢false (sym (plain-white form c.in_ok-len.ensures) ∙ sym c.is_white.ensures
    ∙ c.if-not-is_white.true)

pub returns : goal.returns
returns c =
    rw (take_rest c.args.line.now (c.in_ok-len.len + 1))
    (plain-made c.in_ok-len.len c.in_ok-len.ensures
    (c.in_ok-algorithm.ensures ∙ ap (option_or c.args.asked) c.algorithm_of_count.ensures)
    (c.if-len-output_len.false ∙ ap (λ (n : ℕ). 2 * n) c.output_len.ensures)
    c.if-line-len.false (sym c.is_white.ensures ∙ c.if-not-is_white.false))
