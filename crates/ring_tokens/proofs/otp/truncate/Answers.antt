-- SPDX-License-Identifier: ISC
use Rattle.std.proofs.Common.{◌≡◌, ◌+◌, ◌-◌, ◌%◌, ◌^◌, ap, arith, bit_and, drop, length, take, ◌∙◌}
use Rattle.std.proofs.lemmas.Nat.{and_mask}
use Rattle.std.specs.Int.{from_be_bytes, w32}
use Rattle.std.specs.Prelude.{get_or}
use Rattle.ring_tokens.proofs.otp.truncate.Goals as goal

pub returns : goal.returns
returns c =
    let tag = c.args.tag.now in
    let last = get_or tag (length tag - 1) 0 in
    let four : bit_and last 15 + 4 - bit_and last 15 ≡ 4 = omega arith in
    let word = c.copy_from_slice.ensures.after
    ∙ ap (λ n. take n (drop (bit_and last 15) tag)) four
    ∙ ap (λ o. take 4 (drop o tag)) (and_mask last 4) in
    and_mask c.from_be_bytes.result 31
    ∙ ap (λ n. n % 2 ^ 31) (c.from_be_bytes.ensures ∙ ap (from_be_bytes w32) word)
