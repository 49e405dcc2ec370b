-- SPDX-License-Identifier: ISC
use Rattle.std.proofs.Common.{◌≡◌, ◌<◌, length, refl, arith, rules}
use Rattle.ring_speed.proofs.Steps.{fold_chunks-one, words_next}
use Rattle.ring_speed.proofs.blocks.run_sha256.Goals as goal

pub steps-preserved : goal.steps-preserved
steps-preserved c =
    let some : 0 < 64 = omega arith in
    let is_len : length c.numbered-block.result ≡ 64 = search rules in
    let first = c.block_data_order_32_fastest_counted-in-steps.ensures.words in
    let second = c.block_data_order_32_fastest_counted.ensures.words in
    rw (words_next, ← c.steps.invariant, ← c.numbered-block.ensures)
    (rw (first, c.from_ref-in-steps.ensures, fold_chunks-one)
    (rw (second, c.from_ref.ensures, fold_chunks-one) refl))
