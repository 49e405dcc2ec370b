-- SPDX-License-Identifier: ISC
use Rattle.std.proofs.Common.{arith, take-take}
use Rattle.std.proofs.lemmas.Grind.{common_steps, div_ceil_times}
use Rattle.ring.specs.Prelude.{derive_rounds, dk, output_len}
use Rattle.ring.proofs.lemmas.pbkdf2.Rounds.{even_rounds}
use Rattle.ring.proofs.Pieces.{joined_blocks-agree}
use Rattle.ring.proofs.Rows.{output_len-positive}
use Rattle.ring.proofs.laws.shorter_derivation_is_a_front.Goals as goal

pub returns : goal.returns
unfolding dk
returns c = λ a p s c m n le.
    let few = div_ceil_times m (output_len a) (output_len-positive a) in
    let many = div_ceil_times n (output_len a) (output_len-positive a) in
    let rounds = joined_blocks-agree (even_rounds a p s c) (derive_rounds a m) in
    let agree = rounds (derive_rounds a n) m in
    grind (arith, common_steps, take-take)
