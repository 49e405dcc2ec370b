-- SPDX-License-Identifier: ISC
use Rattle.std.proofs.Common.{◌≡◌, length, take, arith}
use Rattle.std.proofs.lemmas.Grind.{common_steps}
use Rattle.std.proofs.lemmas.List.{take-map}
use Rattle.ring_core.specs.Prelude.{◌⊕◌}
use Rattle.ring.specs.Prelude.{block_len, masked}
use Rattle.ring.proofs.lemmas.hmac.Keys.{taken_block}
use Rattle.ring.proofs.Rows.{block_len-most}
use Rattle.ring.proofs.hmac.key.masked_state.Goals as goal

pub returns : goal.returns
returns c =
    let a = c.args.algorithm.now in
    let key_block = c.args.key_block.now in
    let new = c.new-context.ensures in
    let update = c.update.ensures in
    let bytes : take c.block_len-block_len.result c.xor_assign.new.a
    ≡ masked c.args.mask (take (block_len a) key_block) =
    rw (c.xor_assign.ensures, c.block_len-block_len.ensures)
    (take-map (λ x. x ⊕ c.args.mask) (block_len a) key_block) in
    let size : length (take c.block_len-block_len.result c.xor_assign.new.a) ≡ block_len a =
    grind (arith, common_steps, block_len-most a) in
    let t =
    taken_block update.moved update.short new.algorithm size bytes new.stands new.counted in
    grind (arith, t, update.moved.algorithm, new.algorithm)
