-- SPDX-License-Identifier: ISC
use Rattle.std.proofs.Common.{◌≡◌, ◌+◌, ℕ, [], ap, append-nil, append_assoc, arith, length}
use Rattle.std.proofs.Common.{refl, rules, ◌∙◌}
use Rattle.std.proofs.lemmas.Grind.{common_steps}
use Rattle.ring_core.proofs.Costs.{raised-raised}
use Rattle.ring.specs.Prelude.{BlockContext, block_len, counted_bytes, cut_off, key_algorithm}
use Rattle.ring.proofs.Lengths.{HasCounted, counted_end}
use Rattle.ring.proofs.Rows.{block_len-most}
use Rattle.ring.proofs.lemmas.digest.Updating.{counted_moved, digest_moved, moved_count}
use Rattle.ring.proofs.hmac.sign_counted.Goals as goal

pub returns-clause-cost : goal.returns-clause-cost
returns-clause-cost c =
    let a = key_algorithm c.args.key.now in
    let n = length c.args.message.now in
    let same = ap (λ (b : BlockContext). b.algorithm) c.clone-inner.ensures in
    let update = c.update-rest.ensures in
    let count = moved_count update.moved update.short in
    let taken : HasCounted a (length c.update-rest.result.now) n c.args.meter.now _ =
    record { pending = rw same at count.1; cost = rw (count.0, same) at update.moved.cost } in
    let ended = c.finish_within-digest.ensures.cost in
    let inner = counted_end (update.moved.algorithm ∙ same) taken ended in
    grind (arith, raised-raised)

pub returns-clause-plain : goal.returns-clause-plain
returns-clause-plain c =
    let key = c.args.key.now in
    let m = c.args.message.now in
    let a = key_algorithm key in
    let b = c.clone-inner.result in
    let n = c.update-rest.new.self in
    let rest = c.update-rest.result.now in
    let moved = c.update-rest.ensures.moved in
    let whole : ℕ = block_len a + length m in
    let counted = counted_moved [] 0 m moved (omega arith) refl in
    let len : cut_off (counted_bytes n + length rest) ≡ whole =
    grind (arith, counted, key.inner_block, block_len-most a) in
    let after = rw (append-nil rest, append-nil m) at (digest_moved b n m moved [] whole) in
    record {
      ok = λ k stands. grind (arith, append_assoc);
      any = grind (arith, common_steps, key.same);
      refused = search rules;
      algorithm = search rules;
    }
