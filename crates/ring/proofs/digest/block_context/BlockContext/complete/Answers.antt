-- SPDX-License-Identifier: ISC
use Rattle.std.proofs.Common.{◌≡◌, ◌-◌, ◌≤◌, ◌++◌, append_assoc, arith, drop, length, refl}
use Rattle.std.proofs.Common.{length-append, take}
use Rattle.std.proofs.lemmas.List.{length-take, take-append-drop}
use Rattle.std.proofs.lemmas.Slice.{take-put_mid}
use Rattle.ring.specs.Prelude.{block_len}
use Rattle.ring.proofs.Rows.{block_len-most}
use Rattle.ring.proofs.lemmas.digest.Updating.{moved_none, moved_one}
use Rattle.ring.proofs.digest.block_context.BlockContext.complete.Goals as goal

pub returns-then-num_pending-eq0-clause-moved : goal.returns-then-num_pending-eq0-clause-moved
returns-then-num_pending-eq0-clause-moved c = moved_none refl (rw c.if-num_pending-eq0.true refl)

pub returns-clause-moved : goal.returns-clause-moved
returns-clause-moved c =
    let a = c.args.self.now.algorithm in
    let p = c.args.pending.now in
    let n = c.args.num_pending in
    let d = c.args.input.now in
    let k = c.block_len-block_len.result in
    let size : k ≡ block_len a = c.block_len-block_len.ensures in
    let fits : n ≤ length p = omega (arith, block_len-most a) in
    let head = take (k - n) d in
    let count : length head ≡ k - n = omega (arith, length-take (k - n) d) in
    let is = take-put_mid n (k - n) p head k (omega (arith, count)) fits in
    let long : length (take n p ++ head) ≡ block_len a =
    omega (arith, length-append (take n p) head, length-take n p, count, fits) in
    let all : (take n p ++ head) ++ drop (k - n) d ≡ take n p ++ d =
    rw (append_assoc, take-append-drop) refl in
    let moved = rw (c.copy_from_slice.ensures.after, c.split_at.ensures.front, is)
    at c.update.ensures.moved in
    rw c.split_at.ensures.back (moved_one moved c.update.ensures.short long all)
