-- SPDX-License-Identifier: ISC
use Rattle.std.proofs.Common.{◌≡◌, ◌≤◌, ◌+◌, ◌++◌, ℕ, List, arith, sym, ◌∙◌}
use Rattle.std.proofs.Common.{[], Some, length, length-take-le, rules, take}
use Rattle.std.proofs.lemmas.Grind.{common_steps}
use Rattle.std.proofs.lemmas.Option.{same_Some}
use Rattle.ring.specs.Prelude.{Algorithm, Digest, HasTaken, IsDigest, RawStandsFor, block_words}
use Rattle.ring.specs.Prelude.{bytes_of, counted_bytes, cut_off, digest_after, digest_named}
use Rattle.ring.specs.Prelude.{raw_digest_with, raw_message_len}
use Rattle.ring.proofs.lemmas.raw.Numbers.{raw_last, refused_raw, taken_raw}
use Rattle.std.proofs.lemmas.Result.{IfOk-weaker, on_ok_weaker}
use Rattle.ring.proofs.Rows.{block_len-most}
use Rattle.ring.proofs.Sets.{raw-is}
use Rattle.ring.proofs.raw.context.RawContext.finish_counted.Goals as goal

pub returns-clause-plain : goal.returns-clause-plain
unfolding RawStandsFor
returns-clause-plain c =
    let raw = c.args.self.now in
    let b = c.in-Some.block in
    let own = c.in-Some.ensures in
    let rest = take raw.num_pending raw.pending in
    let fits : raw.num_pending ≤ length raw.pending =
    omega (arith, own.pending, block_len-most b.algorithm) in
    let len = length-take-le raw.num_pending raw.pending fits in
    let n : raw_message_len raw ≡ cut_off (counted_bytes b + length rest) =
    omega (arith, len, own.numbers.counted) in
    let P : Digest → Type 0 =
    λ d. (p : List ℕ) → HasTaken b p → IsDigest d b.algorithm (p ++ rest) in
    let Q : Digest → Type 0 =
    λ d. bytes_of d ≡ digest_after b.algorithm (block_words b) rest
    (cut_off (counted_bytes b + length rest)) in
    let R : Digest → Type 0 =
    λ d. (a : Algorithm) → digest_named raw.algorithm ≡ Some a
    → bytes_of d ≡ raw_digest_with a raw [] (raw_message_len raw) in
    record {
      none = search rules;
      ok = λ a m h.
          let is =
          taken_raw raw a h.blocks own.algorithm own.numbers h.algorithm h.state h.count in
          let all : m ≡ h.blocks ++ rest = h.message in
          IfOk-weaker c.try_finish.result P (λ d. IsDigest d a m)
          (λ d made. rw (all, ← is.1) (made h.blocks is.0)) c.try_finish.ensures.ok;
      any = IfOk-weaker c.try_finish.result Q R (λ d is a named.
          let same = same_Some b.algorithm a (sym own.algorithm ∙ named) in
          grind (arith, common_steps, own.numbers.words)) c.try_finish.ensures.any;
      refused = search rules;
      refused_of = λ a m h.
          let is_a : b.algorithm ≡ a = same_Some b.algorithm a (sym own.algorithm ∙ h.algorithm) in
          grind (arith, common_steps, own.numbers.counted, is_a, refused_raw raw a m h fits);
      algorithm = search rules;
    }

pub returns-clause-cost_of : goal.returns-clause-cost_of
returns-clause-cost_of c = λ a m h.
    let raw = c.args.self.now in
    let own = c.in-Some.block.algorithm in
    let named = (raw-is raw a m h).algorithm in
    let same : own ≡ a = same_Some own a (sym c.in-Some.ensures.algorithm ∙ named) in
    let fits : raw.num_pending ≤ length raw.pending =
    omega (arith, c.in-Some.ensures.pending, block_len-most own) in
    let last = raw_last raw a m h fits in
    on_ok_weaker c.try_finish.result (λ cost. grind (arith, common_steps)) c.try_finish.ensures.cost
