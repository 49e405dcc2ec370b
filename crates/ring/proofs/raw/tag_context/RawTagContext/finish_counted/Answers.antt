-- SPDX-License-Identifier: ISC
use Rattle.std.proofs.Common.{◌≡◌, arith, rules, sym, ◌∙◌, ◌++◌}
use Rattle.std.proofs.lemmas.Option.{same_Some}
use Rattle.std.proofs.lemmas.Result.{IfOk-at_ok}
use Rattle.std.proofs.lemmas.Grind.{common_steps}
use Rattle.ring.specs.Prelude.{IsDigest, RawTagStandsFor, inner_block, outer_block}
use Rattle.ring.proofs.lemmas.hmac.Keys.{inner_len, length-outer_block}
use Rattle.ring.proofs.Sets.{raw-is}
use Rattle.ring.proofs.Rows.{block_len-most}
use Rattle.ring.proofs.raw.tag_context.RawTagContext.finish_counted.Goals as goal

pub returns-clause-plain : goal.returns-clause-plain
unfolding RawTagStandsFor
returns-clause-plain c =
    let inner = c.in-Some-finish_counted.ensures.plain in
    record {
      none = search rules;
      ok = λ a k m h.
          let own = c.in-Some.algorithm in
          let named = (raw-is c.args.self.now.inner a _ h.inner).algorithm in
          let is_a : own ≡ a = same_Some own a (sym c.in-Some.ensures.algorithm ∙ named) in
          let made = IfOk-at_ok (λ digest. IsDigest digest a (inner_block a k ++ m)) c.in-Ok.is
          (inner.ok a _ h.inner) in
          let outer = c.block_of-outer.ensures.stands (outer_block a k) in
          let tag = c.of_inner.ensures.ok a k m in
          grind (arith, common_steps, block_len-most a, length-outer_block a k);
      any = search rules;
      refused = search rules;
      refused_of = λ a k m h.
          rw (inner_len a k m, c.in-Ok.is) at (inner.refused_of a _ h.inner);
      algorithm = search rules;
    }
