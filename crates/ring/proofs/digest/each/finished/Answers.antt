-- SPDX-License-Identifier: ISC
use Rattle.std.proofs.lemmas.Grind.{common_steps}
use Rattle.std.proofs.Common.{◌≡◌, ◌∙◌, ap, arith, length}
use Rattle.std.proofs.Math.Nat.{div_self}
use Rattle.ring.specs.Prelude.{Digest, bytes_of, digest_of, padded_blocks, words_at}
use Rattle.ring.proofs.lemmas.digest.LaneBlocks.{words_at-all, words_at-next}
use Rattle.ring.proofs.Lanes.{one_chained}
use Rattle.ring.proofs.Costs.{raised-raised}
use Rattle.ring.proofs.lemmas.digest.Finishing.{front_of}
use Rattle.ring.proofs.Rows.{block_len-positive}
use Rattle.ring.proofs.digest.each.finished.Goals as goal

pub rest-preserved : goal.rest-preserved
rest-preserved g c =
    grind (
      arith,
      common_steps,
      block_len-positive,
      div_self,
      one_chained,
      raised-raised,
      words_at-next,
    )

pub returns-clause-ok : goal.returns-clause-ok
unfolding digest_of
returns-clause-ok g c =
    let a = c.args.algorithm in
    let m = c.args.message.now in
    let out = c.output_of.ensures in
    let last : c.rest.index ≡ padded_blocks a (length m) = omega arith in
    record {
      algorithm = ap (λ (d : Digest). d.algorithm) c.new.ensures;
      bytes = ap bytes_of c.new.ensures
          ∙ front_of _ c.rest.state a _ out.bytes out.count c.rest.invariant.sized
          (c.rest.invariant.words ∙ ap (words_at a m) last ∙ words_at-all a m);
    }
