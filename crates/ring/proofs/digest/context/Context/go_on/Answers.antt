-- SPDX-License-Identifier: ISC
use Rattle.std.proofs.Common.{◌∙◌, arith, refl, le-div_iff_mul-le}
use Rattle.std.proofs.lemmas.List.{take_rest}
use Rattle.ring.proofs.Rows.{block_len-positive}
use Rattle.ring.proofs.lemmas.digest.GoingOn.{HasRun, updated_rest}
use Rattle.ring.proofs.digest.context.Context.go_on.Goals as goal

pub returns-clause-updated : goal.returns-clause-updated
returns-clause-updated c =
    let size = c.block_len.ensures in
    let past = c.go_past.ensures in
    let empty = c.requires.ready (omega arith) in
    let run : HasRun c.args.self.now c.go_past.new.self c.args.piece.now c.args.count _ =
    record {
      size = rw size refl;
      fits = rw size ((le-div_iff_mul-le (block_len-positive _)).0 c.requires.fits);
      empty = empty;
      pending = past.pending ∙ empty;
      algorithm = past.algorithm;
      words = rw past.state c.requires.words;
      spare = rw past.state c.requires.spare;
      counted = past.count;
    } in
    updated_rest c.args.meter.now run (take_rest c.args.piece.now _) c.add-2.ensures.updated
