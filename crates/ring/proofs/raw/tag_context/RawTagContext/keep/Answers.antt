-- SPDX-License-Identifier: ISC
use Rattle.std.proofs.Common.{ap, refl}
use Rattle.ring.specs.Prelude.{raw_chaining, tag_of_inner}
use Rattle.ring.proofs.raw.tag_context.RawTagContext.keep.Goals as goal

pub returns-then-counts_key_block-clause-any : goal.returns-then-counts_key_block-clause-any
returns-then-counts_key_block-clause-any c = λ kept.
    let added = c.keep.ensures.any kept in
    record {
      inner = added;
      outer = refl;
      tag = λ a named y n.
          ap (tag_of_inner a (raw_chaining a c.args.self.now.outer)) (added.digest a named y n);
    }
