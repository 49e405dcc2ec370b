-- SPDX-License-Identifier: ISC
use Rattle.std.proofs.Common.{arith, slice_index_or, sym}
use Rattle.std.proofs.lemmas.Grind.{get_or_default_zero}
use Rattle.std.proofs.lemmas.List.Edits.{map_over_more}
use Rattle.ring_core.specs.Prelude.{◌⊕◌}
use Rattle.ring_core.proofs.bb.xor_assign.Goals as goal

pub bytes-preserved : goal.bytes-preserved
bytes-preserved c =
    let x = slice_index_or c.bytes.a c.bytes.i 0 in
    map_over_more (λ x. x ⊕ c.args.b) c.args.a.now c.bytes.a c.bytes.i x c.bytes-test.true
    c.bytes.invariant (sym (get_or_default_zero c.bytes.a c.bytes.i x (omega arith)))
