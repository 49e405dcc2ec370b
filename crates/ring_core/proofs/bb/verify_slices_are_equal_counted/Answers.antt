-- SPDX-License-Identifier: ISC
use Rattle.std.proofs.Common.{◌≡◌, ℕ, ◌+◌, List, take, slice_index_or, refl, arith}
use Rattle.std.proofs.lemmas.List.{take-take, get_or-take, take_more_same}
use Rattle.ring_core.proofs.Bytes.{none_differs}
use Rattle.ring_core.proofs.Costs.{raised-raised}
use Rattle.ring_core.proofs.bb.verify_slices_are_equal_counted.Goals as goal

-- longer fronts are equal only where the shorter ones and the next items are
fronts_before : (a b : List ℕ) (i : ℕ) → take (i + 1) a ≡ take (i + 1) b
    → (take i a ≡ take i b) × (slice_index_or a i 0 ≡ slice_index_or b i 0)
fronts_before a b i e = (
  cc (take-take i (i + 1) a (omega arith), take-take i (i + 1) b (omega arith)),
  cc (get_or-take (i + 1) a i 0 (omega arith), get_or-take (i + 1) b i 0 (omega arith)),
)

pub pairs-preserved : goal.pairs-preserved
pairs-preserved c =
    let a = c.args.a.now in
    let b = c.args.b.now in
    let i = c.pairs.i in
    let step = none_differs c.pairs.difference (slice_index_or a i 0) (slice_index_or b i 0) in
    let before = c.pairs.invariant.equal in record {
      equal = (
        λ none.
            let both = step.0 none in
            take_more_same a b i 0 (omega arith) (omega arith) (before.0 both.0) both.1,
        λ same. step.1 (before.1 (fronts_before a b i same).0, (fronts_before a b i same).1),
      );
      cost = rw (c.add_byte_pair.ensures, c.pairs.invariant.cost, raised-raised) refl;
    }
