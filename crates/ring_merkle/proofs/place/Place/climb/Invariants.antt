-- SPDX-License-Identifier: ISC
use Rattle.std.proofs.Common.{◌≡◌, ◌*◌, ℕ, List, drop}
use Rattle.ring.specs.Prelude.{raised}
use Rattle.ring_merkle.specs.Cost.{hashed_count, node_blocks}
use Rattle.ring_merkle.specs.Walk.{step_of}
use Rattle.ring_merkle.proofs.Walks.{Leads}
use Rattle.ring_merkle.proofs.place.Place.climb.Given as goal

abbrev pub invariant-loop-value : goal.invariant-loop-value
invariant-loop-value l = record {
  leads : (x : List ℕ)
      → Leads (step_of l.fn.whole) l.fn.self.node l.fn.self.last l.fn.hash l.fn.path x
      → Leads (step_of l.fn.whole) l.place.node l.place.last l.reached
      (drop l.value-index l.fn.path) x;
  cost : raised l.fn.meter (node_blocks
      * hashed_count l.fn.whole l.fn.self.node l.fn.self.last l.fn.path) 0
      ≡ raised l.meter (node_blocks
      * hashed_count l.fn.whole l.place.node l.place.last (drop l.value-index l.fn.path)) 0;
}
