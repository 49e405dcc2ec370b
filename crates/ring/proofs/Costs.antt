-- SPDX-License-Identifier: ISC
-- What a caller's proof may cite of costs: how rises of a meter add up and what it shows of them,
-- how a message's blocks are parted, and the lengths that all algorithms keep to.
pub use Rattle.ring_core.proofs.Costs.{IsNew, counted, counted_new, raised-none, raised-raised}
pub use Rattle.ring.proofs.Lengths.{whole_last}
pub use Rattle.ring.proofs.Rows.{block_len-most, max_input_len-most, output_len-fits}
pub use Rattle.ring.proofs.Rows.{output_len-positive, sizes_of}
