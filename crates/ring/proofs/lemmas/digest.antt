-- SPDX-License-Identifier: ISC
-- Lemmas of `digest`.
pub mod Outputs
pub mod Padding
pub mod Blocks
pub mod Updating
pub mod Finishing
pub mod Tails
pub mod LaneBlocks
pub mod Runs
pub mod Words
pub mod Written
pub mod GoingOn
pub mod Updates
