-- SPDX-License-Identifier: ISC
pub mod Tree
pub mod Walk
pub mod Inclusion
pub mod Consistency
pub mod Stack
pub mod Cost
pub mod Gives
