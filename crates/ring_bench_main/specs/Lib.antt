-- SPDX-License-Identifier: ISC
pub mod Room
pub mod Gatherer
