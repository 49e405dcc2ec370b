-- SPDX-License-Identifier: ISC
pub mod Cuts
pub mod Numbers
pub mod LowerHex
pub mod Base64
