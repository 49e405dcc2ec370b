-- SPDX-License-Identifier: ISC
pub mod Repeats
pub mod Work
