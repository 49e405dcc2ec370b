-- SPDX-License-Identifier: ISC
mod Within
pub mod Salts
pub mod Finds
pub mod Tested
