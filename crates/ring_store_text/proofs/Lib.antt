-- SPDX-License-Identifier: ISC
pub mod Entries
pub mod Lines
pub mod Stores
pub mod Texts
