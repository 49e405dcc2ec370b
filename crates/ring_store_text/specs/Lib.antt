-- SPDX-License-Identifier: ISC
pub mod Error
pub mod Text
