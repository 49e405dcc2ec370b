-- SPDX-License-Identifier: ISC
pub mod NewValues
