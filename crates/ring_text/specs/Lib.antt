-- SPDX-License-Identifier: ISC
pub mod Cut
pub mod Field
