-- SPDX-License-Identifier: ISC
-- Lemmas of `hmac`.
pub mod Keys
pub mod Paddings
