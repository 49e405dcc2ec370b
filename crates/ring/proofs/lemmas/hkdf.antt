-- SPDX-License-Identifier: ISC
-- Lemmas of `hkdf`.
pub mod Expanding
