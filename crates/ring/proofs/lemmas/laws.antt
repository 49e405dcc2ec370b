-- SPDX-License-Identifier: ISC
-- Lemmas of `laws`.
pub mod SameKeys
