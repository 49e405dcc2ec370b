-- SPDX-License-Identifier: ISC
-- Lemmas of `raw`.
pub mod Numbers
