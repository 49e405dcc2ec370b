-- SPDX-License-Identifier: ISC
-- Lemmas that serve one module, in folders named as these.
pub mod digest
pub mod hmac
pub mod hkdf
pub mod pbkdf2
pub mod laws
pub mod raw
