-- SPDX-License-Identifier: ISC
-- Lemmas of `pbkdf2`.
pub mod Iterates
pub mod Starts
pub mod Rounds
pub mod Places
pub mod DerivedKeys
pub mod Taking
