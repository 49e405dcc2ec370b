-- SPDX-License-Identifier: ISC
mod Events
mod Fits
mod Kept
mod Marks
mod Ordered
mod Outputs
mod Replaced
mod Temporaries
mod Unsynced
