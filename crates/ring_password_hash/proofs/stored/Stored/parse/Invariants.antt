-- SPDX-License-Identifier: ISC
use Rattle.std.proofs.Common.{◌≡◌, ◌<◌, ℕ}
use Rattle.ring_password_hash.specs.Stored.{IsTextOf, Parts}
use Rattle.ring_password_hash.proofs.Schemes.{scheme_at}
use Rattle.ring_password_hash.proofs.stored.Stored.parse.Given as goal

-- the text is of no scheme so far
abbrev pub invariant-schemes : goal.invariant-schemes
invariant-schemes l =
    (i : ℕ) → i < l.i → (h : Parts) → h.scheme ≡ scheme_at i → IsTextOf h l.text → ⊥
