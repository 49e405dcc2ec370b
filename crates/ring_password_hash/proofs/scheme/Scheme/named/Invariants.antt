-- SPDX-License-Identifier: ISC
use Rattle.std.proofs.Common.{◌≢◌, ◌<◌, ℕ}
use Rattle.ring_password_hash.specs.Scheme.{name_of}
use Rattle.ring_password_hash.proofs.Schemes.{scheme_at}
use Rattle.ring_password_hash.proofs.scheme.Scheme.named.Given as goal

-- no scheme so far has the name
abbrev pub invariant-schemes : goal.invariant-schemes
invariant-schemes l = (i : ℕ) → i < l.i → l.word ≢ name_of (scheme_at i)
