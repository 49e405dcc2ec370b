-- SPDX-License-Identifier: ISC
-- Secrets that two sides share.
use Rattle.std.specs.Prelude.{ℕ, List}
use Rattle.ring.specs.Prelude.{KeyStandsFor, key_algorithm}
use Rattle.ring.specs.declared.digest.algorithm.Algorithm.{Algorithm}
use Rattle.ring_tokens.specs.declared.secret.SharedSecret.{SharedSecret}

-- the digest algorithm of a secret's tags
abbrev pub secret_algorithm : SharedSecret → Algorithm
secret_algorithm secret = key_algorithm secret.key

-- the secret stands for the bytes k
abbrev pub IsSecret : SharedSecret → List ℕ → Type 0
IsSecret secret k = KeyStandsFor secret.key k
