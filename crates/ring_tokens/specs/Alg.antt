-- SPDX-License-Identifier: ISC
-- The algorithms of signatures (RFC 7518, section 3.2).
use Rattle.std.specs.Prelude.{ℕ, List, codes}
use Rattle.base64.specs.Rfc4648.{unpadded_len}
use Rattle.ring.specs.Prelude.{output_len}
use Rattle.ring.specs.declared.digest.algorithm.Algorithm.{Algorithm}
use Rattle.ring.specs.declared.digest.algorithm.TheConstants.{SHA256, SHA384, SHA512}
use Rattle.ring_tokens.specs.declared.alg.Alg.{Alg}
use Rattle.ring_tokens.specs.declared.alg.Alg.TheVariants.{Hs256, Hs384, Hs512}

-- the value of "alg"
abbrev pub name_of : Alg → List ℕ
name_of Hs256 = codes "HS256"
name_of Hs384 = codes "HS384"
name_of Hs512 = codes "HS512"

-- HMAC's hash
abbrev pub algorithm_of : Alg → Algorithm
algorithm_of Hs256 = SHA256
algorithm_of Hs384 = SHA384
algorithm_of Hs512 = SHA512

-- the size of the hash output, which a key has at least
abbrev pub hash_len : Alg → ℕ
hash_len a = output_len (algorithm_of a)

-- the length of a signature as base64url
abbrev pub text_len : Alg → ℕ
text_len a = unpadded_len (hash_len a)
