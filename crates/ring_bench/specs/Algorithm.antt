-- SPDX-License-Identifier: ISC
-- The algorithm that a field ALG names.
use Rattle.std.specs.Prelude.{ℕ, List, Option, option_map}
use Rattle.std.specs.Option.{option_and_then}
use Rattle.ring.specs.Algorithm.{digest_of_name}
use Rattle.ring.specs.Hmac.{hmac_digest, hmac_over}
use Rattle.ring.specs.declared.digest.algorithm.Algorithm.{Algorithm}

-- ALG of a digest
unfoldable pub digest_algorithm_of : List ℕ → Option Algorithm
digest_algorithm_of field = digest_of_name field

-- ALG of what HMAC makes: tags, outputs of HKDF, and derivations by PBKDF2
unfoldable pub hmac_algorithm_of : List ℕ → Option Algorithm
hmac_algorithm_of field =
    option_map hmac_digest (option_and_then hmac_over (digest_algorithm_of field))
