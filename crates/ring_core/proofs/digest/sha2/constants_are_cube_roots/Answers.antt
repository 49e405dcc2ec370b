-- SPDX-License-Identifier: ISC
use Rattle.std.proofs.Common.{refl}
use Rattle.ring_core.specs.Prelude.{constants_256, constants_512, first_primes}
use Rattle.ring_core.proofs.Roots.{fraction_at}
use Rattle.ring_core.proofs.digest.sha2.constants_are_cube_roots.Goals as goal

pub returns : goal.returns
unfolding first_primes constants_256 constants_512
returns c =
    record {
      words_of_32_bits = λ t below. fraction_at 3 32 first_primes constants_256 t refl below;
      words_of_64_bits = λ t below. fraction_at 3 64 first_primes constants_512 t refl below;
    }
