-- SPDX-License-Identifier: ISC
-- Values made of a source's bytes.
use Rattle.ring.specs.declared.rand.Random.{Random}

-- the value that was made
abbrev pub random_value : {T : Type 0} → Random T → T
random_value random = random.0
