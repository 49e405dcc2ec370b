-- SPDX-License-Identifier: ISC
-- The files that names stand for.
use Rattle.std.specs.Prelude.{ℕ, List, Option, None, Some}
use Rattle.ring_sums.specs.declared.files.Source.{Source}
use Rattle.ring_sums.specs.declared.files.Stream.{Stream}
use Rattle.ring_sums.specs.declared.files.Stream.TheVariants.{Named, File, Input}

-- the name of a file that is not opened yet
abbrev pub name_in : {R F D I : Type 0} → Stream R F D I → Option (List ℕ)
name_in (Named rt name) = Some name.now
name_in (File file) = None
name_in (Input rt) = None

abbrev pub name_of : {R F D I : Type 0} → Source R F D I → Option (List ℕ)
name_of source = name_in source.stream
