-- SPDX-License-Identifier: ISC
use Rattle.std.proofs.Common.{◌≡◌, Some, map, take}
use Rattle.ring_sums.specs.Files.{name_of}
use Rattle.ring_sums.proofs.program.files_named.Given as goal

-- the files of the first names are there
abbrev pub invariant-loop-name : goal.invariant-loop-name
invariant-loop-name g l =
    (map (λ file. file.algorithm) l.wanted.items
    ≡ map (λ name. l.algorithm) (take l.name-index l.names))
    × (map (λ file. name_of file.reader) l.wanted.items
    ≡ map (λ name. Some name.now) (take l.name-index l.names))
