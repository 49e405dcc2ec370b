-- SPDX-License-Identifier: ISC
use Rattle.std.proofs.Common.{◌≡◌, ◌++◌, length}
use Rattle.std.specs.Option.{option_map}
use Rattle.ring_sums.specs.Names.{unescaped}
use Rattle.ring_sums.proofs.names.unescaped.Given as goal

-- the bytes stand for the name so far, and then for what the rest stands for
abbrev pub invariant-bytes : goal.invariant-bytes
invariant-bytes l =
    unescaped l.fn.bytes ≡ option_map (λ behind. l.name.items ++ behind) (unescaped l.rest)

abbrev pub decreases-bytes : goal.decreases-bytes
decreases-bytes l = length l.rest
