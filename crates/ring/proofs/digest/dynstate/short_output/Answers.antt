-- SPDX-License-Identifier: ISC
use Rattle.std.proofs.Common.{◌++◌, replicate, rules, ◌∙◌, ap}
use Rattle.ring.specs.Prelude.{word_bytes}
use Rattle.ring.proofs.lemmas.digest.Outputs.{numbers, numbers_from, swapped_words}
use Rattle.ring.proofs.digest.dynstate.short_output.Goals as goal

pub returns-clause-bytes : goal.returns-clause-bytes
returns-clause-bytes c =
    let ws = c.args.words.now in
    ap (λ z. z ++ replicate 32 0) (swapped_words 4 (numbers ws 0 8) (search rules)
    ∙ ap (word_bytes 4) (numbers_from 32 ws 0 8 (search rules)))
