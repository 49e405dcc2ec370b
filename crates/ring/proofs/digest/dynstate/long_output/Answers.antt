-- SPDX-License-Identifier: ISC
use Rattle.std.proofs.Common.{◌++◌, rules, ◌∙◌, ap, sym}
use Rattle.std.proofs.lemmas.List.{append-nil}
use Rattle.ring.specs.Prelude.{word_bytes}
use Rattle.ring.proofs.lemmas.digest.Outputs.{numbers, numbers_from, swapped_words}
use Rattle.ring.proofs.digest.dynstate.long_output.Goals as goal

pub returns-clause-bytes : goal.returns-clause-bytes
returns-clause-bytes c =
    let ws = c.args.words.now in
    let first = swapped_words 8 (numbers ws 0 4) (search rules) in
    let last = swapped_words 8 (numbers ws 4 4) (search rules) in
    (λ t. first t ++ last t) ∙ ap (word_bytes 8) (numbers_from 64 ws 0 8 (search rules))
    ∙ sym (append-nil _)
