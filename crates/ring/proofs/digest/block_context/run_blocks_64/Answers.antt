-- SPDX-License-Identifier: ISC
use Rattle.std.proofs.Common.{◌≡◌, ◌∙◌, rules}
use Rattle.std.proofs.lemmas.List.{length-map}
use Rattle.ring.specs.Prelude.{As64, word_len}
use Rattle.ring.proofs.lemmas.digest.Runs.{long_row, words_run_all}
use Rattle.ring.proofs.digest.block_context.run_blocks_64.Goals as goal

pub returns-clause-words : goal.returns-clause-words
returns-clause-words c = λ a sized.
    let run = c.block_data_order_64_fastest_counted in
    let size : 8 ≡ word_len a = search (rules, sized) in
    words_run_all (As64 c.args.words.now) (As64 run.new.state) c.args.input.now
    (long_row a.id size) (length-map _ _ ∙ c.told-words) (length-map _ _ ∙ run.array_long)
    c.as_chunks.ensures.front run.ensures.words
