-- SPDX-License-Identifier: ISC
use Rattle.std.proofs.Common.{◌≡◌, ◌∙◌, refl, ap, rules}
use Rattle.std.proofs.lemmas.List.{length-map}
use Rattle.ring.specs.Prelude.{Algorithm, AlgorithmId, As32, SHA1_FOR_LEGACY_USE_ONLY, Sha1}
use Rattle.ring.specs.Prelude.{word_len}
use Rattle.ring.proofs.lemmas.digest.Runs.{sha1_row, short_row, words_run, words_run_all}
use Rattle.ring.proofs.digest.block_context.run_blocks_32.Goals as goal

pub returns-then-is_sha1-clause-words : goal.returns-then-is_sha1-clause-words
returns-then-is_sha1-clause-words c =
    let a = c.args.algorithm in
    let run = c.sha1_block_data_order_fastest_counted in
    let is : a ≡ SHA1_FOR_LEGACY_USE_ONLY =
    search (rules, c.if-is_sha1.ensures, c.if-is_sha1.true) in
    let row = sha1_row a.id (ap (λ (z : Algorithm). z.id) is) in
    words_run (As32 c.args.words.now) (As32 run.new.state) c.args.input.now row
    (rw row.count_is refl) (rw row.count_is refl) c.as_chunks.ensures.front run.ensures.words

pub returns-else-is_sha1-clause-words : goal.returns-else-is_sha1-clause-words
returns-else-is_sha1-clause-words c =
    let a = c.args.algorithm in
    let run = c.block_data_order_32_fastest_counted in
    let size : 4 ≡ word_len a = search (rules, c.requires) in
    let other : a.id ≡ Sha1 → ⊥ = λ e. (
    let is : a ≡ SHA1_FOR_LEGACY_USE_ONLY = ap (λ (i : AlgorithmId). record { id = i }) e in
    search (rules, c.if-is_sha1.ensures.1 is)
    ) in
    words_run_all (As32 c.args.words.now) (As32 run.new.state) c.args.input.now
    (short_row a.id size other) (length-map _ _ ∙ c.told-words) (length-map _ _ ∙ run.array_long)
    c.as_chunks.ensures.front run.ensures.words
