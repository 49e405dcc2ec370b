-- SPDX-License-Identifier: ISC
use Rattle.ring_core.proofs.digest.sha1.window as kernel
use kernel.sha1_block_of_words_counted.Goals as goal

pub returns : goal.returns
returns c =
    let run = c.run_words.ensures in
    record { words = run.words 0; rest = run.rest; cost = run.cost }
