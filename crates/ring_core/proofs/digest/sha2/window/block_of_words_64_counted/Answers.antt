-- SPDX-License-Identifier: ISC
use Rattle.ring_core.proofs.digest.sha2.window as kernel
use kernel.block_of_words_64_counted.Goals as goal

pub returns : goal.returns
returns g c =
    let run = c.run_words.ensures in record { words = run.words 0; cost = run.cost }
