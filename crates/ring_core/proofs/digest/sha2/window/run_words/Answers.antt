-- SPDX-License-Identifier: ISC
use Rattle.ring_core.proofs.digest.sha2.window.run_words.Goals as goal

pub returns-clause-words : goal.returns-clause-words
returns-clause-words g c = λ i b is. c.run_block.ensures i b is
