-- SPDX-License-Identifier: ISC
use Rattle.ring_core.proofs.digest.sha1.window.run_words.Goals as goal

pub returns-clause-words : goal.returns-clause-words
returns-clause-words g c = λ i b is. c.run_block.ensures.words i b is
