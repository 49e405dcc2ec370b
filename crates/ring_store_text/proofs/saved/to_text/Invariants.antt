-- SPDX-License-Identifier: ISC
use Rattle.std.proofs.Common.{◌≡◌, ◌++◌}
use Rattle.ring_store.specs.Records.{named}
use Rattle.ring_store_text.specs.Text.{lines_of, text_of}
use Rattle.ring_store_text.proofs.saved.to_text.Given as goal

-- what was written, and the lines that are left
abbrev pub invariant-loop-name : goal.invariant-loop-name
invariant-loop-name g l = l.text.items ++ lines_of (named l.name-iterator) ≡ text_of l.fn.store
