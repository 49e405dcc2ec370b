-- SPDX-License-Identifier: ISC
use Rattle.std.proofs.Common.{◌≡◌, Some, map, take}
use Rattle.ring_sums.specs.Check.{AreFilesOf, entries_of}
use Rattle.ring_sums.specs.Files.{name_of}
use Rattle.ring_sums.proofs.check.files_of.Given as goal

-- the files of the first lines are there
abbrev pub invariant-loop-line : goal.invariant-loop-line
invariant-loop-line g l = record {
  files : AreFilesOf (entries_of (take l.line-index l.lines)) l.wanted.items;
  names : map (λ file. name_of file.reader) l.wanted.items
      ≡ map (λ entry. Some entry.name.items) (entries_of (take l.line-index l.lines));
}
