-- SPDX-License-Identifier: ISC
use Rattle.std.proofs.Common.{◌≡◌, ◌++◌, drop, false, length}
use Rattle.std.specs.Str.{chars}
use Rattle.ring_passwords.specs.Quoted.{parts}
use Rattle.ring_passwords.proofs.quoted.append_parts.Given as goal

-- what is written, and what the other characters add
abbrev pub invariant-loop-character : goal.invariant-loop-character
invariant-loop-character l =
    l.out.items ++ parts l.behind_control (drop (length l.yielded) (chars l.word))
    ≡ l.initial.out.items ++ parts false (chars l.word)
