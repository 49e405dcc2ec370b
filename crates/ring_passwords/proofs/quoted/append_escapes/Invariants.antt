-- SPDX-License-Identifier: ISC
use Rattle.std.proofs.Common.{◌≡◌, ◌++◌, take}
use Rattle.std.specs.List.{flat_map}
use Rattle.ring_passwords.specs.Quoted.{escape}
use Rattle.ring_passwords.proofs.quoted.append_escapes.Given as goal

abbrev pub invariant-loop-byte : goal.invariant-loop-byte
invariant-loop-byte l =
    l.out.items ≡ l.initial.out.items ++ flat_map escape (take l.byte-index l.bytes)
