-- SPDX-License-Identifier: ISC
use Rattle.std.proofs.Common.{◌≡◌, ◌-◌, ◌++◌, length, take}
use Rattle.ring_password_hash.specs.Salt.{letters}
use Rattle.ring_password_hash.proofs.salt.letters.Given as goal

-- the symbols so far, and those of what is left of the number
abbrev pub invariant-places : goal.invariant-places
invariant-places l = record {
  len : length l.salt ≡ 22;
  so_far : letters 22 l.number ≡ take l.i l.salt ++ letters (22 - l.i) l.rest;
}
