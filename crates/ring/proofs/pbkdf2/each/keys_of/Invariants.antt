-- SPDX-License-Identifier: ISC
use Rattle.ring.specs.Prelude.{IsKeyOf, bytes_at, hmac_digest, key_blocks}
use Rattle.std.proofs.Common.{◌≡◌, length}
use Rattle.ring.proofs.lemmas.pbkdf2.Places.{HasRisen, HoldsBelow}
use Rattle.ring.proofs.pbkdf2.each.keys_of.Given as goal

-- the keys of the first i secrets are there
abbrev pub invariant-keys : goal.invariant-keys
invariant-keys l =
    let a = hmac_digest l.algorithm in
    record {
      keys : HoldsBelow (λ i key. IsKeyOf a key (bytes_at l.secrets i)) l.i l.keys;
      size : length l.keys ≡ 8;
      cost : HasRisen (λ k. key_blocks a (length (bytes_at l.secrets k))) l.i l.fn.meter l.meter;
    }
