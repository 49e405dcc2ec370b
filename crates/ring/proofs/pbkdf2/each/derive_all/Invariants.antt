-- SPDX-License-Identifier: ISC
use Rattle.std.proofs.Common.{◌≡◌, ◌≤◌, ◌-◌, ◌*◌, length}
use Rattle.std.specs.Int.NonZero.{non_zero_u32_get}
use Rattle.ring.specs.Prelude.{KeepsPlaces, Receives, derive_blocks_at, dk_at, hmac_digest, raised}
use Rattle.ring.specs.Prelude.{sum_below}
use Rattle.ring.proofs.pbkdf2.each.derive_all.Given as goal

abbrev pub invariant-keys : goal.invariant-keys
invariant-keys g l =
    let r = g.R.Receiver in
    let a = hmac_digest l.algorithm in
    let iterations = non_zero_u32_get l.iterations in
    record {
      within : l.made ≤ length l.secrets;
      same : KeepsPlaces r.places r.room l.fn.receiver l.receiver;
      cost : l.meter ≡ raised l.fn.meter
          (sum_below (derive_blocks_at a l.salts l.secrets iterations l.len) l.made)
          (r.pairs * (l.made * l.len));
      taken : Receives r.HasReceived 0 l.made (dk_at a l.salts l.secrets iterations l.len)
          l.fn.receiver l.receiver;
    }

abbrev pub decreases-keys : goal.decreases-keys
decreases-keys g l = length l.secrets - l.made
