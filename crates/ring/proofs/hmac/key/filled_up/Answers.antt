-- SPDX-License-Identifier: ISC
use Rattle.std.proofs.Common.{arith, ℕ, length}
use Rattle.std.proofs.lemmas.Grind.{common_steps}
use Rattle.std.proofs.lemmas.List.{drop-replicate}
use Rattle.ring.proofs.hmac.key.filled_up.Goals as goal

pub returns : goal.returns
returns c =
    let bytes = c.args.bytes.now in
    grind (arith, common_steps, drop-replicate {X = ℕ} (length bytes) 128 0)
