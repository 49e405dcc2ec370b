-- SPDX-License-Identifier: ISC
use Rattle.std.proofs.Common.{◌^◌, ◌+◌, ◌-◌, map, mod-lt, pow_pos, refl, sym}
use Rattle.ring_core.specs.Prelude.{word_32}
use Rattle.ring_core.specs.Sha1.{round_constant}
use Rattle.ring_core.proofs.Sha1Instructions.{sha1hash-step, with-constant}
use Rattle.ring_core.proofs.digest.instructions.arm.step.Goals as goal

pub returns : goal.returns
returns g c =
    let x = word_32 c.args.wk in
    let v = map word_32 c.args.v in
    let w = x + 2 ^ 32 - round_constant g.row.T in
    let sum = with-constant g.row.T x (mod-lt c.args.wk.0 (pow_pos 32)) in
    let next = c.round.ensures 0 w (sym sum) in
    rw (next, ← sha1hash-step g.row.T v w, sum) refl
