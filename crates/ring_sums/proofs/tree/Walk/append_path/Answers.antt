-- SPDX-License-Identifier: ISC
use Rattle.std.proofs.Common.{refl}
use Rattle.std.specs.Prelude.{Ok}
use Rattle.ring_sums.proofs.Operands.{looked, looked-failed}
use Rattle.ring_sums.proofs.Walked.{on_ok}
use Rattle.ring_sums.proofs.tree.Walk.append_path.Goals as goal

pub returns-in-Ok-clause-ok : goal.returns-in-Ok-clause-ok
returns-in-Ok-clause-ok g c =
    on_ok c.append_found.result c.append_found.ensures.ok
    (looked c.args.path.now (Ok c.in-Ok.found)
    (record { output = refl; names = refl; files = refl; waiting = refl; whole = refl })
    c.in-Ok.ensures)

pub returns-in-Err-clause-ok : goal.returns-in-Err-clause-ok
returns-in-Err-clause-ok g c =
    on_ok c.append_name.result c.append_name.ensures.ok
    (looked-failed c.args.path.now c.as_bytes.result.now c.in-Err.field-0 c.as_bytes.ensures.value
    (record { output = refl; names = refl; files = refl; waiting = refl; whole = refl })
    c.in-Err.ensures)
