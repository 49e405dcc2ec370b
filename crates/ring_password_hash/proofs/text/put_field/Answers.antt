-- SPDX-License-Identifier: ISC
use Rattle.std.proofs.Common.{ℕ, List, subst}
use Rattle.ring_password_hash.specs.Text.{IsPut}
use Rattle.ring_password_hash.proofs.text.put_field.Goals as goal

pub returns-in-Adapted : goal.returns-in-Adapted
returns-in-Adapted c =
    let put = c.put_base64-in-Adapted in
    rw c.in-Adapted.is
    (subst (λ (piece : List ℕ). IsPut c.args.at piece c.args.out.now put.new.out put.result)
    (c.adapted.ensures.written c.args.bytes.now) put.ensures)
