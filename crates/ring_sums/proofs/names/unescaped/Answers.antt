-- SPDX-License-Identifier: ISC
use Rattle.std.proofs.Common.{Some, ap, append-nil, sym, ◌∙◌}
use Rattle.std.proofs.lemmas.List.{nil_from_length}
use Rattle.ring_sums.specs.Names.{unescaped}
use Rattle.ring_sums.proofs.Escapes.{read-none}
use Rattle.ring_sums.proofs.names.unescaped.Goals as goal

pub bytes-init : goal.bytes-init
bytes-init c = rw c.new-name.ensures.items (read-none (unescaped c.args.bytes.now))

pub returns : goal.returns
unfolding unescaped
returns c =
    let empty = nil_from_length c.bytes.rest.now c.in_default.ensures.cases in
    let read = rw empty at c.bytes.invariant in
    record { ok = sym (read ∙ ap Some (append-nil c.bytes.name.items)) }
