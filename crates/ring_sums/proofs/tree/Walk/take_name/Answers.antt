-- SPDX-License-Identifier: ISC
use Rattle.std.proofs.Common.{◌≡◌, ◌∙◌, ◌++◌, refl, rules, sym}
use Rattle.std.specs.Str.{IsUtf8}
use Rattle.ring_sums.proofs.Walked.{name-passed, name-told, on_ok}
use Rattle.ring_sums.proofs.tree.Walk.take_name.Goals as goal

pub returns-then-not-is_entry : goal.returns-then-not-is_entry
returns-then-not-is_entry g c =
    name-passed c.args.self.now c.args.directory.now c.args.name.now
    (sym c.is_entry.ensures ∙ c.if-not-is_entry.true)

pub returns-in_default : goal.returns-in_default
returns-in_default g c =
    let path = c.deref-in_default.result.now in
    let joined : path ≡ c.args.directory.now ++ c.args.name.now = search rules in
    let same : c.deref.result.now ≡ path = search rules in
    let other : IsUtf8 path → ⊥ = λ text. c.in_default.ensures.cases.0 (rw same text) in
    on_ok c.tell.result c.tell.ensures (name-told c.args.directory.now c.args.name.now path
    (sym c.is_entry.ensures ∙ c.if-not-is_entry.false) joined other
    (record { output = refl; names = refl; files = refl; waiting = refl; whole = refl }))
