-- SPDX-License-Identifier: ISC
use Rattle.std.proofs.Common.{◌≡◌, ◌+◌, ◌∷◌, ◌++◌, refl, ap, ◌∙◌, take, length}
use Rattle.ring_text.proofs.Cuts.{first_cut, not_cut}
use Rattle.ring_tokens.proofs.Inputs.{take_input}
use Rattle.ring_tokens.proofs.parts.parts_of.Goals as goal

pub returns-in_default-clause-refused : goal.returns-in_default-clause-refused
returns-in_default-clause-refused c = λ _ h p s cut.
    not_cut 46 h (p ++ 46 ∷ s) c.args.token.now (c.in_default.ensures.refused refl) cut.whole

pub returns-in_default-cut_at-clause-refused : goal.returns-in_default-cut_at-clause-refused
returns-in_default-cut_at-clause-refused c = λ _ h p s cut.
    let first = first_cut c.in-Some.ensures.ok h (p ++ 46 ∷ s) cut.header cut.whole in
    not_cut 46 p s c.in-Some.rest.now (c.in_default-cut_at.ensures.refused refl) first.1

pub returns-clause-ok : goal.returns-clause-ok
returns-clause-ok c =
    let one = c.in-Some.ensures.ok in
    let two = c.in-Some-cut_at.ensures.ok in
    let h = c.in-Some.header.now in
    let p = c.in-Some-cut_at.payload.now in
    let s = c.in-Some-cut_at.signature.now in
    let whole : c.args.token.now ≡ h ++ 46 ∷ (p ++ 46 ∷ s) =
    one.whole ∙ ap (λ r. h ++ 46 ∷ r) two.whole in
    record {
      cut = record { whole = whole; header = one.first; payload = two.first };
      input = ap (take (length h + 1 + length p)) whole ∙ take_input h p s;
    }
