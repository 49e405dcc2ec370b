-- SPDX-License-Identifier: ISC
use Rattle.std.proofs.Common.{◌++◌, ap, arith, sym, ◌∙◌}
use Rattle.std.proofs.lemmas.Grind.{common_steps}
use Rattle.hex.specs.Hex.{encode_lower}
use Rattle.ring_tokens.proofs.Signatures.{named_is_read}
use Rattle.ring_tokens.proofs.webhook.is_named.Goals as goal

pub returns-then-is_same-clause-ok : goal.returns-then-is_same-clause-ok
returns-then-is_same-clause-ok c =
    let read = c.fill_named-is_read.ensures in
    let same = c.verify_slices_are_equal_counted.ensures.ok.0
    (sym c.is_ok-is_same.ensures.value ∙ c.if-is_same.true) in (
      λ is. (read.ok is).0 ∙ ap (λ t. c.args.name.now ++ encode_lower t) (sym same),
      λ is. (named_is_read c.args.name.now _ c.fill_named-is_read.result read.ok read.refused
          (λ i. let f = c.type_inv.tag i in omega arith)
          (grind (arith, common_steps, c.requires)) is).0,
    )

pub returns-else-is_same-clause-ok : goal.returns-else-is_same-clause-ok
returns-else-is_same-clause-ok c =
    let read = c.fill_named-is_read.ensures in (
      λ is. absurd (cc (is, c.if-is_same.false)),
      λ is. c.is_ok-is_same.ensures.value ∙ c.verify_slices_are_equal_counted.ensures.ok.1
          (named_is_read c.args.name.now _ c.fill_named-is_read.result read.ok read.refused
          (λ i. let f = c.type_inv.tag i in omega arith)
          (grind (arith, common_steps, c.requires)) is).1,
    )
