-- SPDX-License-Identifier: ISC
use Rattle.std.proofs.Common.{arith, rules, sym, ◌∙◌}
use Rattle.ring_tokens.proofs.Signatures.{is_text, text_is_decoded}
use Rattle.ring_tokens.proofs.signature.is_text_of.Goals as goal

pub returns-then-is_same-clause-ok : goal.returns-then-is_same-clause-ok
returns-then-is_same-clause-ok c =
    let given = c.decode_signature-len.new.out in
    let r = c.decode_signature-len.result in
    let d = c.decode_signature-len.ensures in
    let same = c.verify_slices_are_equal_counted.ensures.ok.0
    (sym c.is_ok-is_same.ensures.value ∙ c.if-is_same.true) in (
      λ is. is_text given _ r d.ok (sym c.eq.ensures ∙ is) same,
      λ is. c.eq.ensures ∙ (text_is_decoded given _ r d.ok d.refused
          (λ i. let f = c.type_inv.tag i in omega arith, c.requires) (search rules) is).0,
    )

pub returns-else-is_same-clause-ok : goal.returns-else-is_same-clause-ok
returns-else-is_same-clause-ok c =
    let given = c.decode_signature-len.new.out in
    let r = c.decode_signature-len.result in
    let d = c.decode_signature-len.ensures in (
      λ is. absurd (cc (is, c.if-is_same.false)),
      λ is. c.is_ok-is_same.ensures.value ∙ c.verify_slices_are_equal_counted.ensures.ok.1
          (text_is_decoded given _ r d.ok d.refused
          (λ i. let f = c.type_inv.tag i in omega arith, c.requires) (search rules) is).1,
    )
