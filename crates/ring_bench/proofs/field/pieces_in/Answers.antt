-- SPDX-License-Identifier: ISC
use Rattle.std.proofs.Common.{◌≡◌, None, arith, rules, ◌∙◌}
use Rattle.std.proofs.lemmas.Grind.{common_steps}
use Rattle.hex.specs.Hex.{decode_of}
use Rattle.ring_bench.specs.Field.{pieces_of, value_of}
use Rattle.ring_bench.proofs.Parts.{behind-none, none-last, none-next, pieces-last, pieces-next}
use Rattle.ring_bench.proofs.Parts.{sum-push}
use Rattle.ring_bench.proofs.field.pieces_in.Goals as goal

pub parts-init : goal.parts-init
parts-init g c = record {
  whole = search rules;
  same = rw c.new-bytes.ensures.items (behind-none _);
}

pub returns-in_err-append_piece : goal.returns-in_err-append_piece
unfolding pieces_of
returns-in_err-append_piece g c =
    let none = λ (bad : value_of (decode_of c.in-Some.part.now) ≡ None).
    c.parts.invariant.same ∙ none-next c.parts.bytes.items c.in-Some.ensures.ok bad in
    grind (arith, common_steps, none)

pub parts-preserved : goal.parts-preserved
parts-preserved g c =
    let so_far = c.parts.invariant in
    let more = c.in_ok-append_piece.ensures.added in
    rw (more.2, more.3) (record {
      whole = sum-push c.parts.lens.items c.parts.bytes.items more.0 so_far.whole;
      same = so_far.same ∙ pieces-next c.parts.bytes.items c.in-Some.ensures.ok more.1;
    })

pub returns-in_err-append_piece-2 : goal.returns-in_err-append_piece-2
unfolding pieces_of
returns-in_err-append_piece-2 g c =
    let without = c.in_default.ensures.refused (search rules) in
    let none = λ (bad : value_of (decode_of c.parts.rest.now) ≡ None).
    c.parts.invariant.same ∙ none-last c.parts.bytes.items c.parts.rest.now without bad in
    grind (arith, common_steps, none)

pub returns : goal.returns
unfolding pieces_of
returns g c =
    let without = c.in_default.ensures.refused (search rules) in
    let more = c.in_ok-append_piece-2.ensures.added in
    let made =
    c.parts.invariant.same ∙ pieces-last c.parts.bytes.items c.parts.rest.now without more.1 in
    grind (arith, common_steps, made)
