-- SPDX-License-Identifier: ISC
use Rattle.std.proofs.Common.{◌≡◌, ◌∷◌, ◌++◌, [], ap, append-nil, append_assoc, arith, sym, take}
use Rattle.std.proofs.Common.{◌∙◌}
use Rattle.std.proofs.lemmas.Bool.{true≢false}
use Rattle.ring_sums.proofs.ListParts.{left-kept, left-moved, part-behind}
use Rattle.ring_sums.proofs.parts.Parts.read_on.Goals as goal

pub returns-in-Ok-eq0-clause-some : goal.returns-in-Ok-eq0-clause-some
returns-in-Ok-eq0-clause-some g c =
    let read = c.in-Ok-eq0.ensures.bytes in
    let left = c.args.self.now.left.items in
    let zero : c.in-Ok-eq0.field-0 ≡ 0 = omega arith in
    let none : take c.in-Ok-eq0.field-0 c.read.new.buf ≡ [] =
    ap (λ n. take n c.read.new.buf) zero in
    part-behind (left-moved _ _ left _ [] left read.0
    (ap (λ z. left ++ z) none ∙ append-nil left))
    (c.end.ensures (λ no. read.1 zero (omega (arith, c.requires))))

pub returns-in_default-clause-none : goal.returns-in_default-clause-none
returns-in_default-clause-none g c = λ none.
    left-moved _ _ c.args.self.now.left.items _ [] _ c.in-Ok.ensures.bytes.0
    (sym (c.in_ok-text-in-Ok.ensures.none (grind arith)))

pub returns-then-eq-clause-none : goal.returns-then-eq-clause-none
returns-then-eq-clause-none g c = λ none.
    left-kept _ _ c.args.self.now.left.items c.in-Err.ensures.bytes

pub returns-in-Some-clause-some : goal.returns-in-Some-clause-some
returns-in-Some-clause-some g c =
    let same = rw c.in-Some.is at c.in_ok-text-in-Ok.ensures.some in
    record {
      lines = λ more. left-moved _ _ c.args.self.now.left.items _ _ _ c.in-Ok.ensures.bytes.0
          (same ∙ sym (append_assoc c.in-Some.text.items (10 ∷ []) c.take_lines.new.left.items));
      last = λ last. absurd (true≢false (sym last));
      all = λ last none. absurd (true≢false (sym last));
    }

pub returns-else-eq-clause-some : goal.returns-else-eq-clause-some
returns-else-eq-clause-some g c =
    part-behind (left-kept _ _ c.args.self.now.left.items c.in-Err.ensures.bytes)
    (c.end-in-Err.ensures (λ none. absurd (cc none)))
