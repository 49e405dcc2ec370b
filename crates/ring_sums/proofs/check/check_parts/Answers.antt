-- SPDX-License-Identifier: ISC
use Rattle.std.proofs.Common.{ℕ, List, [], ◌∷◌, ◌++◌, ◌∙◌, ap, arith, length, subst, sym}
use Rattle.std.specs.Io.KnownBytes.{Consumes}
use Rattle.std.proofs.lemmas.Bool.{true≢false}
use Rattle.ring_sums.specs.Parts.{left_of}
use Rattle.ring_sums.proofs.CheckedParts.{to-list, to-more, to-none, to-stop}
use Rattle.ring_sums.proofs.ListParts.{part-rest}
use Rattle.ring_sums.proofs.Lists.{lines_in-few}
use Rattle.ring_sums.proofs.check.check_parts.Goals as goal

pub parts-init : goal.parts-init
parts-init g c =
    let none = c.default-counts.ensures in
    to-none (none.1.0, none.1.1.1.1, none.1.1.0, none.1.1.1.0) none.0

pub returns-then-len-number : goal.returns-then-len-number
returns-then-len-number g c = to-stop c.parts.invariant

pub returns-then-part : goal.returns-then-part
returns-then-part g c =
    to-list c.parts.invariant c.in_ok-found.ensures.checked
    (record { counted = c.add.ensures.counted; bad = c.add.ensures.bad })
    (omega (arith, lines_in-few c.deref.result.now, ap length c.deref.ensures.value)) _
    (subst (Consumes (left_of g.L.Read.remaining c.parts.parts)
    (left_of g.L.Read.remaining c.next_part.new.self)) (sym c.deref.ensures.value)
    (c.in_ok-part.ensures.last c.if-part.true))
    (λ read none. c.in_ok-part.ensures.all c.if-part.true read)

pub returns-then-has_failed : goal.returns-then-has_failed
returns-then-has_failed g c =
    let rest = part-rest c.in_ok-part.ensures in
    to-list c.parts.invariant c.in_ok-found.ensures.checked
    (record { counted = c.add.ensures.counted; bad = c.add.ensures.bad })
    (omega (arith, lines_in-few c.deref.result.now, ap length c.deref.ensures.value)) rest.0
    (subst (Consumes (left_of g.L.Read.remaining c.parts.parts) rest.0)
    (sym c.deref.ensures.value) rest.1)
    (λ read none. absurd (true≢false (sym c.if-has_failed.true ∙ c.has_failed.ensures.1 none)))

pub parts-preserved : goal.parts-preserved
parts-preserved g c =
    to-more c.parts.invariant c.in_ok-found.ensures.checked
    (record { counted = c.add.ensures.counted; bad = c.add.ensures.bad })
    (omega (arith, lines_in-few c.deref.result.now, ap length c.deref.ensures.value))
    (c.has_failed.ensures.0 c.if-has_failed.false)
    (subst (λ (z : List ℕ). Consumes (left_of g.L.Read.remaining c.parts.parts)
    (left_of g.L.Read.remaining c.next_part.new.self) (z ++ 10 ∷ [])) (sym c.deref.ensures.value)
    (c.in_ok-part.ensures.lines c.if-part.false)) c.in_ok-found.ensures.counted

pub returns : goal.returns
returns g c = to-stop c.parts.invariant
