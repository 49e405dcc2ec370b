-- SPDX-License-Identifier: ISC
use Rattle.std.proofs.Common.{ℕ, List, subst, sym, ◌∙◌}
use Rattle.std.proofs.lemmas.List.{take_all}
use Rattle.std.proofs.lemmas.List.Elements.{All-contains, All-more, Contains-get_or}
use Rattle.std.specs.List.{All}
use Rattle.ring.specs.declared.digest.algorithm.Algorithm.{Algorithm}
use Rattle.ring.specs.declared.digest.algorithm.AlgorithmId.TheVariants.{Sha1}
use Rattle.ring_sums.specs.Entry.{HasTaggedForm, tag_of}
use Rattle.ring_sums.proofs.entry.tagged_among.Goals as goal

abbrev HasNot : List ℕ → Algorithm → Type 0
HasNot line a = (name digits : List ℕ) → HasTaggedForm line (tag_of a) name digits → ⊥

pub returns-in-Some : goal.returns-in-Some
returns-in-Some c = (
  Contains-get_or c.args.algorithms.now c.loop-algorithm.algorithm-index _
      c.loop-algorithm-test.true,
  subst (λ (tag : List ℕ). HasTaggedForm c.args.line.now tag c.in-Some.name.now
      c.in-Some.digits.now) (c.as_bytes.ensures.value ∙ c.tag_of.ensures) c.in-Some.ensures,
)

pub loop-algorithm-preserved : goal.loop-algorithm-preserved
loop-algorithm-preserved c =
    let first : Algorithm = record { id = Sha1 } in
    All-more (HasNot c.args.line.now) c.args.algorithms.now c.loop-algorithm.algorithm-index first
    c.loop-algorithm-test.true c.loop-algorithm.invariant (λ name digits form.
    c.in_default.ensures (name, digits)
    (subst (λ (tag : List ℕ). HasTaggedForm c.args.line.now tag name digits)
    (sym (c.as_bytes.ensures.value ∙ c.tag_of.ensures)) form))

pub returns : goal.returns
returns c = λ parts is.
    let none = subst (λ (z : List Algorithm). All (HasNot c.args.line.now) z)
    (take_all c.loop-algorithm.algorithm-index c.args.algorithms.now c.loop-algorithm-test.false)
    c.loop-algorithm.invariant in
    All-contains (HasNot c.args.line.now) c.args.algorithms.now parts.0 none is.0 parts.1 parts.2
    is.1
