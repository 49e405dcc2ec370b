-- SPDX-License-Identifier: ISC
-- A line is read in one way.
use Rattle.std.proofs.Common.{◌≡◌, ℕ, Bool, List, Option, refl, sym, ap, subst, ◌∙◌}
use Rattle.ring.specs.declared.digest.algorithm.Algorithm.{Algorithm}
use Rattle.ring_sums.specs.Entry.{HasTaggedForm, IsReading, IsShape, Reading, Shape, neither}
use Rattle.ring_sums.specs.Entry.{tag_of, with_digits, with_tag}
use Rattle.ring_sums.proofs.PlainForm.{plain-same}
use Rattle.ring_sums.proofs.TaggedForm.{forms-apart, tag-same, tagged-same}

-- a text has one shape
shape-one : (asked : Option Algorithm) (text : List ℕ) (s t : Shape) → IsShape asked text s
    → IsShape asked text t → s ≡ t
shape-one asked text (with_tag a n d) (with_tag b m e) one two =
    let same = tag-same a b one.1 two.1 in
    let parts = tagged-same (subst (λ c. HasTaggedForm text (tag_of c) n d) same one.1) two.1 in
    λ i. with_tag (same i) (parts.0 i) (parts.1 i)
shape-one asked text (with_tag a n d) (with_digits b e r) one two =
    absurd (forms-apart a one.1 two)
shape-one asked text (with_tag a n d) neither one two = absurd (two.0 a n d one.0 one.1)
shape-one asked text (with_digits a d r) (with_tag b n e) one two =
    absurd (forms-apart b two.1 one)
shape-one asked text (with_digits a d r) (with_digits b e s) one two =
    let same = plain-same one two in λ i. with_digits (same.0 i) (same.1 i) (same.2 i)
shape-one asked text (with_digits a d r) neither one two = absurd (two.1 a d r one)
shape-one asked text neither (with_tag a n d) one two = absurd (one.0 a n d two.0 two.1)
shape-one asked text neither (with_digits a d r) one two = absurd (one.1 a d r two)
shape-one asked text neither neither one two = refl

-- a line is one thing
pub reading-one : {asked : Option Algorithm} {line : List ℕ} (r s : Reading)
    → IsReading asked line r → IsReading asked line s → r ≡ s
reading-one {asked} r s one two =
    let start = sym one.start ∙ two.start in
    let shape = shape-one asked two.text r.shape s.shape
    (subst (λ t. IsShape asked t r.shape) (ap (λ (p : Bool × List ℕ). p.1) start) one.shape)
    two.shape in
    λ i. record { is_escaped = (start i).0; shape = shape i }
