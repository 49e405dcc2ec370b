-- SPDX-License-Identifier: ISC
use Rattle.std.proofs.Common.{◌≡◌, ◌-◌, ◌∙◌, Bool, true, false, drop, length, refl, rules, sym}
use Rattle.std.proofs.Common.{take}
use Rattle.std.specs.Cmp.Lexicographic.{other_text, same_text}
use Rattle.std.specs.Prelude.{IsTrue}
use Rattle.ring_passwords.proofs.Temporaries.{digits_in, mark_in, named, too_short}
use Rattle.ring_passwords.proofs.temporary.is_temporary.Goals as goal

true_if_not_false : (b : Bool) → (¬ (IsTrue b) → ⊥) → IsTrue b
true_if_not_false true h = refl
true_if_not_false false h = absurd (h (λ told. absurd cc))

pub returns-then-path-lt-END_LEN : goal.returns-then-path-lt-END_LEN
returns-then-path-lt-END_LEN c =
    (λ told. absurd cc, λ t. absurd (too_short c.args.path.now (search rules) t))

pub returns-then-eq : goal.returns-then-eq
returns-then-eq c =
    let path = c.args.path.now in
    let mark : take 5 (drop (length path - 21) path) ≡ c.split_at-2.result.0.now =
    search rules in
    let digits : c.split_at-2.result.1.now ≡ drop 5 (drop (length path - 21) path) =
    search rules in
    let same = same_text _ _ c.if-eq.ensures ∙ c.as_bytes.ensures.value in (
      λ told. let filled = c.fill_from_hex.ensures.ok told in
          named path c.fill_from_hex.new.out (mark ∙ same) (sym digits ∙ filled.0) (search rules)
          filled.1,
      λ t. true_if_not_false _ (λ other. c.fill_from_hex.ensures.refused other t.random t.bytes
          (search rules) (digits ∙ digits_in path t)),
    )

pub returns-else-eq : goal.returns-else-eq
returns-else-eq c =
    let path = c.args.path.now in
    let mark : c.split_at-2.result.0.now ≡ take 5 (drop (length path - 21) path) = search rules in (
      λ told. absurd cc,
      λ t. absurd (other_text _ _ c.if-eq.ensures
          (mark ∙ mark_in path t ∙ sym c.as_bytes.ensures.value)),
    )
