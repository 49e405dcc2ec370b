-- SPDX-License-Identifier: ISC
use Rattle.std.proofs.Common.{◌≡◌, ◌∙◌, Option, Some, ap, arith, length, rules, sym, take}
use Rattle.std.proofs.Math.Seq.{take-append_seam}
use Rattle.std.specs.Cmp.Lexicographic.{other_text, same_text}
use Rattle.std.specs.Path.{path_file_name}
use Rattle.std.specs.Prelude.{ℕ, List}
use Rattle.ring_passwords.specs.Replace.{IsLeftOver}
use Rattle.ring_passwords.specs.Temporary.{IsTemporary, temporary_of}
use Rattle.ring_passwords.proofs.Temporaries.{end_of, whole_length}
use Rattle.ring_passwords.proofs.temporary.is_left_over.Goals as goal

abbrev temporary : (path name : List ℕ) → IsLeftOver path name → IsTemporary name
temporary path name left = record {
  file = left.file;
  random = left.random;
  len = left.len;
  bytes = left.bytes;
  has = left.has;
}

same_file : {x y : List ℕ} {o : Option (List ℕ)} → o ≡ Some x → o ≡ Some y → x ≡ y
same_file first second = cc

pub returns-then-name-file : goal.returns-then-name-file
returns-then-name-file c =
    let path = c.args.path.now in
    let name = c.args.name.now in
    let beside : path_file_name path ≡ Some c.in-Some.file.now = search rules in (
      λ told. absurd cc,
      λ left. absurd (omega (
        arith,
        whole_length name (temporary path name left),
        ap length (same_file left.beside beside),
        c.if-name-file.true,
      )),
    )

pub returns-then-eq : goal.returns-then-eq
returns-then-eq c =
    let path = c.args.path.now in
    let name = c.args.name.now in
    let file = c.in-Some.file.now in
    let same : c.split_at.result.0.now ≡ c.as_bytes-2.result.now =
    same_text _ _ c.if-eq.ensures in (
      λ told.
          let t = c.is_temporary.ensures.0 told in
          let lens : length t.file ≡ length file =
          omega (arith, whole_length name t, c.if-name-file.false) in
          let start : take (length file) name ≡ file = search rules in
          let is : t.file ≡ file =
          sym (take-append_seam t.file (end_of t.random)) ∙ ap (take (length t.file)) (sym t.has)
          ∙ ap (λ n. take n name) lens ∙ start in
          record {
            file = file;
            random = t.random;
            len = t.len;
            bytes = t.bytes;
            beside = search rules;
            has = t.has ∙ ap (λ f. temporary_of f t.random) is;
          },
      λ left. c.is_temporary.ensures.1 (temporary path name left),
    )

pub returns-else-eq : goal.returns-else-eq
returns-else-eq c =
    let path = c.args.path.now in
    let name = c.args.name.now in
    let file = c.in-Some.file.now in
    let beside : path_file_name path ≡ Some file = search rules in
    let start : c.split_at.result.0.now ≡ take (length file) name = search rules in (
      λ told. absurd cc,
      λ left.
          let is = same_file left.beside beside in
          absurd (other_text _ _ c.if-eq.ensures
          (start ∙ ap (λ f. take (length f) name) (sym is) ∙ ap (take (length left.file)) left.has
          ∙ take-append_seam left.file (end_of left.random) ∙ is
          ∙ sym c.as_bytes-2.ensures.value)),
    )
