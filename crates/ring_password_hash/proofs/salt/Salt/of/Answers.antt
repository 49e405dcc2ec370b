-- SPDX-License-Identifier: ISC
use Rattle.std.proofs.Common.{◌≡◌, ◌∙◌, true, ap, arith, length, refl, rules}
use Rattle.std.specs.Prelude.{◌==◌, not}
use Rattle.std.proofs.lemmas.Bool.Decides.{nat_tests}
use Rattle.std.specs.List.{list_all}
use Rattle.ring_password_hash.specs.Salt.{letters}
use Rattle.ring_password_hash.proofs.Salts.{letters_apart}
use Rattle.ring_password_hash.proofs.salt.Salt.of.Goals as goal

pub returns-then-is_text-clause-ok : goal.returns-then-is_text-clause-ok
returns-then-is_text-clause-ok c =
    rw (← c.row.ensures.salt, ← c.is_text.ensures, c.if-is_text.true)
    (c.letters.ensures ∙ ap (letters 22) c.from_be_bytes.ensures)

pub returns-then-is_text-clause-usable : goal.returns-then-is_text-clause-usable
returns-then-is_text-clause-usable c =
    let len : length c.letters.result ≡ 22 = search rules in
    let plain : list_all (λ b. not (b == 36)) c.letters.result ≡ true =
    ap (list_all (λ b. not (b == 36))) c.letters.ensures
    ∙ letters_apart 22 c.from_be_bytes.result in
    rw (← c.row.ensures.salt, ← c.is_text.ensures, c.if-is_text.true, plain)
    (grind (arith, nat_tests, len))

pub returns-clause-ok : goal.returns-clause-ok
returns-clause-ok c = rw (← c.row.ensures.salt, ← c.is_text.ensures, c.if-is_text.false) refl

pub returns-clause-usable : goal.returns-clause-usable
returns-clause-usable c =
    let len : length c.args.bytes ≡ 16 = search rules in
    rw (← c.row.ensures.salt, ← c.is_text.ensures, c.if-is_text.false)
    (grind (arith, nat_tests, len))
