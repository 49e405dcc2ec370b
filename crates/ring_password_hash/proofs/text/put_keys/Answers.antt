-- SPDX-License-Identifier: ISC
use Rattle.std.proofs.Common.{◌≡◌, ◌∷◌, ◌++◌, ◌∙◌, [], append_assoc, drop, refl, rules, take}
use Rattle.std.specs.Prelude.{Some}
use Rattle.ring_password_hash.specs.Text.{written}
use Rattle.ring_password_hash.specs.declared.scheme.Encoding.TheVariants.{Base64}
use Rattle.ring_password_hash.proofs.Writing.{put_on}
use Rattle.ring_password_hash.proofs.text.put_keys.Goals as goal

pub returns : goal.returns
returns c =
    let first = written Base64 c.split_at.result.0.now in
    let last = written Base64 c.split_at.result.1.now in
    let one : c.split_at.result.0.now ≡ take 32 c.args.keys.now = search rules in
    let two : c.split_at.result.1.now ≡ drop 32 c.args.keys.now = search rules in
    let whole : first ++ 58 ∷ last
    ≡ written Base64 (take 32 c.args.keys.now) ++ 58 ∷ written Base64 (drop 32 c.args.keys.now) =
    rw (one, two) refl in
    put_on (first ++ 58 ∷ []) last c.put_field-2.new.out (append_assoc first (58 ∷ []) last ∙ whole)
    (put_on first (58 ∷ []) c.put.new.out refl c.in_ok-at.ensures (Some c.in_ok-at-2.at)
    c.in_ok-at-2.ensures) c.put_field-2.result c.put_field-2.ensures
