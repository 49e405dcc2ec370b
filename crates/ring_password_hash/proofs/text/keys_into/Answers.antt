-- SPDX-License-Identifier: ISC
use Rattle.std.proofs.Common.{◌≡◌, ◌∙◌, ℕ, ap, arith, drop, length, refl, sym, take}
use Rattle.std.proofs.lemmas.List.{length-drop, length-take-le}
use Rattle.ring_text.proofs.Base64.{bytes_behind, bytes_front}
use Rattle.ring_password_hash.specs.Text.{field_then, written}
use Rattle.ring_password_hash.specs.declared.scheme.Encoding.TheVariants.{Base64}
use Rattle.ring_password_hash.proofs.Fields.{written-injective}
use Rattle.ring_password_hash.proofs.Keys.{first_apart, keys_copied, keys_read}
use Rattle.ring_password_hash.proofs.text.keys_into.Goals as goal

pub returns-in_default-clause-refused : goal.returns-in_default-clause-refused
returns-in_default-clause-refused c = λ _ bytes h len e.
    c.in_default.ensures.refused refl (take 32 bytes) (written Base64 (drop 32 bytes))
    (bytes_front 32 bytes h) (first_apart bytes h) e

pub returns-in_default-decode_base64_into-clause-refused :
    goal.returns-in_default-decode_base64_into-clause-refused
returns-in_default-decode_base64_into-clause-refused c = λ _ bytes h len e.
    let front = bytes_front c.in-Some.len c.field_into.new.out c.field_into.ensures.bytes in
    let read = keys_read _ bytes _ front h c.in-Some.ensures.ok.0 e in
    c.in_default-decode_base64_into.ensures.refused refl (drop 32 bytes) (bytes_behind 32 bytes h)
    read.1

pub returns-then-len-ne-KEY_LEN-clause-refused : goal.returns-then-len-ne-KEY_LEN-clause-refused
returns-then-len-ne-KEY_LEN-clause-refused c = λ _ bytes h len e.
    let out = c.field_into.new.out in
    let key = c.decode_base64_into.new.out in
    let n = c.in-Some.len in
    let m = c.in-Some-decode_base64_into.last in
    let front = bytes_front n out c.field_into.ensures.bytes in
    let behind = bytes_front m key c.decode_base64_into.ensures.bytes in
    let read = keys_read _ bytes _ front h c.in-Some.ensures.ok.0 e in
    let second = written-injective Base64 (take m key) (drop 32 bytes) behind
    (bytes_behind 32 bytes h) (sym c.in-Some-decode_base64_into.ensures.ok ∙ read.1) in
    let within = c.in-Some.ensures.within in
    let within' = c.in-Some-decode_base64_into.ensures.within in
    let one : n ≡ 32 =
    sym (length-take-le n out (omega (arith, within))) ∙ ap length read.0
    ∙ length-take-le 32 bytes (omega (arith, len)) in
    let two : m ≡ 32 =
    sym (length-take-le m key (omega (arith, within'))) ∙ ap length second
    ∙ length-drop 32 bytes ∙ omega (arith, len) in
    omega (arith, c.then-len-ne-KEY_LEN.either, one, two)

pub returns-clause-ok : goal.returns-clause-ok
returns-clause-ok c = λ _.
    let out = c.field_into.new.out in
    let key = c.decode_base64_into.new.out in
    let one : c.args.text.now ≡ field_then Base64 (take 32 out) 58 c.in-Some.rest.now =
    c.in-Some.ensures.ok.0
    ∙ ap (λ (n : ℕ). field_then Base64 (take n out) 58 c.in-Some.rest.now) c.if-len-ne-KEY_LEN.false
    in
    let two : c.in-Some.rest.now ≡ written Base64 (take 32 key) =
    c.in-Some-decode_base64_into.ensures.ok
    ∙ ap (λ (n : ℕ). written Base64 (take n key)) c.if-last-ne-KEY_LEN.false in
    let copied : c.copy_from_slice.new.self ≡ take 32 key = c.copy_from_slice.ensures.after in
    keys_copied c.field_into.new.out c.decode_base64_into.new.out c.copy_from_slice.new.self
    (omega arith) (omega arith)
    copied one two
