-- SPDX-License-Identifier: ISC
use Rattle.std.proofs.Common.{◌≡◌, ℕ, ◌*◌, ◌/◌, ◌%◌, ◌^◌, List, [], ◌∷◌, arith, rules, sym}
use Rattle.ring.proofs.lemmas.digest.Outputs.{bytes-halves, swapped_words}
use Rattle.ring.proofs.digest.block_context.bit_len_field.Goals as goal

pub returns : goal.returns
returns c =
    let x : ℕ = c.as_bits-bits.result in
    let words : List ℕ = x / 2 ^ 64 ∷ x % 2 ^ 64 ∷ [] in
    let bits : x ≡ 8 * c.args.message_len =
    search (rules, c.as_bits-bits.ensures, c.in-Ok.ensures) in
    let high : x / 2 ^ 64 % 2 ^ 64 ≡ x / 2 ^ 64 = omega (arith, bits, c.requires) in
    let low : x % 2 ^ 64 % 2 ^ 64 ≡ x % 2 ^ 64 = omega arith in
    rw (swapped_words 8 words (search rules), high, low, sym bits)
    (sym (bytes-halves x (omega (arith, bits, c.requires))))
