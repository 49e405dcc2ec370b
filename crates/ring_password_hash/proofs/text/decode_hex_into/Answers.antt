-- SPDX-License-Identifier: ISC
use Rattle.std.proofs.Common.{◌/◌, ap, arith, length}
use Rattle.std.proofs.lemmas.List.{length-take-le}
use Rattle.hex.proofs.HexLemmas.{length-encode_with}
use Rattle.hex.specs.Hex.{lower_digits}
use Rattle.ring_password_hash.proofs.text.decode_hex_into.Goals as goal

pub returns-then-not-fill_from_hex-clause-refused
    : goal.returns-then-not-fill_from_hex-clause-refused
returns-then-not-fill_from_hex-clause-refused c = λ _ bytes h e.
    let room = length-take-le (length c.args.text.now / 2) c.args.out.now
    (omega (arith, c.requires.text, c.requires.room)) in
    let twice = length-encode_with lower_digits bytes in
    c.fill_from_hex.ensures.refused (λ read. cc (read, c.if-not-fill_from_hex.true)) bytes h
    (omega (arith, room, twice, ap length e)) e
