-- SPDX-License-Identifier: ISC
use Rattle.std.proofs.Common.{◌≡◌, length, map, rules}
use Rattle.std.proofs.Math.ListN.{length-map}
use Rattle.ring_core.proofs.Vectors.{xor_eight}
use Rattle.ring_core.proofs.Mapped.{value_read}
use Rattle.ring.proofs.digest.lanes.algorithms.xored_words.Goals as goal

pub returns : goal.returns
returns g c =
    let value = g.W.Word.value in
    let x = c.args.sum in
    let y = c.args.digest in
    let eight_x : length x ≡ 8 = search rules in
    let eight_y : length y ≡ 8 = search rules in
    let words_x : length (map value x) ≡ 8 = simp length-map eight_x in
    let words_y : length (map value y) ≡ 8 = simp length-map eight_y in
    rw (
      c.bit_xor.ensures,
      c.bit_xor-2.ensures,
      c.bit_xor-3.ensures,
      c.bit_xor-4.ensures,
      c.bit_xor-5.ensures,
      c.bit_xor-6.ensures,
      c.bit_xor-7.ensures,
      c.bit_xor-8.ensures,
    )
    (simp (value_read value x 8 eight_x)
    (simp (value_read value y 8 eight_y) (xor_eight (map value x) (map value y) words_x words_y)))
