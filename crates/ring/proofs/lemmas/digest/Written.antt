-- SPDX-License-Identifier: ISC
-- Digests that are written one after another.
use Rattle.std.proofs.Common.{◌≡◌, ℕ, ◌+◌, ◌-◌, ◌*◌, ◌<◌, ◌≤◌, List, [], ◌∷◌, ◌++◌, length, take}
use Rattle.std.proofs.Common.{ap, arith, drop, get_or, length-append, length-drop, refl, suc}
use Rattle.std.proofs.Common.{suc-mul, sym, ◌∙◌, mul-le-mul_right, take-add, length-take-le, Bor}
use Rattle.std.proofs.lemmas.Grind.{flat_map-append}
use Rattle.std.proofs.lemmas.List.Folds.{length-flat_map-take}
use Rattle.ring.specs.Algorithm.{output_len}
use Rattle.ring.specs.Digest.{bytes_of, digest_of}
use Rattle.ring.specs.Each.{AreDigests, bytes_of_each, digests_of}
use Rattle.ring.specs.declared.digest.algorithm.Algorithm.{Algorithm}
use Rattle.ring.specs.declared.digest.block_context.Digest.{Digest}
use Rattle.ring.proofs.Lengths.{length-digest_of}

-- the first i of the digests stand before the place `end`, from the place `at` on
pub record AreBytes (ds : List Digest) (i at end : ℕ) (before now : List ℕ) : Type 0 where
  pub place : end ≡ at + length (bytes_of_each (take i ds))
  pub bytes : take end now ≡ take at before ++ bytes_of_each (take i ds)

-- there is room for one digest more
pub bytes-room : {ds : List Digest} {bs before now : List ℕ} {at end : ℕ} (i : ℕ) (d : Digest)
    → AreBytes ds i at end before now → i < length ds → bs ≡ bytes_of (get_or ds i d)
    → at + length (bytes_of_each ds) ≤ length now → end + length bs ≤ length now
bytes-room {ds} i d have below is room =
    let most = length-flat_map-take bytes_of ds i d below in
    omega (arith, most, have.place, ap length is, room)

-- the bytes of the messages' digests
pub bytes-are : (a : Algorithm) (ds : List Digest) (ms : List (Bor (List ℕ))) → AreDigests ds a ms
    → bytes_of_each ds ≡ digests_of a ms
bytes-are a [] [] are = refl
bytes-are a (d ∷ ds) (m ∷ ms) are =
    let first : bytes_of d ≡ digest_of a m.now = (are.each 0 d (omega arith)).bytes in
    let rest : AreDigests ds a ms =
    record {
      count = omega (arith, are.count);
      each = λ k z below. are.each (suc k) z (omega (arith, below));
    } in
    ap (λ zs. zs ++ bytes_of_each ds) first
    ∙ ap (λ zs. digest_of a m.now ++ zs) (bytes-are a ds ms rest)
bytes-are a [] (m ∷ ms) are = absurd (omega (arith, are.count))
bytes-are a (d ∷ ds) [] are = absurd (omega (arith, are.count))

pub length-digests_of : (a : Algorithm) (ms : List (Bor (List ℕ)))
    → length (digests_of a ms) ≡ length ms * output_len a
length-digests_of a [] = omega arith
length-digests_of a (m ∷ ms) =
    let both = length-append (digest_of a m.now) (digests_of a ms) in
    both ∙ rw suc-mul (omega (arith, length-digest_of a m.now, length-digests_of a ms))

-- the digests of the first n messages stand before the place `at`
pub record AreWritten (a : Algorithm) (messages : List (Bor (List ℕ))) (n at : ℕ)
    (out : List ℕ) : Type 0 where
  pub place : at ≡ n * output_len a
  pub few : n ≤ length messages
  pub bytes : take at out ≡ digests_of a (take n messages)

-- k digests more, of the messages from n on
module _ {a : Algorithm} {ds : List Digest} (messages : List (Bor (List ℕ))) (n k : ℕ)
    (fits : n + k ≤ length messages)
    (more : AreDigests ds a (take (n + k - n) (drop n messages))) where
  are : AreDigests ds a (take k (drop n messages))
  are = let size : n + k - n ≡ k = omega arith in rw size at more

  part-long : length (bytes_of_each ds) ≡ k * output_len a
  part-long =
      grind (
        arith,
        length-take-le,
        length-drop,
        bytes-are a ds (take k (drop n messages)) are,
        length-digests_of,
      )

  -- there is room for them
  pub room-next : {at : ℕ} {out : List ℕ} → AreWritten a messages n at out
      → length out ≡ length messages * output_len a → at + length (bytes_of_each ds) ≤ length out
  room-next have room =
      let most = mul-le-mul_right (output_len a) fits in
      omega (arith, most, have.place, part-long, room)

  -- they are written too
  pub written-next : {at end : ℕ} {out next : List ℕ} → AreWritten a messages n at out
      → end ≡ at + length (bytes_of_each ds) → take end next ≡ take at out ++ bytes_of_each ds
      → AreWritten a messages (n + k) end next
  written-next have place put =
      let part = take k (drop n messages) in
      let both : digests_of a (take (n + k) messages)
      ≡ digests_of a (take n messages) ++ digests_of a part =
      ap (digests_of a) (take-add n k messages)
      ∙ flat_map-append (λ m. digest_of a m.now) (take n messages) part in
      record {
        place = omega (arith, place, have.place, part-long);
        few = fits;
        bytes = put ∙ rw (have.bytes, bytes-are a ds part are) (sym both);
      }

pub ruleset written_rules = (bytes-room)
