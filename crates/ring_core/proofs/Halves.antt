-- SPDX-License-Identifier: ISC
-- Numbers of 64 bits as halves of 32, by their bytes.
use Rattle.std.proofs.Common.{◌≡◌, ℕ, zero, suc, ◌+◌, ◌*◌, ◌/◌, ◌%◌, ◌^◌, ◌<◌, [], ◌∷◌, sym, arith}
use Rattle.std.proofs.Math.Nat.{mod-eq_of_lt, mod-one, pow-suc, one-le-pow}
use Rattle.std.specs.Simd.Lanes.{number_l, digits_l}
use lib.Arith.{mod-mul}

-- the last n bytes of a number, put together
pub number-bytes : (n x : ℕ) → number_l 256 (digits_l 256 n x) ≡ x % 256 ^ n
number-bytes zero x = sym (mod-one x)
number-bytes (suc n) x =
    let positive : 0 < 256 ^ n = omega (arith, one-le-pow n 256 (omega arith)) in
    let parts = mod-mul x {m = 256 ^ n} {c = 256} positive (omega arith) in
    rw (number-bytes n (x / 256), pow-suc 256 n, parts) (omega arith)

-- two numbers of 64 bits, from the lanes to the bytes and back to one number
pub both-bytes : (a b : ℕ) → a < 2 ^ 64 → b < 2 ^ 64
    → number_l 256 (digits_l 256 16 (number_l (2 ^ 64) (a ∷ b ∷ []))) ≡ a + 2 ^ 64 * b
both-bytes a b af bf =
    let whole : number_l (2 ^ 64) (a ∷ b ∷ []) ≡ a + 2 ^ 64 * b = omega arith in
    rw (whole, number-bytes 16 (a + 2 ^ 64 * b)) (mod-eq_of_lt (omega arith))
