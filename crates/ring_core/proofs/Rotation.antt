-- SPDX-License-Identifier: ISC
-- Rotations, at each width: two shifts or'ed are the standard's, and so are two or three of them
-- under exclusive or, one inside the other.
use Rattle.std.proofs.Common.{◌≡◌, ℕ, ◌+◌, ◌-◌, ◌*◌, ◌/◌, ◌%◌, ◌^◌, ◌<◌, ◌≤◌, bit_or, refl}
use Rattle.std.proofs.Common.{sym, ap, ◌∙◌, arith, add_comm, mod-lt, pow_pos}
use Rattle.std.proofs.lemmas.Nat.{mod-mul-add, mod-pow-add, pow-add, row_fits_turned, shl-shr}
use Rattle.std.proofs.lemmas.Nat.{shr-shr, xor_block, xor_lt, xor_mod, xor_shr}
use Rattle.std.proofs.Math.Nat.{mul-mod_left, add-mul-div_right, add-mul-mod_self_right}
use Rattle.std.proofs.Math.Nat.{div-le_self, div-lt_iff_lt-mul, add-mod-mod, mod-eq_of_lt}
use Rattle.std.specs.Int.Bits.{or_shifted_r, xor_assoc}
use Rattle.ring_core.specs.Prelude.{◌⊕◌, rotr, three_rotations}

-- a word of w bits shifted right by k, or'ed with itself shifted left by the rest
abbrev pub or_of_shifts : (w n k : ℕ) → ℕ
or_of_shifts w n k = bit_or (n / 2 ^ k) (n * 2 ^ (w - k) % 2 ^ w)

split_power : (w k : ℕ) → k ≤ w → 2 ^ w ≡ 2 ^ (w - k) * 2 ^ k
split_power w k le = let e : w ≡ w - k + k = omega arith in rw (← pow-add 2 (w - k) k, ← e) refl

-- the low k bits of n, moved up by j, leave room for j bits below j + k
room : (n k j : ℕ) → n % 2 ^ k * 2 ^ j + 2 ^ j ≤ 2 ^ j * 2 ^ k
room n k j =
    row_fits_turned (n % 2 ^ k) (2 ^ j) (2 ^ j) (2 ^ k) (mod-lt n (pow_pos k)) (omega arith)

-- of n moved up, only the low k bits are below w
moved_up : (w n k : ℕ) → k ≤ w → n * 2 ^ (w - k) % 2 ^ w ≡ n % 2 ^ k * 2 ^ (w - k)
moved_up w n k le =
    let j = w - k in
    let e : w ≡ k + j = omega arith in
    ap (λ (m : ℕ). n * 2 ^ j % 2 ^ m) e
    ∙ rw (mod-pow-add (n * 2 ^ j) k j, shl-shr n j, mul-mod_left n (2 ^ j)) (omega arith)

high_lt : (w n k : ℕ) → k ≤ w → n < 2 ^ w → n / 2 ^ k < 2 ^ (w - k)
high_lt w n k le fits = (div-lt_iff_lt-mul (pow_pos k)).1 (rw (← split_power w k le) fits)

pub or_of_shifts-rotr : (w n k : ℕ) → k ≤ w → n < 2 ^ w → or_of_shifts w n k ≡ rotr w k n
or_of_shifts-rotr w n k le fits =
    rw (moved_up w n k le, or_shifted_r (n % 2 ^ k) (w - k) (n / 2 ^ k) (high_lt w n k le fits))
    (omega arith)

pub rotr-lt : (w n k : ℕ) → k ≤ w → n < 2 ^ w → rotr w k n < 2 ^ w
rotr-lt w n k le fits =
    rw (split_power w k le) (omega (arith, room n k (w - k), high_lt w n k le fits))

-- the library's rotation in a word of w bits, as it computes there
pub rotate_right-rotr : (w n k : ℕ) → 1 ≤ k → k < w → n < 2 ^ w
    → bit_or (n / 2 ^ (k % w)) (n * 2 ^ ((w - k % w) % w) % 2 ^ w) % 2 ^ w ≡ rotr w k (n % 2 ^ w)
rotate_right-rotr w n k positive below fits =
    let left : (w - k) % w ≡ w - k = mod-eq_of_lt (omega arith) in
    let turned : or_of_shifts w n k ≡ rotr w k n = or_of_shifts-rotr w n k (omega arith) fits in
    rw (mod-eq_of_lt below, left, turned, mod-eq_of_lt fits)
    (mod-eq_of_lt (rotr-lt w n k (omega arith) fits))

-- a word, twice in a number of twice its bits, shifted right: the low half is the word rotated
pub doubled-rotr : (w k x : ℕ) → k ≤ w → x < 2 ^ w
    → (x * 2 ^ w + x) / 2 ^ k % 2 ^ w ≡ rotr w k x
doubled-rotr w k x le fits =
    let up = x * 2 ^ (w - k) in
    let moved : x * 2 ^ w + x ≡ x + up * 2 ^ k = rw (split_power w k le) (omega arith) in
    let down : (x + up * 2 ^ k) / 2 ^ k ≡ x / 2 ^ k + up = add-mul-div_right x up (pow_pos k) in
    rw (moved, down, ← add-mod-mod (x / 2 ^ k) up (2 ^ w), moved_up w x k le)
    (mod-eq_of_lt (rotr-lt w x k le fits))

-- rotations of two words under exclusive or
pub rotr-xor : {x y : ℕ} (w k : ℕ) → k ≤ w → x < 2 ^ w → y < 2 ^ w
    → rotr w k (x ⊕ y) ≡ rotr w k x ⊕ rotr w k y
rotr-xor {x} {y} w k le fx fy =
    rw (
      ← doubled-rotr w k (x ⊕ y) le (xor_lt w x y fx fy),
      ← xor_block w x y x y fx fy,
      xor_shr (x * 2 ^ w + x) (y * 2 ^ w + y) k,
      xor_mod ((x * 2 ^ w + x) / 2 ^ k) ((y * 2 ^ w + y) / 2 ^ k) w,
      doubled-rotr w k x le fx,
      doubled-rotr w k y le fy,
    ) refl

-- one rotation after another
rotr-rotr : (w a b x : ℕ) → a + b ≤ w → rotr w a (rotr w b x) ≡ rotr w (a + b) x
rotr-rotr w a b x le =
    let high = x / 2 ^ b in
    let low = x % 2 ^ b in
    let rest = 2 ^ (w - (a + b)) in
    let up_b : 2 ^ (w - b) ≡ rest * 2 ^ a =
    let e : w - b ≡ w - (a + b) + a = omega arith in rw e (pow-add 2 (w - (a + b)) a) in
    let up_a : 2 ^ (w - a) ≡ rest * 2 ^ b =
    let e : w - a ≡ w - (a + b) + b = omega arith in rw e (pow-add 2 (w - (a + b)) b) in
    let inner : rotr w b x ≡ high + low * rest * 2 ^ a = rw up_b (grind arith) in
    let down : x / 2 ^ (a + b) ≡ high / 2 ^ a = rw (add_comm a b) (sym (shr-shr x b a)) in
    rw (
      inner,
      add-mul-div_right high (low * rest) (pow_pos a),
      add-mul-mod_self_right high (low * rest) (2 ^ a),
      up_a,
      down,
      mod-pow-add x a b,
    ) (grind arith)

-- two rotations, one inside the other, and three
pub rotr-inside : {x y : ℕ} (w a b : ℕ) → a ≤ b → b ≤ w → x < 2 ^ w → y < 2 ^ w
    → rotr w a (x ⊕ rotr w (b - a) y) ≡ rotr w a x ⊕ rotr w b y
rotr-inside {x} {y} w a b ab bw fx fy =
    let e : a + (b - a) ≡ b = omega arith in
    rotr-xor w a (omega arith) fx (rotr-lt w y (b - a) (omega arith) fy)
    ∙ ap (λ (m : ℕ). rotr w a x ⊕ m) (rw e at (rotr-rotr w a (b - a) y (omega arith)))

pub rotr-three : {x : ℕ} (w a b c : ℕ) → a ≤ b → b ≤ c → c ≤ w → x < 2 ^ w
    → rotr w a (x ⊕ rotr w (b - a) (x ⊕ rotr w (c - b) x)) ≡ three_rotations w (a, b, c) x
rotr-three {x} w a b c ab bc cw fits =
    let inner = x ⊕ rotr w (c - b) x in
    let inner_fits : inner < 2 ^ w = xor_lt w x _ fits (rotr-lt w x (c - b) (omega arith) fits) in
    rotr-inside w a b ab (omega arith) fits inner_fits
    ∙ ap (λ (m : ℕ). rotr w a x ⊕ m) (rotr-inside w b c bc cw fits fits)
    ∙ sym (xor_assoc (rotr w a x) (rotr w b x) (rotr w c x))

-- two rotations of a word, one inside the other, by such numbers, and a shift of it in both halves
-- of a number
pub doubled-three : (w a b s x : ℕ) → a ≤ b → b ≤ w → x < 2 ^ w
    → (((x * 2 ^ w + x) ⊕ (x * 2 ^ w + x) / 2 ^ (b - a)) / 2 ^ a
    ⊕ (x / 2 ^ s * 2 ^ w + x / 2 ^ s)) % 2 ^ w
    ≡ rotr w a x ⊕ rotr w b x ⊕ x / 2 ^ s
doubled-three w a b s x ab bw fits =
    let d = x * 2 ^ w + x in
    let near = d / 2 ^ (b - a) in
    let down = x / 2 ^ s in
    let e : b - a + a ≡ b = omega arith in
    let far : near / 2 ^ a ≡ d / 2 ^ b = rw e at (shr-shr d (b - a) a) in
    rw (
      xor_mod ((d ⊕ near) / 2 ^ a) (down * 2 ^ w + down) w,
      xor_shr d near a,
      xor_mod (d / 2 ^ a) (near / 2 ^ a) w,
      far,
      doubled-rotr w a x (omega arith) fits,
      doubled-rotr w b x bw fits,
      mod-mul-add down (2 ^ w) down (omega (arith, div-le_self x (2 ^ s))),
    ) refl

pub ruleset rotations = (rotate_right-rotr)
