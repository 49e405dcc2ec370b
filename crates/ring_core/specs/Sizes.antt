-- SPDX-License-Identifier: ISC
-- The bytes that a value takes in memory.
use Rattle.std.proofs.Common.{◌≡◌, ℕ, ◌+◌, ◌-◌, ◌*◌, ◌%◌, ◌^◌, ◌<◌, ap, sym, subst, ◌∙◌}
use Rattle.std.proofs.Math.Nat.{add-zero, max-eq_left, mod_self, sub-zero, zero-add, zero-mod}
use mir.Syntax.{Ty, tcons, tnil}
use prog.Memory.{size, align, aligns, end_of, up}
use prog.Align.{align_pos, align_size, dv→}

-- no padding follows what ends at a multiple of the alignment
up-multiple : (a n : ℕ) → n % a ≡ 0 → up a n ≡ n
up-multiple a n whole =
    ap (λ (r : ℕ). n + (a - r) % a) whole
    ∙ ap (λ (r : ℕ). n + r % a) (sub-zero a)
    ∙ ap (λ (r : ℕ). n + r) (mod_self a)
    ∙ add-zero n

-- a struct takes as many bytes as its only field
pub size-of_one : (τ : Ty) → up (aligns (tcons τ tnil)) (end_of 0 (tcons τ tnil)) ≡ size τ
size-of_one τ =
    let a = align τ in
    ap (λ (k : ℕ). up k (up a 0 + size τ)) (max-eq_left (align_pos τ))
    ∙ ap (λ (n : ℕ). up a (n + size τ)) (up-multiple a 0 (zero-mod a))
    ∙ ap (λ (n : ℕ). up a n) (zero-add (size τ))
    ∙ up-multiple a (size τ) (dv→ a (size τ) (align_size τ))

-- sixteen structs of one field fit where sixteen of the field fit
pub sixteen-of_one : (τ : Ty) → 16 * size τ < 2 ^ 63
    → 16 * up (aligns (tcons τ tnil)) (end_of 0 (tcons τ tnil)) < 2 ^ 63
sixteen-of_one τ small = subst (λ (n : ℕ). 16 * n < 2 ^ 63) (sym (size-of_one τ)) small
