-- SPDX-License-Identifier: ISC
-- The symbols of a salt, and that a scheme can write them.
use Rattle.std.proofs.Common.{◌≡◌, ◌<◌, ◌==◌, ◌+◌, ◌-◌, ◌/◌, ◌%◌, ◌∷◌, ◌++◌, ◌∙◌, ℕ, zero, suc}
use Rattle.std.proofs.Common.{Bool, true, List, [], ap, append_assoc, arith, length, refl}
use Rattle.std.proofs.Common.{sym, take}
use Rattle.std.specs.Prelude.{not, slice_index, slice_set}
use Rattle.std.proofs.lemmas.List.{append-nil, take_all, take_more_set}
use Rattle.std.specs.List.{list_all}
use Rattle.base64.proofs.Tables.{all_below_at}
use Rattle.ring_password_hash.specs.Salt.{letters, symbols}

abbrev is_apart : ℕ → Bool
is_apart k = not (slice_index symbols k == 36)

-- no symbol is the byte that ends a salt
pub letters_apart : (count n : ℕ) → list_all (λ b. not (b == 36)) (letters count n) ≡ true
unfolding letters
letters_apart zero n = refl
letters_apart (suc count) n =
    let apart : is_apart (n % 62) ≡ true = all_below_at is_apart 62 (n % 62) refl (omega arith) in
    rw apart (letters_apart count (n / 62))

one_more : (a b : List ℕ) (s : ℕ) → a ++ s ∷ b ≡ (a ++ s ∷ []) ++ b
one_more a b s = simp append_assoc

-- a further symbol was written
pub letters_more : (n i rest : ℕ) {x : ℕ} (salt : List ℕ) → i < 22 → length salt ≡ 22
    → x ≡ slice_index symbols (rest % 62) → letters 22 n ≡ take i salt ++ letters (22 - i) rest
    → letters 22 n ≡ take (i + 1) (slice_set salt i x) ++ letters (22 - (i + 1)) (rest / 62)
unfolding letters
letters_more n i rest {x} salt below len is so_far =
    let m = 22 - (i + 1) in
    let same : 22 - i ≡ suc m = omega arith in
    let s = slice_index symbols (rest % 62) in
    let behind = letters m (rest / 62) in
    let room : i < length salt = omega (arith, len, below) in
    so_far ∙ ap (λ (k : ℕ). take i salt ++ letters k rest) same
    ∙ one_more (take i salt) behind s
    ∙ ap (λ (l : List ℕ). l ++ behind) (sym (take_more_set salt i s room)
    ∙ ap (λ (y : ℕ). take (i + 1) (slice_set salt i y)) (sym is))

-- all symbols were written
pub letters_all : (n i rest : ℕ) (salt : List ℕ) → i ≡ 22 → length salt ≡ 22
    → letters 22 n ≡ take i salt ++ letters (22 - i) rest → salt ≡ letters 22 n
unfolding letters
letters_all n i rest salt all len so_far =
    let whole : take 22 salt ≡ salt = take_all 22 salt (omega (arith, len)) in
    sym whole ∙ sym (append-nil (take 22 salt))
    ∙ sym (so_far ∙ ap (λ (k : ℕ). take k salt ++ letters (22 - k) rest) all)
