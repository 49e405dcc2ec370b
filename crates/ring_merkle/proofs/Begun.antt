-- SPDX-License-Identifier: ISC
-- The proof of a beginning is the path of its last node: of the first level where that node has no
-- sibling on the left.
use Rattle.std.proofs.lemmas.Bool.{cases_lt}
use Rattle.std.proofs.lemmas.Bool.Decides.{nat_tests}
use Rattle.std.proofs.Common.{◌≡◌, ◌+◌, ◌-◌, ◌/◌, ◌%◌, ◌^◌, ◌<◌, ◌≤◌, ◌==◌, ◌&&◌, [], ◌∷◌}
use Rattle.std.proofs.Common.{◌++◌, ◌∙◌}
use Rattle.std.proofs.Common.{ℕ, zero, suc, Bool, true, false, cond, List, length, get_or, take}
use Rattle.std.proofs.Common.{drop, refl, ap, sym, arith, ⊎_elim, append_assoc, get_or-drop}
use Rattle.std.proofs.Common.{get_or-take, length-take, subst}
use Rattle.std.proofs.lemmas.List.Elements.{All-cons}
use Rattle.std.proofs.lemmas.Nat.{pow_pos}
use Rattle.std.specs.Int.{is_power_of_two}
use Rattle.ring_merkle.specs.Consistency.{IsConsistent, LeadsToBoth, first_last, first_node}
use Rattle.ring_merkle.specs.Consistency.{proof_of, subproof_at, subproof_of, values_of}
use Rattle.ring_merkle.specs.Cost.{left_out, path_len}
use Rattle.ring_merkle.specs.Inclusion.{path_at}
use Rattle.ring_merkle.specs.Tree.{root_at, root_of}
use Rattle.ring_merkle.specs.Walk.{is_even, shifted_last, shifted_node}
use Rattle.ring_merkle.proofs.Hashes.{AreHashes, IsHash, Sized, hashes-path, hashes-up}
use Rattle.ring_merkle.proofs.Included.{walk-path}
use Rattle.ring_merkle.proofs.Pairs.{length-pair_up, pair_up, root-up, split, take-up}
use Rattle.ring_merkle.proofs.Powers.{power-even, power-odd}
use Rattle.ring_merkle.proofs.Shifts.{even-below, shift-same, shift-stop, shift-up}
use Rattle.ring_merkle.proofs.Sides.{parity}
use Rattle.ring_merkle.proofs.Trees.{path-left, path-low, path-right, pow-sum, root-low, sub-left}
use Rattle.ring_merkle.proofs.Trees.{root-any, sub-any, sub-low, sub-right, sub-whole}
use Rattle.ring_merkle.proofs.Walks.{Leads, Step, leads-end, leads-length}

-- an even number of leaves is half as many nodes one level up
sub-even-all : (h m : ℕ) (xs : List (List ℕ)) (b : Bool) → m % 2 ≡ 0 → m ≡ length xs
    → length xs ≤ 2 ^ suc h → subproof_at (suc h) m xs b ≡ subproof_at h (m / 2) (pair_up xs) b
sub-even-all h m xs b even e le =
    rw (
      sub-whole (suc h) m xs b e,
      sub-whole h (m / 2) (pair_up xs) b (omega (arith, length-pair_up xs)),
      root-up h xs le,
    )

sub-even : (h m : ℕ) (xs : List (List ℕ)) (b : Bool) → m % 2 ≡ 0 → 0 < m → m ≤ length xs
    → length xs ≤ 2 ^ suc h → subproof_at (suc h) m xs b ≡ subproof_at h (m / 2) (pair_up xs) b
sub-even zero m xs b even pos le few = sub-even-all zero m xs b even (omega arith) few
sub-even (suc h) m xs b even pos le few =
    let n = 2 ^ suc h in
    let front = take n xs in
    let back = drop n xs in
    let s = split h xs in
    ⊎_elim
    (λ lt. ⊎_elim
    (λ high. ⊎_elim
    (λ right.
    let a = sub-right (suc h) xs m b lt right in
    let i = sub-even h (m - n) back false (omega arith) (omega arith) (omega arith) (omega arith) in
    let r = root-up h front (omega arith) in
    let d = sub-right h (pair_up xs) (m / 2) b (omega arith) (omega arith) in
    let k : (m - n) / 2 ≡ m / 2 - 2 ^ h = omega arith in
    cc)
    (λ left.
    let a = sub-left (suc h) xs m b lt high left in
    let i = sub-even h m front b even pos (omega arith) (omega arith) in
    let r = root-up h back (omega arith) in
    let d = sub-left h (pair_up xs) (m / 2) b (omega arith) (omega arith) (omega arith) in
    cc)
    (cases_lt n m))
    (λ low. sub-low (suc h) xs m b lt low ∙ sub-even h m xs b even pos le low
    ∙ sym (sub-low h (pair_up xs) (m / 2) b (omega arith) (omega arith)))
    (cases_lt n (length xs)))
    (λ ge. sub-even-all (suc h) m xs b even (omega arith) few)
    (cases_lt m (length xs))

-- after an even number of leaves, one more is a node of its own: where it is not the only one, or
-- is a value of the proof, the values begin with it, and the others are its path
abbrev opens : (b : Bool) (m : ℕ) (x : List ℕ) → List (List ℕ)
opens b m x = cond (b && m == 0) [] (x ∷ [])

sub-odd : (h m : ℕ) (xs : List (List ℕ)) (b : Bool) → m % 2 ≡ 0 → suc m < length xs
    → length xs ≤ 2 ^ suc h
    → subproof_at (suc h) (suc m) xs b ≡ opens b m (get_or xs m []) ++ path_at (suc h) m xs
unfolding subproof_at path_at root_at
sub-odd zero zero (x ∷ y ∷ []) true even lt le = refl
sub-odd zero zero (x ∷ y ∷ []) false even lt le = refl
sub-odd zero zero [] b even lt le = absurd (omega arith)
sub-odd zero zero (x ∷ []) b even lt le = absurd (omega arith)
sub-odd zero zero (x ∷ y ∷ z ∷ xs) b even lt le = absurd (omega arith)
sub-odd zero (suc m) xs b even lt le = absurd (omega arith)
sub-odd (suc h) m xs b even lt le =
    let n = 2 ^ suc h in
    let s = split h xs in
    ⊎_elim
    (λ high. ⊎_elim
    (λ right.
    let a = sub-right (suc h) xs (suc m) b lt right in
    let o = sub-odd h (m - n) (drop n xs) false (omega arith) (omega arith) (omega arith) in
    let d = path-right (suc h) xs m high (omega arith) in
    let k : suc m - n ≡ suc (m - n) = omega arith in
    let i : n + (m - n) ≡ m = omega arith in
    let g = get_or-drop n xs (m - n) [] in
    let u : opens b m (get_or xs m []) ≡ get_or xs m [] ∷ [] = grind (arith, nat_tests) in
    cc)
    (λ left.
    let a = sub-left (suc h) xs (suc m) b lt high left in
    let o = sub-odd h m (take n xs) b even (omega arith) (omega arith) in
    let d = path-left (suc h) xs m high (omega arith) in
    let g = get_or-take n xs m [] (omega arith) in
    let i = append_assoc (opens b m (get_or xs m [])) (path_at (suc h) m (take n xs))
    (root_at (suc h) (drop n xs) ∷ []) in
    cc)
    (cases_lt n (suc m)))
    (λ low. sub-low (suc h) xs (suc m) b lt low ∙ sub-odd h m xs b even lt low
    ∙ ap (λ ps. opens b m (get_or xs m []) ++ ps) (sym (path-low (suc h) xs m low)))
    (cases_lt n (length xs))

root-one : (h : ℕ) (xs : List (List ℕ)) → 0 < length xs
    → root_at h (take 1 xs) ≡ get_or xs 0 []
unfolding root_at
root-one h [] lt = absurd (omega arith)
root-one zero (x ∷ xs) lt = refl
root-one (suc h) (x ∷ xs) lt =
    root-low h (x ∷ []) (omega (arith, pow_pos h)) ∙ root-one h (x ∷ xs) lt

values-odd : (h m : ℕ) (xs : List (List ℕ)) → m % 2 ≡ 0 → suc m < length xs
    → length xs ≤ 2 ^ suc h
    → values_of (suc m) (root_at (suc h) (take (suc m) xs)) (subproof_at (suc h) (suc m) xs true)
    ≡ get_or xs m [] ∷ path_at (suc h) m xs
values-odd h zero xs even lt le =
    rw (power-odd 1 refl, sub-odd h 0 xs true even lt le, root-one (suc h) xs (omega arith)) refl
values-odd h (suc m) xs even lt le =
    let x = get_or xs (suc m) [] in
    let p = power-odd (suc (suc m)) (omega arith) in
    let no : is_power_of_two (suc (suc m)) ≡ false = grind (arith, nat_tests) in
    let o : opens true (suc m) x ≡ x ∷ [] = grind (arith, nat_tests) in
    rw (no, sub-odd h (suc m) xs true even lt le, o) refl

-- the values of a proof for m leaves, where power is whether m is a power of two: its first node,
-- which is at fn, and the path from it, which leads to both roots
pub record Made (power : Bool) (fn sn : ℕ) (first second : List ℕ) (subproof proof : List (List ℕ))
    : Type 0 where
  pub node : List ℕ
  pub path : List (List ℕ)
  pub within : fn ≤ sn
  pub fits : sn < 2 ^ 64
  pub leads : LeadsToBoth fn sn node path first second
  pub is : subproof ≡ node ∷ path
  pub values : cond power (first ∷ proof) proof ≡ node ∷ path

abbrev pub MadeAt : (h m : ℕ) (xs : List (List ℕ)) → Type 0
MadeAt h m xs =
    Made (is_power_of_two m) (shifted_node is_even h (m - 1))
    (shifted_last is_even h (m - 1) (length xs - 1)) (root_at h (take m xs)) (root_at h xs)
    (subproof_at h m xs false) (subproof_at h m xs true)

-- the last of m leaves is a node of its level that has no sibling on the left, where m is odd; and
-- else one level up
made-odd : (h m : ℕ) (xs : List (List ℕ)) → m % 2 ≡ 1 → m < length xs → length xs ≤ 2 ^ suc h
    → length xs ≤ 2 ^ 64 → MadeAt (suc h) m xs
made-odd h m xs odd lt le fits =
    let e : m ≡ suc (m - 1) = omega arith in
    let even : is_even (m - 1) ≡ true = grind (arith, nat_tests) in
    let stop = shift-stop is_even (suc h) (m - 1) in
    let s = sub-odd h (m - 1) xs false (omega arith) (omega arith) le in
    let v = values-odd h (m - 1) xs (omega arith) (omega arith) le in
    let front = walk-path false (suc h) (m - 1) xs (omega arith) le fits in
    let whole = walk-path true (suc h) (m - 1) xs (omega arith) le fits in
    let k : m - 1 + 1 ≡ m = omega arith in
    rw (← shift-same is_even (suc h) (m - 1), stop (m - 1) even, stop (length xs - 1) even)
    (record {
      node = get_or xs (m - 1) [];
      path = path_at (suc h) (m - 1) xs;
      within = omega arith;
      fits = omega arith;
      leads = record { front = rw k at front; whole = whole };
      is = cc;
      values = cc;
    })

made-even : (h m : ℕ) (xs : List (List ℕ)) → m % 2 ≡ 0 → 0 < m → m < length xs
    → length xs ≤ 2 ^ suc h → MadeAt h (m / 2) (pair_up xs) → MadeAt (suc h) m xs
made-even h m xs even pos lt le made =
    let odd : is_even (m - 1) ≡ false = grind (arith, nat_tests) in
    let up = length-pair_up xs in
    let k : (m - 1) / 2 ≡ m / 2 - 1 = omega arith in
    let l : (length xs - 1) / 2 ≡ length (pair_up xs) - 1 = omega arith in
    rw (
      power-even m even,
      ← shift-same is_even (suc h) (m - 1),
      shift-up is_even h (m - 1) (m - 1) odd,
      shift-up is_even h (m - 1) (length xs - 1) odd,
      k,
      l,
      shift-same is_even h (m / 2 - 1),
      root-up h (take m xs) (omega (arith, length-take m xs)),
      take-up (m / 2) m (omega arith) xs,
      root-up h xs le,
      sub-even h m xs false even pos (omega arith) le,
      sub-even h m xs true even pos (omega arith) le,
    ) made

made-at : (h m : ℕ) (xs : List (List ℕ)) → 0 < m → m < length xs → length xs ≤ 2 ^ h
    → length xs ≤ 2 ^ 64 → MadeAt h m xs
made-at zero m xs pos lt le fits = absurd (omega arith)
made-at (suc h) m xs pos lt le fits =
    let up = length-pair_up xs in
    ⊎_elim
    (λ even. made-even h m xs even pos lt le (made-at h (m / 2) (pair_up xs) (omega arith)
    (omega arith) (omega (arith, pow-sum h)) (omega arith)))
    (λ odd. made-odd h m xs odd lt le fits)
    (parity m)

hashes-sub : (sized : Sized) (h m : ℕ) (xs : List (List ℕ)) → 0 < m → m < length xs
    → length xs ≤ 2 ^ h → AreHashes xs → AreHashes (subproof_at h m xs false)
hashes-sub sized zero m xs pos lt le a = absurd (omega arith)
hashes-sub sized (suc h) m xs pos lt le a =
    let up = length-pair_up xs in
    ⊎_elim
    (λ even. rw (sub-even h m xs false even pos (omega arith) le)
    (hashes-sub sized h (m / 2) (pair_up xs) (omega arith) (omega arith) (omega (arith, pow-sum h))
    (hashes-up sized xs a)))
    (λ odd. let e : m ≡ suc (m - 1) = omega arith in
    rw (e, sub-odd h (m - 1) xs false (omega arith) (omega arith) le)
    (All-cons IsHash _ (path_at (suc h) (m - 1) xs) (a (m - 1) [] (omega arith))
    (hashes-path sized (suc h) (m - 1) xs (omega arith) le a)))
    (parity m)

length-values : (b : Bool) (r : List ℕ) (ps : List (List ℕ))
    → length (cond b (r ∷ ps) ps) + cond b 0 1 ≡ 1 + length ps
length-values true r ps = omega arith
length-values false r ps = omega arith

left-by : (b : Bool) (m l s : ℕ) → l + 1 ≡ s + cond b 0 1 → cond (l == s) 0 m ≡ cond b m 0
left-by true m l s e = grind (arith, nat_tests)
left-by false m l s e = grind (arith, nat_tests)

some-steps : {f : Step} {n m : ℕ} {r x : List ℕ} (ps : List (List ℕ)) → 0 < m
    → Leads f n m r ps x → 0 < length ps
some-steps [] pos l = let e = leads-end l in absurd (omega arith)
some-steps (p ∷ ps) pos l = omega arith

module _ (m : ℕ) (xs : List (List ℕ)) (pos : 0 < m) (lt : m < length xs)
    (fits : length xs ≤ 2 ^ 64) where
  pub made : Made (is_power_of_two m) (first_node m) (first_last m (length xs))
      (root_of (take m xs)) (root_of xs) (subproof_of m xs false) (proof_of m xs)
  made =
      rw (
        ← root-any 64 (take m xs) (omega (arith, length-take m xs)),
        ← root-any 64 xs fits,
        ← sub-any 64 m xs false (omega arith) fits,
        ← sub-any 64 m xs true (omega arith) fits,
      ) (made-at 64 m xs pos lt fits fits)

  pub hashes-made : Sized → AreHashes xs → AreHashes (made.node ∷ made.path)
  hashes-made sized a =
      subst AreHashes (sub-any 64 m xs false (omega arith) fits ∙ made.is)
      (hashes-sub sized 64 m xs pos lt fits a)

  -- m is a power of two exactly where the proof leaves the first node out
  length-both : length (proof_of m xs) + 1 ≡ length (subproof_of m xs false)
      + cond (is_power_of_two m) 0 1
  length-both =
      omega (
        arith,
        ap length made.is,
        ap length made.values,
        length-values (is_power_of_two m) (root_of (take m xs)) (proof_of m xs),
      )

  -- then the root of the beginning is no value of the proof, and else it is one
  pub left-out : left_out m xs (length (proof_of m xs)) ≡ cond (is_power_of_two m) m 0
  left-out =
      left-by (is_power_of_two m) m (length (proof_of m xs)) (length (subproof_of m xs false))
      length-both

  -- the proof has a value for each level with a sibling from the first node on, and one for that
  -- node where m is no power of two
  pub length-proof : length (proof_of m xs)
      ≡ path_len (first_node m) (first_last m (length xs)) + cond (is_power_of_two m) 0 1
  length-proof =
      omega (
        arith,
        leads-length made.within made.fits (record { ends = made.leads.whole }),
        ap length made.is,
        length-both,
      )

  -- it is accepted
  pub consistent : IsConsistent m (length xs) (proof_of m xs) (root_of (take m xs)) (root_of xs)
  consistent =
      let below = even-below 64 (m - 1) (length xs - 1) (omega arith) in
      let steps = some-steps made.path (omega arith) (record { ends = made.leads.whole }) in
      record {
        nonempty = pos;
        within = lt;
        some = omega (arith, ap length made.is, length-both);
        leads = rw made.values made.leads;
      }
