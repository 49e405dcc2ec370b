-- SPDX-License-Identifier: ISC
-- Two walks to one root: they are the same, or two of their inputs collide.
use Rattle.std.proofs.lemmas.Bool.{both_ways, cases_Bool}
use Rattle.std.proofs.lemmas.List.{drop_at, take_at}
use Rattle.std.proofs.lemmas.Slice.Eq.{bytes_eq-Decides}
use Rattle.std.specs.Str.{bytes_eq}
use Rattle.std.proofs.Common.{◌≡◌, ◌≢◌, ◌^◌, ◌<◌, ◌≤◌, [], ◌∷◌, ◌++◌, ◌∙◌, ◌⊎◌, ℕ, suc}
use Rattle.std.proofs.Common.{Bool, true, false, cond, List, length, get_or, take, drop, refl, ap}
use Rattle.std.proofs.Common.{sym, arith, inl, inr, ⊎_elim}
use Rattle.std.specs.Int.{is_power_of_two}
use Rattle.ring_merkle.specs.Consistency.{IsConsistent, consistency_inputs}
use Rattle.ring_merkle.specs.Consistency.{subproof_of, values_of}
use Rattle.ring_merkle.specs.Inclusion.{IsIncluded, inclusion_inputs, path_of}
use Rattle.ring_merkle.specs.Tree.{root_of, sha256}
use Rattle.ring_merkle.specs.Walk.{IsCollision, is_right, step_input}
use Rattle.ring_merkle.specs.Walk.{walk_inputs, whole_step}
use Rattle.ring_merkle.proofs.Begun.{hashes-made, made}
use Rattle.ring_merkle.proofs.Hashes.{AreHashes, IsHash, Sized, hashes-path}
use Rattle.std.proofs.lemmas.List.Elements.{All-cons, All-tail}
use Rattle.ring_merkle.proofs.Included.{included}
use Rattle.ring_merkle.proofs.Trees.{below-pow}
use Rattle.ring_merkle.proofs.Walks.{Leads, leads-end, leads-on}

-- two inputs of one step are the same only where the values and the hashes so far are
same-parts : (x y p q : List ℕ) → length x ≡ 32 → length y ≡ 32 → x ++ p ≡ y ++ q
    → (x ≡ y) × (p ≡ q)
same-parts x y p q a b e = (
  sym (take_at x p 32 a) ∙ ap (λ z. take 32 z) e ∙ take_at y q 32 b,
  sym (drop_at x p 32 a) ∙ ap (λ z. drop 32 z) e ∙ drop_at y q 32 b,
)

same-inputs : (right : Bool) (x y p q : List ℕ) → (length x ≡ 32) × (length p ≡ 32)
    → (length y ≡ 32) × (length q ≡ 32) → step_input right p x ≡ step_input right q y
    → (x ≡ y) × (p ≡ q)
same-inputs true x y p q h k e =
    let s = same-parts p q x y h.1 k.1 (ap (λ z. drop 1 z) e) in (s.1, s.0)
same-inputs false x y p q h k e = same-parts x y p q h.0 k.0 (ap (λ z. drop 1 z) e)

-- a collision at the first step, and at a later one
now : (a b : List ℕ) (us vs : List (List ℕ)) → a ≢ b → sha256 a ≡ sha256 b
    → IsCollision (a ∷ us) (b ∷ vs)
now a b us vs ne e = record {
  step = 0;
  in_first = omega arith;
  in_second = omega arith;
  differ = ne;
  agree = e;
}

later : (a b : List ℕ) (us vs : List (List ℕ)) → IsCollision us vs → IsCollision (a ∷ us) (b ∷ vs)
later a b us vs c = record {
  step = suc c.step;
  in_first = omega (arith, c.in_first);
  in_second = omega (arith, c.in_second);
  differ = c.differ;
  agree = c.agree;
}

decide : (x y : List ℕ) → (x ≡ y) ⊎ (x ≢ y)
decide x y =
    let d = bytes_eq-Decides x y in
    ⊎_elim (λ t. inl (d.0 t)) (λ f. inr (λ e. both_ways _ f (d.1 e))) (cases_Bool (bytes_eq x y))

-- the values of a proof are hashes
hashes-values : (b : Bool) (r : List ℕ) (ps : List (List ℕ)) → AreHashes (r ∷ ps) → 0 < length ps
    → AreHashes (get_or (cond b (r ∷ ps) ps) 0 [] ∷ drop 1 (cond b (r ∷ ps) ps))
hashes-values true r ps h some = h
hashes-values false r [] h some = absurd (omega arith)
hashes-values false r (p ∷ ps) h some = All-tail IsHash r (p ∷ ps) h

hashes-on : (x y p : List ℕ) (ps : List (List ℕ)) → IsHash y → AreHashes (x ∷ p ∷ ps)
    → AreHashes (y ∷ ps)
hashes-on x y p ps one h =
    All-cons IsHash y ps one (All-tail IsHash p ps (All-tail IsHash x (p ∷ ps) h))

module _ (sized : Sized) where
  same-walks : (ps qs : List (List ℕ)) {n m : ℕ} {x y r : List ℕ} → AreHashes (x ∷ ps)
      → AreHashes (y ∷ qs) → Leads whole_step n m x ps r → Leads whole_step n m y qs r
      → ((x ≡ y) × (ps ≡ qs)) ⊎ IsCollision (walk_inputs n m x ps) (walk_inputs n m y qs)
  unfolding walk_inputs
  same-walks [] [] h k e g = let a = leads-end e in let b = leads-end g in inl (cc, refl)
  same-walks [] (q ∷ qs) h k e g =
      let a = leads-end e in let b = leads-on g in absurd (omega arith)
  same-walks (p ∷ ps) [] h k e g =
      let a = leads-on e in let b = leads-end g in absurd (omega arith)
  same-walks (p ∷ ps) (q ∷ qs) {n} {m} {x} {y} h k e g =
      let a = step_input (is_right n m) p x in
      let b = step_input (is_right n m) q y in
      ⊎_elim
      (λ same. ⊎_elim
      (λ eq. let s = same-inputs (is_right n m) x y p q (h 0 x (omega arith), h 1 x (omega arith))
      (k 0 y (omega arith), k 1 y (omega arith)) eq in
      inl (s.0, cc))
      (λ ne. inr (now a b _ _ ne same.0))
      (decide a b))
      (λ col. inr (later a b _ _ col))
      (same-walks ps qs (hashes-on x _ p ps (sized a) h) (hashes-on y _ q qs (sized b) k)
      (leads-on e).1 (leads-on g).1)

  -- what leads to the root is the path of the leaf, or two inputs collide
  pub sound : (xs : List (List ℕ)) {path : List (List ℕ)} {hash : List ℕ} {m : ℕ} → AreHashes xs
      → AreHashes (hash ∷ path) → length xs ≤ 2 ^ 64
      → IsIncluded hash m (length xs) path (root_of xs)
      → ((hash ≡ get_or xs m []) × (path ≡ path_of m xs))
      ⊎ IsCollision (inclusion_inputs hash m (length xs) path)
      (inclusion_inputs (get_or xs m []) m (length xs) (path_of m xs))
  unfolding path_of
  sound xs {path} {hash} {m} h k fits i =
      let most = below-pow (length xs) in
      same-walks path (path_of m xs) k (All-cons IsHash _ (path_of m xs) (h m [] i.within)
      (hashes-path sized (length xs) m xs i.within (omega arith) h)) (record { ends = i.leads })
      (record { ends = (included xs m i.within fits).leads })

  -- what leads to the larger root leads to that of the beginning too, or two inputs collide
  pub sound-front : (xs : List (List ℕ)) {path : List (List ℕ)} {first : List ℕ} {m : ℕ}
      → AreHashes xs → AreHashes (first ∷ path) → length xs ≤ 2 ^ 64
      → IsConsistent m (length xs) path first (root_of xs)
      → (first ≡ root_of (take m xs))
      ⊎ IsCollision (consistency_inputs m (length xs) (values_of m first path))
      (consistency_inputs m (length xs) (subproof_of m xs false))
  sound-front xs {path} {first} {m} h k fits i =
      let p = made m xs i.nonempty i.within fits in
      rw p.is (⊎_elim
      (λ same. let front = p.leads.front in let given = i.leads.front in inl (cc))
      (λ col. inr col)
      (same-walks (drop 1 (values_of m first path)) p.path
      (hashes-values (is_power_of_two m) first path k i.some)
      (hashes-made m xs i.nonempty i.within fits sized h)
      (record { ends = i.leads.whole }) (record { ends = p.leads.whole })))
