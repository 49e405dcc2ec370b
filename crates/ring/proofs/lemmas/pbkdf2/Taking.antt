-- SPDX-License-Identifier: ISC
-- Bytes that come to places, part by part.
use Rattle.std.proofs.lemmas.Grind.{common_steps}
use Rattle.std.proofs.Common.{◌≡◌, ◌≢◌, ◌↔◌, ℕ, ◌+◌, ◌-◌, ◌<◌, ◌≤◌, ◌&&◌, [], ◌++◌, Bool, List}
use Rattle.std.proofs.Common.{arith, drop, inl, inr, length, take, true}
use Rattle.std.proofs.lemmas.Bool.{cases_lt}
use Rattle.ring.specs.Prelude.{HasPlaces, KeepsPlaces, Receives, Takes}
use Rattle.ring.proofs.Pieces.{same_part}

module _ {R : Type 0} {places room : R → ℕ} {x y : R} (s : KeepsPlaces places room x y) where
  -- what is kept twice is kept
  pub keeps-more : {z : R} → KeepsPlaces places room y z → KeepsPlaces places room x z
  keeps-more t = grind arith

  -- some of the places are kept, and a front of the room there
  pub places-kept : {m n k l : ℕ} → HasPlaces places room m n x → k ≤ m → l ≤ n
      → HasPlaces places room k l y
  places-kept has few short =
      grind (arith, has, s)

module _ {R : Type 0} {H : R → R → ℕ → List ℕ → Type 0} where
  -- no place takes any
  pub takes-none : {first m : ℕ} {f : ℕ → List ℕ} {r : R} → ((i : ℕ) → i < m → f i ≡ [])
      → Receives H first m f r r
  takes-none none =
      grind (arith, common_steps, none)

  -- the bytes by other names
  pub takes-same : {first m : ℕ} {f g : ℕ → List ℕ} {x y : R} → Receives H first m f x y
      → ((i : ℕ) → i < m → f i ≡ g i) → Receives H first m g x y
  takes-same s same =
      grind (arith, common_steps, same, s.each, s.others)

  -- one of the places takes some bytes more
  pub takes-at : {first m q v : ℕ} {f g : ℕ → List ℕ} {part : List ℕ} {x y z : R}
      → Receives H first m f x y → Takes H (first + q) v part y z → q < m
      → length (f q) ≡ v → g q ≡ f q ++ part → ((i : ℕ) → i ≢ q → g i ≡ f i)
      → Receives H first m g x z
  takes-at {first} {q = q} {f = f} s t room long here there =
      record {
        each = λ start i below none.
            let had = s.each start i below none in
            grind (arith, common_steps, t.here start (f q) long, t.others start (first + i) (f i));
        others = λ start j front out has.
            t.others start j front (grind (arith, out)) (s.others start j front out has);
      }

  -- some places take bytes, and then the k after them
  pub takes-places : {first m next k : ℕ} {f g : ℕ → List ℕ} {x y z : R}
      → Receives H first m f x y → Receives H next k g y z → next ≡ first + m
      → ((i : ℕ) → i < k → g i ≡ f (m + i)) → Receives H first (m + k) f x z
  takes-places {first} {m} {next} {k} {f} s t place same =
      record {
        each = λ start i below has. elim (cases_lt i m) [
          | inl lt ↦ t.others start (first + i) (f i) (inl (omega (arith, place, lt)))
              (s.each start i lt has)
          | inr ge ↦
              let at : first + i ≡ next + (i - m) = omega (arith, place, ge) in
              let back : m + (i - m) ≡ i = omega (arith, ge) in
              let had = s.others start (first + i) [] (inr (omega (arith, ge))) has in
              grind (arith, common_steps, at, had, same (i - m), t.each start (i - m))
        ];
        others = λ start j front out has.
            t.others start j front (grind (arith, out))
            (s.others start j front (grind (arith, out)) has);
      }

  -- what came since the start: nothing after these places, and to each of them its bytes
  pub taken-all : {first m : ℕ} {f : ℕ → List ℕ} {x y : R} → Receives H first m f x y
      → ((place : ℕ) → H x x place []) → H x y (first + m) []
      × ((i place : ℕ) → i < m → place ≡ first + i → H x y place (f i))
  taken-all {x = x} t none = (
    t.others x _ [] (inr (omega arith)) (none _),
    λ i place below at. rw at (t.each x i below (none _)),
  )

-- a part that is compared after a front: m says whether the front was the same, and b whether the
-- part is
pub compared-part : {A : Type 0} {m b : Bool} (front part value : List ℕ) {w : ℕ}
    → length front ≡ w → w ≤ length value
    → (b ≡ true) ↔ (take (length part) (drop w value) ≡ part)
    → (m ≡ true) ↔ (A × (take (length front) value ≡ front))
    → ((m && b) ≡ true) ↔ (A × (take (length (front ++ part)) value ≡ front ++ part))
compared-part {m = m} {b = b} front part value long room is was =
    grind (arith, common_steps, same_part value front part)

pub ruleset taking_rules = (common_steps, compared-part)
