-- SPDX-License-Identifier: ISC
-- A text cut at a byte, or behind a prefix, is cut in one way.
use Rattle.std.proofs.Common.{◌≡◌, ◌≢◌, ◌==◌, ℕ, Bool, true, false, List, [], ◌∷◌, ◌++◌, drop}
use Rattle.std.proofs.Common.{arith, refl, sym, ap, subst, ◌∙◌}
use Rattle.std.specs.Prelude.{All, not}
use Rattle.std.specs.List.{list_all}
use Rattle.std.proofs.lemmas.Bool.{eq-eqb, not-true}
use Rattle.std.proofs.lemmas.List.Elements.{All-head, All-tail, All-weaker}
use Rattle.std.proofs.lemmas.List.Sums.{AllPass-from_list_all}
use Rattle.ring_text.specs.Cut.{IsFirstCut, IsWithout}

abbrev pub NotAt : ℕ → ℕ → Type 0
NotAt byte b = (b == byte) ≡ false

-- the byte is nowhere in the text, as a test
abbrev pub lacks : ℕ → List ℕ → Bool
lacks byte text = list_all (λ b. not (b == byte)) text

pub IsWithout-lacks : (byte : ℕ) (text : List ℕ) → lacks byte text ≡ true → IsWithout byte text
IsWithout-lacks byte text all =
    All-weaker (λ b. not (b == byte) ≡ true) (NotAt byte) (λ b. not-true (b == byte)) text
    (AllPass-from_list_all (λ b. not (b == byte)) text all)

apart : (byte : ℕ) → NotAt byte byte → ⊥
apart byte h = cc (h, eq-eqb byte byte refl)

abbrev pub first_of_list : ℕ → List ℕ → ℕ
first_of_list d [] = d
first_of_list d (x ∷ xs) = x

-- a run of what P holds of, the first of which it does not hold, and the rest are known from the
-- whole
module _ (P : ℕ → Type 0) {x y : ℕ} {s t : List ℕ} (nx : P x → ⊥) (ny : P y → ⊥) where
  pub run_same : (f g : List ℕ) → All P f → All P g → f ++ x ∷ s ≡ g ++ y ∷ t
      → (f ≡ g) × (x ≡ y) × (s ≡ t)
  run_same [] [] hf hg e = (refl, ap (first_of_list 0) e, ap (drop 1) e)
  run_same [] (b ∷ g) hf hg e = grind (arith, All-head P b g hg, nx)
  run_same (a ∷ f) [] hf hg e = grind (arith, All-head P a f hf, ny)
  run_same (a ∷ f) (b ∷ g) hf hg e =
      grind (arith, run_same f g (All-tail P a f hf) (All-tail P b g hg))

-- what stands before the first such byte, and behind it, is known from the whole
pub cut_same : (byte : ℕ) (f g s t : List ℕ) → IsWithout byte f → IsWithout byte g
    → f ++ byte ∷ s ≡ g ++ byte ∷ t → (f ≡ g) × (s ≡ t)
cut_same byte f g s t hf hg e =
    let run = run_same (NotAt byte) (apart byte) (apart byte) f g hf hg e in
    (run.0, run.2)

-- a text without the byte is not cut at it
pub not_cut : (byte : ℕ) (f t text : List ℕ) → IsWithout byte text → text ≢ f ++ byte ∷ t
not_cut byte f t text h e = missing byte f t (subst (IsWithout byte) e h)
  where
    missing : (byte : ℕ) (f t : List ℕ) → IsWithout byte (f ++ byte ∷ t) → ⊥
    missing byte [] t h = apart byte (All-head (NotAt byte) byte t h)
    missing byte (x ∷ f) t h =
        missing byte f t (All-tail (NotAt byte) x (f ++ byte ∷ t) h)

-- what stands before the byte that was written behind a field is the field
pub first_cut : {end : ℕ} {text before behind : List ℕ} → IsFirstCut end text before behind
    → (field rest : List ℕ) → IsWithout end field → text ≡ field ++ end ∷ rest
    → (before ≡ field) × (behind ≡ rest)
first_cut {end} {text} {before} {behind} cut field rest h e =
    cut_same end before field behind rest cut.first h (sym cut.whole ∙ e)
