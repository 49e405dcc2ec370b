-- SPDX-License-Identifier: ISC
-- Keys derived at several places.
use Rattle.std.proofs.Common.{◌≡◌, ◌↔◌, ℕ, ◌+◌, ◌-◌, ◌<◌, ◌≤◌, [], ◌∷◌, ◌∙◌, Bool, List, ap, arith}
use Rattle.std.proofs.Common.{length, refl, take, true, Bor}
use Rattle.std.proofs.lemmas.Grind.{common_steps}
use Rattle.ring.specs.Prelude.{Algorithm, CanDerive, CanDeriveEach, CanDeriveUnder, CanVerify}
use Rattle.ring.specs.Prelude.{AreKeysOf, Derivation, IsDerived, Key, KeyStandsFor, Output}
use Rattle.ring.specs.Prelude.{Receives, derive_blocks_at, dk, key_algorithm, sum_below}
use Rattle.ring.proofs.Each.{message_at-part}
use Rattle.ring.proofs.lemmas.pbkdf2.Places.{items_from}
use Rattle.ring.proofs.lemmas.pbkdf2.Rounds.{length-dk}
use Rattle.ring.proofs.Sums.{sum_below-append, sum_below-same}

-- an output, of which lemmas speak past the end of a list
abbrev pub no_output : Output
no_output = record { 0 = [] }

-- a key can be derived that is alone
pub can_derive-alone : {d : Derivation} {key : Key} {secret_len : ℕ} {salt : Bor (List ℕ)}
    → d.keys.now ≡ key ∷ [] → d.salts.now ≡ salt ∷ [] → key_algorithm key ≡ d.algorithm
    → CanDerive d.algorithm secret_len (length salt.now) d.len → CanDeriveUnder d
can_derive-alone {d} {salt = salt} key_alone salt_alone same can =
    grind (arith, common_steps, can.salt)

-- and that key
pub key-alone : {a : Algorithm} {key : Key} {p : List ℕ} → key_algorithm key ≡ a
    → KeyStandsFor key p → AreKeysOf a (key ∷ []) (λ i. p)
key-alone same stands =
    record {
      each = λ i d below. grind (arith, common_steps, same, stands);
    }

-- and its bytes are received
pub received-alone : {R : Type 0} {H : R → R → ℕ → List ℕ → Type 0} {m : ℕ}
    {bytes : ℕ → List ℕ} {old new : R} → Receives H 0 m bytes old new → 0 < m
    → ((start : R) → H start start 0 []) → H old new 0 (bytes 0)
received-alone {old = old} made some none = made.each old 0 some (none old)

module _ (a : Algorithm) (salts secrets : List (Bor (List ℕ))) (c n : ℕ) where
  -- the blocks at the first m places, and at k more
  pub blocks-part : (m k : ℕ) → sum_below (derive_blocks_at a salts secrets c n) m
      + sum_below (derive_blocks_at a (items_from m k salts) (items_from m k secrets) c n) k
      ≡ sum_below (derive_blocks_at a salts secrets c n) (m + k)
  blocks-part m k =
      let all = derive_blocks_at a salts secrets c n in
      let some = derive_blocks_at a (items_from m k salts) (items_from m k secrets) c n in
      let same : sum_below some k ≡ sum_below (λ j. all (m + j)) k =
      sum_below-same some (λ j. all (m + j)) k
      (λ j h. rw (message_at-part secrets m k j h, message_at-part salts m k j h) refl) in
      ap (λ (z : ℕ). sum_below all m + z) same ∙ sum_below-append all m k

-- the keys at k places from the place i on can be derived where all m can
pub record IsPart (a : Algorithm) (salts secrets : List (Bor (List ℕ))) (i k m n : ℕ)
    : Type 0 where
  pub size : i + k - i ≡ k
  pub room : i + k ≤ m
  pub can : CanDeriveEach a (items_from i k salts) (items_from i k secrets) k n

pub part-of : {a : Algorithm} {salts secrets : List (Bor (List ℕ))} {m n : ℕ}
    → CanDeriveEach a salts secrets m n → (i k : ℕ) → i + k ≤ m → IsPart a salts secrets i k m n
part-of {salts = salts} {secrets = secrets} can i k fits =
    record {
      size = omega arith;
      room = fits;
      can = record {
        salt_count = grind (arith, common_steps, can.salt_count);
        secret_count = grind (arith, common_steps, can.secret_count);
        each = λ j below.
            rw (message_at-part secrets i k j below, message_at-part salts i k j below)
            (can.each (i + j) (omega (arith, fits, below)));
      };
    }

-- and under keys of all secrets
pub can_derive-under : {d : Derivation} {m : ℕ} {secrets : List (Bor (List ℕ))} {p : ℕ → List ℕ}
    → CanDeriveEach d.algorithm d.salts.now secrets m d.len → 0 < m → length d.keys.now ≡ m
    → AreKeysOf d.algorithm d.keys.now p → CanDeriveUnder d
can_derive-under can some count are =
    grind (arith, common_steps, can.each, are.each)

-- a value within its limits is a derivation exactly where it begins with the derivation of its
-- length
pub derived-same : {a : Algorithm} {p s value : List ℕ} {c n : ℕ} {b start : Bool}
    → CanVerify a (length p) (length s) n → length value ≡ n → start ≡ true
    → (b ≡ true) ↔ ((start ≡ true) × (take (length (dk a p s c n)) value ≡ dk a p s c n))
    → (b ≡ true) ↔ IsDerived a p s c value
derived-same {a} {p} {s} {value} {c} {n} within long begun told =
    grind (arith, common_steps, length-dk a p s c n)
