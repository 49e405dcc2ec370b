-- SPDX-License-Identifier: ISC
-- Keys derived from several secrets at once.
use Rattle.std.specs.Prelude.{◌≡◌, ◌↔◌, ℕ, zero, suc, ◌+◌, ◌<◌, Bool, false, IsTrue, List, length}
use Rattle.std.specs.Borrow.{Bor}
use Rattle.std.specs.List.{slice_index_or}
use Rattle.ring_core.specs.Chunks.{array_at}
use Rattle.ring.specs.Cost.{derive_blocks}
use Rattle.ring.specs.Each.{message_at}
use Rattle.ring.specs.Hmac.{KeyStandsFor, key_algorithm}
use Rattle.ring.specs.Items.{EachItem}
use Rattle.ring.specs.Limits.{CanDerive, CanVerify}
use Rattle.ring.specs.Pbkdf2.{IsDerived, dk}
use Rattle.ring.specs.declared.digest.algorithm.Algorithm.{Algorithm}
use Rattle.ring.specs.declared.hmac.key.Key.{Key}

-- the secret, or the salt, at a place of a list
abbrev pub bytes_at : List (Bor (List ℕ)) → ℕ → List ℕ
bytes_at = message_at

-- the answer at a place of a list
abbrev pub answer_at : List Bool → ℕ → Bool
answer_at answers k = slice_index_or answers k false

-- the key of n bytes at a place, after c iterations
abbrev pub dk_at : (a : Algorithm) (salts secrets : List (Bor (List ℕ))) (c n k : ℕ) → List ℕ
dk_at a salts secrets c n k = dk a (bytes_at secrets k) (bytes_at salts k) c n

-- there are as many keys of n bytes as secrets, and each is derived from the secret and the salt at
-- its place, after c iterations
pub record AreDerived (keys : List (List ℕ)) (a : Algorithm) (salts secrets : List (Bor (List ℕ)))
    (c n : ℕ) : Type 0 where
  pub count : length keys ≡ length secrets
  pub each : (k : ℕ) → k < length secrets
      → array_at keys k ≡ dk a (bytes_at secrets k) (bytes_at salts k) c n

-- m keys of n bytes can be derived: from as many salts and secrets, and each from the two at its
-- place
pub record CanDeriveEach (a : Algorithm) (salts secrets : List (Bor (List ℕ))) (m n : ℕ)
    : Type 0 where
  pub salt_count : length salts ≡ m
  pub secret_count : length secrets ≡ m
  pub each : (k : ℕ) → k < m
      → CanDerive a (length (bytes_at secrets k)) (length (bytes_at salts k)) n

-- f 0 + f 1 + .. + f (m - 1)
unfoldable pub sum_below : (ℕ → ℕ) → ℕ → ℕ
sum_below f zero = 0
sum_below f (suc m) = sum_below f m + f m

-- the blocks of the derivation at a place
abbrev pub derive_blocks_at : (a : Algorithm) (salts secrets : List (Bor (List ℕ))) (c n k : ℕ) → ℕ
derive_blocks_at a salts secrets c n k =
    derive_blocks a (length (bytes_at secrets k)) (length (bytes_at salts k)) c n

-- the blocks of all derivations
abbrev pub derive_each_blocks : (a : Algorithm) (salts secrets : List (Bor (List ℕ))) (c n : ℕ) → ℕ
derive_each_blocks a salts secrets c n =
    sum_below (derive_blocks_at a salts secrets c n) (length secrets)

-- the key is that of the bytes p under the algorithm a
pub record IsKeyOf (a : Algorithm) (key : Key) (p : List ℕ) : Type 0 where
  pub algorithm : key_algorithm key ≡ a
  pub stands : KeyStandsFor key p

-- the key at each place i is that of the bytes p i
pub record AreKeysOf (a : Algorithm) (keys : List Key) (p : ℕ → List ℕ) : Type 0 where
  pub each : EachItem keys (λ i key. IsKeyOf a key (p i))

-- there are as many answers as values, and each says whether the value at its place is derived from
-- the secret and the salt there, after c iterations
pub record AreVerified (matches : List Bool) (a : Algorithm) (salts secrets : List (Bor (List ℕ)))
    (c : ℕ) (values : List (List ℕ)) : Type 0 where
  pub count : length matches ≡ length values
  pub each : (k : ℕ) → k < length values → IsTrue (answer_at matches k)
      ↔ IsDerived a (bytes_at secrets k) (bytes_at salts k) c (array_at values k)

-- m values of n bytes can be verified: of as many salts and secrets, and each with the two at its
-- place
pub record CanVerifyEach (a : Algorithm) (salts secrets : List (Bor (List ℕ)))
    (values : List (List ℕ)) (m n : ℕ) : Type 0 where
  pub salt_count : length salts ≡ m
  pub secret_count : length secrets ≡ m
  pub value_count : length values ≡ m
  pub each : (k : ℕ) → k < m
      → CanVerify a (length (bytes_at secrets k)) (length (bytes_at salts k)) n
