-- SPDX-License-Identifier: ISC
-- Which values a verification takes, as tests.
use Rattle.std.specs.Prelude.{ℕ, List, Bool, ◌&&◌, length}
use Rattle.std.specs.Str.{bytes_eq}
use Rattle.ring.specs.Hmac.{hmac_of}
use Rattle.ring.specs.Limits.{can_verify}
use Rattle.ring.specs.Pbkdf2.{dk}
use Rattle.ring.specs.Raw.{raw_tag_under}
use Rattle.ring.specs.declared.digest.algorithm.Algorithm.{Algorithm}
use Rattle.ring.specs.declared.raw.key.RawKey.{RawKey}
use Rattle.ring_c.specs.Limits.{can_sign, can_tag}

-- whether it is the tag of the message m under the key k
abbrev pub is_tag : Algorithm → (k m tag : List ℕ) → Bool
is_tag a k m tag = can_sign a (length k) (length m) && bytes_eq tag (hmac_of a k m)

-- whether it is that under the numbers of any key
abbrev pub is_raw_tag : Algorithm → RawKey → (m tag : List ℕ) → Bool
is_raw_tag a key m tag = can_tag a (length m) && bytes_eq tag (raw_tag_under a key m)

-- whether it is the key of its length that is derived from a secret p and a salt s (`IsDerived`)
abbrev pub is_derived : Algorithm → (p s : List ℕ) → (c : ℕ) → (value : List ℕ) → Bool
is_derived a p s c value =
    can_verify a (length p) (length s) (length value)
    && bytes_eq value (dk a p s c (length value))
