-- SPDX-License-Identifier: ISC
-- Webhooks: which headers the calls take.
use Rattle.std.specs.Prelude.{ℕ, List, Bool, IsTrue, ◌&&◌, ◌++◌, length}
use Rattle.std.specs.Str.{bytes_eq}
use Rattle.hex.specs.Hex.{encode_lower}
use Rattle.ring.specs.Hmac.{hmac_digest, hmac_of}
use Rattle.ring.specs.declared.hmac.key.Algorithm.{Algorithm}
use Rattle.ring.specs.declared.hmac.key.TheConstants.{HMAC_SHA256}
use Rattle.ring_tokens.specs.Webhook.{IsStripe}
use Rattle.ring_c.specs.Limits.{can_tag}
use Rattle.ring_c.specs.Otp.{is_secret_len}

-- whether a header is a prefix and the body's tag in hex, under a secret k that is not empty
-- (`IsHex`)
abbrev pub is_hex : Algorithm → (k prefix body header : List ℕ) → Bool
is_hex a k prefix body header =
    is_secret_len a (length k) && can_tag (hmac_digest a) (length body)
    && bytes_eq header (prefix ++ encode_lower (hmac_of (hmac_digest a) k body))

-- a header is Stripe's, under a secret k that is not empty
pub record IsStripeUnder (k body header : List ℕ) (now tolerance : ℕ) : Type 0 where
  pub secret : IsTrue (is_secret_len HMAC_SHA256 (length k))
  pub is : IsStripe (hmac_digest HMAC_SHA256) k body header now tolerance
