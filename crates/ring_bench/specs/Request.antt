-- SPDX-License-Identifier: ISC
-- What a request is answered.
use Rattle.std.specs.Prelude.{ℕ, ◌+◌, ◌&&◌, Bool, List, length, if◌then◌else◌}
use Rattle.std.specs.Int.NonZero.{non_zero_u32_get}
use Rattle.std.specs.Str.{bytes_eq}
use Rattle.ring.specs.Cost.{derive_blocks, fill_blocks, key_blocks, padded_blocks}
use Rattle.ring.specs.Digest.{digest_of}
use Rattle.ring.specs.Hkdf.{hkdf_digest, okm}
use Rattle.ring.specs.Hmac.{hmac_digest, hmac_of}
use Rattle.ring.specs.Limits.{can_derive, can_expand, can_verify, fits, tag_input_len}
use Rattle.ring.specs.Pbkdf2.{dk, pbkdf2_digest}
use Rattle.ring.specs.declared.digest.algorithm.Algorithm.{Algorithm as DigestAlgorithm}
use Rattle.ring_bench.specs.declared.line.Request.{Request}
use Rattle.ring_bench.specs.declared.line.Request.TheVariants.{Digest, Hmac, HmacVerify, Hkdf}
use Rattle.ring_bench.specs.declared.line.Request.TheVariants.{Pbkdf2, Pbkdf2Verify}
use Rattle.ring_bench.specs.declared.request.Answer.{Answer}
use Rattle.ring_bench.specs.declared.request.Answer.TheVariants.{Given, Verified, Refused}

-- An answer: bytes, or whether the value given is the one asked for, both with the number of blocks
-- of the whole line; or that a call refused the request.
pub data Response : Type 0 where
  given : List ℕ → ℕ → Response
  verified : Bool → ℕ → Response
  refused : Response

-- the answer, where the lengths are within their limits
abbrev pub when : Bool → Response → Response
when within answer = if within then answer else refused

-- the digest of the message
unfoldable pub digest_answer : DigestAlgorithm → List ℕ → Response
digest_answer a m =
    when (fits a (length m)) (given (digest_of a m) (padded_blocks a (length m)))

-- whether a key and a message are within the limits of a tag
abbrev pub can_sign : DigestAlgorithm → (k m : List ℕ) → Bool
can_sign a k m = fits a (length k) && fits a (tag_input_len a (length m))

-- the blocks of a key, and of the tag of a message under it
abbrev pub tag_blocks : DigestAlgorithm → (k m : List ℕ) → ℕ
tag_blocks a k m = key_blocks a (length k) + (padded_blocks a (length m) + 1)

-- the tag of the message m under the key k
unfoldable pub tag_answer : DigestAlgorithm → (k m : List ℕ) → Response
tag_answer a k m = when (can_sign a k m) (given (hmac_of a k m) (tag_blocks a k m))

-- whether t is the whole tag of the message m under the key k
unfoldable pub verdict_answer : DigestAlgorithm → (k m t : List ℕ) → Response
verdict_answer a k m t =
    when (can_sign a k m) (verified (bytes_eq t (hmac_of a k m)) (tag_blocks a k m))

-- n bytes of the output with this info of the PRK that is extracted from the secret with the salt;
-- its key has two blocks
unfoldable pub output_answer : DigestAlgorithm → (salt secret info : List ℕ) → ℕ → Response
output_answer a salt secret info n =
    when (can_sign a salt secret && can_expand a (length info) n)
    (given (okm a (hmac_of a salt secret) info n)
    (tag_blocks a salt secret + 2 + fill_blocks a (length info) n))

-- n bytes derived from the secret p and the salt s by c iterations
unfoldable pub key_answer : DigestAlgorithm → ℕ → (p s : List ℕ) → ℕ → Response
key_answer a c p s n =
    when (can_derive a (length p) (length s) n)
    (given (dk a p s c n) (derive_blocks a (length p) (length s) c n))

-- whether the value, which is not empty, is derived from the secret p and the salt s by c
-- iterations
unfoldable pub key_verdict : DigestAlgorithm → ℕ → (p s value : List ℕ) → Response
key_verdict a c p s value =
    when (can_verify a (length p) (length s) (length value))
    (verified (bytes_eq value (dk a p s c (length value)))
    (derive_blocks a (length p) (length s) c (length value)))

-- what a parsed request is answered
abbrev pub answer_of : {Z : Type 0} → Request Z → Response
answer_of (Digest a pieces) = digest_answer a pieces.bytes.items
answer_of (Hmac a key pieces) = tag_answer (hmac_digest a) key.items pieces.bytes.items
answer_of (HmacVerify a key pieces tag) =
    verdict_answer (hmac_digest a) key.items pieces.bytes.items tag.items
answer_of (Hkdf a salt secret info n) =
    output_answer (hkdf_digest a) salt.items secret.items info.bytes.items n
answer_of (Pbkdf2 a c secret salt n) =
    key_answer (pbkdf2_digest a) (non_zero_u32_get c) secret.items salt.items n
answer_of (Pbkdf2Verify a c secret salt value) =
    key_verdict (pbkdf2_digest a) (non_zero_u32_get c) secret.items salt.items value.items

-- what a computed answer says
abbrev pub response : {Z : Type 0} → Answer Z → Response
response (Given bytes blocks) = given bytes.items blocks
response (Verified same blocks) = verified same blocks
response Refused = refused
