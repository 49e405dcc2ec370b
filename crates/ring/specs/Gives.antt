-- SPDX-License-Identifier: ISC
-- What calls give, refuse and cost: each stands here once for the forms of a call, which is plain,
-- counts on a meter, or runs over vectors of any width.
use Rattle.std.specs.Prelude.{◌≡◌, ◌↔◌, ℕ, ◌+◌, ◌*◌, ◌%◌, ◌<◌, Bool, IsFalse, IsTrue, List, []}
use Rattle.std.specs.Prelude.{◌++◌, Option, Some, IfSome, IsNone, IsSomeAnd, length}
use Rattle.std.specs.Prelude.{Result, IfOk, IsErr, IsOk, OnErr, OnOk}
use Rattle.std.specs.Borrow.{Bor}
use Rattle.ring_core.specs.Cost.{Counts, raised}
use Rattle.ring_core.specs.declared.error.Unspecified.{Unspecified}
use Rattle.ring.specs.Algorithm.{block_len, max_input_len}
use Rattle.ring.specs.Context.{StandsFor, context_algorithm, cut_off, digest_with, message_len}
use Rattle.ring.specs.Cost.{derive_blocks}
use Rattle.ring.specs.DeriveEach.{AreDerived, AreVerified, CanDeriveEach, CanVerifyEach}
use Rattle.ring.specs.DeriveEach.{derive_each_blocks}
use Rattle.ring.specs.Digest.{IsDigest, bytes_of, digest_algorithm}
use Rattle.ring.specs.Each.{AreDigests, CanDigestEach, each_blocks}
use Rattle.ring.specs.Hmac.{IsTag, KeyStandsFor, TagStandsFor, hmac_of, key_algorithm}
use Rattle.ring.specs.Hmac.{signing_algorithm, signing_len, signing_pending, tag_algorithm}
use Rattle.ring.specs.Hmac.{tag_bytes, tag_under, tag_with}
use Rattle.ring.specs.Limits.{CanDerive, CanVerify, IsTagWithin}
use Rattle.ring.specs.Pbkdf2.{IsDerived, dk}
use Rattle.ring.specs.Raw.{HasAdded, IsNoContext, IsNoTagContext, RawStandsFor, RawTagStandsFor}
use Rattle.ring.specs.Raw.{TagHasAdded, digest_named, raw_digest_with, raw_message_len}
use Rattle.ring.specs.Raw.{raw_tag_with}
use Rattle.ring.specs.Updates.{AreUpdated, update_each_blocks}
use Rattle.ring.specs.declared.digest.algorithm.Algorithm.{Algorithm}
use Rattle.ring.specs.declared.digest.block_context.Digest.{Digest}
use Rattle.ring.specs.declared.digest.context.Context.{Context}
use Rattle.ring.specs.declared.hmac.context.Context.{Context as TagContext}
use Rattle.ring.specs.declared.hmac.context.Tag.{Tag}
use Rattle.ring.specs.declared.hmac.key.Key.{Key}
use Rattle.ring.specs.declared.raw.context.RawContext.{RawContext}
use Rattle.ring.specs.declared.raw.tag_context.RawTagContext.{RawTagContext}

-- the digest of a context's message is returned
pub record FinishesDigest (c : Context) (r : Result Digest Unspecified) : Type 0 where
  pub ok : (m : List ℕ) → StandsFor c m
      → IfOk r (λ digest. IsDigest digest (context_algorithm c) m)
  pub any : IfOk r (λ digest. bytes_of digest ≡ digest_with c [] (message_len c))
  pub refused : IsErr r ↔ (max_input_len (context_algorithm c) < message_len c)
  pub refused_of : (m : List ℕ) → StandsFor c m
      → IsErr r ↔ (max_input_len (context_algorithm c) < length m)
  pub algorithm : IfOk r (λ digest. digest_algorithm digest ≡ context_algorithm c)

-- a digest of each message is written
pub record DigestsEach (a : Algorithm) (messages : List (Bor (List ℕ))) (old new : List Digest)
    (before after : Counts) (r : Result (Unit {0}) Unspecified) : Type 0 where
  pub ok : OnOk r (AreDigests new a messages)
  pub refused : IsOk r ↔ CanDigestEach a messages (length old)
  pub unchanged : OnErr r ((new ≡ old) × (after ≡ before))
  pub cost : OnOk r (after ≡ raised before (each_blocks a messages) 0)

-- each context is updated with a piece
pub record UpdatesEach (old new : List Context) (pieces : List (Bor (List ℕ)))
    (before after : Counts) (r : Result (Unit {0}) Unspecified) : Type 0 where
  pub ok : OnOk r (AreUpdated old new pieces)
  pub refused : IsOk r ↔ (length pieces ≡ length old)
  pub unchanged : OnErr r ((new ≡ old) × (after ≡ before))
  pub cost : OnOk r (after ≡ raised before (update_each_blocks old pieces) 0)

-- the tag of the message m is returned
pub record SignsMessage (key : Key) (m : List ℕ) (r : Result Tag Unspecified) : Type 0 where
  pub ok : (k : List ℕ) → KeyStandsFor key k → IfOk r (λ tag. IsTag tag (key_algorithm key) k m)
  pub any : IfOk r (λ tag. tag_bytes tag ≡ tag_under key m)
  pub refused : IsErr r
      ↔ (max_input_len (key_algorithm key) < block_len (key_algorithm key) + length m)
  pub algorithm : IfOk r (λ tag. tag_algorithm tag ≡ key_algorithm key)

-- the tag of the message m is verified
pub record VerifiesTag (key : Key) (m tag : List ℕ) (r : Result (Unit {0}) Unspecified)
    : Type 0 where
  pub ok : (k : List ℕ) → KeyStandsFor key k → IsOk r
      ↔ (IsTagWithin (key_algorithm key) (length m) × (tag ≡ hmac_of (key_algorithm key) k m))
  pub any : IsOk r ↔ (IsTagWithin (key_algorithm key) (length m) × (tag ≡ tag_under key m))
  pub refused : max_input_len (key_algorithm key) < block_len (key_algorithm key) + length m
      → IsErr r

-- the context `new` of a tag is `old` after the piece
pub record TagIsUpdated (old new : TagContext) (piece : List ℕ) : Type 0 where
  pub stands : (k m : List ℕ) → TagStandsFor old k m → TagStandsFor new k (m ++ piece)
  pub any : (y : List ℕ) (n : ℕ) → tag_with new y n ≡ tag_with old (piece ++ y) n
  pub algorithm : signing_algorithm new ≡ signing_algorithm old
  pub counted : signing_len new ≡ cut_off (signing_len old + length piece)
  pub pending : signing_pending new
      ≡ (signing_pending old + length piece) % block_len (signing_algorithm old)

-- the tag of a context's message is returned
pub record FinishesTag (c : TagContext) (r : Result Tag Unspecified) : Type 0 where
  pub ok : (k m : List ℕ) → TagStandsFor c k m
      → IfOk r (λ tag. IsTag tag (signing_algorithm c) k m)
  pub any : IfOk r (λ tag. tag_bytes tag ≡ tag_with c [] (signing_len c))
  pub refused : IsErr r ↔ (max_input_len (signing_algorithm c) < signing_len c)
  pub refused_of : (k m : List ℕ) → TagStandsFor c k m → IsErr r
      ↔ (max_input_len (signing_algorithm c) < block_len (signing_algorithm c) + length m)
  pub algorithm : IfOk r (λ tag. tag_algorithm tag ≡ signing_algorithm c)

-- the piece x is added to a context's numbers, if they are any context's
pub record RawUpdates (old new : RawContext) (x : List ℕ) (r : Bool) : Type 0 where
  pub stands : (a : Algorithm) (m : List ℕ) → RawStandsFor old a m
      → IsTrue r × RawStandsFor new a (m ++ x)
  pub any : IsTrue r → HasAdded old new x
  pub none : IsFalse r ↔ IsNoContext old
  pub unchanged : IsFalse r → new ≡ old

-- the digest of the message of a context's numbers is returned, if they are any context's
pub record RawFinishes (raw : RawContext) (r : Option (Result Digest Unspecified)) : Type 0 where
  pub none : IsNone r ↔ IsNoContext raw
  pub ok : (a : Algorithm) (m : List ℕ) → RawStandsFor raw a m
      → IsSomeAnd r (λ made. IfOk made (λ digest. IsDigest digest a m))
  pub any : IfSome r (λ made. IfOk made (λ digest. (a : Algorithm)
      → digest_named raw.algorithm ≡ Some a
      → bytes_of digest ≡ raw_digest_with a raw [] (raw_message_len raw)))
  pub refused : IfSome r (λ made. (a : Algorithm) → digest_named raw.algorithm ≡ Some a
      → IsErr made ↔ (max_input_len a < raw_message_len raw))
  pub refused_of : (a : Algorithm) (m : List ℕ) → RawStandsFor raw a m
      → IsSomeAnd r (λ made. IsErr made ↔ (max_input_len a < length m))
  pub algorithm : IfSome r (λ made. IfOk made (λ digest.
      digest_named raw.algorithm ≡ Some (digest_algorithm digest)))

-- the piece x is added to the numbers of a tag's context, if they are any such context's
pub record RawTagUpdates (old new : RawTagContext) (x : List ℕ) (r : Bool) : Type 0 where
  pub stands : (a : Algorithm) (k m : List ℕ) → RawTagStandsFor old a k m
      → IsTrue r × RawTagStandsFor new a k (m ++ x)
  pub any : IsTrue r → TagHasAdded old new x
  pub none : IsFalse r ↔ IsNoTagContext old
  pub unchanged : IsFalse r → new ≡ old

-- the tag of the message of such numbers is returned, if they are any tag context's
pub record RawTagFinishes (raw : RawTagContext) (r : Option (Result Tag Unspecified))
    : Type 0 where
  pub none : IsNone r ↔ IsNoTagContext raw
  pub ok : (a : Algorithm) (k m : List ℕ) → RawTagStandsFor raw a k m
      → IsSomeAnd r (λ made. IfOk made (λ tag. IsTag tag a k m))
  pub any : IfSome r (λ made. IfOk made (λ tag. (a : Algorithm)
      → digest_named raw.inner.algorithm ≡ Some a
      → tag_bytes tag ≡ raw_tag_with a raw [] (raw_message_len raw.inner)))
  pub refused : IfSome r (λ made. (a : Algorithm) → digest_named raw.inner.algorithm ≡ Some a
      → IsErr made ↔ (max_input_len a < raw_message_len raw.inner))
  pub refused_of : (a : Algorithm) (k m : List ℕ) → RawTagStandsFor raw a k m
      → IsSomeAnd r (λ made. IsErr made ↔ (max_input_len a < block_len a + length m))
  pub algorithm : IfSome r (λ made. IfOk made (λ tag.
      digest_named raw.inner.algorithm ≡ Some (tag_algorithm tag)))

-- the key of the password p and the salt s after c iterations is written
pub record DerivesKey (a : Algorithm) (p s : List ℕ) (c : ℕ) (old new : List ℕ)
    (before after : Counts) (r : Result (Unit {0}) Unspecified) : Type 0 where
  pub ok : OnOk r (new ≡ dk a p s c (length old))
  pub refused : IsOk r ↔ CanDerive a (length p) (length s) (length old)
  pub unchanged : OnErr r ((new ≡ old) × (after ≡ before))
  pub cost : OnOk r (after
      ≡ raised before (derive_blocks a (length p) (length s) c (length old)) 0)

-- the value is verified
pub record VerifiesKey (a : Algorithm) (p s : List ℕ) (c : ℕ) (value : List ℕ)
    (before after : Counts) (r : Result (Unit {0}) Unspecified) : Type 0 where
  pub ok : IsOk r ↔ IsDerived a p s c value
  pub unchanged : ¬ (CanVerify a (length p) (length s) (length value)) → after ≡ before
  pub cost : CanVerify a (length p) (length s) (length value) → after
      ≡ raised before (derive_blocks a (length p) (length s) c (length value)) (length value)

-- a key of n bytes is written at each place
pub record DerivesEach (a : Algorithm) (salts secrets : List (Bor (List ℕ))) (c n : ℕ)
    (old new : List (List ℕ)) (before after : Counts) (r : Result (Unit {0}) Unspecified)
    : Type 0 where
  pub ok : OnOk r (AreDerived new a salts secrets c n)
  pub refused : IsOk r ↔ CanDeriveEach a salts secrets (length old) n
  pub unchanged : OnErr r ((new ≡ old) × (after ≡ before))
  pub cost : OnOk r (after ≡ raised before (derive_each_blocks a salts secrets c n) 0)

-- each value of n bytes is verified
pub record VerifiesEach (a : Algorithm) (salts secrets : List (Bor (List ℕ))) (c n : ℕ)
    (values : List (List ℕ)) (old new : List Bool) (before after : Counts)
    (r : Result (Unit {0}) Unspecified) : Type 0 where
  pub ok : OnOk r (AreVerified new a salts secrets c values)
  pub refused : IsOk r ↔ CanVerifyEach a salts secrets values (length old) n
  pub unchanged : OnErr r ((new ≡ old) × (after ≡ before))
  pub cost : OnOk r (after
      ≡ raised before (derive_each_blocks a salts secrets c n) (length values * n))
