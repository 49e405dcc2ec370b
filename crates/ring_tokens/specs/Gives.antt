-- SPDX-License-Identifier: ISC
-- What calls give and refuse: each stands here once for a call and for its form that counts on a
-- meter.
use Rattle.std.specs.Prelude.{◌≡◌, ◌↔◌, ◌⊎◌, ◌<◌, ◌≤◌, ℕ, List, ◌++◌, drop, length, take}
use Rattle.std.specs.Prelude.{Option, IfSome, IsNone, Result, IfErr, IfOk, IsErrOf, OnErr, OnOk}
use Rattle.std.specs.declared.vec.Vec.{Vec}
use Rattle.ring_tokens.specs.Header.{usual_header}
use Rattle.ring_tokens.specs.InPlace.{IsUsual, IsUsualJws}
use Rattle.ring_tokens.specs.Jws.{CanSign, IsJws, IsKey, IsTokenUnder, alg_of, usual_token}
use Rattle.ring_tokens.specs.Jws.{usual_token_len}
use Rattle.ring_tokens.specs.Otp.{IsFound, IsNotFound}
use Rattle.ring_tokens.specs.Parts.{IsUnsigned}
use Rattle.ring_tokens.specs.Secret.{IsSecret, secret_algorithm}
use Rattle.ring_tokens.specs.declared.error.TokenError.{TokenError}
use Rattle.ring_tokens.specs.declared.error.TokenError.TheVariants as token_error
use Rattle.ring_tokens.specs.declared.key.Key.{Key}
use Rattle.ring_tokens.specs.declared.otp.Digits.{Digits}
use Rattle.ring_tokens.specs.declared.secret.SharedSecret.{SharedSecret}

-- the payload of the key's token is returned
pub record VerifiesToken {A : Type 0} (key : Key) (token : List ℕ)
    (r : Result (Vec ℕ A) TokenError) : Type 0 where
  pub ok : (k : List ℕ) → IsKey key k
      → IfOk r (λ payload. IsJws (alg_of key) k token payload.items)
  pub invalid : (k : List ℕ) → IsKey key k → IsErrOf r token_error.Invalid
      → (payload : List ℕ) → IsJws (alg_of key) k token payload → ⊥
  pub refused : IfErr r (λ e. (e ≡ token_error.Invalid) ⊎ (e ≡ token_error.Memory))
  pub unsigned : (k : List ℕ) → IsKey key k → IsUnsigned (alg_of key) k token
      → IsErrOf r token_error.Invalid

-- the payload of the key's token is written to the start of a buffer
pub record VerifiesInPlace (key : Key) (token old new : List ℕ) (r : Result ℕ TokenError)
    : Type 0 where
  pub within : IfOk r (λ n. n ≤ length old)
  pub ok : (k : List ℕ) → IsKey key k → IfOk r (λ n. IsJws (alg_of key) k token (take n new))
  pub header : (k : List ℕ) → IsKey key k
      → IfOk r (λ n. IsUsualJws (alg_of key) k token (take n new))
  pub behind : IfOk r (λ n. drop n new ≡ drop n old)
  pub invalid : (k : List ℕ) → IsKey key k → IsErrOf r token_error.Invalid
      → (h p : List ℕ) → IsUsual (alg_of key) h → IsTokenUnder (alg_of key) k h token p → ⊥
  pub no_room : IsErrOf r token_error.NoRoom ↔ (length old < length token)
  pub refused : IfErr r (λ e. (e ≡ token_error.Invalid) ⊎ (e ≡ token_error.NoRoom))
  pub unchanged : OnErr r (new ≡ old)

-- the token of the payload is written to the start of a buffer
pub record SignsInPlace (key : Key) (payload old new : List ℕ) (r : Result ℕ TokenError)
    : Type 0 where
  pub len : IfOk r (λ n. n ≡ usual_token_len (alg_of key) (length payload))
  pub ok : (k : List ℕ) → IsKey key k
      → IfOk r (λ n. new ≡ usual_token (alg_of key) k payload ++ drop n old)
  pub within : OnOk r (CanSign (alg_of key) (usual_header (alg_of key)) payload)
  pub no_room : IsErrOf r token_error.NoRoom
      ↔ (length old < usual_token_len (alg_of key) (length payload))
  pub too_long : IsErrOf r token_error.TooLong
      → ¬ (CanSign (alg_of key) (usual_header (alg_of key)) payload)
  pub refused : IfErr r (λ e. (e ≡ token_error.NoRoom) ⊎ (e ≡ token_error.TooLong))
  pub unchanged : OnErr r (new ≡ old)

-- the token of the payload is returned
pub record SignsToken {A : Type 0} (key : Key) (payload : List ℕ)
    (r : Result (Vec ℕ A) TokenError) : Type 0 where
  pub ok : (k : List ℕ) → IsKey key k
      → IfOk r (λ token. token.items ≡ usual_token (alg_of key) k payload)
  pub within : OnOk r (CanSign (alg_of key) (usual_header (alg_of key)) payload)
  pub too_long : IsErrOf r token_error.TooLong
      → ¬ (CanSign (alg_of key) (usual_header (alg_of key)) payload)
  pub refused : IfErr r (λ e. (e ≡ token_error.TooLong) ⊎ (e ≡ token_error.Memory))

-- the first counter from `first` on and below `past` whose password the text is, is returned
pub record FindsCounter (secret : SharedSecret) (first past : ℕ) (digits : Digits) (text : List ℕ)
    (r : Option ℕ) : Type 0 where
  pub ok : (k : List ℕ) → IsSecret secret k
      → IfSome r (λ found. IsFound (secret_algorithm secret) k first past digits text found)
  pub refused : (k : List ℕ) → IsSecret secret k → IsNone r
      → IsNotFound (secret_algorithm secret) k first past digits text
