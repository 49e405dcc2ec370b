-- SPDX-License-Identifier: ISC
-- What a search for a one-time password answers, where the numbers name an algorithm and digits.
use Rattle.std.proofs.Common.{◌≡◌, ◌∙◌, ◌<◌, ◌^◌, ℕ, List, Bool, false, ap, length, refl, subst}
use Rattle.std.proofs.Common.{sym}
use Rattle.std.specs.Prelude.{Some}
use Rattle.ring.specs.Hmac.{hmac_digest}
use Rattle.ring.specs.declared.digest.algorithm.Algorithm as digest
use Rattle.ring.specs.declared.hmac.key.Algorithm.{Algorithm}
use Rattle.ring_tokens.specs.Otp.{IsFound, IsNotFound, hotp_text}
use Rattle.ring_tokens.specs.declared.otp.Digits.{Digits}
use Rattle.ring_c.specs.Number.{digits_named, hmac_named}
use Rattle.ring_c.specs.Otp.{FindsPassword, otp_causes}
use Rattle.ring_c.specs.Status.{YZ_OK, YZ_UNKNOWN_ALGORITHM, YZ_UNSPECIFIED, status_of}

module _ {algorithm digits first past old : ℕ} {k text : List ℕ} {a : Algorithm}
    {b : digest.Algorithm} {d : Digits} {w : Bool} (of_algorithm : hmac_named algorithm ≡ Some a)
    (of_digits : digits_named digits ≡ Some d) (same : b ≡ hmac_digest a) where
  pub finds : {n : ℕ}
      → YZ_OK ≡ status_of YZ_UNKNOWN_ALGORITHM (hmac_named algorithm)
      (otp_causes digits (length k) w)
      → n < 2 ^ 64 → IsFound b k first past d text n
      → FindsPassword algorithm k w first past digits text old n YZ_OK
  finds {n} status below is = record {
    ok = λ _ c e of_c of_e.
        let one : a ≡ c = cc (of_algorithm, of_c) in
        let other : d ≡ e = cc (of_digits, of_e) in
        subst (λ x. IsFound (hmac_digest c) k first past x text n) other
        (subst (λ x. IsFound x k first past d text n) (same ∙ ap hmac_digest one) is);
    found = λ _ _ _. status;
    missed = λ none. absurd (none a d of_algorithm of_digits n is.from is.within below
        (is.is ∙ ap (λ x. hotp_text x k n d) same));
    unchanged = λ no. absurd (no refl);
  }

  pub misses : YZ_UNSPECIFIED ≡ status_of YZ_UNKNOWN_ALGORITHM (hmac_named algorithm)
      (otp_causes digits (length k) false)
      → IsNotFound b k first past d text
      → FindsPassword algorithm k w first past digits text old old YZ_UNSPECIFIED
  misses status none = record {
    ok = λ e. cc e;
    found = λ n below is.
        let it = is a d of_algorithm of_digits in
        absurd (none n it.from it.within below (it.is ∙ ap (λ x. hotp_text x k n d) (sym same)));
    missed = λ _. status;
    unchanged = λ _. refl;
  }
