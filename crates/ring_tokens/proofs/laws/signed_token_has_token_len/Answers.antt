-- SPDX-License-Identifier: ISC
use Rattle.std.proofs.Common.{◌≡◌, ◌+◌, ◌∙◌, ap, arith, length}
use Rattle.base64.specs.Rfc4648.{unpadded_len}
use Rattle.ring.specs.Prelude.{hmac_of}
use Rattle.ring_tokens.specs.Alg.{algorithm_of, hash_len}
use Rattle.ring_tokens.specs.Header.{usual_header}
use Rattle.ring_tokens.specs.Jws.{signature_of}
use Rattle.ring_tokens.proofs.Puts.{length_compact}
use Rattle.ring_tokens.proofs.laws.signed_token_has_token_len.Goals as goal

pub returns : goal.returns
unfolding hmac_of
returns c = λ a k p.
    let s = signature_of a k (usual_header a) p in
    let len : length s ≡ hash_len a = c.digest_has_output_len.ensures (algorithm_of a) _ in
    length_compact a p s ∙ ap (λ n. 38 + unpadded_len (length p) + unpadded_len n) len
    ∙ omega arith
