-- SPDX-License-Identifier: ISC
-- Signed tokens: which keys the calls take, what a text is read as, why a call is refused.
use Rattle.std.specs.Prelude.{ℕ, Bool, ◌&&◌, List, length, nat_le, nat_lt, not}
use Rattle.ring.specs.Limits.{fits}
use Rattle.ring_tokens.specs.Alg.{algorithm_of, hash_len}
use Rattle.ring_tokens.specs.Header.{usual_header}
use Rattle.ring_tokens.specs.Jws.{signing_input, usual_token_len}
use Rattle.ring_tokens.specs.declared.alg.Alg.{Alg}
use Rattle.ring_c.specs.Limits.{can_tag}
use Rattle.ring_c.specs.Status.{Causes, no_cause}

-- whether a key may have n bytes: those of a digest and more (RFC 7518, section 3.2)
abbrev pub is_key_len : Alg → ℕ → Bool
is_key_len a n = nat_le (hash_len a) n && fits (algorithm_of a) n

-- the causes for a payload, in a room of so many bytes
abbrev pub sign_causes : (room key_len : ℕ) → (payload : List ℕ) → Alg → Causes
sign_causes room key_len payload a =
    record no_cause {
      wrong_length = nat_lt room (usual_token_len a (length payload));
      unspecified = not (is_key_len a key_len
          && can_tag (algorithm_of a) (length (signing_input (usual_header a) payload)));
    }

-- the causes for a text, which is a token of the key under one of the three headers or is none
abbrev pub verify_causes : (room key_len token_len : ℕ) → (is_token : Bool) → Alg → Causes
verify_causes room key_len token_len is_token a =
    record no_cause {
      wrong_length = nat_lt room token_len;
      unspecified = not (is_key_len a key_len && is_token);
    }
