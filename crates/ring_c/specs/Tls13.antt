-- SPDX-License-Identifier: ISC
-- Finished messages and binders of TLS 1.3 (RFC 8446), under any digest algorithm.
use Rattle.std.specs.Prelude.{ℕ, List, [], Bool, if◌then◌else◌, codes, replicate}
use Rattle.ring.specs.Algorithm.{output_len}
use Rattle.ring.specs.Digest.{digest_of}
use Rattle.ring.specs.Hmac.{hmac_of}
use Rattle.ring.specs.declared.digest.algorithm.Algorithm.{Algorithm}
use Rattle.ring_schedules.specs.Label.{expand_label_of}

-- finished_key = HKDF-Expand-Label(BaseKey, "finished", "", Hash.length)
-- verify_data = HMAC(finished_key, Transcript-Hash(..)) (section 4.4.4), of the transcript hash
abbrev pub verify_data_of : Algorithm → (base_key transcript : List ℕ) → List ℕ
verify_data_of a base_key transcript =
    hmac_of a (expand_label_of a base_key (codes "finished") [] (output_len a)) transcript

-- the label of a binder's key
abbrev pub binder_label : (is_external : Bool) → List ℕ
binder_label is_external = if is_external then codes "ext binder" else codes "res binder"

-- Early Secret = HKDF-Extract(0, PSK)
-- binder_key = Derive-Secret(Early Secret, "ext binder" | "res binder", "") (section 7.1)
abbrev pub binder_key_of : Algorithm → (psk : List ℕ) → (is_external : Bool) → List ℕ
binder_key_of a psk is_external =
    let early_secret = hmac_of a (replicate (output_len a) 0) psk in
    expand_label_of a early_secret (binder_label is_external) (digest_of a []) (output_len a)
