-- SPDX-License-Identifier: ISC
-- The paddings as words are the standard's, each behind a digest of its algorithm; and what a run
-- over such a block makes of a state.
use Rattle.std.proofs.Common.{◌≡◌, ℕ, ◌*◌, ◌^◌, ◌%◌, ◌<◌, ◌≤◌, List, ◌++◌, length, map, take, refl}
use Rattle.std.proofs.Common.{◌∙◌, ap, arith, drop, lit≤, mod-lt, pow_pos, sym, take_all}
use Rattle.std.proofs.lemmas.List.{length-map}
use Rattle.std.specs.declared.num.Wrapping.{Wrapping}
use Rattle.ring_core.specs.Prelude.{Family, IsBlockOf, block_step}
use Rattle.ring.specs.Prelude.{Algorithm, IsPaddingOf, SHA1_FOR_LEGACY_USE_ONLY, digest_bytes}
use Rattle.ring.specs.Prelude.{output_len, prepared_padding, word_bytes, word_len}
use Rattle.ring_core.proofs.Sha2Steps.{length-block_step}
use Rattle.ring.specs.declared.hmac.prepared.TheConstants.{SHA1_PADDING}
use Rattle.ring.proofs.lemmas.digest.Words.{AllBelow, map-below, padded-words, values}

pub sha1_padding : IsPaddingOf SHA1_FOR_LEGACY_USE_ONLY 32 5 (values 32 SHA1_PADDING)
sha1_padding =
    record { bits = refl; digest = refl; room = lit≤ tt; sixteen = refl; bytes = refl }

-- that of any algorithm, whose fields a computation shows
pub is_padding : {a : Algorithm} {w k : ℕ} {padding : List ℕ} → w ≡ 8 * word_len a
    → output_len a ≡ k * word_len a → k ≤ 8 → length padding ≡ 16
    → word_bytes (word_len a) (drop k padding) ≡ prepared_padding a → IsPaddingOf a w k padding
is_padding bits digest room sixteen bytes =
    record { bits = bits; digest = digest; room = room; sixteen = sixteen; bytes = bytes }

-- the words of a lane after a run over a digest's words and their padding, where all eight chain
pub lane_run : {X : Type 0} {a : Algorithm} {w k : ℕ} {padding : List ℕ} {f : X → ℕ}
    (family : Family) (old new digest : List X) → IsPaddingOf a w k padding
    → AllBelow (2 ^ w) padding → (length (map f old) ≡ 8) × (length (map f digest) ≡ 8)
    → ((x : X) → f x < 2 ^ w)
    → ((block : List ℕ) → IsBlockOf w k (map f digest) padding block
    → map f new ≡ block_step family (map f old) block)
    → take 8 (map f new)
    ≡ block_step family (take 8 (map f old)) (digest_bytes a (map f digest) ++ prepared_padding a)
lane_run {a = a} {f = f} family old new digest t small eights fits run =
    let block : List ℕ = digest_bytes a (map f digest) ++ prepared_padding a in
    let step : List ℕ → List ℕ → List ℕ = block_step family in
    let ran : map f new ≡ step (map f old) block =
    run block (padded-words digest t small eights.1 fits) in
    let eight : length (map f new) ≡ 8 =
    ap length ran ∙ length-block_step family (map f old) block in
    take_all 8 (map f new) (omega (arith, eight)) ∙ ran
    ∙ ap (λ h. step h block) (sym (take_all 8 (map f old) (omega (arith, eights.0))))

-- the words of a padding are words of w bits
pub values-below : (w : ℕ) (padding : List (Wrapping ℕ)) → AllBelow (2 ^ w) (values w padding)
values-below w padding =
    map-below (λ (x : Wrapping ℕ). x.0 % 2 ^ w) (2 ^ w) padding (pow_pos w)
    (λ x. mod-lt _ (pow_pos w))

-- the same of words as they are
pub words_run : {a : Algorithm} {w k : ℕ} (family : Family)
    (old new digest padding : List (Wrapping ℕ)) → IsPaddingOf a w k (values w padding)
    → (length old ≡ 8) × (length digest ≡ 8)
    → ((block : List ℕ) → IsBlockOf w k (values w digest) (values w padding) block
    → values w new ≡ block_step family (values w old) block)
    → take 8 (values w new)
    ≡ block_step family (take 8 (values w old))
    (digest_bytes a (values w digest) ++ prepared_padding a)
words_run {w = w} family old new digest padding t eights =
    lane_run family old new digest t (values-below w padding)
    (length-map old _ ∙ eights.0, length-map digest _ ∙ eights.1) (λ x. mod-lt _ (pow_pos w))
