-- SPDX-License-Identifier: ISC
-- A new value.
use Rattle.std.proofs.Common.{◌≡◌, ◌≤◌, ◌∙◌, ℕ, Bool, true, false, List, arith, length, refl}
use Rattle.std.proofs.Common.{subst, sym, take}
use Rattle.std.specs.Prelude.{Ok}
use Rattle.std.proofs.lemmas.Bool.Decides.{nat_tests}
use Rattle.std.proofs.lemmas.List.{length-append}
use Rattle.std.specs.Int.NonZero.{non_zero_u32_get}
use Rattle.std.specs.declared.num.NonZeroU32.{NonZeroU32}
use Rattle.hex.specs.Hex.{IsBytes}
use Rattle.ring_core.specs.Cost.{Counts}
use Rattle.ring.proofs.Lengths.{length-digest_of}
use Rattle.ring.proofs.lemmas.hmac.Keys.{length-hmac_of}
use Rattle.ring.proofs.lemmas.pbkdf2.Rounds.{length-dk}
use Rattle.ring.specs.Prelude.{dk}
use Rattle.ring.specs.declared.digest.algorithm.TheConstants.{SHA256}
use Rattle.ring_password_hash.specs.Scheme.{algorithm_of, keeps_keys, kept_len_of, names_len}
use Rattle.ring_password_hash.specs.Stored.{Derives, IsKept, IsStored, IsTextOf, Makes, Parts}
use Rattle.ring_password_hash.specs.Stored.{derived_by, derived_of, is_past, is_salt, keys_of}
use Rattle.ring_password_hash.specs.Stored.{new_parts, parameters_where, parts_of, parts_text}
use Rattle.ring_password_hash.specs.Stored.{server_key_of, stored_key_of, text_of}
use Rattle.ring_password_hash.specs.Text.{IsCount, IsLen}
use Rattle.ring_password_hash.specs.declared.scheme.Scheme.{Scheme}
use Rattle.ring_password_hash.specs.declared.stored.Stored.{Stored}
use Rattle.ring_password_hash.specs.declared.text.Parameters.TheVariants.{Count}
use Rattle.ring_password_hash.proofs.Heads.{keys_len, len_few, usual_len}
use Rattle.ring_password_hash.proofs.Writing.{length-parts_text}

-- the length of what is kept
length-keys_of : (salted : List ℕ) → length (keys_of salted) ≡ 64
unfolding stored_key_of server_key_of
length-keys_of salted =
    let one : length (stored_key_of salted) ≡ 32 = length-digest_of SHA256 _ in
    let two : length (server_key_of salted) ≡ 32 = length-hmac_of SHA256 salted _ in
    length-append (stored_key_of salted) (server_key_of salted) ∙ omega (arith, one, two)

length-derived_by : (keys : Bool) (k : Scheme) (p s : List ℕ) (c n : ℕ) → (keys ≡ true → n ≡ 64)
    → length (derived_by keys k p s c n) ≡ n
length-derived_by false k p s c n is = length-dk (algorithm_of k) p s c n
length-derived_by true k p s c n is =
    length-keys_of (dk (algorithm_of k) p s c 32) ∙ sym (is refl)

pub length-derived_of : (k : Scheme) (p s : List ℕ) (c : ℕ)
    → length (derived_of k p s c (kept_len_of k)) ≡ kept_len_of k
length-derived_of k p s c =
    length-derived_by (keeps_keys k) k p s c (kept_len_of k)
    (keys_len k Count (kept_len_of k) refl)

-- a new value's text is as long as any that keeps as many bytes
pub length-new : (k : Scheme) (p s : List ℕ) (c : NonZeroU32) (h : List ℕ)
    → length h ≡ kept_len_of k → length (text_of (new_parts k p s c))
    ≡ length (parts_text k (parameters_where (names_len k)) c s h)
length-new k p s c h e =
    length-parts_text k (parameters_where (names_len k)) c s
    (derived_of k p s (non_zero_u32_get c) (kept_len_of k)) h
    (length-derived_of k p s (non_zero_u32_get c) ∙ sym e)

-- what is kept of a new value
pub kept_new : (room : ℕ) (k : Scheme) {p s : List ℕ} (c : NonZeroU32) {new : List ℕ}
    {before after : Counts} → is_salt k s ≡ true
    → is_past room (text_of (new_parts k p s c)) ≡ false → length s ≤ 1024
    → Derives k p s (non_zero_u32_get c) (kept_len_of k) new before after (Ok tt)
    → IsKept room k p s c new before after
kept_new room k c salt past few derives = record {
  status = rw (past, salt, derives.can) refl;
  kept = derives.ok;
  salt = salt;
  within = past;
  few = few;
  cost = derives.cost;
}

-- the fields of a value with this salt and these kept bytes, and with the usual parameters
pub record IsFresh (v : Stored) (s h : List ℕ) : Type 0 where
  pub salt : take v.salt_len v.salt ≡ s
  pub salt_len : v.salt_len ≡ length s
  pub kept : take v.kept_len v.kept ≡ h
  pub kept_len : v.kept_len ≡ kept_len_of v.scheme
  pub usual : v.parameters ≡ parameters_where (names_len v.scheme)

-- the value has the text of a new one
pub new_made : {v : Stored} {room : ℕ} {p s new : List ℕ} {before after : Counts}
    → IsKept room v.scheme p s v.iterations new before after → IsFresh v s new
    → IsCount v.iterations → IsBytes s → IsBytes new
    → Makes room v.scheme p s v.iterations before after (Ok v)
new_made {v} {room} {p} {s} {new} keeps fresh count bytes kept_bytes =
    let k = v.scheme in
    let h = new_parts k p s v.iterations in
    let whole = fresh.kept ∙ keeps.kept in
    let same : parts_of v ≡ h = λ i. record {
      scheme = k;
      parameters = fresh.usual i;
      iterations = v.iterations;
      salt = fresh.salt i;
      kept = whole i;
    } in
    let few = (len_few k Count v.kept_len fresh.kept_len).1 in
    let within = keeps.within in
    let text : IsTextOf h (text_of h) = record {
      is = record {
        iterations = count;
        salt = keeps.salt;
        salt_bytes = bytes;
        kept = subst (IsLen k (parameters_where (names_len k)))
            (sym (length-derived_of k p s (non_zero_u32_get v.iterations))) (usual_len k);
        kept_bytes = subst IsBytes keeps.kept kept_bytes;
      };
      has = refl;
      within = grind (arith, nat_tests, within);
    } in
    let stored : IsStored v = record {
      filled = record {
        salt = subst (λ (n : ℕ). n ≤ 1024) (sym fresh.salt_len) keeps.few;
        kept = omega (arith, few);
        keys = keys_len k Count v.kept_len fresh.kept_len;
      };
      text = subst (λ (g : Parts). IsTextOf g (text_of g)) (sym same) text;
    } in
    record { answer = (keeps.status, same, stored); cost = keeps.cost }
