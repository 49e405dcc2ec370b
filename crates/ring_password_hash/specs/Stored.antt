-- SPDX-License-Identifier: ISC
-- What a text keeps of a password, as one value: its text, its test, and a new one.
use Rattle.std.specs.Prelude.{◌≡◌, ◌≤◌, ◌<◌, ◌==◌, ◌+◌, ◌&&◌, ◌||◌, ◌++◌, if◌then◌else◌, ℕ, Bool}
use Rattle.std.specs.Prelude.{true, false, List, [], Err, None, Ok, OnErr, OnOk, Option, Result}
use Rattle.std.specs.Prelude.{Some, codes, drop, length, nat_lt, not, take}
use Rattle.std.specs.Int.NonZero.{non_zero_u32_get}
use Rattle.std.specs.List.{list_all}
use Rattle.std.specs.Str.{bytes_eq}
use Rattle.std.specs.declared.num.NonZeroU32.{NonZeroU32}
use Rattle.hex.specs.Hex.{IsBytes}
use Rattle.ring_core.specs.Cost.{Counts}
use Rattle.ring_core.specs.declared.error.Unspecified.{Unspecified}
use Rattle.ring.specs.Prelude.{can_derive, derive_blocks, digest_of, dk, hmac_of, key_blocks}
use Rattle.ring.specs.Prelude.{padded_blocks, raised}
use Rattle.ring.specs.declared.digest.algorithm.TheConstants.{SHA256}
use Rattle.ring_password_hash.specs.Scheme.{algorithm_of, keeps_keys, kept_len_of, names_len}
use Rattle.ring_password_hash.specs.Scheme.{salt_encoding_of}
use Rattle.ring_password_hash.specs.Text.{IsCount, IsLen, field_then, head_then, kept_text}
use Rattle.ring_password_hash.specs.declared.error.HashError.{HashError}
use Rattle.ring_password_hash.specs.declared.error.HashError.TheVariants as hash
use Rattle.ring_password_hash.specs.declared.scheme.Encoding.{Encoding}
use Rattle.ring_password_hash.specs.declared.scheme.Encoding.TheVariants.{Plain, Hex, Base64}
use Rattle.ring_password_hash.specs.declared.scheme.Encoding.TheVariants.{Base64NoPad, Adapted}
use Rattle.ring_password_hash.specs.declared.scheme.Scheme.{Scheme}
use Rattle.ring_password_hash.specs.declared.stored.Stored.{Stored}
use Rattle.ring_password_hash.specs.declared.text.Parameters.{Parameters}
use Rattle.ring_password_hash.specs.declared.text.Parameters.TheVariants.{Count, CountThenLen}
use Rattle.ring_password_hash.specs.declared.text.TheConstants.{MAX_TEXT_LEN}

-- ---- the value

-- the scheme, the parameters that the text names, the iteration count, the salt, and what is kept:
-- the hash, or StoredKey and ServerKey
pub record Parts : Type 0 where
  pub scheme : Scheme
  pub parameters : Parameters
  pub iterations : NonZeroU32
  pub salt : List ℕ
  pub kept : List ℕ

abbrev pub parts : Scheme → Parameters → (c : NonZeroU32) (salt kept : List ℕ) → Parts
parts k p c salt kept =
    record { scheme = k; parameters = p; iterations = c; salt = salt; kept = kept }

-- its text: a dollar sign ends the salt
unfoldable pub parts_text : Scheme → Parameters → (c : NonZeroU32) (salt kept : List ℕ) → List ℕ
parts_text k p c salt kept =
    head_then k p c (length kept) (field_then (salt_encoding_of k) salt 36 (kept_text k kept))

abbrev pub text_of : Parts → List ℕ
text_of h = parts_text h.scheme h.parameters h.iterations h.salt h.kept

-- what stands before what is kept, which has n bytes
abbrev pub front_text : Scheme → Parameters → (c : NonZeroU32) (n : ℕ) (salt : List ℕ) → List ℕ
front_text k p c n salt =
    head_then k p c n [] ++ field_then (salt_encoding_of k) salt 36 []

-- a salt that is written as it is has no byte that ends it
abbrev pub is_text : Encoding → Bool
is_text Plain = true
is_text Hex = false
is_text Base64 = false
is_text Base64NoPad = false
is_text Adapted = false

-- whether the scheme can have the salt: one byte or more, and where it is text, no dollar sign
abbrev pub is_salt : Scheme → List ℕ → Bool
is_salt k salt =
    nat_lt 0 (length salt)
    && (not (is_text (salt_encoding_of k)) || list_all (λ b. not (b == 36)) salt)

-- a count of 32 bits, a salt that the scheme can write, and as many bytes as it keeps
pub record IsParts (k : Scheme) (p : Parameters) (c : NonZeroU32) (s h : List ℕ) : Type 0 where
  pub iterations : IsCount c
  pub salt : is_salt k s ≡ true
  pub salt_bytes : IsBytes s
  pub kept : IsLen k p (length h)
  pub kept_bytes : IsBytes h

-- the text is that of a value of these parts
pub record IsTextOf (h : Parts) (text : List ℕ) : Type 0 where
  pub is : IsParts h.scheme h.parameters h.iterations h.salt h.kept
  pub has : text_of h ≡ text
  pub within : length text ≤ 1024

-- the text is that of the value, or of none
abbrev pub IsReading : (text : List ℕ) → Option Parts → Type 0
IsReading text (Some h) = IsTextOf h text
IsReading text None = (h : Parts) → IsTextOf h text → ⊥

-- P holds of what the text is read as, which is one (`laws::one_text_is_of_one_value`)
pub record IsReadWhere (text : List ℕ) (P : Option Parts → Type 0) : Type 0 where
  pub found : Option Parts
  pub reads : IsReading text found
  pub holds : P found

-- ---- the value of the code: salt and kept bytes stand at the start of two arrays

abbrev pub parts_of : Stored → Parts
parts_of v = record {
  scheme = v.scheme;
  parameters = v.parameters;
  iterations = v.iterations;
  salt = take v.salt_len v.salt;
  kept = take v.kept_len v.kept;
}

-- the arrays have room for what stands in them
pub record IsFilled (v : Stored) : Type 0 where
  pub salt : v.salt_len ≤ MAX_TEXT_LEN
  pub kept : v.kept_len ≤ MAX_TEXT_LEN
  pub keys : keeps_keys v.scheme ≡ true → v.kept_len ≡ 64

-- a value has a text
pub record IsStored (v : Stored) : Type 0 where
  pub filled : IsFilled v
  pub text : IsTextOf (parts_of v) (text_of (parts_of v))

-- what a text is read as: the value that has it, or BadFormat exactly where none has
abbrev pub Reads : (text : List ℕ) → Result Stored HashError → Type 0
Reads text (Ok v) = IsTextOf (parts_of v) text × IsStored v
Reads text (Err error) = (error ≡ hash.BadFormat) × ((h : Parts) → IsTextOf h text → ⊥)

-- ---- what is kept of a password

-- StoredKey := H(ClientKey), ClientKey := HMAC(SaltedPassword, "Client Key"), and
-- ServerKey := HMAC(SaltedPassword, "Server Key") (RFC 5802, section 3)
unfoldable pub stored_key_of : (salted : List ℕ) → List ℕ
stored_key_of salted = digest_of SHA256 (hmac_of SHA256 salted (codes "Client Key"))

unfoldable pub server_key_of : (salted : List ℕ) → List ℕ
server_key_of salted = hmac_of SHA256 salted (codes "Server Key")

abbrev pub keys_of : (salted : List ℕ) → List ℕ
keys_of salted = stored_key_of salted ++ server_key_of salted

-- what is kept of the password p with the salt s after c iterations, in n bytes: what PBKDF2
-- derives, or the keys of SaltedPassword := Hi(p, s, c), which is PBKDF2 to 32 bytes
abbrev pub derived_by : (keys : Bool) → Scheme → (p s : List ℕ) (c n : ℕ) → List ℕ
derived_by false k p s c n = dk (algorithm_of k) p s c n
derived_by true k p s c n = keys_of (dk (algorithm_of k) p s c 32)

abbrev pub derived_of : Scheme → (p s : List ℕ) (c n : ℕ) → List ℕ
derived_of k = derived_by (keeps_keys k) k

-- the bytes that PBKDF2 derives for it
abbrev pub dk_len : (keys : Bool) → ℕ → ℕ
dk_len false n = n
dk_len true n = 32

abbrev pub can_keep : Scheme → (p_len s_len n : ℕ) → Bool
can_keep k p_len s_len n = can_derive (algorithm_of k) p_len s_len (dk_len (keeps_keys k) n)

-- the blocks of two keys: an HMAC key, two tags of 10 bytes, and a digest of 32 bytes
abbrev pub keys_blocks : (keys : Bool) → ℕ
keys_blocks false = 0
keys_blocks true =
    key_blocks SHA256 32 + (padded_blocks SHA256 10 + 1)
    + padded_blocks SHA256 32 + (padded_blocks SHA256 10 + 1)

-- the blocks of what is kept
abbrev pub kept_blocks : Scheme → (p_len s_len c n : ℕ) → ℕ
kept_blocks k p_len s_len c n =
    derive_blocks (algorithm_of k) p_len s_len c (dk_len (keeps_keys k) n)
    + keys_blocks (keeps_keys k)

-- it is derived at this cost, or refused at none
pub record Derives (k : Scheme) (p s : List ℕ) (c n : ℕ) (new : List ℕ) (before after : Counts)
    (r : Result (Unit {0}) Unspecified) : Type 0 where
  pub can : OnOk r (can_keep k (length p) (length s) n ≡ true)
  pub ok : OnOk r (new ≡ derived_of k p s c n)
  pub cost : OnOk r (after ≡ raised before (kept_blocks k (length p) (length s) c n) 0)
  pub refused : OnErr r (can_keep k (length p) (length s) n ≡ false)
  pub unchanged : OnErr r (after ≡ before)

-- ---- a test of a password

abbrev pub is_of : Parts → (p : List ℕ) → Bool
is_of h p =
    can_keep h.scheme (length p) (length h.salt) (length h.kept)
    && bytes_eq h.kept (derived_of h.scheme p h.salt (non_zero_u32_get h.iterations)
    (length h.kept))

-- what a test of the password p answers, under a limit of iterations
abbrev pub answer_of : Option Parts → (p : List ℕ) → (most : ℕ) → Result (Unit {0}) HashError
answer_of None p most = Err hash.BadFormat
answer_of (Some h) p most =
    if nat_lt most (non_zero_u32_get h.iterations) then Err hash.TooManyIterations
    else if is_of h p then Ok tt
    else Err hash.WrongPassword

-- what a meter counts of it: nothing where the text or its count is refused
abbrev pub meter_of : Option Parts → (p : List ℕ) → (most : ℕ) → Counts → Counts
meter_of None p most m = m
meter_of (Some h) p most m =
    if nat_lt most (non_zero_u32_get h.iterations) then m
    else if can_keep h.scheme (length p) (length h.salt) (length h.kept) then
    raised m (kept_blocks h.scheme (length p) (length h.salt) (non_zero_u32_get h.iterations)
    (length h.kept)) (length h.kept)
    else m

-- a test gives this answer at this cost
pub record Tests (found : Option Parts) (p : List ℕ) (most : ℕ) (before after : Counts)
    (r : Result (Unit {0}) HashError) : Type 0 where
  pub answer : r ≡ answer_of found p most
  pub cost : after ≡ meter_of found p most before

-- ---- a new value

abbrev pub parameters_where : (named : Bool) → Parameters
parameters_where true = CountThenLen
parameters_where false = Count

-- the value of the password p with the salt s and c iterations, as the scheme's own system writes
abbrev pub new_parts : Scheme → (p s : List ℕ) → (c : NonZeroU32) → Parts
new_parts k p s c = record {
  scheme = k;
  parameters = parameters_where (names_len k);
  iterations = c;
  salt = s;
  kept = derived_of k p s (non_zero_u32_get c) (kept_len_of k);
}

-- whether a text is longer than a buffer, or than any text
abbrev pub is_past : (room : ℕ) → List ℕ → Bool
is_past room text = nat_lt room (length text) || nat_lt 1024 (length text)

-- whether there is a new value, for a buffer of `room` bytes, or why there is none
abbrev pub new_status : (room : ℕ) → Scheme → (p s : List ℕ) → NonZeroU32
    → Result (Unit {0}) HashError
new_status room k p s c =
    if is_past room (text_of (new_parts k p s c)) then Err hash.NoRoom
    else if not (is_salt k s) then Err hash.BadSalt
    else if not (can_keep k (length p) (length s) (kept_len_of k)) then Err hash.TooLong
    else Ok tt

-- what a meter counts of it: nothing where it is refused
abbrev pub new_meter : {V : Type 0} → Scheme → (p s : List ℕ) (c : ℕ) → Result V HashError
    → Counts → Counts
new_meter k p s c (Ok h) m = raised m (kept_blocks k (length p) (length s) c (kept_len_of k)) 0
new_meter k p s c (Err error) m = m

-- what is kept of a new value is written, at this cost
pub record IsKept (room : ℕ) (k : Scheme) (p s : List ℕ) (c : NonZeroU32) (new : List ℕ)
    (before after : Counts) : Type 0 where
  pub status : new_status room k p s c ≡ Ok tt
  pub kept : new ≡ derived_of k p s (non_zero_u32_get c) (kept_len_of k)
  pub salt : is_salt k s ≡ true
  pub within : is_past room (text_of (new_parts k p s c)) ≡ false
  pub few : length s ≤ MAX_TEXT_LEN
  pub cost : after ≡ raised before (kept_blocks k (length p) (length s) (non_zero_u32_get c)
      (kept_len_of k)) 0

-- the same, or there is no new value, and this is why
abbrev pub Keeps : (room : ℕ) → Scheme → (p s : List ℕ) → NonZeroU32 → (new : List ℕ)
    → (before after : Counts) → Result (Unit {0}) HashError → Type 0
Keeps room k p s c new before after (Ok done) = IsKept room k p s c new before after
Keeps room k p s c new before after (Err error) =
    (new_status room k p s c ≡ Err error) × (after ≡ before)

-- the code's value is the new one, or there is none and this is why
abbrev pub IsNew : (room : ℕ) → Scheme → (p s : List ℕ) → NonZeroU32 → Result Stored HashError
    → Type 0
IsNew room k p s c (Ok v) =
    (new_status room k p s c ≡ Ok tt) × (parts_of v ≡ new_parts k p s c) × IsStored v
IsNew room k p s c (Err error) = new_status room k p s c ≡ Err error

-- a new value is this, at this cost
pub record Makes (room : ℕ) (k : Scheme) (p s : List ℕ) (c : NonZeroU32) (before after : Counts)
    (r : Result Stored HashError) : Type 0 where
  pub answer : IsNew room k p s c r
  pub cost : after ≡ new_meter k p s (non_zero_u32_get c) r before

-- ---- a text is written

-- the text stands at the start of a buffer, and its length is told; or there is no room, and the
-- buffer is as it was
abbrev pub Writes : (text old new : List ℕ) → Result ℕ HashError → Type 0
Writes text old new (Ok len) = (len ≡ length text) × (new ≡ text ++ drop len old)
Writes text old new (Err error) = (error ≡ hash.NoRoom) × (length old < length text) × (new ≡ old)
