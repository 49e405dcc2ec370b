-- SPDX-License-Identifier: ISC
-- The schemes: what a text begins with, how its fields are written, and what derives that which it
-- keeps.
use Rattle.std.specs.Prelude.{◌≡◌, ◌≤◌, ℕ, Bool, true, false, List, [], codes}
use Rattle.ring.specs.Prelude.{pbkdf2_digest}
use Rattle.ring.specs.declared.digest.algorithm.Algorithm.{Algorithm}
use Rattle.ring.specs.declared.digest.algorithm.TheConstants.{SHA1_FOR_LEGACY_USE_ONLY as SHA1}
use Rattle.ring.specs.declared.digest.algorithm.TheConstants.{SHA256, SHA512}
use Rattle.ring_password_hash.specs.declared.scheme.Encoding.{Encoding}
use Rattle.ring_password_hash.specs.declared.scheme.Encoding.TheVariants.{Plain, Hex, Base64}
use Rattle.ring_password_hash.specs.declared.scheme.Encoding.TheVariants.{Base64NoPad, Adapted}
use Rattle.ring_password_hash.specs.declared.scheme.Row as code
use Rattle.ring_password_hash.specs.declared.scheme.Scheme.{Scheme}
use Rattle.ring_password_hash.specs.declared.scheme.Scheme.TheVariants as scheme

-- its name; what a text begins with; whether it can name the length of what it keeps, and whether
-- that is SCRAM's two keys; how salt and kept bytes are written; how many are kept where the text
-- does not name it; and what derives them
pub record Row : Type 0 where
  pub name : List ℕ
  pub prefix : List ℕ
  pub names_len : Bool
  pub keeps_keys : Bool
  pub salt : Encoding
  pub kept : Encoding
  pub kept_len : ℕ
  pub algorithm : Algorithm

abbrev pub row : (name prefix : List ℕ) (named keys : Bool) (salt kept : Encoding) (n : ℕ)
    → Algorithm → Row
row name prefix named keys salt kept n a = record {
  name = name;
  prefix = prefix;
  names_len = named;
  keeps_keys = keys;
  salt = salt;
  kept = kept;
  kept_len = n;
  algorithm = a;
}

-- Django: `django/contrib/auth/hashers.py`. Werkzeug: `werkzeug/security.py`. PHC strings, with the
-- parameters i and l, as RustCrypto's `pbkdf2` reads them. Mosquitto's password file. passlib's
-- modular crypt format: `passlib/handlers/pbkdf2.py`. PostgreSQL's verifier: RFC 5802, section 3,
-- and RFC 7677
abbrev pub row_of : Scheme → Row
row_of scheme.DjangoSha256 =
    row (codes "django-sha256") (codes "pbkdf2_sha256$") false false Plain Base64 32 SHA256
row_of scheme.DjangoSha1 =
    row (codes "django-sha1") (codes "pbkdf2_sha1$") false false Plain Base64 20 SHA1
row_of scheme.WerkzeugSha256 =
    row (codes "werkzeug-sha256") (codes "pbkdf2:sha256:") false false Plain Hex 32 SHA256
row_of scheme.WerkzeugSha512 =
    row (codes "werkzeug-sha512") (codes "pbkdf2:sha512:") false false Plain Hex 64 SHA512
row_of scheme.PhcSha256 =
    row (codes "phc-sha256") (codes "$pbkdf2-sha256$") true false Base64NoPad Base64NoPad 32 SHA256
row_of scheme.PhcSha512 =
    row (codes "phc-sha512") (codes "$pbkdf2-sha512$") true false Base64NoPad Base64NoPad 32 SHA512
row_of scheme.Mosquitto = row (codes "mosquitto") (codes "$7$") false false Base64 Base64 64 SHA512
row_of scheme.PasslibSha1 =
    row (codes "passlib-sha1") (codes "$pbkdf2$") false false Adapted Adapted 20 SHA1
row_of scheme.PasslibSha256 =
    row (codes "passlib-sha256") (codes "$pbkdf2-sha256$") false false Adapted Adapted 32 SHA256
row_of scheme.PasslibSha512 =
    row (codes "passlib-sha512") (codes "$pbkdf2-sha512$") false false Adapted Adapted 64 SHA512
row_of scheme.Postgresql =
    row (codes "postgresql") (codes "SCRAM-SHA-256$") false true Base64 Base64 64 SHA256
row_of scheme.WerkzeugSha1 =
    row (codes "werkzeug-sha1") (codes "pbkdf2:sha1:") false false Plain Hex 20 SHA1

-- the code's row is that of the table
pub record IsRow (r : code.Row) (is : Row) : Type 0 where
  pub name : r.name.now ≡ is.name
  pub prefix : r.prefix.now ≡ is.prefix
  pub names_len : r.names_len ≡ is.names_len
  pub keeps_keys : r.keeps_keys ≡ is.keeps_keys
  pub salt : r.salt ≡ is.salt
  pub kept : r.kept ≡ is.kept
  pub kept_len : r.kept_len ≡ is.kept_len
  pub algorithm : pbkdf2_digest r.algorithm ≡ is.algorithm
  pub few : r.kept_len ≤ 64
  pub keys : r.keeps_keys ≡ true → r.kept_len ≡ 64

abbrev pub name_of : Scheme → List ℕ
name_of k = (row_of k).name

abbrev pub prefix_of : Scheme → List ℕ
prefix_of k = (row_of k).prefix

abbrev pub names_len : Scheme → Bool
names_len k = (row_of k).names_len

abbrev pub keeps_keys : Scheme → Bool
keeps_keys k = (row_of k).keeps_keys

abbrev pub salt_encoding_of : Scheme → Encoding
salt_encoding_of k = (row_of k).salt

abbrev pub kept_encoding_of : Scheme → Encoding
kept_encoding_of k = (row_of k).kept

abbrev pub kept_len_of : Scheme → ℕ
kept_len_of k = (row_of k).kept_len

abbrev pub algorithm_of : Scheme → Algorithm
algorithm_of k = (row_of k).algorithm

-- what names an iteration count, where parameters are named
abbrev pub count_mark : (named : Bool) → List ℕ
count_mark true = codes "i="
count_mark false = []

abbrev pub count_mark_of : Scheme → List ℕ
count_mark_of k = count_mark (names_len k)

-- what ends an iteration count that stands alone: a colon before SCRAM's keys, else a dollar sign
abbrev pub count_end : (keys : Bool) → ℕ
count_end true = 58
count_end false = 36

abbrev pub count_end_of : Scheme → ℕ
count_end_of k = count_end (keeps_keys k)
