-- SPDX-License-Identifier: ISC
-- A store as text: a line for its salt and its iteration count, and then a line for each record, in
-- the order of names.
use Rattle.std.specs.Prelude.{◌≡◌, ℕ, true, List, [], ◌∷◌, ◌++◌, length}
use Rattle.std.specs.Prelude.{All, codes}
use Rattle.std.specs.Cmp.Lexicographic.{slice_cmp}
use Rattle.std.specs.FinMap.Entries.{below_all, is_sorted}
use Rattle.std.specs.List.{flat_map}
use Rattle.std.specs.Ordering.{nat_cmp}
use Rattle.std.specs.declared.num.NonZeroU32.{NonZeroU32}
use Rattle.hex.specs.Hex.{IsBytes, encode_lower}
use Rattle.ring_text.specs.Field.{IsCount, count_then}
use Rattle.ring_store.specs.Store.{asked_iterations, entries_of, is_name, salt_of}
use Rattle.ring_store.specs.declared.credential.Record.{Record}
use Rattle.ring_store.specs.declared.store.PasswordStore.{PasswordStore}

-- bytes in lower-case hex, the byte that ends them, and the rest
abbrev pub hex_then : (bytes : List ℕ) (end : ℕ) (rest : List ℕ) → List ℕ
hex_then bytes end rest = encode_lower bytes ++ end ∷ rest

-- `NAME ITERATIONS CREDENTIAL`, a line feed, and the rest
unfoldable pub record_then : List ℕ × Record → (rest : List ℕ) → List ℕ
record_then e rest =
    hex_then e.0 32 (count_then e.1.iterations 32 (hex_then e.1.credential 10 rest))

-- a line for each record
abbrev pub lines_of : List (List ℕ × Record) → List ℕ
lines_of es = flat_map (λ e. record_then e []) es

-- `ring_store 1 SALT ITERATIONS`, a line feed, and the rest
unfoldable pub head_then : (db_salt : List ℕ) (c : NonZeroU32) (rest : List ℕ) → List ℕ
head_then db_salt c rest = codes "ring_store 1 " ++ hex_then db_salt 32 (count_then c 10 rest)

-- the text of a store
abbrev pub text_of : {Z : Type 0} → PasswordStore Z → List ℕ
text_of s = head_then (salt_of s) (asked_iterations s) (lines_of (entries_of s))

-- a name of 1 to 64 bytes, and a credential of 32
pub record IsEntry (e : List ℕ × Record) : Type 0 where
  pub name : is_name e.0 ≡ true
  pub name_bytes : IsBytes e.0
  pub iterations : IsCount e.1.iterations
  pub credential : length e.1.credential ≡ 32
  pub credential_bytes : IsBytes e.1.credential

-- a salt of 16 bytes
pub record IsHead (db_salt : List ℕ) (c : NonZeroU32) : Type 0 where
  pub salt : length db_salt ≡ 16
  pub salt_bytes : IsBytes db_salt
  pub iterations : IsCount c

-- the salt, the counts and the records of a store are of their types, and its names are admitted
pub record IsStore {Z : Type 0} (s : PasswordStore Z) : Type 0 where
  pub head : IsHead (salt_of s) (asked_iterations s)
  pub entries : All IsEntry (entries_of s)

-- a store has the text
pub record IsText (Z : Type 0) (text : List ℕ) : Type 0 where
  pub store : PasswordStore Z
  pub is : IsStore store
  pub has : text_of store ≡ text

-- the lines are one for each of some records, whose names rise and come after `last`
pub record AreLines (last lines : List ℕ) : Type 0 where
  pub records : List (List ℕ × Record)
  pub entries : All IsEntry records
  pub after : below_all (slice_cmp nat_cmp) last records ≡ true
  pub rise : is_sorted (slice_cmp nat_cmp) records ≡ true
  pub whole : lines_of records ≡ lines
