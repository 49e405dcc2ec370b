-- SPDX-License-Identifier: ISC
-- What a text says of the stores that have it.
use Rattle.std.proofs.Common.{◌≡◌, ℕ, List, [], Result, Ok, Err, IfOk, ◌∙◌}
use Rattle.std.specs.FinMap as table
use Rattle.std.specs.declared.num.NonZeroU32.{NonZeroU32}
use Rattle.std.proofs.lemmas.Bool.{true_from_ne_false}
use Rattle.std.proofs.lemmas.List.Elements.{All-nil}
use Rattle.ring_store_text.specs.Text.{AreLines, IsHead, IsStore, head_then, text_of}
use Rattle.ring_store_text.specs.declared.error.LoadError.{LoadError}
use Rattle.ring_store.specs.declared.store.PasswordStore.{PasswordStore}
use Rattle.ring_store.proofs.Entries.{entries-empty}
use Rattle.ring_store_text.proofs.Lines.{after_none}
use Rattle.ring_store_text.proofs.Texts.{head_then-injective, lines_of-injective}

-- a store whose first line was read has the lines behind it
pub lines_behind : {Z : Type 0} {text : List ℕ} (s : PasswordStore Z) → IsStore s
    → text_of s ≡ text → (salt : List ℕ) (c : NonZeroU32) (lines : List ℕ) → IsHead salt c
    → text ≡ head_then salt c lines → AreLines [] lines
lines_behind s h is salt c lines head whole =
    record {
      records = table.entries s.records;
      entries = h.entries;
      after = after_none (table.entries s.records) h.entries;
      rise = true_from_ne_false _ (λ none. rw none at (table.entries_sorted s.records));
      whole = (head_then-injective h.head head (is ∙ whole)).2;
    }

-- two stores of one text are equal
pub text_of-injective : {Z : Type 0} (s t : PasswordStore Z) → IsStore s → IsStore t
    → text_of s ≡ text_of t → s ≡ t
text_of-injective s t hs ht e =
    let same = head_then-injective hs.head ht.head e in
    let records = table.same_entries_map s.records t.records
    (lines_of-injective _ _ hs.entries ht.entries same.2) in
    λ i. record { db_salt = same.0 i; iterations = same.1 i; records = records i }

-- what was read of a store's text is that store
pub same_store : {Z : Type 0} {text : List ℕ} (s : PasswordStore Z)
    (r : Result (PasswordStore Z) LoadError) → IsStore s → text ≡ text_of s
    → IfOk r (λ t. (text_of t ≡ text) × IsStore t) → IfOk r (λ t. t ≡ s)
same_store s (Ok t) h written read = text_of-injective t s read.1 h (read.0 ∙ written)
same_store s (Err e) h written read = tt

-- what the laws of stores rest on
pub ruleset stores = (text_of-injective, entries-empty, All-nil)
