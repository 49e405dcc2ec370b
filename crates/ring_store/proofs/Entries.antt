-- SPDX-License-Identifier: ISC
-- The entries of tables, in the order of their names.
use Rattle.std.proofs.Common.{◌≡◌, ℕ, T, List, [], ◌∷◌, slice_get, Vec, Bor, Option, option_map}
use Rattle.std.proofs.Common.{sym, ap, ◌∙◌}
use Rattle.std.specs.Cmp.Lexicographic.{nat_list_cmp_total}
use Rattle.std.specs.FinMap as table
use Rattle.std.specs.FinMap.Entries.{is_sorted, same_entries}
use Rattle.std.specs.Iterator.{SkipsThenYields}
use Rattle.std.specs.List.Sorted.{IsStrictlySortedBy}
use Rattle.std.specs.Map.{keys_of}
use Rattle.std.specs.Map.Iter.{TakesFirst, deref}
use Rattle.std.proofs.lemmas.Iterator.Consumers.{nth_from_yields_List, YieldsList-from_rest}
use Rattle.std.proofs.lemmas.List.{length-map}
use Rattle.std.proofs.lemmas.Map.Lookups.{exact_bytes}
use Rattle.std.proofs.lemmas.Option.{slice_get-map}
use Rattle.std.proofs.lemmas.Simd.{map-map}
use Rattle.ring_store.specs.Records.{named}
use Rattle.ring_store.proofs.Names.{order, key_order}

module _ {X : Type 0} where
  -- a table that finds what sorted entries have has these entries
  pub entries-found : (m : table.FinMap order X) (es : List (List ℕ × X))
      → T (is_sorted order es) → ((q : List ℕ) → table.get m q ≡ table.find order q es)
      → table.entries m ≡ es
  entries-found m es sorted found =
      same_entries order nat_list_cmp_total exact_bytes (table.entries m) es
      (table.entries_sorted m) sorted (λ q. sym (table.get-entries m q) ∙ found q)

  pub entries-empty : table.entries (table.empty {X = X} {R = order}) ≡ []
  entries-empty = entries-found table.empty [] tt (table.get-empty order)

-- ---- the entries of a map, by name

entries-named : {X A : Type 0} (es : List (Vec ℕ A × X)) → IsStrictlySortedBy key_order (keys_of es)
    → table.entries (table.from_entries {R = order} (named es)) ≡ named es
unfolding IsStrictlySortedBy
entries-named [] h = entries-empty
entries-named (e ∷ []) h = rw (table.entries-insert nat_list_cmp_total, entries-empty)
entries-named (e ∷ f ∷ es) h =
    rw (table.entries-insert nat_list_cmp_total, entries-named (f ∷ es) h.1, h.0.0)

module _ {X A : Type 0} {m : table.FinMap order X} (es : List (Vec ℕ A × X))
    (shows : table.from_entries {R = order} (named es) ≡ m)
    (sorted : IsStrictlySortedBy key_order (keys_of es)) where
  -- those of the table that shows the map
  pub entries-shown : table.entries m ≡ named es
  entries-shown = ap table.entries (sym shows) ∙ entries-named es sorted

  -- the name at an index, as the keys of the map are walked
  pub nth_name-shown : {start : List (Vec ℕ A)} (end : List (Vec ℕ A)) (index : ℕ)
      (found : Option (Bor (Vec ℕ A))) → start ≡ keys_of es
      → SkipsThenYields (TakesFirst deref) start index found end
      → option_map (λ (k : Vec ℕ A). k.items) (option_map deref found)
      ≡ slice_get (table.keys m) index
  nth_name-shown end index found rest ran =
      let nth = nth_from_yields_List found end index ran (YieldsList-from_rest (keys_of es) rest) in
      rw (nth, entries-shown) (simp (← slice_get-map, map-map))

pub ruleset entries = (entries-shown, table.len-entries, length-map)
