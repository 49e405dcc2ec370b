-- SPDX-License-Identifier: ISC
-- What holds of each entry of a table, after a record is put or removed, and what sorted entries
-- have not.
use Rattle.std.proofs.Common.{◌≡◌, ℕ, Bool, true, not, List, [], ◌∷◌, All}
use Rattle.std.proofs.Common.{None, Ordering, Less, Equal, Greater, is_lt}
use Rattle.std.proofs.Common.{arith, ap, refl, subst, sym}
use Rattle.std.specs.Ordering.{eq_by_cmp}
use Rattle.std.specs.Cmp.Lexicographic.{nat_list_cmp_total}
use Rattle.std.specs.FinMap as table
use Rattle.std.specs.FinMap.Entries.{below_all, by_order, find-where_key}
use Rattle.std.specs.FinMap.Entries.{is_sorted-where_key, put}
use Rattle.std.specs.List.{AllByRecursion}
use Rattle.std.proofs.lemmas.List.Elements.{All-filter, All-from_recursion, All-same}
use Rattle.std.proofs.lemmas.List.Elements.{recursion_from_All}
use Rattle.std.proofs.lemmas.Map.Lookups.{exact_bytes}
use Rattle.ring_store.proofs.Entries.{entries-found}
use Rattle.ring_store.proofs.Names.{order}

pub lower : (o : Ordering) → is_lt o ≡ true → o ≡ Less
lower o e = grind arith

module _ {X : Type 0} where
  pub find_below : (q : List ℕ) (es : List (List ℕ × X)) → below_all order q es ≡ true
      → table.find order q es ≡ None
  find_below q [] below = refl
  find_below q (e ∷ es) below = grind (arith, lower, find_below q es)

module _ {X : Type 0} (P : List ℕ × X → Type 0) where
  All-put : (k : List ℕ) (v : X) (es : List (List ℕ × X)) → AllByRecursion P es → P (k, v)
      → AllByRecursion P (put order k v es)
  All-put k v [] h one = (one, tt)
  All-put k v (e ∷ es) h one =
      elim (order k e.0) as (λ o. (o ≡ Equal → k ≡ e.0)
      → AllByRecursion P (by_order o ((k, v) ∷ e ∷ es) ((e.0, v) ∷ es) (e ∷ put order k v es))) [
        | Less ↦ λ _. (one, h)
        | Equal ↦ λ same. (subst (λ (x : List ℕ). P (x, v)) (same refl) one, h.1)
        | Greater ↦ λ _. (h.0, All-put k v es h.1 one)
      ] (exact_bytes k e.0)

  pub All-insert : (m : table.FinMap order X) (k : List ℕ) (v : X) → All P (table.entries m)
      → P (k, v) → All P (table.entries (table.insert m k v))
  All-insert m k v h one =
      All-same P _ _ (table.entries-insert nat_list_cmp_total m k v)
      (All-from_recursion P _ (All-put k v _ (recursion_from_All P _ h) one))

  pub All-remove : (m : table.FinMap order X) (k : List ℕ) → All P (table.entries m)
      → All P (table.entries (table.remove m k))
  All-remove m k h =
      let others : List ℕ → Bool = λ q. not (eq_by_cmp order q k) in
      All-same P _ _ (entries-found (table.remove m k) _
      (is_sorted-where_key order others _ (table.entries_sorted m)) (λ q.
      let found = find-where_key order others q
      (λ x same. ap others (sym (exact_bytes q x same))) (table.entries m) in
      grind (arith, table.gets, table.get-entries, found)))
      (All-filter (λ e. others e.0) P (table.entries m) h)
