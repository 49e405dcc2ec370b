-- SPDX-License-Identifier: ISC
use Rattle.std.proofs.Common.{◌≡◌, ◌∙◌, ◌++◌, ◌∷◌, [], ap, map, refl, rules, sym}
use Rattle.std.proofs.lemmas.List.{map-append, map_push}
use Rattle.std.proofs.lemmas.List.Sorted.{IsPermutation-map}
use Rattle.std.specs.Cmp.Lexicographic.{slice_cmp}
use Rattle.std.specs.Ordering.{is_lt, nat_cmp}
use Rattle.std.specs.Prelude.{string_bytes}
use Rattle.ring_sums.specs.Tree.{waiting_of}
use Rattle.ring_sums.proofs.Walked.{on_ok_items, sorted-map, walk-begins, walk-ends, walk-more}
use Rattle.ring_sums.proofs.tree.Walk.append_tree.Goals as goal

pub directories-init : goal.directories-init
directories-init g c =
    walk-begins c.args.directory.now refl refl refl refl
    (ap (map (λ file. file.items)) c.requires.files)
    (ap (map string_bytes) c.in_ok-push.ensures.items
    ∙ ap (λ waiting. map string_bytes (waiting ++ c.in_ok-from_str.field-0 ∷ []))
    c.requires.waiting
    ∙ ap (λ path. path ∷ []) c.in_ok-from_str.ensures.ok)

pub directories-preserved : goal.directories-preserved
directories-preserved g c =
    let rest = map string_bytes c.pop.new.self.items in
    let last : waiting_of c.directories.self
    ≡ rest ++ c.as_str.result.now ∷ [] =
    ap (map string_bytes) c.in-Some.ensures.items
    ∙ map_push string_bytes c.pop.new.self.items c.in-Some.next
    ∙ ap (λ next. rest ++ next ∷ []) (sym c.as_str.ensures.value) in
    walk-more c.args.directory.now c.as_str.result.now rest c.directories.invariant last refl
    (record { steps = refl; output = refl; names = refl; files = refl; whole = refl })
    c.in_ok-read.ensures

pub returns-in_default-clause-ok : goal.returns-in_default-clause-ok
returns-in_default-clause-ok g c =
    let sorted = c.sort.new.self.items in
    let gone : c.pop.new.self.items ≡ [] = search rules in
    let none : waiting_of c.directories.self ≡ [] =
    ap (map string_bytes) c.in_default.ensures.items
    ∙ ap (λ waiting. map string_bytes (waiting ++ [])) gone in
    on_ok_items c.append.result c.directories.self.names.items sorted c.append.ensures.items
    (λ names.
    walk-ends c.args.directory.now (map (λ file. file.items) sorted) c.directories.invariant none
    (IsPermutation-map (λ file. file.items) c.directories.self.files.items sorted
    c.in_ok-sort.ensures.permutation)
    (sorted-map (λ file. file.items) (λ x y. is_lt (slice_cmp nat_cmp x y)) sorted
    c.in_ok-sort.ensures.sorted) refl refl refl
    (ap (map (λ name. name.items)) names
    ∙ map-append (λ name. name.items) c.directories.self.names.items sorted))
