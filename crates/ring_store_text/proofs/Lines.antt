-- SPDX-License-Identifier: ISC
-- Lines of records, read from the front.
use Rattle.std.proofs.Common.{◌≡◌, ◌≢◌, ℕ, ◌<◌, List, [], ◌∷◌, length, All, refl, sym, ap}
use Rattle.std.proofs.Common.{subst, ◌∙◌, arith, true}
use Rattle.std.specs.Cmp.Lexicographic.{nat_list_cmp_total}
use Rattle.std.specs.FinMap as table
use Rattle.std.specs.FinMap.Entries.{below_all, is_sorted}
use Rattle.std.specs.declared.cmp.Ordering.TheVariants.{Less}
use Rattle.std.specs.Option.{option_or}
use Rattle.std.proofs.lemmas.Bool.{and_parts}
use Rattle.std.proofs.lemmas.List.{nil_from_length}
use Rattle.std.proofs.lemmas.List.Elements.{All-cons, All-head, All-nil, All-same, All-tail}
use Rattle.std.proofs.lemmas.Map.Lookups.{exact_bytes}
use Rattle.std.proofs.lemmas.Map.Views.{tells_apart}
use Rattle.ring_store_text.specs.Text.{AreLines, IsEntry, lines_of, record_then}
use Rattle.ring_store.specs.declared.credential.Record.{Record}
use Rattle.ring_store.proofs.Entries.{entries-found}
use Rattle.ring_store.proofs.Names.{order}
use Rattle.ring_store_text.proofs.Entries.{find_below, lower}
use Rattle.ring_store_text.proofs.Texts.{lines_of-cons, lines_of-injective, no_line}
use Rattle.ring_store_text.proofs.Texts.{record_then-grows, record_then-injective}

-- lines that begin with that of an entry
pub record Line (last : List ℕ) (e : List ℕ × Record) (rest : List ℕ)
    (es : List (List ℕ × Record)) : Type 0 where
  pub lower : order last e.0 ≡ Less
  pub left : AreLines e.0 rest
  pub is : es ≡ e ∷ left.records

line_of : {last rest : List ℕ} (e : List ℕ × Record) (es : List (List ℕ × Record)) → IsEntry e
    → All IsEntry es → below_all order last es ≡ true → is_sorted order es ≡ true
    → lines_of es ≡ record_then e rest → Line last e rest es
line_of {rest} e [] is each after rise whole = absurd (no_line e rest (sym whole))
line_of {last} {rest} e (f ∷ es) is each after rise whole =
    let same = record_then-injective (All-head IsEntry f es each) is
    (sym (lines_of-cons f es) ∙ whole) in
    let rises = and_parts (below_all order f.0 es) (is_sorted order es) rise in
    subst (λ (x : List ℕ × Record). Line last x rest (f ∷ es)) same.0 (record {
      lower = lower (order last f.0) (and_parts _ (below_all order last es) after).0;
      left = record {
        records = es;
        entries = All-tail IsEntry f es each;
        after = rises.0;
        rise = rises.1;
        whole = same.1;
      };
      is = refl;
    })

pub first_line : {last lines rest : List ℕ} (are : AreLines last lines) (e : List ℕ × Record)
    → lines ≡ record_then e rest → IsEntry e → Line last e rest are.records
first_line are e line is =
    line_of e are.records is are.entries are.after are.rise (are.whole ∙ line)

below_lower : (x y : List ℕ) → order x y ≡ Less → (es : List (List ℕ × Record))
    → below_all order y es ≡ true → below_all order x es ≡ true
below_lower x y less [] h = refl
below_lower x y less (e ∷ es) h =
    grind (arith, lower, nat_list_cmp_total.trans x y e.0 less, below_lower x y less es)

-- a line before others whose names come after it
pub more_lines : {last rest : List ℕ} (e : List ℕ × Record) → IsEntry e → order last e.0 ≡ Less
    → AreLines e.0 rest → AreLines last (record_then e rest)
more_lines {last} e is less are = record {
  records = e ∷ are.records;
  entries = All-cons IsEntry e are.records is are.entries;
  after = rw (less, below_lower last e.0 less are.records are.after) refl;
  rise = rw (are.after, are.rise) refl;
  whole = lines_of-cons e are.records ∙ ap (record_then e) are.whole;
}

no_bad_line_in : (es : List (List ℕ × Record)) (lines : List ℕ) → All IsEntry es
    → lines_of es ≡ lines → 0 < length lines
    → ((e : List ℕ × Record) (rest : List ℕ) → IsEntry e → lines ≢ record_then e rest) → ⊥
no_bad_line_in [] lines each whole some none = absurd (omega (arith, ap length whole))
no_bad_line_in (e ∷ es) lines each whole some none =
    none e (lines_of es) (All-head IsEntry e es each) (sym whole ∙ lines_of-cons e es)

-- where there is a line, a record can be read
pub no_bad_line : {last lines : List ℕ} → AreLines last lines → 0 < length lines
    → ((e : List ℕ × Record) (rest : List ℕ) → IsEntry e → lines ≢ record_then e rest) → ⊥
no_bad_line {lines = lines} are = no_bad_line_in are.records lines are.entries are.whole

-- each name comes after the empty one
pub after_none : (es : List (List ℕ × Record)) → All IsEntry es → below_all order [] es ≡ true
after_none [] h = refl
after_none ((x ∷ name, r) ∷ es) h = after_none es (All-tail IsEntry (x ∷ name, r) es h)
after_none (([], r) ∷ es) h = cc (All-head IsEntry ([], r) es h).name

-- ---- lines that are read into a table

-- what was read, and the lines that are left
pub record IsReadInto (records : table.FinMap order Record) (lines rest : List ℕ) : Type 0 where
  pub last : List ℕ
  pub all : AreLines [] lines
  pub left : AreLines last rest
  pub found : (q : List ℕ) → option_or (table.find order q left.records) (table.get records q)
      ≡ table.find order q all.records

pub read_none : {records : table.FinMap order Record} {lines : List ℕ} → records ≡ table.empty
    → AreLines [] lines → IsReadInto records lines lines
read_none none are = record {
  last = [];
  all = are;
  left = are;
  found = λ q. grind (arith, table.gets, ap (λ m. table.get m q) none);
}

pub read_more : {records : table.FinMap order Record} {lines rest behind : List ℕ}
    → IsReadInto records lines rest → (e : List ℕ × Record) → rest ≡ record_then e behind
    → IsEntry e → IsReadInto (table.insert records e.0 e.1) lines behind
read_more {records} read e line is =
    let first = first_line read.left e line is in
    record {
      last = e.0;
      all = read.all;
      left = first.left;
      found = λ q. grind (
        arith,
        read.found q,
        ap (table.find order q) first.is,
        table.gets,
        find_below q first.left.records,
        tells_apart exact_bytes q e.0,
        first.left.after,
      );
    }

-- the entries of a table with these lines
pub read_all : {records : table.FinMap order Record} {lines rest : List ℕ}
    → IsReadInto records lines rest → length rest ≡ 0
    → (lines_of (table.entries records) ≡ lines) × All IsEntry (table.entries records)
read_all {records} {rest = rest} read none =
    let left = lines_of-injective read.left.records [] read.left.entries (All-nil IsEntry)
    (read.left.whole ∙ nil_from_length rest none) in
    let same = entries-found records read.all.records (rw read.all.rise tt) (λ q.
    ap (λ es. option_or (table.find order q es) (table.get records q)) (sym left)
    ∙ read.found q) in
    (ap lines_of same ∙ read.all.whole, All-same IsEntry _ _ same read.all.entries)

pub ruleset lines = (record_then-grows, no_bad_line, read_none)
