-- SPDX-License-Identifier: ISC
use Rattle.std.proofs.Common.{All, sym, ap, subst, ◌∙◌, T}
use Rattle.std.specs.FinMap as table
use Rattle.ring_store.proofs.Names.{order}
use Rattle.ring_store_text.specs.Text.{IsEntry, head_then, lines_of}
use Rattle.ring_store_text.proofs.Stores.{lines_behind}
use Rattle.ring_store_text.proofs.saved.from_text.Goals as goal

pub returns-then-not-are_lines-clause-refused : goal.returns-then-not-are_lines-clause-refused
returns-then-not-are_lines-clause-refused g c = λ _ s h is.
    let head = c.in-Some.ensures.ok in
    let are = lines_behind s h is c.in-Some.head.0 c.in-Some.head.1 c.in-Some.head.2.now head.1
    head.0 in
    let told = c.are_lines.ensures.1 are in
    cc (told, c.if-not-are_lines.true)

pub returns-clause-memory : goal.returns-clause-memory
returns-clause-memory g c = λ _.
    let head = c.in-Some.ensures.ok in
    let are = c.are_lines.ensures.0 c.if-not-are_lines.false in
    let entries = table.entries-from_sorted order are.records (subst T (sym are.rise) tt) in
    record {
      store = record {
        db_salt = c.in-Some.head.0;
        iterations = c.in-Some.head.1;
        records = table.from_sorted are.records;
      };
      is = record { head = head.1; entries = subst (All IsEntry) (sym entries) are.entries };
      has = ap (head_then c.in-Some.head.0 c.in-Some.head.1) (ap lines_of entries ∙ are.whole)
          ∙ sym head.0;
    }
