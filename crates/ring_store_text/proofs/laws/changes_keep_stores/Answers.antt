-- SPDX-License-Identifier: ISC
use Rattle.ring_store.specs.Store.{record_of}
use Rattle.ring_store_text.specs.Text.{IsEntry}
use Rattle.ring_store_text.proofs.Entries.{All-insert, All-remove}
use Rattle.ring_store_text.proofs.laws.changes_keep_stores.Goals as goal

pub returns-clause-record : goal.returns-clause-record
returns-clause-record g c = λ s name n credential h e. record {
  head = h.head;
  entries = All-insert IsEntry s.records name _ h.entries e;
}

pub returns-clause-password : goal.returns-clause-password
returns-clause-password g c = λ s name password h e. record {
  head = h.head;
  entries = All-insert IsEntry s.records name (record_of s name password) h.entries e;
}

pub returns-clause-removed : goal.returns-clause-removed
returns-clause-removed g c = λ s name h. record {
  head = h.head;
  entries = All-remove IsEntry s.records name h.entries;
}
