-- SPDX-License-Identifier: ISC
use Rattle.std.proofs.Common.{◌≡◌, length}
use Rattle.ring_store.specs.Store.{asked_iterations, salt_of}
use Rattle.ring_store_text.proofs.Lines.{IsReadInto}
use Rattle.ring_store_text.proofs.saved.store_of.Given as goal

abbrev pub invariant-loop-rest : goal.invariant-loop-rest
invariant-loop-rest g l = record {
  salt : salt_of l.store ≡ l.fn.db_salt;
  iterations : asked_iterations l.store ≡ l.fn.iterations;
  read : IsReadInto l.store.records l.lines l.rest;
}

abbrev pub decreases-loop-rest : goal.decreases-loop-rest
decreases-loop-rest g l = length l.rest
