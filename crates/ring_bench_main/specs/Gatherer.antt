-- SPDX-License-Identifier: ISC
-- A writer and the bytes that wait for it.
use Rattle.std.specs.Prelude.{◌≡◌, ℕ, Bool, List, [], Option}
use Rattle.std.specs.Io.KnownBytes.{Appends, append_known}
use Rattle.ring_bench_main.specs.Room.{held, waits}
use Rattle.ring_bench_main.specs.declared.gatherer.Gatherer.{Gatherer}

-- the writer
abbrev pub writer_of : {W : Type 0} → Gatherer W → W
writer_of g = g.writer

-- whether a write failed
abbrev pub has_failed : {W : Type 0} → Gatherer W → Bool
has_failed g = g.has_failed

-- how many bytes wait
abbrev pub held_back : {W : Type 0} → Gatherer W → ℕ
held_back g = held g.room

-- the bytes that wait
abbrev pub waiting : {W : Type 0} → Gatherer W → List ℕ
waiting g = waits g.room

-- all bytes that were taken: those that the writer holds, and then those that wait
abbrev pub all_of : {W : Type 0} → (W → Option (List ℕ)) → Gatherer W → Option (List ℕ)
all_of contents g = append_known (contents g.writer) (waiting g)

-- what waited was written, and nothing waits
abbrev pub IsWrittenOut : {W : Type 0} → (W → Option (List ℕ)) → (old new : Gatherer W) → Type 0
IsWrittenOut contents old new =
    Appends (contents old.writer) (contents new.writer) (waiting old) × (waiting new ≡ [])
