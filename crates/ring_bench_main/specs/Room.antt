-- SPDX-License-Identifier: ISC
-- Room for bytes that wait to be written.
use Rattle.std.specs.Prelude.{ℕ, List, take}
use Rattle.ring_bench_main.specs.declared.gatherer.Room.{Room}

-- how many bytes wait
abbrev pub held : Room → ℕ
held r = r.len

-- the bytes that wait
abbrev pub waits : Room → List ℕ
waits r = take r.len r.bytes
