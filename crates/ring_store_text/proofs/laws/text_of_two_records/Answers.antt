-- SPDX-License-Identifier: ISC
use Rattle.std.proofs.Common.{refl}
use Rattle.std.specs.Cmp.Lexicographic.{nat_list_cmp_total}
use Rattle.std.specs.FinMap as table
use Rattle.std.specs.Fmt.{digits}
use Rattle.hex.specs.Hex.{encode_with}
use Rattle.ring_store_text.specs.Text.{head_then, record_then}
use Rattle.ring_store.proofs.Entries.{entries-empty}
use Rattle.ring_store_text.proofs.laws.text_of_two_records.Goals as goal

pub returns : goal.returns
unfolding head_then record_then encode_with digits
returns g c = λ one two e1 e2.
    rw (
      table.entries-insert nat_list_cmp_total,
      table.entries-insert nat_list_cmp_total,
      entries-empty,
      e1,
      e2,
    )
    refl
