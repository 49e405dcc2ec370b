-- SPDX-License-Identifier: ISC
use Rattle.std.proofs.Common.{append_assoc}
use Rattle.ring_store_text.specs.Text.{head_then}
use Rattle.ring_store_text.proofs.text.append_head.Goals as goal

pub returns : goal.returns
unfolding head_then
returns g c =
    rw (
      c.in_ok-append_count.ensures,
      c.in_ok-append_hex.ensures,
      c.in_ok-extend_from_slice.ensures.items,
    )
    (simp append_assoc)
