-- SPDX-License-Identifier: ISC
use Rattle.std.specs.IoError.{os_error_kind}
use Rattle.ring_sums.proofs.check.is_left_out.Goals as goal

pub returns-then-options : goal.returns-then-options
unfolding os_error_kind
returns-then-options c =
    rw c.in-Failed.is
    (λ is. (c.if-options.true, c.is_missing.ensures.0 is), λ both. c.is_missing.ensures.1 both.1)
