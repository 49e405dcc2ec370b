-- SPDX-License-Identifier: ISC
use Rattle.std.proofs.Common.{inl, inr, refl}
use Rattle.ring_passwords.proofs.change.store_in.Goals as goal

pub returns-in-Err-Memory-clause-memory : goal.returns-in-Err-Memory-clause-memory
returns-in-Err-Memory-clause-memory c = λ _.
    c.from_text.ensures.memory (cc (c.in-Err-Memory.is, c.in-Err-Memory.field-0-is))

pub returns-in-Err-BadText-clause-failure : goal.returns-in-Err-BadText-clause-failure
returns-in-Err-BadText-clause-failure c = inl (
  refl,
  c.from_text.ensures.refused (cc (c.in-Err-BadText.is, c.in-Err-BadText.field-0-is)),
)

pub returns-in-Err-Memory-clause-failure : goal.returns-in-Err-Memory-clause-failure
returns-in-Err-Memory-clause-failure c = inr (
  refl,
  c.from_text.ensures.memory (cc (c.in-Err-Memory.is, c.in-Err-Memory.field-0-is)),
)
