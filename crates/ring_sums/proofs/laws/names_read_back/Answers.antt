-- SPDX-License-Identifier: ISC
use Rattle.ring_sums.proofs.Escapes.{unescaped-escaped}
use Rattle.ring_sums.proofs.laws.names_read_back.Goals as goal

pub returns : goal.returns
returns c = unescaped-escaped
