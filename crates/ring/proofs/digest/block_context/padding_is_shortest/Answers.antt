-- SPDX-License-Identifier: ISC
use Rattle.ring.proofs.lemmas.digest.Padding.{padded_is_padded}
use Rattle.ring.proofs.digest.block_context.padding_is_shortest.Goals as goal

pub returns : goal.returns
returns c = padded_is_padded
