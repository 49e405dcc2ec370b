-- SPDX-License-Identifier: ISC
use Rattle.ring_password_hash.proofs.Values.{read_back}
use Rattle.ring_password_hash.proofs.laws.written_text_is_read_back.Goals as goal

pub returns : goal.returns
returns c = read_back
