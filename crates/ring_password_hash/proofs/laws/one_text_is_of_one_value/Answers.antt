-- SPDX-License-Identifier: ISC
use Rattle.ring_password_hash.proofs.Values.{one_value}
use Rattle.ring_password_hash.proofs.laws.one_text_is_of_one_value.Goals as goal

pub returns : goal.returns
returns c = λ g h text one two. one_value g h one two
