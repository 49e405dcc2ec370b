-- SPDX-License-Identifier: ISC
use Rattle.ring_password_hash.proofs.Schemes.{name_of-injective}
use Rattle.ring_password_hash.proofs.laws.one_name_is_of_one_scheme.Goals as goal

pub returns : goal.returns
returns c = name_of-injective
