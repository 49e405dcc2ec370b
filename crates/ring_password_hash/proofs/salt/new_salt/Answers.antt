-- SPDX-License-Identifier: ISC
use Rattle.std.proofs.Common.{◌∙◌, ap}
use Rattle.ring_password_hash.specs.Salt.{salt_from}
use Rattle.ring_password_hash.specs.Scheme.{salt_encoding_of}
use Rattle.ring_password_hash.specs.Stored.{is_text}
use Rattle.ring_password_hash.proofs.salt.new_salt.Goals as goal

pub returns-clause-ok : goal.returns-clause-ok
returns-clause-ok g c = record {
  bytes = c.in_ok-generate.field-0.0;
  len = c.in_ok-generate.ensures.len;
  taken = c.in_ok-generate.ensures.ok;
  is = c.of.ensures.ok
      ∙ ap (salt_from (is_text (salt_encoding_of c.args.scheme))) c.expose-bytes.ensures;
}
