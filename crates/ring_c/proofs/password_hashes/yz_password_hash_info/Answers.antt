-- SPDX-License-Identifier: ISC
use Rattle.std.proofs.Common.{◌≡◌, ◌∙◌, ap, refl}
use Rattle.std.specs.Prelude.{Some}
use Rattle.std.specs.Int.NonZero.{non_zero_u32_get}
use Rattle.ring_password_hash.specs.Stored.{Parts, parts_of}
use Rattle.ring_c.proofs.password_hashes.yz_password_hash_info.Goals as goal

pub returns-in-Ok-clause-ok : goal.returns-in-Ok-clause-ok
returns-in-Ok-clause-ok c = λ h is.
    let read = parts_of c.in-Ok.stored in
    let same : read ≡ h =
    c.one_text_is_of_one_value.ensures read h c.args.text.now c.in-Ok.ensures.0 is in (
      refl,
      c.number_of_scheme.ensures
          ∙ ap Some (c.scheme.ensures ∙ ap (λ (g : Parts). g.scheme) same),
      c.get.ensures.value
          ∙ ap non_zero_u32_get (c.iterations.ensures ∙ ap (λ (g : Parts). g.iterations) same),
    )

pub returns-in-Ok-clause-status : goal.returns-in-Ok-clause-status
returns-in-Ok-clause-status c = λ _. record {
  found = Some (parts_of c.in-Ok.stored);
  reads = c.in-Ok.ensures.0;
  holds = refl;
}
