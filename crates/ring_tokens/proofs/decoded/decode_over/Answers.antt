-- SPDX-License-Identifier: ISC
use Rattle.std.proofs.Common.{arith, refl}
use Rattle.base64.specs.Engines.{url_safe_no_pad}
use Rattle.base64.specs.GeneralPurpose.{IsBytes}
use Rattle.base64.proofs.EngineFacts.{decode_of_iff, decode_of_strict}
use Rattle.ring_text.proofs.Base64.{bytes_front}
use Rattle.ring_tokens.proofs.decoded.decode_over.Goals as goal

pub returns-in-Ok-clause-ok : goal.returns-in-Ok-clause-ok
returns-in-Ok-clause-ok c = record {
  within = c.in-Ok.ensures.ok.2;
  octets = bytes_front c.in-Ok.len c.decode_slice_unchecked.new.output
      (λ i. let f = c.type_inv.out i in omega arith);
  is = decode_of_strict url_safe_no_pad c.args.text.now _ (refl, refl)
      (λ i. let f = c.type_inv.text i in omega arith) c.in-Ok.ensures.ok.0;
  behind = c.in-Ok.ensures.ok.1;
}

pub returns-in-Err-clause-refused : goal.returns-in-Err-clause-refused
returns-in-Err-clause-refused c = λ _ w.
    let text : IsBytes c.args.text.now = λ i. let f = c.type_inv.text i in omega arith in
    let read = (decode_of_iff url_safe_no_pad c.args.text.now w.octets (refl, refl) text w.are).1
    w.is in
    cc (read, c.in-Err.ensures.err)
