-- SPDX-License-Identifier: ISC
use Rattle.std.proofs.Common.{arith}
use Rattle.base64.proofs.EngineFacts.{decode_of_iff, decode_of_strict}
use Rattle.base64.specs.GeneralPurpose.{IsBytes}
use Rattle.ring_password_hash.proofs.text.decode_base64_into.Goals as goal

pub returns-in-Ok-clause-ok : goal.returns-in-Ok-clause-ok
returns-in-Ok-clause-ok c =
    decode_of_strict c.args.engine.now c.args.text.now _ c.requires.strict
    (λ i. let f = c.type_inv.text i in omega arith) c.in-Ok.ensures.ok.0

pub returns-in-Err-clause-refused : goal.returns-in-Err-clause-refused
returns-in-Err-clause-refused c = λ _ bytes h e.
    let text : IsBytes c.args.text.now = λ i. let f = c.type_inv.text i in omega arith in
    let read = (decode_of_iff c.args.engine.now c.args.text.now bytes c.requires.strict text h).1 e
    in
    cc (read, c.in-Err.ensures.err)

pub returns-in-Ok-clause-bytes : goal.returns-in-Ok-clause-bytes
returns-in-Ok-clause-bytes c = λ i. let f = c.type_inv.out i in omega arith

pub returns-in-Err-clause-bytes : goal.returns-in-Err-clause-bytes
returns-in-Err-clause-bytes c = λ i. let f = c.type_inv.out i in omega arith
