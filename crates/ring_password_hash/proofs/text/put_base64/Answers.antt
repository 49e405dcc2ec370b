-- SPDX-License-Identifier: ISC
use Rattle.std.proofs.Common.{◌-◌, arith}
use Rattle.base64.specs.GeneralPurpose.{encode_of}
use Rattle.ring_text.proofs.Base64.{fitting, length-encode_of, no_fitting}
use Rattle.ring_password_hash.proofs.Pieces.{take-put}
use Rattle.ring_password_hash.proofs.text.put_base64.Goals as goal

pub overflow_add-result : goal.overflow_add-result
overflow_add-result c =
    let fit = fitting c.encode_slice.ensures.fits c.encode_slice.ensures.too_small c.in-Ok.is in
    omega (arith, fit)

pub returns-in-Ok : goal.returns-in-Ok
returns-in-Ok c =
    let size = length-encode_of c.args.engine.now c.args.bytes.now in
    let fit = fitting c.encode_slice.ensures.fits c.encode_slice.ensures.too_small c.in-Ok.is in
    record {
      place = omega (arith, size, fit);
      within = omega (arith, fit);
      bytes = take-put c.args.at c.in-Ok.len (1024 - c.args.at) c.args.out.now
          (encode_of c.args.engine.now c.args.bytes.now) _
          (c.in-Ok.ensures.written, omega (arith, size, fit)) (omega arith);
    }

pub returns-in-Err : goal.returns-in-Err
returns-in-Err c =
    let size = length-encode_of c.args.engine.now c.args.bytes.now in
    let past = no_fitting c.encode_slice.ensures.fits c.in-Err.is in
    omega (arith, size, past)
