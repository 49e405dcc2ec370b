-- SPDX-License-Identifier: ISC
use Rattle.std.proofs.Common.{◌≡◌, ◌<◌, ◌+◌, ◌-◌, ◌∷◌, [], ◌++◌, ap, append_assoc, arith, drop}
use Rattle.std.proofs.Common.{length, refl, rules, subst, sym, take, ◌∙◌}
use Rattle.std.proofs.lemmas.List.{take_at}
use Rattle.ring.specs.Prelude.{IsTagWithin, block_len, hmac_of, key_algorithm, max_input_len}
use Rattle.ring.specs.Prelude.{output_len, padded_blocks, raised}
use Rattle.ring_tokens.specs.Alg.{algorithm_of}
use Rattle.ring_tokens.specs.Header.{usual_header}
use Rattle.ring_tokens.specs.Jws.{alg_of, base64url, signature_of, signing_input}
use Rattle.ring_tokens.proofs.Puts.{compact_parts, length_input, put_next, room_signature}
use Rattle.ring_tokens.proofs.Puts.{room_stop, signed_end}
use Rattle.ring_tokens.proofs.jws.sign_in_place_counted.Goals as goal

pub put_input-at-requires : goal.put_input-at-requires
put_input-at-requires c =
    let a = alg_of c.args.key.now in
    omega (arith, length_input a c.args.payload.now, c.in-Some.ensures.ok, c.if-out-len.false)

pub unreachable-requires : goal.unreachable-requires
unreachable-requires c =
    let a = alg_of c.args.key.now in
    let p = c.args.payload.now in
    let at = c.put_input-at.result in
    let m = take at c.put_input-at.new.out in
    let same : key_algorithm c.args.key.now.key ≡ algorithm_of a = search rules in
    let message : m ≡ signing_input (usual_header a) p =
    ap (take at) c.put_input-at.ensures.written
    ∙ take_at (signing_input (usual_header a) p) (drop at c.args.out.now) at
    (sym c.put_input-at.ensures.place) in
    let within = c.admits.ensures.0 c.if-not-admits.false in
    let past = subst (λ x. max_input_len x < block_len x + length m) same
    (c.in_default-sign_counted.ensures.plain.refused.0 refl) in
    omega (
      arith,
      past,
      within,
      ap length message,
      length_input a p,
      c.in-Some.ensures.ok,
      c.text_len.ensures,
    )

pub put-at-requires : goal.put-at-requires
put-at-requires c =
    room_stop (record {
      place = c.put_input-at.ensures.place;
      bytes = c.put_input-at.ensures.written;
      room = omega (arith, c.in-Some.ensures.ok, c.if-out-len.false);
    })

pub put_base64url-requires : goal.put_base64url-requires
put_base64url-requires c =
    let same : key_algorithm c.args.key.now.key ≡ algorithm_of (alg_of c.args.key.now) =
    search rules in
    room_signature (record {
      place = c.put_input-at.ensures.place;
      bytes = c.put_input-at.ensures.written;
      room = omega (arith, c.in-Some.ensures.ok, c.if-out-len.false);
    }) c.as_ref.result.now c.put-at.ensures
    (c.as_ref.ensures.len ∙ ap output_len (c.in-Ok.ensures.plain.algorithm ∙ same))

pub returns-clause-plain : goal.returns-clause-plain
returns-clause-plain c =
    let a = alg_of c.args.key.now in
    let h = usual_header a in
    let p = c.args.payload.now in
    let old = c.args.out.now in
    let s = c.as_ref.result.now in
    let at = c.put_input-at.result in
    let input = signing_input h p in
    let one : (at ≡ length input) × (c.put_input-at.new.out ≡ input ++ drop at old) =
    (c.put_input-at.ensures.place, c.put_input-at.ensures.written) in
    let same : key_algorithm c.args.key.now.key ≡ algorithm_of a = search rules in
    let message : take at c.put_input-at.new.out ≡ input =
    ap (take at) one.1 ∙ take_at input (drop at old) at (sym one.0) in
    let n : c.in-Some.len - 1 - c.text_len.result ≡ length input =
    omega (arith, length_input a p, c.in-Some.ensures.ok, c.text_len.ensures) in
    record {
      len = signed_end (record {
        place = one.0;
        bytes = one.1;
        room = omega (arith, c.in-Some.ensures.ok, c.if-out-len.false);
      }) s c.put-at.ensures c.put_base64url.ensures
          (c.as_ref.ensures.len ∙ ap output_len (c.in-Ok.ensures.plain.algorithm ∙ same));
      ok = λ k key.
          let two = put_next old input (46 ∷ []) one c.put-at.ensures in
          let three = put_next old (input ++ 46 ∷ []) (base64url s) two c.put_base64url.ensures in
          let signature : s ≡ signature_of a k h p =
          c.as_ref.ensures.bytes ∙ (c.in-Ok.ensures.plain.ok k key).bytes
          ∙ ap (λ x. hmac_of x k (take at c.put_input-at.new.out)) same
          ∙ ap (hmac_of (algorithm_of a) k) message in
          three.1 ∙ ap (λ l. l ++ drop c.put_base64url.result old)
          (append_assoc input (46 ∷ []) (base64url s)
          ∙ ap (λ t. input ++ 46 ∷ base64url t) signature
          ∙ compact_parts h p (signature_of a k h p));
      within = subst (λ k. IsTagWithin (algorithm_of a) k) n
          (c.admits.ensures.0 c.if-not-admits.false);
      no_room = (
        λ e. cc e,
        λ short. absurd (omega (arith, short, c.if-out-len.false, c.in-Some.ensures.ok)),
      );
      too_long = λ bad. cc bad;
      refused = tt;
      unchanged = tt;
    }

pub returns-clause-cost : goal.returns-clause-cost
returns-clause-cost c =
    let a = alg_of c.args.key.now in
    let p = c.args.payload.now in
    let at = c.put_input-at.result in
    let input = signing_input (usual_header a) p in
    let meter = c.args.meter.now in
    let same : key_algorithm c.args.key.now.key ≡ algorithm_of a = search rules in
    let message : take at c.put_input-at.new.out ≡ input =
    ap (take at) c.put_input-at.ensures.written
    ∙ take_at input (drop at c.args.out.now) at (sym c.put_input-at.ensures.place) in
    c.in-Ok.ensures.cost
    ∙ ap (λ x. raised meter (padded_blocks x (length (take at c.put_input-at.new.out)) + 1) 0) same
    ∙ ap (λ n. raised meter (padded_blocks (algorithm_of a) n + 1) 0)
    (ap length message ∙ length_input a p)
