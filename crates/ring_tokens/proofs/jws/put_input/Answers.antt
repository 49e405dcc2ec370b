-- SPDX-License-Identifier: ISC
use Rattle.std.proofs.Common.{◌∷◌, [], ◌++◌, ap, append_assoc, drop, ◌∙◌}
use Rattle.ring_tokens.specs.Header.{usual_header}
use Rattle.ring_tokens.specs.Jws.{base64url}
use Rattle.ring_tokens.proofs.Puts.{put_first, put_next}
use Rattle.ring_tokens.proofs.jws.put_input.Goals as goal

pub returns-clause-written : goal.returns-clause-written
returns-clause-written c =
    let h = base64url (usual_header c.args.alg) in
    let p = base64url c.args.payload.now in
    let header = c.usual_text.result.now in
    let one = put_first c.put-at.ensures in
    let two = put_next c.args.out.now header (46 ∷ []) one c.put-at-2.ensures in
    let three = put_next c.args.out.now (header ++ 46 ∷ []) p two c.put_base64url.ensures in
    three.1 ∙ ap (λ l. ((l ++ 46 ∷ []) ++ p) ++ drop c.put_base64url.result c.args.out.now)
    c.usual_text.ensures
    ∙ ap (λ l. l ++ drop c.put_base64url.result c.args.out.now) (append_assoc h (46 ∷ []) p)
