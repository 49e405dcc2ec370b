-- SPDX-License-Identifier: ISC
use Rattle.std.proofs.Common.{◌≡◌, ◌∙◌, ℕ, List, ap, arith, codes, length, rules}
use Rattle.std.proofs.lemmas.Grind.{common_steps}
use Rattle.ring.proofs.Each.{raised-then}
use Rattle.ring.specs.Algorithm.{output_len}
use Rattle.ring.specs.Digest.{digest_of}
use Rattle.ring.specs.Hmac.{hmac_of}
use Rattle.ring.specs.declared.digest.algorithm.Algorithm.{Algorithm}
use Rattle.ring.specs.declared.digest.algorithm.TheConstants.{SHA256}
use Rattle.ring_password_hash.specs.Stored.{server_key_of, stored_key_of}
use Rattle.ring_password_hash.proofs.derived.write_keys.Goals as goal

stored_is : (s x : List ℕ) → x ≡ digest_of SHA256 (hmac_of SHA256 s (codes "Client Key"))
    → x ≡ stored_key_of s
unfolding stored_key_of
stored_is s x e = e

server_is : (s x : List ℕ) → x ≡ hmac_of SHA256 s (codes "Server Key") → x ≡ server_key_of s
unfolding server_key_of
server_is s x e = e

pub returns-clause-ok : goal.returns-clause-ok
returns-clause-ok c =
    let a = c.in-Ok.ensures.algorithm in
    let s = c.args.salted.now in
    let client = c.in-Ok-sign_counted.ensures.plain.ok s c.in-Ok.ensures.ok in
    let tag = c.in-Ok-sign_counted-2.ensures.plain.ok s c.in-Ok.ensures.ok in
    let stored =
    stored_is s c.as_ref-2.result.now (c.as_ref-2.ensures.bytes
    ∙ c.in-Ok-digest_counted.ensures.ok.bytes
    ∙ ap (digest_of SHA256) (c.as_ref.ensures.bytes ∙ client.bytes
    ∙ ap (λ (x : Algorithm). hmac_of x s (codes "Client Key")) a)) in
    let server =
    server_is s c.as_ref-3.result.now (c.as_ref-3.ensures.bytes ∙ tag.bytes
    ∙ ap (λ (x : Algorithm). hmac_of x s (codes "Server Key")) a) in
    grind (arith, common_steps, stored, server)

pub returns-clause-cost : goal.returns-clause-cost
returns-clause-cost c =
    let a = c.in-Ok.ensures.algorithm in
    let len : length c.args.salted.now ≡ 32 = search rules in
    let client : length c.as_ref.result.now ≡ 32 =
    c.as_ref.ensures.len
    ∙ ap (λ (x : Algorithm). output_len x) (c.in-Ok-sign_counted.ensures.plain.algorithm ∙ a) in
    let one = rw len at c.in-Ok.ensures.cost in
    let two = rw a at c.in-Ok-sign_counted.ensures.cost in
    let three = rw client at c.in-Ok-digest_counted.ensures.cost in
    let four = rw a at c.in-Ok-sign_counted-2.ensures.cost in
    raised-then c.args.meter.now _ _
    (raised-then c.args.meter.now _ _ (raised-then c.args.meter.now _ _ one two) three) four
