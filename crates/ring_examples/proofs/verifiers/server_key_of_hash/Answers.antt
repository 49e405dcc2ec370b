-- SPDX-License-Identifier: ISC
use Rattle.std.proofs.Common.{◌∙◌, ◌++◌, ℕ, List, ap, codes, sym}
use Rattle.ring.specs.Hmac.{hmac_of}
use Rattle.ring.specs.declared.digest.algorithm.Algorithm.{Algorithm}
use Rattle.ring_password_hash.specs.Stored.{keys_of, server_key_of, stored_key_of}
use Rattle.ring_examples.proofs.verifiers.server_key_of_hash.Goals as goal

pub returns-clause-ok : goal.returns-clause-ok
unfolding server_key_of
returns-clause-ok c = λ p s n is.
    let hash = c.args.hash.now in
    let tag = c.in_ok-tag.ensures.ok hash c.in_ok-key.ensures.ok in
    let key = tag.bytes ∙ ap (λ (a : Algorithm). hmac_of a hash (codes "Server Key"))
    c.in_ok-key.ensures.algorithm in
    ap keys_of (sym is) ∙ ap (λ (l : List ℕ). stored_key_of hash ++ l) (sym key)
