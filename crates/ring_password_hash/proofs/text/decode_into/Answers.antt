-- SPDX-License-Identifier: ISC
use Rattle.std.proofs.Common.{sym, take, ◌∙◌}
use Rattle.std.proofs.lemmas.Option.{IfSome_then}
use Rattle.ring_password_hash.proofs.text.decode_into.Goals as goal

pub returns-in-Adapted-clause-ok : goal.returns-in-Adapted-clause-ok
returns-in-Adapted-clause-ok c =
    let read = c.decode_base64_into-in-Adapted in
    rw c.in-Adapted.is
    (IfSome_then read.result read.ensures.ok
    (λ n e. e ∙ c.adapted.ensures.written (take n read.new.out)))

pub returns-in-Adapted-clause-refused : goal.returns-in-Adapted-clause-refused
returns-in-Adapted-clause-refused c =
    rw c.in-Adapted.is (λ none bytes h e.
    c.decode_base64_into-in-Adapted.ensures.refused none bytes h
    (e ∙ sym (c.adapted.ensures.written bytes)))
