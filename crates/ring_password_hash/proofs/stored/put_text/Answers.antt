-- SPDX-License-Identifier: ISC
use Rattle.ring_password_hash.specs.Stored.{parts}
use Rattle.ring_password_hash.proofs.Writing.{put_on, put_short, text_parts}
use Rattle.ring_password_hash.proofs.stored.put_text.Goals as goal

pub returns-in_err-at : goal.returns-in_err-at
returns-in_err-at c =
    let args = c.args in
    rw c.from_residual.ensures (put_short
    (parts args.scheme args.parameters args.iterations args.salt.now args.kept.now)
    c.in_err-at.ensures)

pub returns : goal.returns
returns c =
    let args = c.args in
    put_on _ _ c.put_kept.new.out
    (text_parts (parts args.scheme args.parameters args.iterations args.salt.now args.kept.now))
    c.in_ok-at.ensures c.put_kept.result c.put_kept.ensures
