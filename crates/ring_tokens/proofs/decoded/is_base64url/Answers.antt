-- SPDX-License-Identifier: ISC
use Rattle.std.proofs.Common.{arith, subst, sym}
use Rattle.ring_tokens.specs.Jws.{IsBase64url}
use Rattle.ring_tokens.proofs.Pieces.{parted}
use Rattle.ring_tokens.proofs.decoded.is_base64url.Goals as goal

pub returns-then-not-is_piece : goal.returns-then-not-is_piece
returns-then-not-is_piece c = (
  λ f. cc f,
  λ w.
      let two = (parted c.pieces.rest.now (omega (arith, c.pieces-test.true))).0
      (c.pieces.invariant.0 w) in
      let piece = c.is_piece.ensures.1 (subst IsBase64url (sym c.split_at.ensures.front) two.0) in
      cc (piece, c.if-not-is_piece.true),
)

pub pieces-preserved : goal.pieces-preserved
pieces-preserved c =
    let two = parted c.pieces.rest.now (omega (arith, c.pieces-test.true)) in
    let piece = subst IsBase64url c.split_at.ensures.front
    (c.is_piece.ensures.0 c.if-not-is_piece.false) in (
      λ w. subst IsBase64url (sym c.split_at.ensures.back) (two.0 (c.pieces.invariant.0 w)).1,
      λ w.
          c.pieces.invariant.1 (two.1 (piece, subst IsBase64url c.split_at.ensures.back w)),
    )
