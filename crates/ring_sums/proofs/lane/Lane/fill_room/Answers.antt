-- SPDX-License-Identifier: ISC
use Rattle.std.proofs.Common.{◌≡◌, ◌+◌, ◌-◌, ◌≤◌, ◌++◌, ◌∙◌, List, ℕ, ap, append_assoc, arith}
use Rattle.std.proofs.Common.{drop, length, length-take-le, refl, subst, sym, take}
use Rattle.std.specs.Io.KnownBytes.{Consumes}
use Rattle.std.proofs.KnownBytes.{Consumes-trans}
use Rattle.ring_sums.specs.Lane.{left_of}
use Rattle.std.proofs.lemmas.List.{drop-append-le, take_at}
use Rattle.ring_sums.proofs.Filled.{filled_len, filled_more}
use Rattle.ring_sums.proofs.lane.Lane.fill_room.Goals as goal
use borrow.Rule.Slice.PartMut.{put_mid}

pub returns-in-Ok : goal.returns-in-Ok
returns-in-Ok g c =
    let old = c.args.self.now in
    let xs = c.deref_mut.result.now in
    let ys = c.fill.new.piece in
    let k = length xs - old.len in
    let n = c.in-Ok.filled.len in
    let fits : old.len ≤ length xs =
    omega (arith, c.if-self-len.false, c.len.ensures, c.deref_mut.ensures.len) in
    let room : List ℕ = put_mid old.len k xs ys in
    let rest : List ℕ = drop (length room) old.room.items in
    let long : length room ≡ old.room.len =
    omega (
      arith,
      filled_len old.len k xs ys fits refl,
      c.fill.auto.piece,
      c.deref_mut.ensures.len,
    ) in
    let left : drop old.from (take (old.len + n) (take old.room.len (room ++ rest)))
    ≡ left_of old ++ take n ys =
    ap (λ (z : List ℕ). drop old.from (take (old.len + n) z)) (take_at room rest old.room.len long)
    ∙ ap (λ (z : List ℕ). drop old.from z)
    (filled_more old.len k xs ys n fits c.in-Ok.ensures.within)
    ∙ drop-append-le old.from (take old.len xs) (take n ys)
    (omega (arith, c.requires, length-take-le old.len xs fits))
    ∙ ap (λ (z : List ℕ). drop old.from (take old.len z) ++ take n ys) c.deref_mut.ensures.value in
    record {
      place = refl;
      same = c.fill.ensures.same;
      failed = λ failed. failed;
      failure = λ none. none;
      bytes = λ none all bytes read.
          subst (Consumes all (g.R.Read.remaining c.fill.new.reader))
          (append_assoc bytes (left_of old) (take n ys)
          ∙ ap (λ (z : List ℕ). bytes ++ z) (sym left))
          (Consumes-trans _ _ _ (bytes ++ left_of old) (take n ys) read c.in-Ok.ensures.bytes);
      end = λ none first over. c.in-Ok.ensures.end over;
    }
