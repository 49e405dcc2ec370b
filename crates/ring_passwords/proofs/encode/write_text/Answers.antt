-- SPDX-License-Identifier: ISC
use Rattle.std.proofs.Common.{◌≡◌, ◌<◌, ◌+◌, ◌-◌, ◌++◌, ◌∷◌, ◌∙◌, ℕ, List, [], ap, arith, drop}
use Rattle.std.proofs.Common.{length, replicate, subst, take}
use Rattle.std.proofs.Math.Seq.{take-append-add}
use Rattle.std.proofs.lemmas.List.{drop-replicate, take-replicate}
use Rattle.std.specs.Io.KnownBytes.{Appends}
use Rattle.ring_passwords.specs.Output.{AppendsFront}
use Rattle.ring_passwords.proofs.encode.write_text.Goals as goal

-- a text in a buffer of line feeds, and one of them
line_at : (text new : List ℕ) (len room : ℕ) → len ≡ length text → len < room
    → new ≡ text ++ drop len (replicate room 10) → take (len + 1) new ≡ text ++ 10 ∷ []
line_at text new len room is within same =
    ap (take (len + 1)) (same ∙ ap (λ (l : List ℕ). text ++ l) (drop-replicate len room 10))
    ∙ ap (λ (n : ℕ). take (n + 1) (text ++ replicate (room - len) 10)) is
    ∙ take-append-add text (replicate (room - len) 10) 1
    ∙ ap (λ (l : List ℕ). text ++ l) (take-replicate 1 (room - len) 10 (omega (arith, within)))

pub returns-in-Ok-write_whole-clause-written : goal.returns-in-Ok-write_whole-clause-written
returns-in-Ok-write_whole-clause-written g c =
    let contents = g.W.Write.contents in
    let wrote = c.in-Ok.ensures in
    subst (Appends (contents c.args.writer.now) (contents c.write_whole.new.writer))
    (line_at _ _ c.in-Ok.len 1025 wrote.0 (omega (arith, wrote.0, c.requires.text.within)) wrote.1)
    c.in-Ok-write_whole.ensures.ok

pub returns-in-Err-clause-cut : goal.returns-in-Err-clause-cut
returns-in-Err-clause-cut g c =
    let contents = g.W.Write.contents in
    let wrote = c.in-Ok.ensures in
    subst (AppendsFront (contents c.args.writer.now) (contents c.write_whole.new.writer))
    (line_at _ _ c.in-Ok.len 1025 wrote.0 (omega (arith, wrote.0, c.requires.text.within)) wrote.1)
    c.in-Err.ensures.refused
