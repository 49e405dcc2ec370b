-- SPDX-License-Identifier: ISC
use Rattle.std.proofs.Common.{◌≡◌, ◌<◌, ◌+◌, ◌++◌, ◌∙◌, ℕ, Bool, List, ap, append_assoc}
use Rattle.std.proofs.Common.{append-nil, arith, drop, get_or, length, rules, sym}
use Rattle.std.proofs.lemmas.Iterator.{YieldsList-from_chars}
use Rattle.std.proofs.lemmas.Iterator.Consumers.{YieldsList-end, YieldsList-turn}
use Rattle.std.proofs.lemmas.List.{at_drop_all, at_drop_more, length_push}
use Rattle.std.specs.Char.{is_control}
use Rattle.std.specs.Str.{chars}
use Rattle.ring_passwords.specs.Quoted.{part, parts}
use Rattle.ring_passwords.proofs.quoted.append_parts.Goals as goal

-- the first of the other characters, and what follows it
next_part : (behind : Bool) (cs : List ℕ) (n c : ℕ) → (n < length cs) × (c ≡ get_or cs n c)
    → parts behind (drop n cs) ≡ part behind c ++ parts (is_control c) (drop (n + 1) cs)
next_part behind cs n c h = at_drop_more (parts behind) cs n c h.0
    ∙ ap (λ x. part behind x ++ parts (is_control x) (drop (n + 1) cs)) (sym h.1)

-- a character more is written
step : (whole out cs : List ℕ) (behind : Bool) (n c : ℕ) → (n < length cs) × (c ≡ get_or cs n c)
    → out ++ parts behind (drop n cs) ≡ whole
    → (out ++ part behind c) ++ parts (is_control c) (drop (n + 1) cs) ≡ whole
step whole out cs behind n c turn before =
    append_assoc out (part behind c) (parts (is_control c) (drop (n + 1) cs))
    ∙ ap (λ xs. out ++ xs) (sym (next_part behind cs n c turn)) ∙ before

-- the same of values that are equal
moved : (cs : List ℕ) {whole out new : List ℕ} {behind control : Bool} {n m : ℕ}
    → out ++ parts behind (drop n cs) ≡ whole → new ≡ out → control ≡ behind → m ≡ n
    → new ++ parts control (drop m cs) ≡ whole
moved cs {out = out} {behind = behind} {control = control} {m = m} before made is count =
    ap (λ xs. xs ++ parts control (drop m cs)) made ∙ ap (λ b. out ++ parts b (drop m cs)) is
    ∙ ap (λ k. out ++ parts behind (drop k cs)) count ∙ before

pub loop-character-preserved : goal.loop-character-preserved
loop-character-preserved c =
    let turn = YieldsList-turn (YieldsList-from_chars c.args.word.now c.utf8.word cc)
    c.loop-character.yielded _ c.loop-character.yielded_by _ _ c.in-Some.character c.in-Some.is
    c.next.ensures.steps in
    let l = c.loop-character in
    let cs = chars c.args.word.now in
    let more = step _ l.out.items cs l.behind_control (length l.yielded) c.in-Some.character turn
    l.invariant in
    moved cs more (search rules) (search rules) (length_push l.yielded c.in-Some.character)

pub returns : goal.returns
returns c =
    let l = c.loop-character in
    let end = YieldsList-end (YieldsList-from_chars c.args.word.now c.utf8.word cc)
    l.yielded _ l.yielded_by _ _ c.in-None.is c.next.ensures.steps in
    let rest = at_drop_all (parts l.behind_control) (chars c.args.word.now) (length l.yielded)
    (omega (arith, end.1)) in
    record { ok = sym (append-nil _) ∙ ap (λ xs. l.out.items ++ xs) (sym rest) ∙ l.invariant }
