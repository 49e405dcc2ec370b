-- SPDX-License-Identifier: ISC
-- New values and their texts.
use Rattle.std.proofs.Common.{◌≡◌, ◌∙◌, ℕ, true, List, ap, arith, drop, length, subst, sym, take}
use Rattle.std.specs.Prelude.{Ok, Option, Some}
use Rattle.std.specs.declared.num.NonZeroU32.{NonZeroU32}
use Rattle.std.proofs.lemmas.Bool.Decides.{nat_tests}
use Rattle.std.proofs.lemmas.List.{drop_at, take_at}
use Rattle.ring_password_hash.specs.Salt.{IsNext}
use Rattle.ring_password_hash.specs.Scheme.{kept_len_of}
use Rattle.ring_password_hash.specs.Stored.{IsReadWhere, IsStored, IsTextOf, Parts, Writes}
use Rattle.ring_password_hash.specs.Stored.{can_keep, new_status, parts_of, text_of}
use Rattle.ring_password_hash.specs.declared.scheme.Scheme.{Scheme}
use Rattle.ring_password_hash.specs.declared.stored.Stored.{Stored}
use Rattle.ring_examples.specs.Rows.{salt_of}

-- where there is a new value, PBKDF2 admits the lengths
pub can_keep-new : (room : ℕ) (k : Scheme) (p s : List ℕ) (c : NonZeroU32)
    → new_status room k p s c ≡ Ok tt → can_keep k (length p) (length s) (kept_len_of k) ≡ true
can_keep-new room k p s c is = grind (arith, nat_tests, is)

-- what was written is the text of the value
pub written-text : (v : Stored) (old : List ℕ) {h : Parts} {len : ℕ} {new : List ℕ}
    → Writes (text_of (parts_of v)) old new (Ok len) → IsStored v → parts_of v ≡ h
    → IsTextOf h (take len new)
written-text v old {len = len} {new = new} written is same =
    let text = text_of (parts_of v) in
    let front : take len new ≡ text =
    ap (λ (l : List ℕ). take len l) written.1 ∙ take_at text _ len (sym written.0) in
    subst (λ (h : Parts). IsTextOf h (take len new)) same
    (subst (IsTextOf (parts_of v)) (sym front) is.text)

-- a text is read as the value that has it, of which P holds
pub reads-value : {h : Parts} {text : List ℕ} {P : Option Parts → Type 0} → IsTextOf h text
    → P (Some h) → IsReadWhere text P
reads-value {h} has holds = record { found = Some h; reads = has; holds = holds }

-- what stands behind a written text is as it was
pub behind-written : (text old : List ℕ) {new : List ℕ} {len : ℕ} → Writes text old new (Ok len)
    → drop len new ≡ drop len old
behind-written text old {len = len} written =
    ap (λ (l : List ℕ). drop len l) written.1 ∙ drop_at text (drop len old) len (sym written.0)

-- a salt is of the next 16 bytes of its source
pub next-salt : {k : Scheme} {before after salt : List ℕ} → IsNext k before after salt
    → salt ≡ salt_of k (take 16 before)
next-salt {k} next =
    let front = ap (λ (l : List ℕ). take 16 l) next.taken ∙ take_at next.bytes _ 16 next.len in
    next.is ∙ ap (salt_of k) (sym front)

-- the source keeps those behind them
pub next-left : {k : Scheme} {before after salt : List ℕ} → IsNext k before after salt
    → after ≡ drop 16 before
next-left next =
    sym (ap (λ (l : List ℕ). drop 16 l) next.taken ∙ drop_at next.bytes _ 16 next.len)
