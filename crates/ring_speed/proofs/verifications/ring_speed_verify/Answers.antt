-- SPDX-License-Identifier: ISC
use Rattle.std.proofs.Common.{◌≡◌, ◌≢◌, false, List, ℕ, refl, sym, ◌∙◌, rules}
use Rattle.std.specs.Prelude.{Result, Ok, Err, OnOk, is_err, is_ok}
use Rattle.std.specs.FinMap as table
use Rattle.std.specs.declared.num.NonZeroU32.{NonZeroU32}
use Rattle.ring_store.specs.Store.{new_store, verdict}
use Rattle.ring_store.specs.declared.error.StoreError.{StoreError}
use Rattle.ring_store.specs.declared.store.PasswordStore.{PasswordStore}
use Rattle.ring_speed.specs.declared.message.TheConstants.{KEY}
use Rattle.ring_speed.specs.declared.verifications.TheConstants.{KNOWN, UNKNOWN}
use Rattle.ring_speed.proofs.verifications.ring_speed_verify.Goals as goal

on_ok : (r : Result (Unit {0}) StoreError) (P : Type 0) → is_err r ≡ false → OnOk r P → P
on_ok (Ok done) P e h = h
on_ok (Err error) P e h = absurd cc

-- a store without records knows no name
none_passes : {Z : Type 0} {s : PasswordStore Z} {salt : List ℕ} {c : NonZeroU32}
    → s ≡ new_store salt c → is_ok (verdict s UNKNOWN.now KEY) ≡ false
none_passes new = rw (new, table.get-empty) refl

apart : UNKNOWN.now ≢ KNOWN.now
apart = search rules

pub returns-in-0-clause-unknown : goal.returns-in-0-clause-unknown
returns-in-0-clause-unknown c zero =
    let no_error = sym c.is_err.ensures.value ∙ c.if-is_err.false in
    let is = on_ok _ _ no_error c.set_password.ensures.ok in
    let new = c.new-store.result in
    let kept = c.set_keeps_others.ensures.verdict new KNOWN.now KEY UNKNOWN.now KEY apart in
    let said : c.is_ok.result ≡ false =
    rw (c.is_ok.ensures.value, c.verify_password.ensures.refused, is, kept)
    (none_passes c.new-store.ensures) in
    rw said (search rules)
