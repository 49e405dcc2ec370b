-- SPDX-License-Identifier: ISC
-- What the text of each store begins with.
use Rattle.std.proofs.Common.{◌≡◌, refl, take}
use Rattle.std.specs.Prelude.{codes}
use Rattle.ring_store.specs.declared.store.PasswordStore.{PasswordStore}
use Rattle.ring_store_text.specs.Text.{head_then, text_of}

pub begins : {Z : Type 0} (s : PasswordStore Z) → take 13 (text_of s) ≡ codes "ring_store 1 "
unfolding head_then
begins s = refl
