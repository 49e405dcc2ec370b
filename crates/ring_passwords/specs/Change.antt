-- SPDX-License-Identifier: ISC
-- What is done with a store.
use Rattle.std.specs.Prelude.{◌≡◌, ◌≢◌, ◌⊎◌, ℕ, List, Option, Some, None, Result, Ok, Err}
use Rattle.std.specs.Global.{Global}
use Rattle.std.specs.Int.NonZero.{non_zero_u32_get}
use Rattle.std.specs.declared.num.NonZeroU32.{NonZeroU32}
use Rattle.ring_store.specs.Store.{with_iterations}
use Rattle.ring_store.specs.declared.error.StoreError.{StoreError}
use Rattle.ring_store.specs.declared.store.PasswordStore.{PasswordStore}
use Rattle.ring_store_text.specs.Text.{IsStore, IsText, text_of}
use Rattle.ring_passwords.specs.Failure.{failure_of}
use Rattle.ring_passwords.specs.declared.failure.Failure.{Failure}
use Rattle.ring_passwords.specs.declared.failure.Failure.TheVariants as failure

-- the store with its iterations set, where some are given
abbrev pub with_given : {Z : Type 0} → PasswordStore Z → Option NonZeroU32 → PasswordStore Z
with_given s None = s
with_given s (Some iterations) = with_iterations s iterations

-- a store's answer as the program's
abbrev pub told : Result (Unit {0}) StoreError → Result (Unit {0}) Failure
told (Ok u) = Ok u
told (Err error) = Err (failure_of error)

-- the iterations of a new store: those that are given, or else those that OWASP advises
abbrev pub IsCountOfNew : (given : Option NonZeroU32) → NonZeroU32 → Type 0
IsCountOfNew None iterations = non_zero_u32_get iterations ≡ 600000
IsCountOfNew (Some given) iterations = iterations ≡ given

-- a text is no store's, or there is no memory for its store
abbrev pub IsNoStore : (text : List ℕ) → Failure → Type 0
IsNoStore text failed =
    ((failed ≡ failure.NotAStore)
    × ((store : PasswordStore Global) → IsStore store → text_of store ≢ text))
    ⊎ ((failed ≡ failure.Memory) × IsText Global text)
