-- SPDX-License-Identifier: ISC
use Rattle.std.proofs.Common.{◌≡◌, ◌≢◌, ◌⊎◌, ap, inl, inr, refl}
use Rattle.std.specs.Prelude.{Result, Ok, Err, IfOk, IsErrOf}
use Rattle.ring_store_text.specs.Text.{IsStore, text_of}
use Rattle.ring_store_text.specs.declared.error.LoadError.{LoadError}
use Rattle.ring_store_text.specs.declared.error.LoadError.TheVariants.{BadText, Memory}
use Rattle.ring_store.specs.declared.store.PasswordStore.{PasswordStore}
use Rattle.ring_store_text.proofs.Stores.{text_of-injective}
use Rattle.ring_store_text.proofs.laws.text_reads_back.Goals as goal

read_back : {Z : Type 0} (s : PasswordStore Z) (r : Result (PasswordStore Z) LoadError)
    → IsStore s → IfOk r (λ t. (text_of t ≡ text_of s) × IsStore t)
    → (IsErrOf r BadText → (t : PasswordStore Z) → IsStore t → text_of t ≢ text_of s)
    → (r ≡ Ok s) ⊎ (r ≡ Err Memory)
read_back s (Ok t) h read bad = inl (ap Ok (text_of-injective t s read.1 h read.0))
read_back s (Err BadText) h read bad = absurd (bad refl s h refl)
read_back s (Err Memory) h read bad = inr refl

pub returns : goal.returns
returns g c = read_back
