-- SPDX-License-Identifier: ISC
-- The line that `{}` prints of an error.
use Rattle.std.specs.Prelude.{ℕ, List, codes}
use Rattle.ring_store_text.specs.declared.error.LoadError.{LoadError}
use Rattle.ring_store_text.specs.declared.error.LoadError.TheVariants.{BadText, Memory}

abbrev pub load_error_text : LoadError → List ℕ
load_error_text BadText = codes "not the text of a password store"
load_error_text Memory = codes "out of memory"
