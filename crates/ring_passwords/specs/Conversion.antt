-- SPDX-License-Identifier: ISC
-- What the arguments ask for of a password's text.
use Rattle.std.specs.Prelude.{ℕ, List, ◌∷◌, codes}
use Rattle.ring_password_hash.specs.Scheme.{name_of}
use Rattle.ring_passwords.specs.Word.{option_words}
use Rattle.ring_passwords.specs.declared.conversion.Conversion.{Conversion}
use Rattle.ring_passwords.specs.declared.conversion.Conversion.TheVariants.{Encode, Check}
use Rattle.ring_passwords.specs.declared.word.CountOption.TheVariants.{Iterations, MaxIterations}

-- the words that ask for each
abbrev pub conversion_words : Conversion → List (List ℕ)
conversion_words (Encode k given) = codes "encode" ∷ name_of k ∷ option_words Iterations given
conversion_words (Check given) = codes "check" ∷ option_words MaxIterations given
