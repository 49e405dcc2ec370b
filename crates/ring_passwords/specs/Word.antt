-- SPDX-License-Identifier: ISC
-- The words of a call that are always the same.
use Rattle.std.specs.Prelude.{◌≢◌, ◌<◌, ◌^◌, ℕ, List, [], ◌∷◌, Option, Some, None, codes}
use Rattle.std.specs.Fmt.{decimal}
use Rattle.std.specs.Int.NonZero.{non_zero_u32_get}
use Rattle.std.specs.declared.num.NonZeroU32.{NonZeroU32}
use Rattle.ring_passwords.specs.declared.word.Command.{Command}
use Rattle.ring_passwords.specs.declared.word.Command.TheVariants as command
use Rattle.ring_passwords.specs.declared.word.CountOption.{CountOption}
use Rattle.ring_passwords.specs.declared.word.CountOption.TheVariants.{Iterations, MaxIterations}

-- the word of each command
abbrev pub command_word : Command → List ℕ
command_word command.Set = codes "set"
command_word command.Verify = codes "verify"
command_word command.Remove = codes "remove"
command_word command.List = codes "list"

-- the word of each option that a number is given for
abbrev pub option_word : CountOption → List ℕ
option_word Iterations = codes "--iterations"
option_word MaxIterations = codes "--max-iterations"

-- the words of an option and its number, where one is given
abbrev pub option_words : CountOption → Option NonZeroU32 → List (List ℕ)
option_words option None = []
option_words option (Some c) = option_word option ∷ decimal (non_zero_u32_get c) ∷ []

-- a word is the decimal of no count of 32 bits but 0
abbrev pub IsNoCount : List ℕ → Type 0
IsNoCount word = (c : NonZeroU32) → non_zero_u32_get c < 2 ^ 32
    → word ≢ decimal (non_zero_u32_get c)
