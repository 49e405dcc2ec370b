-- SPDX-License-Identifier: ISC
-- What the words of a call ask for, or what is wrong with them.
use Rattle.std.specs.Prelude.{◌≡◌, ◌≢◌, ◌⊎◌, ℕ, List, [], ◌∷◌, codes}
use Rattle.ring_passwords.specs.Action.{action_words}
use Rattle.ring_passwords.specs.Conversion.{conversion_words}
use Rattle.ring_passwords.specs.Misuse.{IsWrongAction, IsWrongEncode, IsWrongOption}
use Rattle.ring_passwords.specs.Word.{command_word}
use Rattle.ring_passwords.specs.declared.about.About.{About}
use Rattle.ring_passwords.specs.declared.about.About.TheVariants.{Help, Version}
use Rattle.ring_passwords.specs.declared.asked.Asked.{Asked}
use Rattle.ring_passwords.specs.declared.asked.Asked.TheVariants as asked
use Rattle.ring_passwords.specs.declared.misuse.Misuse.{Misuse}
use Rattle.ring_passwords.specs.declared.misuse.Misuse.TheVariants.{NoWords, NoCommand}
use Rattle.ring_passwords.specs.declared.misuse.Misuse.TheVariants.{UnknownCommand}
use Rattle.ring_passwords.specs.declared.word.Command.{Command}
use Rattle.ring_passwords.specs.declared.word.CountOption.TheVariants.{MaxIterations}

-- the word that asks for what the program tells of itself
abbrev pub about_word : About → List ℕ
about_word Help = codes "--help"
about_word Version = codes "--version"

-- the words of a call that asks for each
abbrev pub asked_words : Asked → List (List ℕ)
asked_words (asked.About about) = about_word about ∷ []
asked_words (asked.OfText conversion) = conversion_words conversion
asked_words (asked.OfFile file action) = file.now ∷ action_words action

-- the words behind the first one: the first of them is no command, so the call is of no file
abbrev pub IsOfNoFile : List (List ℕ) → Type 0
IsOfNoFile [] = Unit {0}
IsOfNoFile (word ∷ rest) = (command : Command) → word ≢ command_word command

-- a first word that begins no call but a file's
abbrev pub IsFile : List ℕ → Type 0
IsFile word = (word ≢ codes "encode") × (word ≢ codes "check")

-- what is wrong with a call of no file
abbrev pub IsWrongBare : Misuse → (first : List ℕ) → (rest : List (List ℕ)) → Type 0
IsWrongBare (NoCommand file) first rest =
    (file.now ≡ first) × (rest ≡ []) × IsFile first × ((about : About) → first ≢ about_word about)
IsWrongBare (UnknownCommand file word) first rest =
    (file.now ≡ first) × IsFile first
    × ((behind : List (List ℕ)) × (rest ≡ word.now ∷ behind))
IsWrongBare misuse first rest =
    ((first ≡ codes "encode") × IsWrongEncode misuse rest)
    ⊎ ((first ≡ codes "check") × IsWrongOption MaxIterations misuse rest)

-- what is wrong with the words of a call: there is none; or its second word is a command, and what
-- follows is wrong; or it is of no file
abbrev pub IsMisuse : Misuse → (words : List (List ℕ)) → Type 0
IsMisuse misuse [] = misuse ≡ NoWords
IsMisuse misuse (first ∷ rest) =
    ((command : Command) × (behind : List (List ℕ)) × (rest ≡ command_word command ∷ behind)
    × IsWrongAction command misuse behind)
    ⊎ (IsOfNoFile rest × IsWrongBare misuse first rest)
