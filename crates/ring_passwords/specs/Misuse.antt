-- SPDX-License-Identifier: ISC
-- What is wrong with the words of a call, and the line that says so.
use Rattle.std.specs.Prelude.{◌≡◌, ◌≢◌, ◌⊎◌, ℕ, List, [], ◌∷◌, ◌++◌, codes}
use Rattle.ring_password_hash.specs.Scheme.{name_of}
use Rattle.ring_password_hash.specs.declared.scheme.Scheme.{Scheme}
use Rattle.ring_passwords.specs.Quoted.{quoted}
use Rattle.ring_passwords.specs.Schemes.{schemes_text}
use Rattle.ring_passwords.specs.Word.{IsNoCount, command_word, option_word}
use Rattle.ring_passwords.specs.declared.about.TheConstants.{USAGE}
use Rattle.ring_passwords.specs.declared.misuse.Misuse.{Misuse}
use Rattle.ring_passwords.specs.declared.misuse.Misuse.TheVariants.{NoWords, NoCommand, NoName}
use Rattle.ring_passwords.specs.declared.misuse.Misuse.TheVariants.{UnknownCommand, NoScheme}
use Rattle.ring_passwords.specs.declared.misuse.Misuse.TheVariants.{UnknownScheme, NoCount}
use Rattle.ring_passwords.specs.declared.misuse.Misuse.TheVariants.{BadCount, Unexpected}
use Rattle.ring_passwords.specs.declared.word.Command.{Command}
use Rattle.ring_passwords.specs.declared.word.Command.TheVariants as commands
use Rattle.ring_passwords.specs.declared.word.CountOption.{CountOption}
use Rattle.ring_passwords.specs.declared.word.CountOption.TheVariants.{Iterations}

-- ---- the line that says so

abbrev pub commands_text : List ℕ
commands_text = codes "; the commands are set, verify, remove and list"

abbrev pub number_text : CountOption → List ℕ
number_text option = option_word option ++ codes " needs a number of 1 to 4294967295"

abbrev pub unknown_scheme_text : (word : List ℕ) → List ℕ
unknown_scheme_text word =
    codes "no such scheme: " ++ quoted word ++ codes "; the schemes are " ++ schemes_text

abbrev pub misuse_text : Misuse → List ℕ
misuse_text NoWords = USAGE.now
misuse_text (NoCommand file) = quoted file.now ++ codes ": no command" ++ commands_text
misuse_text (UnknownCommand file word) =
    quoted file.now ++ codes ": no such command: " ++ quoted word.now
misuse_text (NoName command) = command_word command ++ codes " needs a name"
misuse_text NoScheme = codes "encode needs a scheme; the schemes are " ++ schemes_text
misuse_text (UnknownScheme word) = unknown_scheme_text word.now
misuse_text (NoCount option) = number_text option
misuse_text (BadCount option word) = number_text option ++ codes ", not " ++ quoted word.now
misuse_text (Unexpected word) = codes "one word too many: " ++ quoted word.now

-- ---- what is wrong with the last words of a call

-- the first word is one too many
abbrev pub IsUnexpected : Misuse → (words : List (List ℕ)) → Type 0
IsUnexpected (Unexpected word) (first ∷ rest) = word.now ≡ first
IsUnexpected _ words = ⊥

-- the words behind an option: it lacks its number, or that is none, or a word follows
abbrev pub IsWrongCount : CountOption → Misuse → (words : List (List ℕ)) → Type 0
IsWrongCount option misuse [] = misuse ≡ NoCount option
IsWrongCount option (BadCount other word) (number ∷ rest) =
    (other ≡ option) × (word.now ≡ number) × IsNoCount number
IsWrongCount option misuse (number ∷ rest) = ¬ (IsNoCount number) × IsUnexpected misuse rest

-- a word stands in place of the option, or what is behind the option is wrong
abbrev pub IsWrongOption : CountOption → Misuse → (words : List (List ℕ)) → Type 0
IsWrongOption option misuse [] = ⊥
IsWrongOption option misuse (first ∷ rest) =
    ((first ≢ option_word option) × IsUnexpected misuse (first ∷ rest))
    ⊎ ((first ≡ option_word option) × IsWrongCount option misuse rest)

-- ---- what is wrong with the words behind the first ones

-- the words behind a command: it lacks its name, or what follows is wrong
abbrev pub IsWrongAction : Command → Misuse → (words : List (List ℕ)) → Type 0
IsWrongAction commands.List misuse words = IsUnexpected misuse words
IsWrongAction command misuse [] = misuse ≡ NoName command
IsWrongAction commands.Set misuse (name ∷ rest) = IsWrongOption Iterations misuse rest
IsWrongAction commands.Verify misuse (name ∷ rest) = IsUnexpected misuse rest
IsWrongAction commands.Remove misuse (name ∷ rest) = IsUnexpected misuse rest

-- the words behind `encode`: it lacks its scheme, or the word is none, or what follows is wrong
abbrev pub IsWrongEncode : Misuse → (words : List (List ℕ)) → Type 0
IsWrongEncode misuse [] = misuse ≡ NoScheme
IsWrongEncode (UnknownScheme word) (name ∷ rest) =
    (word.now ≡ name) × ((k : Scheme) → name ≢ name_of k)
IsWrongEncode misuse (name ∷ rest) =
    ((k : Scheme) × (name ≡ name_of k)) × IsWrongOption Iterations misuse rest
