-- SPDX-License-Identifier: ISC
-- What the arguments ask for of a file.
use Rattle.std.specs.Prelude.{ℕ, List, [], ◌∷◌, codes}
use Rattle.ring_passwords.specs.Word.{option_words}
use Rattle.ring_passwords.specs.declared.action.Action.{Action}
use Rattle.ring_passwords.specs.declared.action.Action.TheVariants as action
use Rattle.ring_passwords.specs.declared.word.CountOption.TheVariants.{Iterations}

-- the words of each action, behind the file
abbrev pub action_words : Action → List (List ℕ)
action_words (action.Set name given) = codes "set" ∷ name.now ∷ option_words Iterations given
action_words (action.Verify name) = codes "verify" ∷ name.now ∷ []
action_words (action.Remove name) = codes "remove" ∷ name.now ∷ []
action_words action.List = codes "list" ∷ []
