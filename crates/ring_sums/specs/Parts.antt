-- SPDX-License-Identifier: ISC
-- A list in parts.
use Rattle.std.specs.Prelude.{ℕ, ◌∷◌, ◌++◌, IsFalse, IsNone, IsTrue, List, [], Option}
use Rattle.std.specs.Io.KnownBytes.{Consumes, IsAtEnd, prepend_known}
use Rattle.ring_sums.specs.declared.parts.Part.{Part}
use Rattle.ring_sums.specs.declared.parts.Parts.{Parts}

-- what is in no part yet: what is read, and then what the reader has to give
abbrev pub left_of : {R : Type 0} → (R → Option (List ℕ)) → Parts R → Option (List ℕ)
left_of remaining parts = prepend_known parts.left.items (remaining parts.reader)

-- the list goes on with this part: whole lines, of which the last one's line feed is left out, or
-- all that is left, unless no more could be read
pub record IsPart {R : Type 0} (remaining : R → Option (List ℕ)) (part : Part)
    (old new : Parts R) : Type 0 where
  pub lines : IsFalse part.is_last
      → Consumes (left_of remaining old) (left_of remaining new) (part.text.items ++ 10 ∷ [])
  pub last : IsTrue part.is_last
      → Consumes (left_of remaining old) (left_of remaining new) part.text.items
  pub all : IsTrue part.is_last → IsNone part.failure → IsAtEnd (left_of remaining new)
