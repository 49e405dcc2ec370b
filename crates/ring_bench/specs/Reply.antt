-- SPDX-License-Identifier: ISC
-- The reply to a line.
use Rattle.std.specs.Prelude.{◌++◌, ℕ, Bool, true, false, List, [], ◌∷◌, codes}
use Rattle.std.specs.Fmt.{decimal}
use Rattle.hex.specs.Hex.{encode_lower}
use Rattle.ring_bench.specs.declared.answers.LineKind.{LineKind}
use Rattle.ring_bench.specs.declared.answers.LineKind.TheVariants.{Nothing, Answered, Bad}
use Rattle.ring_bench.specs.Line.{Meaning, nothing, bad, answered, line_of}
use Rattle.ring_bench.specs.Request.{Response, given, verified, refused}

-- a text and the line feed that ends it
abbrev pub ended : List ℕ → List ℕ
ended text = text ++ 10 ∷ []

-- bytes in lower case hex, or `-` for none
abbrev pub hex_of : List ℕ → List ℕ
hex_of [] = codes "-"
hex_of (b ∷ bs) = encode_lower (b ∷ bs)

abbrev pub verdict_of : Bool → List ℕ
verdict_of true = codes "match"
verdict_of false = codes "mismatch"

-- a space and the number of blocks
abbrev pub counted : ℕ → List ℕ
counted blocks = 32 ∷ decimal blocks

-- an answer as text
abbrev pub text_of : Response → List ℕ
text_of (given bytes blocks) = hex_of bytes ++ counted blocks
text_of (verified same blocks) = verdict_of same ++ counted blocks
text_of refused = codes "refused"

abbrev pub reply_of : Meaning → List ℕ
reply_of nothing = []
reply_of bad = ended (codes "bad line")
reply_of (answered answer) = ended (text_of answer)

abbrev pub kind_of : Meaning → LineKind
kind_of nothing = Nothing
kind_of bad = Bad
kind_of (answered answer) = Answered

-- the reply to a line
abbrev pub reply : List ℕ → List ℕ
reply text = reply_of (line_of text)

-- of which kind a line is
abbrev pub kind : List ℕ → LineKind
kind text = kind_of (line_of text)
