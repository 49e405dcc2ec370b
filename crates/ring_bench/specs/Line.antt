-- SPDX-License-Identifier: ISC
-- What one line says, and the answer to it.
use Rattle.std.specs.Prelude.{◌==◌, ℕ, Bool, List, [], ◌∷◌, Option, None, Some, if◌then◌else◌}
use Rattle.std.specs.Prelude.{length, slice_index, codes}
use Rattle.std.specs.List.{slice_split}
use Rattle.ring_bench.specs.declared.line.Call.{Call}
use Rattle.ring_bench.specs.declared.line.Call.TheVariants as call
use Rattle.ring_bench.specs.declared.line.Line.{Line}
use Rattle.ring_bench.specs.declared.line.Line.TheVariants.{Nothing, Bad, Asks}
use Rattle.ring_bench.specs.Algorithm.{digest_algorithm_of, hmac_algorithm_of}
use Rattle.ring_bench.specs.Field.{◌>>=◌, is_word, bytes_of, pieces_of, len_of, iterations_of}
use Rattle.ring_bench.specs.Request.{Response, answer_of, digest_answer, key_answer, key_verdict}
use Rattle.ring_bench.specs.Request.{output_answer, tag_answer, verdict_answer}

-- What a line says: nothing (it is empty, or a comment), or it is bad, or it has an answer.
pub data Meaning : Type 0 where
  nothing : Meaning
  bad : Meaning
  answered : Response → Meaning

-- the call that the first field of a line names
unfoldable pub call_of : List ℕ → Option Call
call_of field =
    if is_word field (codes "digest") then Some call.Digest
    else if is_word field (codes "hmac") then Some call.Hmac
    else if is_word field (codes "hmac-verify") then Some call.HmacVerify
    else if is_word field (codes "hkdf") then Some call.Hkdf
    else if is_word field (codes "pbkdf2") then Some call.Pbkdf2
    else if is_word field (codes "pbkdf2-verify") then Some call.Pbkdf2Verify
    else None

-- the answer to a call with these operands
unfoldable pub answer_by : Call → List (List ℕ) → Option Response
answer_by call.Digest (alg ∷ pieces ∷ []) = do
  a ← digest_algorithm_of alg
  message ← pieces_of pieces
  Some (digest_answer a message)
answer_by call.Hmac (alg ∷ key ∷ pieces ∷ []) = do
  a ← hmac_algorithm_of alg
  k ← bytes_of key
  message ← pieces_of pieces
  Some (tag_answer a k message)
answer_by call.HmacVerify (alg ∷ key ∷ pieces ∷ tag ∷ []) = do
  a ← hmac_algorithm_of alg
  k ← bytes_of key
  message ← pieces_of pieces
  t ← bytes_of tag
  Some (verdict_answer a k message t)
answer_by call.Hkdf (alg ∷ salt ∷ secret ∷ pieces ∷ len ∷ []) = do
  a ← hmac_algorithm_of alg
  s ← bytes_of salt
  x ← bytes_of secret
  info ← pieces_of pieces
  n ← len_of len
  Some (output_answer a s x info n)
answer_by call.Pbkdf2 (alg ∷ iterations ∷ secret ∷ salt ∷ len ∷ []) = do
  a ← hmac_algorithm_of alg
  c ← iterations_of iterations
  p ← bytes_of secret
  s ← bytes_of salt
  n ← len_of len
  Some (key_answer a c p s n)
answer_by call.Pbkdf2Verify (alg ∷ iterations ∷ secret ∷ salt ∷ value ∷ []) = do
  a ← hmac_algorithm_of alg
  c ← iterations_of iterations
  p ← bytes_of secret
  s ← bytes_of salt
  v ← bytes_of value
  Some (key_verdict a c p s v)
answer_by named operands = None

-- the answer to the fields of a line: the first one names the call, and the others are its operands
unfoldable pub answer_to : List (List ℕ) → Option Response
answer_to [] = None
answer_to (word ∷ operands) = do
  named ← call_of word
  answer_by named operands

abbrev pub answered_or_bad : Option Response → Meaning
answered_or_bad None = bad
answered_or_bad (Some answer) = answered answer

abbrev pub is_space : ℕ → Bool
is_space b = b == 32

-- what a line says, without the line feed and the carriage return at its end; `#` is 35
unfoldable pub line_of : List ℕ → Meaning
line_of text =
    if length text == 0 then nothing
    else if slice_index text 0 == 35 then nothing
    else answered_or_bad (answer_to (slice_split is_space text))

-- what a parsed line says
abbrev pub meaning : {Z : Type 0} → Line Z → Meaning
meaning Nothing = nothing
meaning Bad = bad
meaning (Asks request) = answered (answer_of request)
