-- SPDX-License-Identifier: ISC
-- What a temporary file's name ends in.
use Rattle.std.proofs.Common.{◌≡◌, ◌<◌, ◌-◌, ◌+◌, ◌++◌, ◌∙◌, ℕ, List, ap, arith}
use Rattle.std.proofs.Common.{drop, length, length-append, sym, take}
use Rattle.std.specs.Prelude.{codes}
use Rattle.std.proofs.Math.Seq.{drop-append_seam}
use Rattle.std.proofs.lemmas.List.{take-append-drop}
use Rattle.hex.specs.Hex.{IsBytes, encode_lower, lower_digits}
use Rattle.hex.proofs.HexLemmas.{length-encode_with}
use Rattle.ring_passwords.specs.Temporary.{IsTemporary}

-- the end of the name, behind that of the store's file
abbrev pub end_of : (random : List ℕ) → List ℕ
end_of random = codes ".new-" ++ encode_lower random

pub end_length : (random : List ℕ) → length random ≡ 8 → length (end_of random) ≡ 21
end_length random len =
    omega (
      arith,
      length-append (codes ".new-") (encode_lower random),
      length-encode_with lower_digits random,
      len,
    )

pub whole_length : (path : List ℕ) (t : IsTemporary path)
    → length path ≡ length t.file + 21
whole_length path t =
    ap length t.has ∙ omega (
      arith,
      length-append t.file (end_of t.random),
      end_length t.random t.len,
    )

-- the last 21 bytes
pub last_bytes : (path : List ℕ) (t : IsTemporary path)
    → drop (length path - 21) path ≡ end_of t.random
last_bytes path t =
    let file : length path - 21 ≡ length t.file = omega (arith, whole_length path t) in
    ap (λ n. drop n path) file ∙ ap (drop (length t.file)) t.has
    ∙ drop-append_seam t.file (end_of t.random)

pub too_short : (path : List ℕ) → length path < 21 → IsTemporary path → ⊥
too_short path short t = omega (arith, short, whole_length path t)

-- the mark and the digits of such a name
pub mark_in : (path : List ℕ) → IsTemporary path
    → take 5 (drop (length path - 21) path) ≡ codes ".new-"
mark_in path t = ap (take 5) (last_bytes path t)

pub digits_in : (path : List ℕ) (t : IsTemporary path)
    → drop 5 (drop (length path - 21) path) ≡ encode_lower t.random
digits_in path t = ap (drop 5) (last_bytes path t)

-- a name with the mark and digits is one
pub named : (path random : List ℕ) → take 5 (drop (length path - 21) path) ≡ codes ".new-"
    → drop 5 (drop (length path - 21) path) ≡ encode_lower random → length random ≡ 8
    → IsBytes random → IsTemporary path
named path random mark digits len bytes =
    let n = length path - 21 in
    let end : drop n path ≡ end_of random =
    sym (take-append-drop 5 (drop n path))
    ∙ ap (λ xs. xs ++ drop 5 (drop n path)) mark ∙ ap (λ xs. codes ".new-" ++ xs) digits in
    record {
      file = take n path;
      random = random;
      len = len;
      bytes = bytes;
      has = sym (take-append-drop n path) ∙ ap (λ xs. take n path ++ xs) end;
    }
