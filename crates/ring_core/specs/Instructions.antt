-- SPDX-License-Identifier: ISC
-- What the processors' instructions for SHA-1 and SHA-256 give: those of x86-64 by Intel's Software
-- Developer's Manual (volume 2, "Operation" of each), those of 64-bit ARM by the Arm Architecture
-- Reference Manual, in these manuals' names. No manual was at hand: that each gives what the
-- instruction gives is tested, by `make instructions-check`. A vector of 128 bits is the
-- list of its four words of 32 bits, the lowest first: word 0 is bits 31 to 0.
use Rattle.std.specs.Prelude.{ℕ, ◌+◌, ◌==◌, List, [], ◌∷◌, slice_index, if◌then◌else◌}
use Rattle.ring_core.specs.Sha2.{family_256, Σ0, Σ1, σ0, σ1}
use Rattle.ring_core.specs.Word.{◌⊕◌, add_words, choose, majority, parity, rotl, sum_words}

-- a round of SHA256RNDS2: the variables A to H after it, from those before and its word and
-- constant, added
unfoldable pub intel_round : List ℕ → ℕ → List ℕ
intel_round v WK =
    let A = slice_index v 0 in
    let B = slice_index v 1 in
    let C = slice_index v 2 in
    let D = slice_index v 3 in
    let E = slice_index v 4 in
    let F = slice_index v 5 in
    let G = slice_index v 6 in
    let H = slice_index v 7 in
    let Ch = choose 32 E F G in
    let Maj = majority A B C in
    sum_words 32 (Ch ∷ Σ1 family_256 E ∷ WK ∷ H ∷ Maj ∷ Σ0 family_256 A ∷ []) ∷ A ∷ B ∷ C
    ∷ sum_words 32 (Ch ∷ Σ1 family_256 E ∷ WK ∷ H ∷ D ∷ []) ∷ E ∷ F ∷ G ∷ []

-- SHA256RNDS2 src1, src2, with xmm0
abbrev pub sha256rnds2 : (src1 src2 xmm0 : List ℕ) → List ℕ
sha256rnds2 src1 src2 xmm0 =
    let A = slice_index src2 3 in
    let B = slice_index src2 2 in
    let C = slice_index src1 3 in
    let D = slice_index src1 2 in
    let E = slice_index src2 1 in
    let F = slice_index src2 0 in
    let G = slice_index src1 1 in
    let H = slice_index src1 0 in
    let first = intel_round (A ∷ B ∷ C ∷ D ∷ E ∷ F ∷ G ∷ H ∷ []) (slice_index xmm0 0) in
    let second = slice_index (intel_round first (slice_index xmm0 1)) in
    second 5 ∷ second 4 ∷ second 1 ∷ second 0 ∷ []

-- SHA256MSG1 src1, src2
abbrev pub sha256msg1 : (src1 src2 : List ℕ) → List ℕ
sha256msg1 src1 src2 =
    let W4 = slice_index src2 0 in
    let W3 = slice_index src1 3 in
    let W2 = slice_index src1 2 in
    let W1 = slice_index src1 1 in
    let W0 = slice_index src1 0 in
    add_words 32 W0 (σ0 family_256 W1) ∷ add_words 32 W1 (σ0 family_256 W2)
    ∷ add_words 32 W2 (σ0 family_256 W3) ∷ add_words 32 W3 (σ0 family_256 W4) ∷ []

-- SHA256MSG2 src1, src2
abbrev pub sha256msg2 : (src1 src2 : List ℕ) → List ℕ
sha256msg2 src1 src2 =
    let W14 = slice_index src2 2 in
    let W15 = slice_index src2 3 in
    let W16 = add_words 32 (slice_index src1 0) (σ1 family_256 W14) in
    let W17 = add_words 32 (slice_index src1 1) (σ1 family_256 W15) in
    let W18 = add_words 32 (slice_index src1 2) (σ1 family_256 W16) in
    let W19 = add_words 32 (slice_index src1 3) (σ1 family_256 W17) in
    W16 ∷ W17 ∷ W18 ∷ W19 ∷ []

-- a step of SHA256hash: the words of Y : X after it, the lowest first, from those before and an
-- element of W
unfoldable pub sha256hash_step : List ℕ → ℕ → List ℕ
sha256hash_step YX W =
    let X = slice_index YX in
    let Y = λ (i : ℕ). slice_index YX (4 + i) in
    let chs = choose 32 (Y 0) (Y 1) (Y 2) in
    let maj = majority (X 0) (X 1) (X 2) in
    let t = sum_words 32 (Y 3 ∷ Σ1 family_256 (Y 0) ∷ chs ∷ W ∷ []) in
    let X3 = add_words 32 t (X 3) in
    let Y3 = sum_words 32 (t ∷ Σ0 family_256 (X 0) ∷ maj ∷ []) in
    Y3 ∷ X 0 ∷ X 1 ∷ X 2 ∷ X3 ∷ Y 0 ∷ Y 1 ∷ Y 2 ∷ []

-- SHA256hash(X, Y, W, part1): the words of Y : X after its four steps
abbrev pub sha256hash : (X Y W : List ℕ) → List ℕ
sha256hash X Y W =
    let x = slice_index X in
    let y = slice_index Y in
    let w = slice_index W in
    let YX = x 0 ∷ x 1 ∷ x 2 ∷ x 3 ∷ y 0 ∷ y 1 ∷ y 2 ∷ y 3 ∷ [] in
    sha256hash_step (sha256hash_step (sha256hash_step (sha256hash_step YX (w 0)) (w 1)) (w 2)) (w 3)

-- SHA256H d, n, m
abbrev pub sha256h : (d n m : List ℕ) → List ℕ
sha256h d n m =
    let YX = slice_index (sha256hash d n m) in YX 0 ∷ YX 1 ∷ YX 2 ∷ YX 3 ∷ []

-- SHA256H2 d, n, m
abbrev pub sha256h2 : (d n m : List ℕ) → List ℕ
sha256h2 d n m =
    let YX = slice_index (sha256hash n d m) in YX 4 ∷ YX 5 ∷ YX 6 ∷ YX 7 ∷ []

-- SHA256SU0 d, n
abbrev pub sha256su0 : (d n : List ℕ) → List ℕ
sha256su0 d n =
    let operand1 = slice_index d in
    let operand2 = slice_index n in
    let elt = λ (T : ℕ) (e : ℕ). add_words 32 (σ0 family_256 T) (operand1 e) in
    elt (operand1 1) 0 ∷ elt (operand1 2) 1 ∷ elt (operand1 3) 2 ∷ elt (operand2 0) 3 ∷ []

-- SHA256SU1 d, n, m
abbrev pub sha256su1 : (d n m : List ℕ) → List ℕ
sha256su1 d n m =
    let operand1 = slice_index d in
    let operand2 = slice_index n in
    let operand3 = slice_index m in
    let elt = λ (T1 : ℕ) (e : ℕ) (T0 : ℕ).
    sum_words 32 (σ1 family_256 T1 ∷ operand1 e ∷ T0 ∷ []) in
    let first = elt (operand3 2) 0 (operand2 1) in
    let second = elt (operand3 3) 1 (operand2 2) in
    first ∷ second ∷ elt first 2 (operand2 3) ∷ elt second 3 (operand3 0) ∷ []

-- f and K of SHA1RNDS4, by its immediate
abbrev pub sha1_function : ℕ → ℕ → ℕ → ℕ → ℕ
sha1_function imm x y z =
    if imm == 0 then choose 32 x y z
    else if imm == 1 then parity x y z
    else if imm == 2 then majority x y z
    else parity x y z

abbrev pub sha1_constant : ℕ → ℕ
sha1_constant imm =
    if imm == 0 then 0x5a827999
    else if imm == 1 then 0x6ed9eba1
    else if imm == 2 then 0x8f1bbcdc
    else 0xca62c1d6

-- the first of the four rounds of SHA1RNDS4: A to E after it, from A to D before and W0E, the word
-- and E added
unfoldable pub sha1rnds4_first : (imm : ℕ) → List ℕ → ℕ → List ℕ
sha1rnds4_first imm v W0E =
    let A = slice_index v 0 in
    let B = slice_index v 1 in
    let C = slice_index v 2 in
    let D = slice_index v 3 in
    sum_words 32 (sha1_function imm B C D ∷ rotl 32 5 A ∷ W0E ∷ sha1_constant imm ∷ [])
    ∷ A ∷ rotl 32 30 B ∷ C ∷ D ∷ []

-- each other round, from A to E
unfoldable pub sha1rnds4_next : (imm : ℕ) → List ℕ → ℕ → List ℕ
sha1rnds4_next imm v W =
    let A = slice_index v 0 in
    let B = slice_index v 1 in
    let C = slice_index v 2 in
    let D = slice_index v 3 in
    let E = slice_index v 4 in
    sum_words 32 (sha1_function imm B C D ∷ rotl 32 5 A ∷ W ∷ E ∷ sha1_constant imm ∷ [])
    ∷ A ∷ rotl 32 30 B ∷ C ∷ D ∷ []

-- SHA1RNDS4 src1, src2, imm
abbrev pub sha1rnds4 : (imm : ℕ) (src1 src2 : List ℕ) → List ℕ
sha1rnds4 imm src1 src2 =
    let A = slice_index src1 3 in
    let B = slice_index src1 2 in
    let C = slice_index src1 1 in
    let D = slice_index src1 0 in
    let W0E = slice_index src2 3 in
    let W1 = slice_index src2 2 in
    let W2 = slice_index src2 1 in
    let W3 = slice_index src2 0 in
    let first = sha1rnds4_first imm (A ∷ B ∷ C ∷ D ∷ []) W0E in
    let next = sha1rnds4_next imm in
    let fourth = slice_index (next (next (next first W1) W2) W3) in
    fourth 3 ∷ fourth 2 ∷ fourth 1 ∷ fourth 0 ∷ []

-- SHA1NEXTE src1, src2
abbrev pub sha1nexte : (src1 src2 : List ℕ) → List ℕ
sha1nexte src1 src2 =
    let TMP = rotl 32 30 (slice_index src1 3) in
    slice_index src2 0 ∷ slice_index src2 1 ∷ slice_index src2 2
    ∷ add_words 32 (slice_index src2 3) TMP ∷ []

-- SHA1MSG1 src1, src2
abbrev pub sha1msg1 : (src1 src2 : List ℕ) → List ℕ
sha1msg1 src1 src2 =
    let W0 = slice_index src1 3 in
    let W1 = slice_index src1 2 in
    let W2 = slice_index src1 1 in
    let W3 = slice_index src1 0 in
    let W4 = slice_index src2 3 in
    let W5 = slice_index src2 2 in
    (W5 ⊕ W3) ∷ (W4 ⊕ W2) ∷ (W3 ⊕ W1) ∷ (W2 ⊕ W0) ∷ []

-- SHA1MSG2 src1, src2
abbrev pub sha1msg2 : (src1 src2 : List ℕ) → List ℕ
sha1msg2 src1 src2 =
    let W13 = slice_index src2 2 in
    let W14 = slice_index src2 1 in
    let W15 = slice_index src2 0 in
    let W16 = rotl 32 1 (slice_index src1 3 ⊕ W13) in
    let W17 = rotl 32 1 (slice_index src1 2 ⊕ W14) in
    let W18 = rotl 32 1 (slice_index src1 1 ⊕ W15) in
    let W19 = rotl 32 1 (slice_index src1 0 ⊕ W16) in
    W19 ∷ W18 ∷ W17 ∷ W16 ∷ []

-- a step of SHA1C, SHA1P and SHA1M, by their function: the words of Y : X after it, the lowest
-- first, from those before and an element of W
unfoldable pub sha1hash_step : (function : ℕ → ℕ → ℕ → ℕ) → List ℕ → ℕ → List ℕ
sha1hash_step function YX W =
    let X = slice_index YX in
    let Y = slice_index YX 4 in
    let t = function (X 1) (X 2) (X 3) in
    sum_words 32 (Y ∷ rotl 32 5 (X 0) ∷ t ∷ W ∷ []) ∷ X 0 ∷ rotl 32 30 (X 1) ∷ X 2 ∷ X 3 ∷ []

-- their four steps: the words of X
abbrev pub sha1hash : (function : ℕ → ℕ → ℕ → ℕ) (X : List ℕ) (Y : ℕ) (W : List ℕ) → List ℕ
sha1hash function X Y W =
    let x = slice_index X in
    let w = slice_index W in
    let step = sha1hash_step function in
    let YX = slice_index
    (step (step (step (step (x 0 ∷ x 1 ∷ x 2 ∷ x 3 ∷ Y ∷ []) (w 0)) (w 1)) (w 2)) (w 3)) in
    YX 0 ∷ YX 1 ∷ YX 2 ∷ YX 3 ∷ []

-- SHA1C d, n, m
abbrev pub sha1c : (d : List ℕ) (n : ℕ) (m : List ℕ) → List ℕ
sha1c d n m = sha1hash (choose 32) d n m

-- SHA1P d, n, m
abbrev pub sha1p : (d : List ℕ) (n : ℕ) (m : List ℕ) → List ℕ
sha1p d n m = sha1hash parity d n m

-- SHA1M d, n, m
abbrev pub sha1m : (d : List ℕ) (n : ℕ) (m : List ℕ) → List ℕ
sha1m d n m = sha1hash majority d n m

-- SHA1H n
abbrev pub sha1h : ℕ → ℕ
sha1h n = rotl 32 30 n

-- SHA1SU0 d, n, m
abbrev pub sha1su0 : (d n m : List ℕ) → List ℕ
sha1su0 d n m =
    let operand1 = slice_index d in
    let operand2 = slice_index n in
    let operand3 = slice_index m in
    (operand1 2 ⊕ operand1 0 ⊕ operand3 0) ∷ (operand1 3 ⊕ operand1 1 ⊕ operand3 1)
    ∷ (operand2 0 ⊕ operand1 2 ⊕ operand3 2) ∷ (operand2 1 ⊕ operand1 3 ⊕ operand3 3) ∷ []

-- SHA1SU1 d, n
abbrev pub sha1su1 : (d n : List ℕ) → List ℕ
sha1su1 d n =
    let operand1 = slice_index d in
    let operand2 = slice_index n in
    let T0 = operand1 0 ⊕ operand2 1 in
    let T1 = operand1 1 ⊕ operand2 2 in
    let T2 = operand1 2 ⊕ operand2 3 in
    let T3 = operand1 3 in
    rotl 32 1 T0 ∷ rotl 32 1 T1 ∷ rotl 32 1 T2 ∷ (rotl 32 1 T3 ⊕ rotl 32 2 T0) ∷ []
