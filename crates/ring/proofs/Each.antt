-- SPDX-License-Identifier: ISC
-- Lists of messages and of their digests.
use Rattle.std.proofs.lemmas.Grind.{common_steps}
use Rattle.std.proofs.Common.{◌≡◌, ℕ, ◌+◌, ◌-◌, ◌*◌, ◌<◌, ◌≤◌, List, [], ◌∷◌, ◌++◌, length, take}
use Rattle.std.proofs.Common.{drop, get_or, map, slice_set, ap, ◌∙◌, arith, take-add, Bor}
use Rattle.std.proofs.Math.ListN.{get_or-map}
use Rattle.std.proofs.lemmas.List.{drop_more, get_or-set_other, get_or-set_same, length-take-le}
use Rattle.std.proofs.lemmas.List.{map-append}
use Rattle.std.proofs.lemmas.List.Sums.{sum_by-append}
use Rattle.ring.specs.Prelude.{Algorithm, AreDigests, CanDigestEach, Counts, Digest, IsDigest}
use Rattle.ring.specs.Prelude.{each_blocks, message_at, padded_blocks, raised}
use Rattle.ring_core.proofs.Costs.{raised-none, raised-raised}
use Rattle.ring.proofs.Sums.{raised-sum}

-- the message at a place, as an index reads it
pub message-read : (messages : List (Bor (List ℕ))) (k : ℕ)
    → message_at messages k ≡ (get_or messages k record { ref_ptr = (0, 0); now = [] }).now
message-read messages k =
    get_or-map (λ message. message.now) messages k record { ref_ptr = (0, 0); now = [] }

-- what holds of the first items of a list
abbrev pub HoldsOfFirst : {X : Type 0} → (ℕ → X → Type 0) → ℕ → List X → X → Type 0
HoldsOfFirst P i xs d = (k : ℕ) → k < i → P k (get_or xs k d)

-- and of one that is put to the next place
pub set-more : {X : Type 0} {i : ℕ} (P : ℕ → X → Type 0) (xs : List X) (x d : X) → i < length xs
    → HoldsOfFirst P i xs d → P i x → HoldsOfFirst P (i + 1) (slice_set xs i x) d
set-more {i = i} P xs x d room have here =
    grind (arith, common_steps, get_or-set_other, get_or-set_same)

-- what a rise and then another make
pub raised-then : (m0 : Counts) {m1 m2 : Counts} (a b : ℕ) → m1 ≡ raised m0 a 0 → m2 ≡ raised m1 b 0
    → m2 ≡ raised m0 (a + b) 0
raised-then m0 a b e1 e2 = e2 ∙ rw e1 (raised-raised m0 a 0 b 0)

-- of n messages whose first k blocks ran in lanes, one more is done: it has b blocks
pub lanes-left : (n i k b : ℕ) → i < n → k ≤ b → (n - i) * k + (b - k) ≡ b + (n - (i + 1)) * k
lanes-left n i k b below fits =
    let turn : n - i ≡ n - (i + 1) + 1 = omega arith in
    let left : (n - i) * k ≡ (n - (i + 1)) * k + k = rw turn (grind arith) in
    omega (arith, left, fits)

pub message_at-append : (ms ns : List (Bor (List ℕ))) (k : ℕ)
    → message_at (ms ++ ns) k ≡ get_or (map (λ m. m.now) ms ++ map (λ n. n.now) ns) k []
message_at-append ms ns k = ap (λ (xs : List (List ℕ)). get_or xs k []) (map-append _ ms ns)

-- the digests of two lists, one after the other
pub digests-append : {ds es : List Digest} {a : Algorithm} (ms ns : List (Bor (List ℕ)))
    → AreDigests ds a ms → AreDigests es a ns → AreDigests (ds ++ es) a (ms ++ ns)
digests-append {ds} {es} {a} ms ns first second =
    grind (arith, common_steps, message_at-append)

module _ (a : Algorithm) (messages : List (Bor (List ℕ))) (n k : ℕ) where
  -- the blocks of the first n messages and of the next k
  pub each_blocks-more : each_blocks a (take n messages) + each_blocks a (take k (drop n messages))
      ≡ each_blocks a (take (n + k) messages)
  each_blocks-more =
      grind (arith, common_steps, sum_by-append, take-add)

  -- and their digests
  pub digests-more : {xs ys zs : List Digest} → AreDigests xs a (take n messages)
      → zs ≡ xs ++ ys → AreDigests ys a (take k (drop n messages))
      → AreDigests zs a (take (n + k) messages)
  digests-more have put are =
      rw (put, take-add n k messages) (digests-append (take n messages) _ have are)

-- the first n of the messages have their digests in out
pub record HaveDigests (a : Algorithm) (messages : List (Bor (List ℕ))) (n : ℕ)
    (out : List Digest) (before now : Counts) : Type 0 where
  pub digests : AreDigests (take n out) a (take n messages)
  pub cost : now ≡ raised before (each_blocks a (take n messages)) 0

pub digests-none : (a : Algorithm) (messages : List (Bor (List ℕ))) (out : List Digest)
    (m : Counts) → HaveDigests a messages 0 out m m
digests-none a messages out m =
    grind (arith, common_steps, raised-none)

-- and the next k
pub digests-next : {a : Algorithm} {messages : List (Bor (List ℕ))} {before now after : Counts}
    {out ys next : List Digest} (n k : ℕ) → HaveDigests a messages n out before now
    → take (n + k) next ≡ take n out ++ ys → AreDigests ys a (take k (drop n messages))
    → after ≡ raised now (each_blocks a (take k (drop n messages))) 0
    → HaveDigests a messages (n + k) next before after
digests-next {a} {messages} {before} n k have put are cost =
    record {
      digests = digests-more a messages n k have.digests put are;
      cost = raised-sum before _ _ have.cost cost (each_blocks-more a messages n k);
    }

-- the message at a place of some of the messages
pub message_at-part : (messages : List (Bor (List ℕ))) (i k j : ℕ) → j < k
    → message_at (take k (drop i messages)) j ≡ message_at messages (i + j)
message_at-part messages i k j below =
    grind (arith, common_steps, message-read)

-- some of the messages can be digested where all can
pub can-part : {n : ℕ} (a : Algorithm) (messages : List (Bor (List ℕ))) (i k : ℕ)
    → CanDigestEach a messages n → i + k ≤ n → CanDigestEach a (take k (drop i messages)) k
can-part a messages i k can fits =
    grind (arith, common_steps, length-take-le, message_at-part)

-- a single message of a list
module _ (a : Algorithm) (messages : List (Bor (List ℕ))) (i : ℕ) where
  one-message : i < length messages → take 1 (drop i messages)
      ≡ get_or messages i record { ref_ptr = (0, 0); now = [] } ∷ []
  one-message below = ap (take 1) (drop_more messages i _ below)

  pub digests-one : {d : Digest} → i < length messages
      → IsDigest d a (get_or messages i record { ref_ptr = (0, 0); now = [] }).now
      → AreDigests (d ∷ []) a (take 1 (drop i messages))
  digests-one {d} below is =
      grind (arith, common_steps, one-message)

  pub blocks-one : i < length messages → each_blocks a (take 1 (drop i messages))
      ≡ padded_blocks a
      (length (get_or messages i record { ref_ptr = (0, 0); now = [] }).now)
  blocks-one below = ap (each_blocks a) (one-message below) ∙ omega arith

pub ruleset reads = (common_steps, message-read)
