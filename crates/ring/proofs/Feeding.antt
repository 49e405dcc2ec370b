-- SPDX-License-Identifier: ISC
-- A context that takes a message piece by piece: what it stands for, what it counts and what that
-- costs.
use Rattle.std.proofs.lemmas.Grind.{common_steps}
use Rattle.std.proofs.Common.{◌≡◌, ℕ, ◌+◌, ◌%◌, ◌<◌, ◌≤◌, List, [], ◌++◌, length, take, ◌∙◌, arith}
use Rattle.std.proofs.Common.{length-append, slice_index_or}
use Rattle.std.specs.Borrow.{Bor}
use Rattle.ring.specs.Prelude.{Algorithm, Counts, Key, KeyStandsFor, StandsFor, TagStandsFor}
use Rattle.ring.specs.Prelude.{block_len, context_algorithm, cut_off, joined, key_algorithm}
use Rattle.ring.specs.Prelude.{message_len, pending_len, raised, signing_algorithm, signing_len}
use Rattle.ring.specs.Prelude.{TagIsUpdated, signing_pending, whole_blocks}
use Rattle.ring.specs.declared.digest.context.Context as digest
use Rattle.ring.specs.declared.hmac.context.Context as hmac
use Rattle.ring.proofs.Lengths.{HasCounted, counted_more, counted_none}
use Rattle.ring.proofs.Pieces.{joined-more}

-- a context of the algorithm a, which it tells as b, took the bytes m after the first `base`, at
-- the cost of their whole blocks: it counts `count` bytes, of which `pending` wait, and P says what
-- it stands for
pub record HasFed (P : List ℕ → Type 0) (a b : Algorithm) (base count pending : ℕ) (m : List ℕ)
    (before now : Counts) : Type 0 where
  pub algorithm : b ≡ a
  pub counted : count ≡ cut_off (base + length m)
  pub taken : HasCounted a pending (length m) before now
  pub stands : P m

-- a digest's context took m
abbrev pub HasFedDigest : Algorithm → digest.Context → List ℕ → (before now : Counts) → Type 0
HasFedDigest a c = HasFed (StandsFor c) a (context_algorithm c) 0 (message_len c) (pending_len c)

-- a tag's context took m, behind the key's block
abbrev pub HasFedTag : Key → hmac.Context → List ℕ → (before now : Counts) → Type 0
HasFedTag key c =
    HasFed (λ m. (k : List ℕ) → KeyStandsFor key k → TagStandsFor c k m) (key_algorithm key)
    (signing_algorithm c) (block_len (key_algorithm key)) (signing_len c) (signing_pending c)

module _ {P : List ℕ → Type 0} {a b : Algorithm} {base count pending : ℕ} where
  -- a new context
  pub fed_none : {m : Counts} → b ≡ a → count ≡ base → base ≤ 128 → pending ≡ 0 → P []
      → HasFed P a b base count pending [] m m
  fed_none ea ec small ep s =
      grind (arith, common_steps, counted_none)

  -- the bytes d more
  pub fed_more : {Q : List ℕ → Type 0} {c : Algorithm} {more left : ℕ} {m : List ℕ} (d : List ℕ)
      {m0 m1 m2 : Counts} → HasFed P a b base count pending m m0 m1
      → c ≡ b → more ≡ cut_off (count + length d) → left ≡ (pending + length d) % block_len b
      → ((x : List ℕ) → P x → Q (x ++ d))
      → m2 ≡ raised m1 (whole_blocks b (pending + length d)) 0
      → HasFed Q a c base more left (m ++ d) m0 m2
  fed_more {m = m} d t ea ec ep s em =
      record {
        algorithm = ea ∙ t.algorithm;
        counted = omega (arith, ec, t.counted, length-append m d);
        taken = rw (length-append m d) (counted_more (length d) t.algorithm t.taken ep em);
        stands = s m t.stands;
      }

  -- one piece more, after the bytes x and the pieces before it
  pub fed_piece : (x : List ℕ) (pieces : List (Bor (List ℕ))) (i : ℕ) (d : Bor (List ℕ))
      {m0 m1 : Counts} → i < length pieces
      → HasFed P a b base count pending
      ((x ++ joined (take i pieces)) ++ (slice_index_or pieces i d).now) m0 m1
      → HasFed P a b base count pending (x ++ joined (take (i + 1) pieces)) m0 m1
  fed_piece x pieces i d below t =
      grind (arith, common_steps, joined-more)

-- a tag's context took the bytes d more
pub fed_tag-more : {key : Key} {c n : hmac.Context} {m : List ℕ} (d : List ℕ) {m0 m1 m2 : Counts}
    → HasFedTag key c m m0 m1 → TagIsUpdated c n d
    → m2 ≡ raised m1 (whole_blocks (signing_algorithm c) (signing_pending c + length d)) 0
    → HasFedTag key n (m ++ d) m0 m2
fed_tag-more d t is em =
    fed_more d t is.algorithm is.counted is.pending (λ x stands k h. is.stands k x (stands k h)) em
