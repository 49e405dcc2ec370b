-- SPDX-License-Identifier: ISC
-- Several contexts, each updated with a piece.
use Rattle.std.specs.Prelude.{◌≡◌, ℕ, ◌+◌, ◌%◌, ◌<◌, ◌≤◌, List, ◌++◌, length, sum_by}
use Rattle.std.specs.Borrow.{Bor}
use Rattle.std.specs.List.{slice_index_or, zip}
use Rattle.ring.specs.Algorithm.{block_len}
use Rattle.ring.specs.Context.{StandsFor, context_algorithm, cut_off, digest_with, message_len}
use Rattle.ring.specs.Context.{pending_len}
use Rattle.ring.specs.Cost.{whole_blocks}
use Rattle.ring.specs.Each.{message_at}
use Rattle.ring.specs.Items.{EachChange}
use Rattle.ring.specs.declared.digest.context.Context.{Context}

-- the context `new` is `old` after the piece
pub record IsUpdated (old new : Context) (piece : List ℕ) : Type 0 where
  pub stands : (m : List ℕ) → StandsFor old m → StandsFor new (m ++ piece)
  pub any : (y : List ℕ) (n : ℕ) → digest_with new y n ≡ digest_with old (piece ++ y) n
  pub algorithm : context_algorithm new ≡ context_algorithm old
  pub counted : message_len new ≡ cut_off (message_len old + length piece)
  pub pending : pending_len new
      ≡ (pending_len old + length piece) % block_len (context_algorithm old)

-- there are as many contexts as before, and each is updated with the piece at its place
pub record AreUpdated (old new : List Context) (pieces : List (Bor (List ℕ))) : Type 0 where
  pub count : length new ≡ length old
  pub each : EachChange old new (λ k before after.
      IsUpdated before after (message_at pieces k))

-- the first n contexts are of the first one's algorithm
abbrev pub AreAlike : List Context → ℕ → Type 0
AreAlike contexts n =
    (i : ℕ) (c : Context) → i < n → context_algorithm (slice_index_or contexts i c)
    ≡ context_algorithm (slice_index_or contexts 0 c)

-- the blocks that n bytes more complete in a context
abbrev pub update_blocks : Context → ℕ → ℕ
update_blocks c n = whole_blocks (context_algorithm c) (pending_len c + n)

-- the blocks that all pieces complete, each in the context at its place
abbrev pub update_each_blocks : List Context → List (Bor (List ℕ)) → ℕ
update_each_blocks contexts pieces =
    sum_by (λ place. update_blocks place.0 (length place.1.now)) (zip contexts pieces)

-- the context `old` became `mid` by the front of the piece, and `rest` is still to come
pub record IsPartway (old mid : Context) (piece rest : List ℕ) : Type 0 where
  pub algorithm : context_algorithm mid ≡ context_algorithm old
  pub goes_on : (new : Context) → IsUpdated mid new rest → IsUpdated old new piece
  pub within : update_blocks mid (length rest) ≤ update_blocks old (length piece)
