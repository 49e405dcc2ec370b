-- SPDX-License-Identifier: ISC
-- The walk from a node to the root, which both verifications take (RFC 9162, sections 2.1.3.2 and
-- 2.1.4.2): a step for each value of a path. fn is the node's index, and sn that of the last node
-- of its level.
use Rattle.std.specs.Prelude.{◌≡◌, ◌≢◌, ◌/◌, ◌%◌, ◌<◌, ◌==◌, ◌||◌, [], ◌∷◌, ◌++◌, ℕ, zero, suc}
use Rattle.std.specs.Prelude.{Bool, true, false, cond, List, length, get_or, Option, None, Some}
use Rattle.ring_merkle.specs.Tree.{node_hash, sha256}

-- fn after it is shifted right until a test holds, at most h times
unfoldable pub shifted_node : (ℕ → Bool) → (h fn : ℕ) → ℕ
shifted_node test zero fn = fn
shifted_node test (suc h) fn = cond (test fn) fn (shifted_node test h (fn / 2))

-- sn after it is shifted equally
unfoldable pub shifted_last : (ℕ → Bool) → (h fn sn : ℕ) → ℕ
shifted_last test zero fn sn = sn
shifted_last test (suc h) fn sn = cond (test fn) sn (shifted_last test h (fn / 2) (sn / 2))

-- LSB(fn) is set or fn is 0
abbrev pub is_odd_or_zero : ℕ → Bool
is_odd_or_zero fn = fn % 2 == 1 || fn == 0

-- LSB(fn) is not set
abbrev pub is_even : ℕ → Bool
is_even fn = fn % 2 == 0

-- LSB(fn) is set, or fn is equal to sn: the value stands on the left
abbrev pub is_right : (fn sn : ℕ) → Bool
is_right fn sn = fn % 2 == 1 || fn == sn

-- fn after a step: where the value stands on the left, fn is shifted until LSB(fn) is set or fn is
-- 0, and then one time more
abbrev pub next_node : (fn sn : ℕ) → ℕ
next_node fn sn = cond (is_right fn sn) (shifted_node is_odd_or_zero 64 fn / 2) (fn / 2)

-- sn after a step: it is shifted equally
abbrev pub next_last : (fn sn : ℕ) → ℕ
next_last fn sn = cond (is_right fn sn) (shifted_last is_odd_or_zero 64 fn sn / 2) (sn / 2)

-- what a step hashes: the value p and r, in the order in which they stand
abbrev pub step_input : (right : Bool) → (p r : List ℕ) → List ℕ
step_input right p r = cond right (1 ∷ p ++ r) (1 ∷ r ++ p)

-- a step to the root of the whole tree
abbrev pub whole_step : (right : Bool) → (p r : List ℕ) → List ℕ
whole_step right p r = sha256 (step_input right p r)

-- a step to the root of its beginning: a value on the right came later, and leaves r as it is
abbrev pub front_step : (right : Bool) → (p r : List ℕ) → List ℕ
front_step right p r = cond right (node_hash p r) r

-- a step to either root
abbrev pub step_of : (whole : Bool) → Bool → (p r : List ℕ) → List ℕ
step_of true = whole_step
step_of false = front_step

-- r after all steps: none if sn is 0 before a step, or is not 0 at the end
unfoldable pub walk : (step : Bool → List ℕ → List ℕ → List ℕ) → (fn sn : ℕ) → (r : List ℕ)
    → (path : List (List ℕ)) → Option (List ℕ)
walk step fn sn r [] = cond (sn == 0) (Some r) None
walk step fn sn r (p ∷ ps) =
    cond (sn == 0) None
    (walk step (next_node fn sn) (next_last fn sn) (step (is_right fn sn) p r) ps)

-- the inputs that are hashed on the walk to the root of the whole tree, step by step
unfoldable pub walk_inputs : (fn sn : ℕ) → (r : List ℕ) → (path : List (List ℕ))
    → List (List ℕ)
walk_inputs fn sn r [] = []
walk_inputs fn sn r (p ∷ ps) =
    step_input (is_right fn sn) p r
    ∷ walk_inputs (next_node fn sn) (next_last fn sn) (whole_step (is_right fn sn) p r) ps

-- a collision: at one step of two walks two different inputs have one digest
pub record IsCollision (xs ys : List (List ℕ)) : Type 0 where
  pub step : ℕ
  pub in_first : step < length xs
  pub in_second : step < length ys
  pub differ : get_or xs step [] ≢ get_or ys step []
  pub agree : sha256 (get_or xs step []) ≡ sha256 (get_or ys step [])
