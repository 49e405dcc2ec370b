-- SPDX-License-Identifier: ISC
-- What the verifications cost.
use Rattle.std.specs.Prelude.{◌+◌, ◌-◌, ◌*◌, ◌/◌, ◌%◌, ◌==◌, ◌&&◌, [], ◌∷◌, ℕ, zero, suc, Bool}
use Rattle.std.specs.Prelude.{cond, false, count_ones, List, length, nat_lt, drop}
use Rattle.std.specs.Int.{is_power_of_two}
use Rattle.ring_merkle.specs.Consistency.{first_last, first_node, subproof_of, values_of}
use Rattle.ring_merkle.specs.Walk.{is_right, next_last, next_node}

-- the node is the last one of its level, and has no sibling there
abbrev pub is_alone : (fn sn : ℕ) → Bool
is_alone fn sn = fn % 2 == 0 && fn == sn

-- for each level with a sibling, of at most h levels, whether it stands on the left
unfoldable pub sides : (h fn sn : ℕ) → List Bool
sides zero fn sn = []
sides (suc h) fn sn =
    cond (is_alone fn sn)
    (sides h (fn / 2) (sn / 2))
    (is_right fn sn ∷ sides h (fn / 2) (sn / 2))

-- how many values a path from a node to the root has: one for each sibling
abbrev pub path_len : (fn sn : ℕ) → ℕ
path_len fn sn = length (sides 64 fn sn)

-- how many of a path's values stand on the left
unfoldable pub left_count : (fn sn : ℕ) → (path : List (List ℕ)) → ℕ
left_count fn sn [] = 0
left_count fn sn (p ∷ ps) =
    cond (is_right fn sn) 1 0 + left_count (next_node fn sn) (next_last fn sn) ps

-- how many of a path's values are hashed on the walk to either root: to the larger tree's all, to
-- the smaller one's those on the left
abbrev pub hashed_count : (whole : Bool) → (fn sn : ℕ) → (path : List (List ℕ)) → ℕ
hashed_count whole fn sn path = cond whole (length path) (left_count fn sn path)

-- a node's hash: a byte and two hashes, with the padding, are two blocks
abbrev pub node_blocks : ℕ
node_blocks = 2

-- the hash of nothing takes one block
abbrev pub nothing_blocks : ℕ
nothing_blocks = 1

-- the blocks of a leaf more: a node for each bit of n that is set, from the lowest one up to the
-- first that is not
abbrev pub push_blocks : (n : ℕ) → ℕ
push_blocks n = node_blocks * (1 + count_ones n - count_ones (n + 1))

-- the blocks of the root of n leaves: a tree has a complete subtree for each bit of n that is set,
-- and these are joined
abbrev pub root_blocks : (n : ℕ) → ℕ
root_blocks n = cond (n == 0) nothing_blocks (node_blocks * (count_ones n - 1))

-- the blocks of a whole tree of n leaves: it has one node fewer
abbrev pub tree_blocks : (n : ℕ) → ℕ
tree_blocks n = cond (n == 0) nothing_blocks (node_blocks * (n - 1))

-- the blocks of making the path of a leaf of n, which has len values: the nodes above the leaf are
-- not hashed, and there is one for each value
abbrev pub inclusion_path_blocks : (n len : ℕ) → ℕ
inclusion_path_blocks n len = node_blocks * (n - 1 - len)

-- how many leaves a proof of len values that m leaves are the beginning leaves out: these, where
-- their root is no value of it
abbrev pub left_out : (m : ℕ) → (leaves : List (List ℕ)) → (len : ℕ) → ℕ
left_out m xs len = cond (len == length (subproof_of m xs false)) 0 m

-- the blocks of making the proof of len values that m leaves are the beginning of n: the nodes
-- above the last node of the beginning are not hashed. Where m is an exact power of 2, this node
-- is the first root, which is not hashed; else it is a value of the proof
abbrev pub consistency_path_blocks : (m n len : ℕ) → ℕ
consistency_path_blocks m n len = node_blocks * cond (is_power_of_two m) (n - m - len) (n - len)

-- the blocks of the verification of a path of the leaf m of n: none where it has a wrong length
abbrev pub inclusion_blocks : (m n : ℕ) → (path : List (List ℕ)) → ℕ
inclusion_blocks m n path =
    cond (nat_lt m n && length path == path_len m (n - 1)) (node_blocks * length path) 0

-- the blocks of the steps to both roots: both hash the values on the left, and the larger tree's
-- alone those on the right
abbrev pub both_blocks : (fn sn : ℕ) → (path : List (List ℕ)) → ℕ
both_blocks fn sn path =
    cond (length path == path_len fn sn) (node_blocks * (length path + left_count fn sn path)) 0

-- the blocks of the verification of a consistency proof
abbrev pub consistency_blocks : (m n : ℕ) → (first : List ℕ) → (path : List (List ℕ)) → ℕ
consistency_blocks m n first path =
    cond (nat_lt 0 m && nat_lt m n && nat_lt 0 (length path))
    (both_blocks (first_node m) (first_last m n) (drop 1 (values_of m first path)))
    0
