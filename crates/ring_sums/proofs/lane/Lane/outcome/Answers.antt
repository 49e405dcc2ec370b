-- SPDX-License-Identifier: ISC
use Rattle.std.proofs.Common.{◌≡◌, ◌<◌, ◌++◌, List, ℕ, IsErr, IsNone, length}
use Rattle.std.proofs.Common.{refl, subst}
use Rattle.std.proofs.KnownBytes.{Consumes-whole}
use Rattle.ring.specs.Prelude.{IsDigest, StandsFor, context_algorithm, max_input_len}
use Rattle.ring.specs.declared.digest.algorithm.Algorithm.{Algorithm}
use Rattle.ring_sums.specs.Lane.{left_of}
use Rattle.ring_sums.proofs.lane.Lane.outcome.Goals as goal
use Rattle.ring_sums.proofs.lane.Lane.outcome.Goals.{in-Some, in-None+in-Ok, in-None+in-Err}

pub returns : goal.returns
returns g c = λ a first is over.
    let lane = c.args.self in
    let updated = c.update.new.self in
    let of : context_algorithm updated ≡ a = rw c.update.ensures.algorithm is.algorithm in
    let stands : (m : List ℕ) → StandsFor c.args.context m → StandsFor updated (m ++ left_of lane) =
    λ m s. subst (λ (z : List ℕ). StandsFor updated (m ++ z)) c.left.ensures
    (c.update.ensures.stands m s) in
    elim c.match-self.branch [
      | in-Some w ↦
          rw (w.outcome-is, ← is.same) (rw w.in-Some.is at is.failed)
      | in-None+in-Ok w ↦
          let none : IsNone lane.failure = rw w.in-None.is refl in
          let taken = is.taken none in
          let all : List ℕ = taken.bytes ++ left_of lane in
          let made : IsDigest w.in-Ok.digest a all =
          subst (λ (z : Algorithm). IsDigest w.in-Ok.digest z all) of
          (w.in-Ok.ensures.ok all (stands taken.bytes taken.stands)) in
          rw w.outcome-is (Consumes-whole _ _ all (IsDigest w.in-Ok.digest a)
          taken.read (is.end none (over none)) made)
      | in-None+in-Err w ↦
          let none : IsNone lane.failure = rw w.in-None.is refl in
          let taken = is.taken none in
          let all : List ℕ = taken.bytes ++ left_of lane in
          let bad : IsErr w.finish.result = rw w.in-Err.is refl in
          let past : max_input_len a < length all =
          subst (λ (z : Algorithm). max_input_len z < length all) of
          ((w.finish.ensures.refused_of all (stands taken.bytes taken.stands)).0 bad) in
          rw w.outcome-is (Consumes-whole _ _ all (λ bytes. max_input_len a < length bytes)
          taken.read (is.end none (over none)) past)
    ]
