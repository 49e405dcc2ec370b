-- SPDX-License-Identifier: ISC
use Rattle.std.proofs.Common.{Option}
use Rattle.std.proofs.lemmas.Result.{IfOk-weaker}
use Rattle.std.specs.Prelude.{IsSomeAnd, None, Some}
use Rattle.ring.specs.declared.digest.algorithm.TheConstants.{SHA256}
use Rattle.ring_examples.proofs.sums.outcome_of_bytes.Goals as goal

some-weaker : {T : Type 0} (given : Option T) {P Q : T → Type 0} → ((x : T) → P x → Q x)
    → IsSomeAnd given P → IsSomeAnd given Q
some-weaker None to is = is
some-weaker (Some x) to is = to x is

pub returns : goal.returns
returns c =
    let at = rw c.in_ok-vec.ensures.items at c.new-sums.ensures in
    IfOk-weaker c.next_outcome.result _ _
    (λ given is. some-weaker given
    (λ outcome. c.bytes_in_memory_do_not_fail.ensures SHA256 c.args.bytes outcome)
    (is SHA256 _ at).is.0)
    c.next_outcome.ensures
