-- SPDX-License-Identifier: ISC
use Rattle.std.proofs.Common.{◌≡◌, ◌∙◌, ap, arith, get_or, length, sym}
use Rattle.std.proofs.lemmas.Grind.{common_steps}
use Rattle.std.proofs.lemmas.List.{get_or_default}
use Rattle.ring.specs.Prelude.{Key}
use Rattle.ring.proofs.Each.{message-read}
use Rattle.ring.proofs.lemmas.digest.Outputs.{length-bytes_high_first}
use Rattle.ring.proofs.lemmas.pbkdf2.Places.{risen-next, risen-none}
use Rattle.ring.proofs.lemmas.pbkdf2.Rounds.{is_round-next, round_on-next, round_on-none}
use Rattle.ring.proofs.lemmas.pbkdf2.Starts.{read-within, starts-next}
use Rattle.ring.proofs.pbkdf2.rounds.set_starts.Goals as goal

pub starts-init : goal.starts-init
starts-init c =
    let d = c.args.derivation.now in
    record {
      here = sym (round_on-none d.algorithm d.len c.args.first);
      round = c.requires.rounds.first;
      starts = record { each = λ k below key. absurd (omega (arith, below)) };
      cost = risen-none;
    }

pub set-requires-clause-within : goal.set-requires-clause-within
set-requires-clause-within c =
    let found = c.index-derivation-round in
    let read = read-within c.requires.rounds c.starts-test.true c.starts.invariant.here found.is in
    let four = ap length c.to_be_bytes.ensures ∙ length-bytes_high_first 4 c.starts.round.index in
    rw four (rw found.is at read.1.1)

pub starts-preserved : goal.starts-preserved
starts-preserved c =
    let d = c.args.derivation.now in
    let a = d.algorithm in
    let keys = d.keys.now in
    let salts = d.salts.now in
    let h = c.starts.invariant in
    let i = c.starts.i in
    let q = c.starts.round in
    let found = c.index-derivation-round in
    let read = read-within c.requires.rounds c.starts-test.true h.here found.is in
    let key = get_or keys q.place found.result in
    let is : (other : Key) → key ≡ get_or keys q.place other =
    λ other. get_or_default keys q.place _ other read.0 in
    let same = rw found.is at read.1.0 in
    let set = c.set.ensures in
    let four = ap length c.to_be_bytes.ensures ∙ length-bytes_high_first 4 q.index in
    let here = rw (c.to_be_bytes.ensures, same) at set.here in
    record {
      here = grind (arith, common_steps, h.here, round_on-next a d.len c.args.first i);
      round = rw c.round_after-round.ensures (is_round-next h.round);
      starts = starts-next i h.starts (λ k key m below. set.others a k key m (omega (arith, below)))
          (λ other. rw (← h.here, ← is other, message-read salts q.place) here);
      cost = risen-next h.cost
          (rw (← h.here, message-read salts q.place) (rw (four, same) at set.cost));
    }

pub returns-clause-starts : goal.returns-clause-starts
returns-clause-starts c =
    let end : c.starts.i ≡ c.args.lanes = omega (arith, c.starts.auto.i-end, c.starts-test.false) in
    rw end at c.starts.invariant.starts
