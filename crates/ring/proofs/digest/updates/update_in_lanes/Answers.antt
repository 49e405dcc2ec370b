-- SPDX-License-Identifier: ISC
use Rattle.std.proofs.lemmas.Grind.{common_steps}
use Rattle.std.proofs.Common.{◌≡◌, ℕ, ◌+◌, ◌-◌, ◌*◌, ◌<◌, ◌≤◌, ◌∙◌, ap, arith, get_or, length}
use Rattle.std.proofs.Common.{rules, sym, take, div-le_self, le-div_iff_mul-le}
use Rattle.std.proofs.lemmas.Nat.{le-div}
use Rattle.std.proofs.lemmas.List.{get_or-take, length-take}
use Rattle.std.proofs.lemmas.Option.{get_or_from_slice_get}
use Rattle.ring.specs.Prelude.{Context, HasWords, block_len, chaining_words, context_algorithm}
use Rattle.ring.specs.Prelude.{message_at, pending_len, update_blocks, update_each_blocks}
use Rattle.ring.specs.Prelude.{word_count, word_len, words}
use Rattle.ring.proofs.Each.{lanes-left, message-read}
use Rattle.ring.proofs.Sums.{raised-sum}
use Rattle.ring.proofs.Rows.{block_len-positive}
use Rattle.ring.proofs.lemmas.digest.Updates.{blocks-next, blocks-take, changed-at, changed-next}
use Rattle.ring.proofs.lemmas.digest.Updates.{changed-none, changed-other, message_at-take}
use Rattle.ring.proofs.digest.updates.update_in_lanes.Goals as goal

pub lanes-init : goal.lanes-init
lanes-init g c =
    let begun = c.complete_each-all.ensures in
    let mid = c.complete_each-all.new.contexts in
    let all = c.complete_each-all.result in
    let lanes = g.H.LaneStates.LANES in
    let n = c.fewest_blocks-count.result in
    let size : length mid ≡ lanes = begun.count ∙ c.requires.lanes in
    let long : length mid - 0 ≡ lanes = omega (arith, size) in
    let same = blocks-take {n = c.LANES.result} mid all (omega (arith, size, c.LANES.ensures)) in
    let total : ℕ = update_each_blocks c.args.contexts.now c.args.pieces.now in
    let before : ℕ = total - update_each_blocks mid all in
    let after : ℕ = total - update_each_blocks mid (take c.LANES.result all) + 0
    + (length mid - 0) * n in
    record {
      changed = changed-none _ mid;
      cost = raised-sum c.args.meter.now before (lanes * n) {s = after} begun.cost
          c.run_lanes.ensures.cost (omega (arith, same, ap (λ (z : ℕ). z * n) long));
    }

pub go_on-requires : goal.go_on-requires
go_on-requires g c =
    let i = c.lanes.i in
    let d = c.index-contexts-i.result in
    let a = c.args.algorithm in
    let begun = c.complete_each-all.ensures in
    let mid = c.complete_each-all.new.contexts in
    let below : i < g.H.LaneStates.LANES =
    omega (arith, c.lanes-test.true, begun.count, c.requires.lanes) in
    let here : i < length c.args.contexts.now = omega (arith, below, c.requires.lanes) in
    let there : i < length mid = omega (arith, here, begun.count) in
    let y = get_or c.lanes.contexts i d in
    let other : y ≡ get_or mid i d = changed-other i d c.lanes.invariant.changed (omega arith) in
    let is : context_algorithm y ≡ a =
    ap context_algorithm other ∙ (begun.partway i d here).algorithm
    ∙ c.requires.algorithm i d here in
    let all = c.complete_each-all.result in
    let rests = take c.LANES.result all in
    let given : i < length rests =
    omega (arith, below, c.LANES.ensures, c.requires.most, length-take c.LANES.result all) in
    let part = message_at-take all c.LANES.result i (omega (arith, below, c.LANES.ensures)) in
    let fewest = c.fewest_blocks-count.ensures i given in
    let long : ℕ = length (message_at rests i) in
    let s = c.state-state.result in
    let states = c.states_of-states.result in
    let n = c.LANES-2.result in
    let same : get_or states i s ≡ y.block.state =
    get_or_from_slice_get states i _ s (c.states_of-states.ensures.state i d there)
    ∙ ap (λ (z : Context). z.block.state) (sym other) in
    let first : g.H.LaneStates.lane i c.new-lanes.result ≡ words y.block.state =
    c.new-lanes.ensures i s
    (omega (arith, below, c.LANES-2.ensures, c.requires.most, length-take n states))
    ∙ ap words (get_or-take n states i s (omega (arith, c.LANES-2.ensures, below)) ∙ same) in
    let eight : length (words y.block.state) ≡ 8 =
    rw (← same) (c.states_of-states.ensures.eight i s (omega (arith, below))) in
    let lane = g.H.LaneStates.lane i c.new-lanes.result in
    let has : HasWords a (chaining_words a y.block.state) lane =
    record { chaining = ap (take (word_count a)) first; count = rw first eight } in
    let run = c.run_lanes.ensures in
    let input = message-read rests i in
    let whole = ap block_len is ∙ c.requires.whole in
    let sized = c.state-state.ensures.sized ∙ sym (g.met.H.RunBlocks.sized a c.requires.same)
    ∙ ap word_len (sym is) in
    let ran = run.words i _ below has in
    record {
      ready = λ some. ap pending_len other ∙ begun.ready i d there
          (rw (← part) (omega (arith, some, fewest, div-le_self long g.row.N)));
      fits = rw whole (rw input at fewest);
      sized = search (rules, sized);
      words = cc (ran.chaining, is, whole, input, c.state-state.ensures.words);
      spare = cc (run.spare i _ below has, is, first, c.state-state.ensures.words);
    }

pub lanes-preserved : goal.lanes-preserved
lanes-preserved g c =
    let i = c.lanes.i in
    let begun = c.complete_each-all.ensures in
    let mid = c.complete_each-all.new.contexts in
    let all = c.complete_each-all.result in
    let rests = take c.LANES.result all in
    let d = c.index-contexts-i.result in
    let y = get_or c.lanes.contexts i d in
    let have = c.lanes.invariant.changed in
    let n = c.fewest_blocks-count.result in
    let below : i < g.H.LaneStates.LANES =
    omega (arith, c.lanes-test.true, begun.count, c.requires.lanes) in
    let from : i < length c.args.contexts.now = omega (arith, below, c.requires.lanes) in
    let here : i < length mid = omega (arith, from, begun.count) in
    let there : i < length rests =
    omega (arith, below, c.LANES.ensures, c.requires.most, length-take c.LANES.result all) in
    let other : y ≡ get_or mid i d = changed-other i d have (omega arith) in
    let m : ℕ = length (message_at rests i) in
    let size : block_len (context_algorithm y) ≡ g.row.N =
    ap (λ (z : Context). block_len (context_algorithm z)) other
    ∙ ap block_len ((begun.partway i d from).algorithm ∙ c.requires.algorithm i d from)
    ∙ c.requires.whole in
    let pos : 0 < g.row.N = omega (arith, c.requires.whole, block_len-positive c.args.algorithm) in
    let fits = (le-div_iff_mul-le pos).0 (c.fewest_blocks-count.ensures i there) in
    let enough : n ≤ update_blocks y m =
    rw size (le-div n (pending_len y + m) g.row.N pos (omega (arith, fits))) in
    let own : update_blocks y m ≡ update_blocks (get_or mid i d) m =
    ap (λ (z : Context). update_blocks z m) other in
    let first = blocks-next mid rests i d here there in
    let left : ℕ = update_each_blocks c.args.contexts.now c.args.pieces.now
    - update_each_blocks mid rests in
    let made : ℕ = left + update_each_blocks (take i mid) (take i rests) + (length mid - i) * n in
    let next : ℕ = left + update_each_blocks (take (i + 1) mid) (take (i + 1) rests)
    + (length mid - (i + 1)) * n in
    record {
      changed = changed-next c.go_on.new.self have here (λ e.
          rw (← changed-at d e have here, message-read rests i) c.go_on.ensures.updated);
      cost = raised-sum c.args.meter.now made (update_blocks y m - n) {s = next}
          c.lanes.invariant.cost (rw (← message-read rests i) at c.go_on.ensures.cost)
          (omega (arith, first, own, lanes-left (length mid) i n (update_blocks y m) here enough));
    }

pub returns-clause-ok : goal.returns-clause-ok
returns-clause-ok g c =
    grind (arith, common_steps, message_at-take)
