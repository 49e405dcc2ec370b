-- SPDX-License-Identifier: ISC
use Rattle.std.proofs.Common.{◌≡◌, ◌<◌, ◌∷◌, ◌++◌, ◌∙◌, [], Bor, List, arith, length}
use Rattle.std.proofs.Common.{length-append, refl, sym, ℕ}
use Rattle.std.proofs.lemmas.Bool.{true≢false}
use Rattle.std.proofs.lemmas.Slice.Zip.{AllZip-long, all_zipped_more}
use Rattle.ring_sums.specs.Outcomes.{IsOutcomeOf}
use Rattle.ring_sums.specs.declared.outcome.Outcome.{Outcome}
use Rattle.ring_sums.specs.declared.outcomes.Wanted.{Wanted}
use Rattle.ring_sums.proofs.Listed.{apart-none, each-more, fine-more, lines-more, written-none}
use Rattle.ring_sums.proofs.Listed.{zip-none}
use Rattle.ring_sums.proofs.WantedFiles.{done-all, done-more, done-none}
use Rattle.ring_sums.proofs.listing.list.Goals as goal

pub loop-name-init : goal.loop-name-init
loop-name-init g c = λ files to_come same.
    record {
      done = [];
      rest = files;
      whole = refl;
      to_come = to_come;
      is = (
        refl,
        record {
          outcomes = [];
          read = tt;
          written = rw (zip-none c.args.names.now) written-none;
          stops = rw (zip-none c.args.names.now) apart-none;
          fine = refl;
        },
      );
    }

pub returns-then-has_failed : goal.returns-then-has_failed
returns-then-has_failed g c = λ files to_come same.
    let so = c.loop-name.invariant files to_come same in
    record {
      done = so.done;
      rest = so.rest;
      whole = so.whole;
      to_come = so.to_come;
      is = (
        so.is.1,
        λ none. absurd (true≢false (sym c.if-has_failed.true ∙ c.has_failed.ensures.1 none)),
      );
    }

pub returns-in_default-next : goal.returns-in_default-next
returns-in_default-next g c = λ files to_come same.
    let so = c.loop-name.invariant files to_come same in
    let given = rw c.in_default-next.is at c.in-Ok.ensures so.rest so.to_come in
    absurd (omega (
      arith,
      done-none so.done so.rest so.whole given,
      so.is.0,
      c.loop-name-test.true,
      same,
    ))

pub loop-name-preserved : goal.loop-name-preserved
loop-name-preserved g c = λ files to_come same.
    let so = c.loop-name.invariant files to_come same in
    let listed = so.is.1 in
    let outcome = c.in-Some.outcome in
    let Is : Wanted _ → Outcome → Type 0 =
    IsOutcomeOf g.S.Read.remaining g.S.Source.fails_with in
    let name : Bor (List ℕ) = record { ref_ptr = (0, 0); now = [] } in
    let given = rw c.in-Some.is at c.in-Ok.ensures so.rest so.to_come in
    let many : length listed.outcomes ≡ c.loop-name.name-index =
    omega (arith, AllZip-long Is so.done listed.outcomes listed.read, so.is.0) in
    let below : length listed.outcomes < length c.args.names.now =
    omega (arith, many, c.loop-name-test.true) in
    done-more outcome so.done so.rest so.whole given (λ file made. (
      omega (arith, length-append so.done (file ∷ []), so.is.0),
      record {
        outcomes = listed.outcomes ++ outcome ∷ [];
        read = all_zipped_more Is so.done listed.outcomes file outcome listed.read made;
        written = lines-more c.args.options.now c.args.names.now listed.outcomes name outcome below
            listed.written (rw many c.in_ok-is_fine.ensures.line);
        stops = each-more c.args.options.now c.args.names.now listed.outcomes name outcome below
            listed.stops (c.has_failed.ensures.0 c.if-has_failed.false)
            (rw many c.in_ok-is_fine.ensures.line);
        fine = rw c.in_ok-is_fine.ensures.is (fine-more listed.outcomes outcome listed.fine);
      },
    ))

pub returns : goal.returns
returns g c = λ files to_come same.
    let so = c.loop-name.invariant files to_come same in
    let many : length so.done ≡ length files =
    omega (arith, so.is.0, c.loop-name-test.false, c.loop-name.auto.name-index-end, same) in
    record {
      done = so.done;
      rest = so.rest;
      whole = so.whole;
      to_come = so.to_come;
      is = (so.is.1, λ none. done-all so.done so.rest so.whole many);
    }
