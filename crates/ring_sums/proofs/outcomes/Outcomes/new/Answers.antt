-- SPDX-License-Identifier: ISC
use Rattle.std.proofs.Common.{◌≡◌, [], sym}
use Rattle.std.proofs.lemmas.List.Elements.{All-nil}
use Rattle.ring.specs.declared.digest.algorithm.TheConstants.{SHA256}
use Rattle.ring_sums.specs.declared.outcomes.Wanted.{Wanted}
use Rattle.ring_sums.proofs.outcomes.Outcomes.new.Goals as goal

pub returns : goal.returns
returns g c =
    let P : Wanted _ → Type 0 = λ file. file.algorithm ≡ SHA256 in
    record {
      algorithm = SHA256;
      first = [];
      of = All-nil P;
      run = rw c.new.ensures.items at c.new-2.ensures;
      whole = sym c.from.ensures.0;
    }
