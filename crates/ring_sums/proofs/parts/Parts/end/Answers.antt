-- SPDX-License-Identifier: ISC
use Rattle.std.proofs.Common.{ap, ◌∙◌}
use Rattle.std.proofs.lemmas.Bool.{true≢false}
use Rattle.ring_sums.proofs.ListParts.{left-ended, left-taken}
use Rattle.ring_sums.proofs.parts.Parts.end.Goals as goal

pub returns : goal.returns
returns g c = λ ended.
    let reader = g.R.Read.remaining c.args.self.now.reader in
    let text = ap (λ v. v.items) c.replace.ensures.value in
    let none = ap (λ v. v.items) c.replace.ensures.after ∙ c.new.ensures.items in
    record {
      lines = λ more. absurd (true≢false more);
      last = λ last. left-taken reader _ _ _ text none;
      all = λ last failure. left-ended reader _ none (ended failure);
    }
