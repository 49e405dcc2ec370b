-- SPDX-License-Identifier: ISC
use Rattle.std.proofs.Common.{◌≡◌, ℕ, ◌+◌, ◌-◌, ◌<◌, ◌^◌, List, [], ◌∷◌, ◌++◌, Option, arith, cond}
use Rattle.std.proofs.Common.{length, length-append, min}
use Rattle.std.proofs.lemmas.List.Sums.{count_by-le-length, sum_by-append}
use Rattle.ring_sums.specs.Check.{count_of, is_found}
use Rattle.ring_sums.specs.declared.entry.Verdict.{Verdict}
use Rattle.ring_sums.specs.declared.entry.Verdict.TheVariants.{Same, Other, Unread}
use Rattle.ring_sums.proofs.check.Counts.count.Goals as goal

-- what is found once more is counted
more : (verdict : Verdict) (founds : List (Option Verdict)) (found : Option Verdict)
    {old one new : ℕ} → length founds < 2 ^ 64 - 1 → old ≡ count_of verdict founds
    → one ≡ cond (is_found verdict found) 1 0 → new ≡ min (old + one) (2 ^ 64 - 1)
    → new ≡ count_of verdict (founds ++ found ∷ [])
more verdict founds found few old one new =
    let all = sum_by-append (λ f. cond (is_found verdict f) 1 0) founds (found ∷ []) in
    omega (
      arith,
      all,
      few,
      old,
      one,
      new,
      count_by-le-length (is_found verdict) founds,
      count_by-le-length (is_found verdict) (found ∷ []),
    )

pub returns-clause-counted : goal.returns-clause-counted
returns-clause-counted c = λ founds few old.
    let found = c.args.found in (
      omega (arith, old.0, few, length-append founds (found ∷ []), c.saturating_add-self.ensures),
      more Same founds found few old.1 c.one_if.ensures c.saturating_add-self-2.ensures,
      more Other founds found few old.2 c.one_if-2.ensures c.saturating_add-self-3.ensures,
      more Unread founds found few old.3 c.one_if-3.ensures c.saturating_add-self-4.ensures,
    )
