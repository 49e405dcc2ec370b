-- SPDX-License-Identifier: ISC
use Rattle.std.proofs.Common.{◌≡◌, ℕ, ◌+◌, ◌-◌, ◌<◌, ◌^◌, List, ◌++◌, Option, arith, cond, length}
use Rattle.std.proofs.Common.{length-append, min}
use Rattle.std.proofs.lemmas.List.Sums.{count_by-le-length, sum_by-append}
use Rattle.ring_sums.specs.Check.{count_of, is_found}
use Rattle.ring_sums.specs.declared.entry.Verdict.{Verdict}
use Rattle.ring_sums.specs.declared.entry.Verdict.TheVariants.{Same, Other, Unread}
use Rattle.ring_sums.proofs.check.Counts.add.Goals as goal

-- what is found of two parts is counted
both : (verdict : Verdict) (founds more : List (Option Verdict)) {old part new : ℕ}
    → length (founds ++ more) < 2 ^ 64 → old ≡ count_of verdict founds
    → part ≡ count_of verdict more → new ≡ min (old + part) (2 ^ 64 - 1)
    → new ≡ count_of verdict (founds ++ more)
both verdict founds more few old part new =
    omega (
      arith,
      few,
      old,
      part,
      new,
      sum_by-append (λ f. cond (is_found verdict f) 1 0) founds more,
      count_by-le-length (is_found verdict) (founds ++ more),
    )

pub returns-clause-counted : goal.returns-clause-counted
returns-clause-counted c = λ founds more few old part. (
  omega (
    arith,
    old.0,
    part.0,
    few,
    length-append founds more,
    c.saturating_add-self-2.ensures,
  ),
  both Same founds more few old.1 part.1 c.saturating_add-self-3.ensures,
  both Other founds more few old.2 part.2 c.saturating_add-self-4.ensures,
  both Unread founds more few old.3 part.3 c.saturating_add-self-5.ensures,
)
