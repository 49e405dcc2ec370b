-- SPDX-License-Identifier: ISC
use Rattle.std.proofs.Common.{◌≡◌, ◌++◌, ◌∷◌, [], Result, Ok, Err, inl, inr, subst}
use Rattle.std.specs.Prelude.{◌⊎◌, IfErr, OnErr}
use Rattle.ring_password_hash.specs.Stored.{Parts, text_of}
use Rattle.ring_passwords.specs.Failure.{IsOfSystem}
use Rattle.ring_passwords.specs.Output.{AppendsFront}
use Rattle.ring_passwords.specs.declared.failure.Failure.{Failure}
use Rattle.ring_passwords.specs.declared.failure.Failure.TheVariants as failure
use Rattle.ring_passwords.specs.declared.failure.Step.TheVariants.{WriteText}
use Rattle.ring_passwords.proofs.Events.{exits_with}
use Rattle.ring_passwords.proofs.encode.encode.Goals as goal

not_cut : (failed : Failure) → (failed ≡ failure.NeedsPreparation) ⊎ (failed ≡ failure.TooLong)
    → ¬ IsOfSystem WriteText failed
not_cut failed (inl is) (error, cut) = absurd cc
not_cut failed (inr is) (error, cut) = absurd cc

cut_where : (X : Type 0) (r : Result (Unit {0}) Failure) → OnErr r X
    → IfErr r (λ failed. IsOfSystem WriteText failed → X)
cut_where X (Ok u) cut = tt
cut_where X (Err failed) cut = λ _. cut

pub returns-in_err-stored-clause-cut : goal.returns-in_err-stored-clause-cut
returns-in_err-stored-clause-cut g c =
    exits_with _ c.from_residual.result c.from_residual.ensures.1
    (λ failed is. λ cut. absurd (not_cut failed (rw is c.in_err-stored.ensures.failure) cut))

pub returns-clause-cut : goal.returns-clause-cut
returns-clause-cut g c =
    let old = g.W.Write.contents c.args.writer.now in
    let new = g.W.Write.contents c.write_text.new.writer in
    let Cut : Parts → Type 0 = λ h. AppendsFront old new (text_of h ++ 10 ∷ []) in
    cut_where _ c.write_text.result
    (subst (λ (h : Parts). OnErr c.write_text.result (Cut h)) c.in_ok-stored.ensures.ok.1
    c.write_text.ensures.cut)
