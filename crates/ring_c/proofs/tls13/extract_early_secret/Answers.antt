-- SPDX-License-Identifier: ISC
use Rattle.std.proofs.Common.{ℕ, ap, replicate, ◌∙◌}
use Rattle.std.specs.Prelude.{take}
use Rattle.std.proofs.lemmas.List.{take-replicate}
use Rattle.ring.proofs.Rows.{output_len-fits}
use Rattle.ring.specs.Algorithm.{output_len}
use Rattle.ring.specs.Hkdf.{hkdf_digest}
use Rattle.ring_c.proofs.tls13.extract_early_secret.Goals as goal

pub returns-clause-ok : goal.returns-clause-ok
returns-clause-ok c =
    let a = hkdf_digest c.args.algorithm in
    let zeros = ap (λ n. take n (replicate {A = ℕ} 64 0)) c.digest_len.ensures
    ∙ take-replicate (output_len a) 64 0 (output_len-fits a) in
    rw (← zeros) (rw (← c.in-Ok.ensures.algorithm) (c.extract.ensures.ok _ c.in-Ok.ensures.ok))
