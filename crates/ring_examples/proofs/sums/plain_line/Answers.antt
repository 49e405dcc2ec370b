-- SPDX-License-Identifier: ISC
use Rattle.std.proofs.Common.{rules, ◌≡◌, ℕ, List, ◌++◌, [], ◌∷◌, None, ap, arith, codes}
use Rattle.std.proofs.Common.{subst, sym}
use Rattle.hex.specs.Hex.{IsBytes, encode_lower}
use Rattle.ring.specs.Prelude.{bytes_of}
use Rattle.ring.specs.declared.digest.algorithm.TheConstants.{SHA256}
use Rattle.ring_sums.specs.Entry.{IsDigestOf}
use Rattle.ring_sums.specs.declared.entry.Gap.TheVariants.{Unknown}
use Rattle.ring_examples.proofs.sums.plain_line.Goals as goal

pub returns-clause-written : goal.returns-clause-written
returns-clause-written c =
    rw (
      c.in_ok-extend_from_slice-2.ensures.items,
      c.in_ok-extend_from_slice.ensures.items,
      c.new-line.ensures.items,
      c.as_bytes.ensures.value,
      c.in_ok-encode.ensures,
      c.as_ref-bytes.ensures.bytes,
    )

pub returns-clause-read : goal.returns-clause-read
returns-clause-read c =
    let d = bytes_of c.args.digest.now in
    let line = c.extend_from_slice-2.new.self.items in
    let whole : line ≡ encode_lower d ++ codes "  image.bin" = returns-clause-written c in
    let is : IsDigestOf SHA256 d = record {
      bytes = subst IsBytes c.as_ref-bytes.ensures.bytes (search rules);
      len = search rules;
    } in
    c.plain_lines_read_back.ensures.asked SHA256 d (codes "image.bin") line None Unknown is
    (omega arith) (λ e. cc e) (ap (λ (l : List ℕ). l ++ 10 ∷ []) (sym whole))
