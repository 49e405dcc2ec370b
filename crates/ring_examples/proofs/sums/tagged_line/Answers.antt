-- SPDX-License-Identifier: ISC
use Rattle.std.proofs.Common.{rules, ◌≡◌, ℕ, List, ◌++◌, [], ◌∷◌, ap, codes, subst, sym}
use Rattle.hex.specs.Hex.{IsBytes, encode_lower}
use Rattle.ring.specs.Prelude.{bytes_of}
use Rattle.ring.specs.declared.digest.algorithm.TheConstants.{SHA256}
use Rattle.ring_sums.specs.Entry.{IsDigestOf}
use Rattle.ring_sums.specs.declared.entry.Gap.TheVariants.{Unknown}
use Rattle.ring_examples.proofs.sums.tagged_line.Goals as goal

pub returns-clause-read : goal.returns-clause-read
returns-clause-read c =
    let d = bytes_of c.args.digest.now in
    let line = c.extend_from_slice-2.new.self.items in
    let whole : line ≡ codes "SHA256 (image.bin) = " ++ encode_lower d = search rules in
    let is : IsDigestOf SHA256 d = record {
      bytes = subst IsBytes c.as_ref-bytes.ensures.bytes (search rules);
      len = search rules;
    } in
    c.tagged_lines_read_back.ensures.asked SHA256 d (codes "image.bin") line Unknown is
    (ap (λ (l : List ℕ). l ++ 10 ∷ []) (sym whole))
