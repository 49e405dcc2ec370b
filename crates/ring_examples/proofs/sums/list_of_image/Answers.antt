-- SPDX-License-Identifier: ISC
use Rattle.std.proofs.Common.{rules, ◌≡◌, ◌++◌, ◌∙◌, [], ◌∷◌, None, Some, arith, codes, false}
use Rattle.std.proofs.Common.{append-nil, append_assoc, inl, refl, subst, sym}
use Rattle.std.proofs.lemmas.List.Elements.{All-cons, All-nil}
use Rattle.hex.specs.Hex.{IsBytes, encode_lower}
use Rattle.ring.specs.Prelude.{bytes_of}
use Rattle.ring.specs.declared.digest.algorithm.TheConstants.{SHA256}
use Rattle.ring_sums.specs.Entry.{Listed}
use Rattle.ring_sums.specs.List.{CanReadBack, line_of}
use Rattle.ring_sums.specs.declared.entry.Gap.TheVariants.{Unknown}
use Rattle.ring_examples.proofs.sums.list_of_image.Goals as goal

pub returns-clause-written : goal.returns-clause-written
returns-clause-written c =
    rw (
      c.in_ok-extend_from_slice-2.ensures.items,
      c.in_ok-extend_from_slice.ensures.items,
      c.new-text.ensures.items,
      c.as_bytes.ensures.value,
      c.in_ok-encode.ensures,
      c.as_ref-bytes.ensures.bytes,
    )

pub returns-clause-read : goal.returns-clause-read
returns-clause-read c =
    let image : Listed = record {
      algorithm = SHA256;
      digest = bytes_of c.args.digest.now;
      name = codes "image.bin";
    } in
    let P : Listed → Type 0 = CanReadBack (Some SHA256) false false in
    let can : P image = record {
      digest = record {
        bytes = subst IsBytes c.as_ref-bytes.ensures.bytes (search rules);
        len = search rules;
      };
      algorithm = inl refl;
      name = λ _. omega arith;
      other = λ e. cc e;
    } in
    let same : line_of false None image ++ [] ≡ c.extend_from_slice-2.new.self.items =
    append-nil (line_of false None image)
    ∙ append_assoc (encode_lower image.digest) (codes "  image.bin") (10 ∷ [])
    ∙ sym (returns-clause-written c) in
    rw same at
    (c.lists_read_back.ensures (Some SHA256) false false None (image ∷ [])
    (All-cons P image [] can (All-nil P)) 1 Unknown (λ e. cc e))
