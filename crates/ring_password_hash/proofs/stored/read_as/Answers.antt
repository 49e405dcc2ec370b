-- SPDX-License-Identifier: ISC
use Rattle.std.proofs.Common.{◌≡◌, ◌∙◌, ℕ, ap, arith, length, refl, subst, sym, take, true≢false}
use Rattle.std.proofs.lemmas.List.{length-take-le}
use Rattle.ring_text.proofs.Base64.{bytes_front}
use Rattle.ring_password_hash.specs.Scheme.{salt_encoding_of}
use Rattle.ring_password_hash.specs.Stored.{IsTextOf, is_salt, parts_text}
use Rattle.ring_password_hash.specs.Text.{IsLen, field_then, head_then, kept_text}
use Rattle.ring_password_hash.proofs.Heads.{keys_len, rest_within}
use Rattle.ring_password_hash.proofs.Values.{front_read, head_read, own_text, parts_at, salt_apart}
use Rattle.ring_password_hash.proofs.stored.read_as.Goals as goal

pub returns-in_err-parameters-clause-refused : goal.returns-in_err-parameters-clause-refused
unfolding parts_text
returns-in_err-parameters-clause-refused c = λ _ h same e.
    let at = parts_at h same e in
    c.in_err-parameters.ensures.refused refl h.parameters h.iterations (length h.kept) _
    at.0.iterations at.0.kept at.1

pub field_into-requires-clause-text : goal.field_into-requires-clause-text
field_into-requires-clause-text c =
    let read = c.in_ok-parameters in
    let within = rest_within c.args.scheme read.parameters read.iterations read.kept_len
    read.rest.now read.ensures.ok.0 in
    omega (arith, within, c.requires)

pub kept_into-requires-clause-keys : goal.kept_into-requires-clause-keys
kept_into-requires-clause-keys c =
    keys_len c.args.scheme _ c.in_ok-parameters.kept_len c.in_ok-parameters.ensures.ok.2

pub returns-in_err-salt_len-clause-refused : goal.returns-in_err-salt_len-clause-refused
returns-in_err-salt_len-clause-refused c = λ _ h same e.
    let at = parts_at h same e in
    let read = c.in_ok-parameters.ensures.ok in
    let head = head_read at.0 at.1 _ _ read.0 read.1 read.2 in
    let refused = rw c.row.ensures.salt at c.in_err-salt_len.ensures.refused in
    refused refl h.salt (kept_text c.args.scheme h.kept) at.0.salt_bytes
    (salt_apart c.args.scheme h.salt at.0.salt at.0.salt_bytes) head.1

pub returns-then-not-is_salt-clause-refused : goal.returns-then-not-is_salt-clause-refused
returns-then-not-is_salt-clause-refused c = λ _ h same e.
    let read = front_read h same e _ _ c.in_ok-parameters.ensures.ok
    (rw c.row.ensures.salt at c.in_ok-salt_len.ensures.ok)
    (bytes_front _ _ c.field_into.ensures.bytes) in
    let told = c.is_salt.ensures ∙ ap (is_salt c.args.scheme) read.2 ∙ read.0.salt in
    true≢false (sym told ∙ c.if-not-is_salt.true)

pub returns-then-not-kept_into-clause-refused : goal.returns-then-not-kept_into-clause-refused
returns-then-not-kept_into-clause-refused c = λ _ h same e.
    let read = front_read h same e _ _ c.in_ok-parameters.ensures.ok
    (rw c.row.ensures.salt at c.in_ok-salt_len.ensures.ok)
    (bytes_front _ _ c.field_into.ensures.bytes) in
    c.kept_into.ensures.refused c.if-not-kept_into.true h.kept read.0.kept_bytes (sym read.1) read.3

pub returns-clause-ok : goal.returns-clause-ok
unfolding parts_text
returns-clause-ok c =
    let k = c.args.scheme in
    let head = c.in_ok-parameters in
    let found = c.in_ok-salt_len in
    let salt = take found.salt_len c.field_into.new.out in
    let kept = take head.kept_len c.kept_into.new.out in
    let read = head.ensures.ok in
    let last = c.kept_into.ensures.ok c.if-not-kept_into.false in
    let len : length kept ≡ head.kept_len = length-take-le head.kept_len c.kept_into.new.out
    (let within = last.1 in omega (arith, within)) in
    let field = rw c.row.ensures.salt at found.ensures.ok.0 in
    let behind = field ∙ ap (field_then (salt_encoding_of k) salt 36) last.0 in
    let of : IsTextOf (record {
      scheme = k;
      parameters = head.parameters;
      iterations = head.iterations;
      salt = salt;
      kept = kept;
    }) c.args.text.now = record {
      is = record {
        iterations = read.1;
        salt = sym c.is_salt.ensures ∙ c.if-not-is_salt.false;
        salt_bytes = bytes_front _ _ c.field_into.ensures.bytes;
        kept = subst (IsLen k head.parameters) (sym len) read.2;
        kept_bytes = bytes_front _ _ c.kept_into.ensures.bytes;
      };
      has = sym (read.0 ∙ ap (head_then k head.parameters head.iterations head.kept_len) behind
          ∙ ap (λ (n : ℕ). head_then k head.parameters head.iterations n
          (field_then (salt_encoding_of k) salt 36 (kept_text k kept))) (sym len));
      within = c.requires;
    } in (
      of,
      record {
        filled = record {
          salt = found.ensures.within;
          kept = last.1;
          keys = keys_len k _ head.kept_len read.2;
        };
        text = own_text _ of;
      },
    )
