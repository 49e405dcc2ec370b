-- SPDX-License-Identifier: ISC
-- Rises of a meter.
use Rattle.std.proofs.Common.{◌≡◌, ◌≤◌, ◌∙◌, ℕ, ◌+◌, ◌*◌, List, [], ◌∷◌, ◌++◌, ap, arith, length}
use Rattle.std.proofs.Common.{subst, sym}
use Rattle.std.proofs.lemmas.List.{length-append}
use Rattle.ring.proofs.Costs.{raised-none, raised-raised}
use Rattle.ring.proofs.Rows.{output_len-fits}
use Rattle.ring.specs.Prelude.{Counts, IsTagWithin, compared_pairs, raised}
use Rattle.ring.specs.declared.digest.algorithm.Algorithm.{Algorithm}
use Rattle.ring.specs.declared.digest.algorithm.TheConstants.{SHA256}
use Rattle.std.proofs.lemmas.Grind.{common_steps}
use Rattle.ring_text.specs.Cut.{IsFirstCut, IsWithout}
use Rattle.ring_tokens.specs.Alg.{algorithm_of, hash_len}
use Rattle.ring_tokens.specs.Cost.{HasVerified, otp_blocks, raised_by_tests, signed_len, tag_blocks}
use Rattle.ring_tokens.specs.Otp.{digits_of}
use Rattle.ring_tokens.specs.declared.otp.Digits.{Digits}
use Rattle.ring_tokens.specs.declared.otp.Digits.TheVariants.{Six, Seven, Eight}
use Rattle.ring_tokens.specs.Parts.{AreParts}
use Rattle.ring_tokens.specs.Webhook.{items_of, stripe_message}
use Rattle.ring_tokens.specs.declared.alg.Alg.{Alg}
use Rattle.ring_tokens.specs.declared.parts.Parts.{Parts}
use Rattle.ring_tokens.proofs.Items.{items_cut, items_none}
use Rattle.ring_tokens.proofs.Tokens.{cuts_same}

-- the cost of the signature is that of the verification
pub has_verified : {token : List ℕ} {q : Parts} → AreParts token q → (a : Alg) {m0 m1 : Counts}
    → (IsTagWithin (algorithm_of a) (length q.input.now) → m1
    ≡ raised m0 (tag_blocks (algorithm_of a) (length q.input.now)) (hash_len a))
    → ((IsTagWithin (algorithm_of a) (length q.input.now) → ⊥) → m1 ≡ m0)
    → HasVerified a token m0 m1
has_verified {token} {q} at a {m0} {m1} cost none =
    let len : length q.input.now ≡ signed_len q.header.now q.payload.now =
    ap length at.input
    ∙ omega (arith, length-append q.header.now (46 ∷ q.payload.now)) in
    record {
      cost = λ h p s cut within.
          let same = cuts_same at.cut cut in
          let signed : length q.input.now ≡ signed_len h p =
          omega (arith, len, ap length same.0, ap length same.1) in
          cost (subst (λ n. IsTagWithin (algorithm_of a) n) (sym signed) within)
          ∙ ap (λ n. raised m0 (tag_blocks (algorithm_of a) n) (hash_len a)) signed;
      untested = λ no. none (λ within. no q.header.now q.payload.now q.signature.now at.cut
          (subst (λ n. IsTagWithin (algorithm_of a) n) len within));
    }

-- a tag is compared with an item, and then with each of the rest
pub pairs_more : (m1 : Counts) {whole m2 : Counts} {text before behind : List ℕ}
    → IsFirstCut 44 text before behind → whole ≡ raised m1 0 (32 * length (items_of text))
    → m2 ≡ raised m1 0 32 → whole ≡ raised m2 0 (32 * length (items_of behind))
pairs_more m1 {before = before} {behind} cut all one =
    let rest = 32 * length (items_of behind) in
    all ∙ ap (λ items. raised m1 0 (32 * length items)) (items_cut cut)
    ∙ ap (raised m1 0) (next before (items_of behind))
    ∙ sym (raised-raised m1 0 32 0 rest) ∙ ap (λ m. raised m 0 rest) (sym one)
  where
    next : (item : List ℕ) (items : List (List ℕ))
        → 32 * length (item ∷ items) ≡ 32 + 32 * length items
    next item items = omega arith

pub pairs_last : (m1 : Counts) (text : List ℕ) {whole m2 : Counts} → IsWithout 44 text
    → whole ≡ raised m1 0 (32 * length (items_of text)) → m2 ≡ raised m1 0 32 → m2 ≡ whole
pairs_last m1 text apart all one =
    one ∙ ap (λ items. raised m1 0 (32 * length items)) (sym (items_none text apart)) ∙ sym all

-- no password has more than eight digits
pub digits_most : (d : Digits) → digits_of d ≤ 8
digits_most Six = omega arith
digits_most Seven = omega arith
digits_most Eight = omega arith

-- no password is tested, and one more
pub tests_none : (m : Counts) (a : Algorithm) (d : Digits) (len : ℕ)
    → m ≡ raised_by_tests m a d len 0
tests_none m a d len =
    raised-none m ∙ ap (λ k. raised m k 0) (zero (otp_blocks a))
    ∙ ap (raised m (0 * otp_blocks a)) (zero (compared_pairs (digits_of d) len))
  where
    zero : (n : ℕ) → 0 ≡ 0 * n
    zero n = omega arith

pub tests_more : (m0 : Counts) {m1 m2 : Counts} (a : Algorithm) (d : Digits) (len n : ℕ)
    → m1 ≡ raised_by_tests m0 a d len n
    → m2 ≡ raised m1 (otp_blocks a) (compared_pairs (digits_of d) len)
    → m2 ≡ raised_by_tests m0 a d len (n + 1)
tests_more m0 a d len n all one =
    let b = otp_blocks a in
    let p = compared_pairs (digits_of d) len in
    one ∙ ap (λ m. raised m b p) all ∙ raised-raised m0 (n * b) (n * p) b p
    ∙ ap (λ k. raised m0 k (n * p + p)) (next n b) ∙ ap (raised m0 ((n + 1) * b)) (next n p)
  where
    next : (n k : ℕ) → n * k + k ≡ (n + 1) * k
    next n k = grind (arith, common_steps)

-- blocks, and then a comparison
pub rise_compared : (m0 : Counts) {m1 m2 : Counts} (b p : ℕ) → m1 ≡ raised m0 b 0
    → m2 ≡ raised m1 0 p → m2 ≡ raised m0 b p
rise_compared m0 {m1} {m2} b p one two =
    two ∙ ap (λ m. raised m 0 p) one ∙ raised-raised m0 b 0 0 p
    ∙ ap (λ k. raised m0 k (0 + p)) (behind b) ∙ ap (raised m0 b) (before p)
  where
    behind : (n : ℕ) → n + 0 ≡ n
    behind n = omega arith

    before : (n : ℕ) → 0 + n ≡ n
    before n = omega arith

-- what Stripe signs, and the items that are compared
pub stripe_cost : (m0 : Counts) {m1 m2 : Counts} {a : Algorithm} (digits body : List ℕ)
    (n : ℕ) {its items : List ℕ} → a ≡ SHA256 → digits ++ 46 ∷ (body ++ []) ≡ stripe_message n body
    → its ≡ items → m1 ≡ raised m0 (tag_blocks a (length (digits ++ 46 ∷ (body ++ [])))) 0
    → m2 ≡ raised m1 0 (32 * length (items_of its))
    → m2 ≡ raised m0 (tag_blocks SHA256 (length (stripe_message n body)))
    (32 * length (items_of items))
stripe_cost m0 {a = a} digits body n {its} alg message same one two =
    let pairs = 32 * length (items_of its) in
    let b = tag_blocks SHA256 (length (stripe_message n body)) in
    rise_compared m0 _ pairs one two
    ∙ ap (λ x. raised m0 (tag_blocks x (length (digits ++ 46 ∷ (body ++ [])))) pairs) alg
    ∙ ap (λ m. raised m0 (tag_blocks SHA256 (length m)) pairs) message
    ∙ ap (λ t. raised m0 b (32 * length (items_of t))) same

-- a tag has at most 64 bytes
pub ruleset tag_lens = (output_len-fits)
