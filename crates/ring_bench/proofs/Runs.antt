-- SPDX-License-Identifier: ISC
-- Lemmas on a run: how answered texts follow one another, and how far a run has come.
use Rattle.std.proofs.Common.{◌≡◌, ℕ, ◌+◌, ◌<◌, ◌≤◌, Bool, true, false, cond, ◌||◌, Option, Some}
use Rattle.std.proofs.Common.{None, IfSome, Result, Ok, Err, OnOk, IfOk, List, [], ◌∷◌, ◌++◌}
use Rattle.std.proofs.Common.{length, take, refl, sym, ap, ◌∙◌, subst, append_assoc, append-nil}
use Rattle.std.proofs.Common.{length-append, arith}
use Rattle.std.specs.List.{list_any}
use Rattle.std.specs.Io.KnownBytes.{Appends, Consumes, Keeps, IsAtEnd}
use Rattle.std.proofs.KnownBytes.{Appends-nil, Appends-trans, Appends-kept, Consumes-kept}
use Rattle.std.proofs.KnownBytes.{Consumes-nil, Consumes-trans, Consumes-whole, Keeps-refl}
use Rattle.std.proofs.lemmas.List.Elements.{All-append}
use Rattle.std.proofs.lemmas.List.Folds.{list_any-append}
use Rattle.std.proofs.lemmas.List.Concat.{flat_map-append}
use Rattle.std.proofs.Math.Seq.{take-append_seam}
use Rattle.ring_bench.specs.Cut.{IsFirstCut}
use Rattle.ring_bench.specs.declared.answers.Status.{Status}
use Rattle.ring_bench.specs.declared.answers.Status.TheVariants.{Clean, SomeBad}
use Rattle.ring_bench.specs.declared.answers.BenchError.{BenchError}
use Rattle.ring_bench.specs.declared.answers.BenchError.TheVariants.{Read}
use Rattle.ring_bench.specs.Text.{is_line_feed, without_return, lines, ended_lines, replies}
use Rattle.ring_bench.specs.Text.{answers, is_bad_kind, status_after, status_of}
use Rattle.ring_bench.specs.Reply.{reply, kind}
use Rattle.ring_bench.specs.Run.{Runs}
use Rattle.ring_bench.specs.Session.{Answered, Fed, HasNoLineFeed, Stopped}
use Rattle.ring_bench.proofs.Texts.{ended_lines-next, lines-next, one_line, some_line}

-- one status after other lines
chosen : (a b : Bool) (s : Status) → cond b SomeBad (cond a SomeBad s) ≡ cond (a || b) SomeBad s
chosen true true s = refl
chosen true false s = refl
chosen false true s = refl
chosen false false s = refl

status_after-append : (s : Status) (xs ys : List (List ℕ))
    → status_after (status_after s xs) ys ≡ status_after s (xs ++ ys)
status_after-append s xs ys =
    let bad : List ℕ → Bool = λ text. is_bad_kind (kind text) in
    chosen (list_any bad xs) (list_any bad ys) s
    ∙ ap (λ b. cond b SomeBad s) (sym (list_any-append bad xs ys))

Appends-replies : (first others : List (List ℕ)) (a b c : Option (List ℕ))
    → Appends a b (replies first) → Appends b c (replies others)
    → Appends a c (replies (first ++ others))
Appends-replies first others a b c v w =
    subst (Appends a c) (sym (flat_map-append reply first others))
    (Appends-trans a b c (replies first) (replies others) v w)

-- nothing was answered
Answered-none : (text : List ℕ) (s : Status) (a b : Option (List ℕ)) → Keeps a b
    → Answered text text s s a b
Answered-none text s a b kept = record {
  first = [];
  split = λ more. refl;
  ended = λ more. omega arith;
  written = Appends-kept a a b [] (Appends-nil a) kept;
  status = refl;
}

-- one line was answered
Answered-line : {text line behind : List ℕ} {s t : Status} {a b : Option (List ℕ)}
    → IsFirstCut 10 text line behind → Appends a b (reply (without_return line))
    → t ≡ status_after s (without_return line ∷ []) → Answered text behind s t a b
Answered-line {line} {a} {b} cut written status = record {
  first = without_return line ∷ [];
  split = lines-next cut;
  ended = ended_lines-next cut;
  written = subst (Appends a b) (sym (append-nil (reply (without_return line)))) written;
  status = status;
}

-- after first lines were answered
module _ {text rest : List ℕ} {s t : Status} {a b : Option (List ℕ)}
    (f : Answered text rest s t a b) where
  -- lines of the rest were answered
  Answered-trans : {last : List ℕ} {u : Status} {c : Option (List ℕ)}
      → Answered rest last t u b c → Answered text last s u a c
  Answered-trans {last} {c} h = record {
    first = f.first ++ h.first;
    split = λ more.
        f.split more ∙ ap (λ l. f.first ++ l) (h.split more)
        ∙ sym (append_assoc f.first h.first (lines (last ++ more)));
    ended = λ more.
        let sum = length-append f.first h.first in
        omega (arith, f.ended more, h.ended more, sum);
    written = Appends-replies f.first h.first a b c f.written h.written;
    status =
        h.status ∙ ap (λ v. status_after v h.first) f.status
        ∙ status_after-append s f.first h.first;
  }

  -- more text came behind them
  Answered-more : (more : List ℕ) → Answered (text ++ more) (rest ++ more) s t a b
  Answered-more more = record {
    first = f.first;
    split = λ x. rw (append_assoc text more x, append_assoc rest more x) (f.split (more ++ x));
    ended = λ x. rw (append_assoc text more x, append_assoc rest more x) (f.ended (more ++ x));
    written = f.written;
    status = f.status;
  }

  -- they are the first lines of the text
  lines-answered : lines text ≡ f.first ++ lines rest
  lines-answered =
      ap lines (sym (append-nil text)) ∙ f.split []
      ∙ ap (λ l. f.first ++ lines l) (append-nil rest)

  written-first : Appends a b (replies (take (length f.first) (lines text)))
  written-first = rw (lines-answered, take-append_seam f.first (lines rest)) f.written

  -- each was ended by a line feed
  Answered-ended : (k : ℕ) × (k ≤ ended_lines text) × Appends a b (replies (take k (lines text)))
  Answered-ended =
      let count : ended_lines text ≡ length f.first + ended_lines rest =
      ap ended_lines (sym (append-nil text)) ∙ f.ended []
      ∙ ap (λ l. length f.first + ended_lines l) (append-nil rest) in
      (length f.first, omega (arith, count), written-first)

  -- another is left
  Answered-left : 0 < length rest
      → (k : ℕ) × (k < length (lines text)) × Appends a b (replies (take k (lines text)))
  Answered-left some =
      let count = ap length lines-answered ∙ length-append f.first (lines rest) in
      (length f.first, omega (arith, count, some_line rest some), written-first)

  -- all were answered
  Answered-whole : {u : Status} (c : Option (List ℕ)) → Appends b c (replies (lines rest))
      → u ≡ status_after t (lines rest)
      → Appends a c (answers text) × (u ≡ status_after s (lines text))
  Answered-whole c written status =
      rw lines-answered (
        Appends-replies f.first (lines rest) a b c f.written written,
        status ∙ ap (λ v. status_after v (lines rest)) f.status
            ∙ status_after-append s f.first (lines rest),
      )

-- Of the piece that came behind an open line the part before the rest was fed.
pub record Feeding
    (start piece rest line : List ℕ) (s t : Status) (a b : Option (List ℕ)) : Type 0 where
  pub open_line : HasNoLineFeed line
  pub answered : Answered (start ++ piece) (line ++ rest) s t a b

pub Feeding-none : (start piece : List ℕ) (s : Status) (a : Option (List ℕ)) → HasNoLineFeed start
    → Feeding start piece piece start s s a a
Feeding-none start piece s a none = record {
  open_line = none;
  answered = Answered-none (start ++ piece) s a a (Keeps-refl a);
}

-- after a part of a piece
module _ {start piece rest line : List ℕ} {s t : Status} {a b : Option (List ℕ)}
    (f : Feeding start piece rest line s t a b) where
  -- the next line was ended, and answered
  pub Feeding-line : {front behind whole new : List ℕ} {u v : Status} {c : Option (List ℕ)}
      → IsFirstCut 10 rest front behind → whole ≡ line ++ front → u ≡ t → new ≡ []
      → Appends b c (reply (without_return whole))
      → v ≡ status_after u (without_return whole ∷ []) → Feeding start piece behind new s v a c
  Feeding-line {front} {behind} {v = v} {c = c} cut joined kept closed written status =
      let more : IsFirstCut 10 (line ++ rest) (line ++ front) behind = record {
        whole = ap (λ l. line ++ l) cut.whole ∙ sym (append_assoc line front (10 ∷ behind));
        first = All-append (λ y. is_line_feed y ≡ false) line front f.open_line cut.first;
      } in
      let replied : Appends b c (reply (without_return (line ++ front))) = rw joined at written in
      let after : v ≡ status_after t (without_return (line ++ front) ∷ []) =
      rw (kept, joined) at status in
      rw closed (record {
        open_line = λ k d below. absurd (omega arith);
        answered = Answered-trans f.answered (Answered-line more replied after);
      })

  -- it stopped before the rest
  pub Feeding-stopped : {front behind : List ℕ} {c : Option (List ℕ)}
      → IsFirstCut 10 rest front behind → Keeps b c → Stopped (start ++ piece) s a c
  Feeding-stopped {front} {behind} {c} cut kept =
      let size = ap length cut.whole ∙ length-append front (10 ∷ behind) in
      record {
        rest = line ++ rest;
        new = t;
        answered = Answered-trans f.answered (Answered-none (line ++ rest) t b c kept);
        more = omega (arith, size, length-append line rest);
      }

  -- the rest has no line feed
  pub Feeding-rest : {new : List ℕ} {u : Status} → HasNoLineFeed rest → new ≡ line ++ rest → u ≡ t
      → Fed (start ++ piece) new s u a b
  Feeding-rest none joined kept = rw (joined, kept) (record {
    answered = f.answered;
    open_line = All-append (λ y. is_line_feed y ≡ false) line rest f.open_line none;
  })

-- the open line was answered
pub open-answered : (line : List ℕ) (s : Status) {t : Status} (a b c : Option (List ℕ))
    → HasNoLineFeed line × (0 < length line)
    → Appends a b (reply (without_return line)) × Keeps b c
    → t ≡ status_after s (without_return line ∷ [])
    → Appends a c (replies (lines line)) × (t ≡ status_after s (lines line))
open-answered line s a b c is kept status =
    let all = Appends-kept a b c (reply (without_return line)) kept.0 kept.1 in
    rw (one_line line is.0 is.1, append-nil (reply (without_return line))) (all, status)

-- no line was open
pub none-answered : (line : List ℕ) (s : Status) (a b : Option (List ℕ)) → length line ≡ 0
    → Keeps a b → Appends a b (replies (lines line)) × (s ≡ status_after s (lines line))
none-answered [] s a b none kept = (Appends-kept a a b [] (Appends-nil a) kept, refl)
none-answered (byte ∷ line) s a b none kept = absurd (omega arith)

-- how far a run has come: what it has read, of which it has answered all but the open line
pub record Reached (known left : Option (List ℕ)) (line : List ℕ) (status : Status)
    (before after : Option (List ℕ)) : Type 0 where
  pub read : List ℕ
  pub taken : Consumes known left read
  pub answered : Answered read line Clean status before after

pub Reached-none : (known a : Option (List ℕ)) → Reached known known [] Clean a a
Reached-none known a = record {
  read = [];
  taken = Consumes-nil known;
  answered = Answered-none [] Clean a a (Keeps-refl a);
}

-- the text is what was read, and more
text-read : (P : List ℕ → Type 0) (known left : Option (List ℕ)) (read : List ℕ)
    → Consumes known left read → ((more : List ℕ) → P (read ++ more)) → IfSome known P
text-read P None left read taken all = tt
text-read P (Some text) None read taken all = absurd taken
text-read P (Some text) (Some more) read taken all = subst P (sym taken) (all more)

-- after a run has come so far
module _ {known left : Option (List ℕ)} {line : List ℕ} {s : Status} {a b : Option (List ℕ)}
    (r : Reached known left line s a b) where
  -- a piece was read, and lines of it were answered
  pub Reached-more : (later : Option (List ℕ)) (piece : List ℕ) {new : List ℕ} {t : Status}
      {c : Option (List ℕ)} → Consumes left later piece → Answered (line ++ piece) new s t b c
      → Reached known later new t a c
  Reached-more later piece read f = record {
    read = r.read ++ piece;
    taken = Consumes-trans known left later r.read piece r.taken read;
    answered = Answered-trans (Answered-more r.answered piece) f;
  }

  -- nothing was read or written
  pub Reached-kept : (later c : Option (List ℕ)) → Keeps left later → Keeps b c
      → Reached known later line s a c
  Reached-kept later c kept same = record {
    read = r.read;
    taken = Consumes-kept known left later r.read r.taken kept;
    answered = Answered-trans r.answered (Answered-none line s b c same);
  }

  -- the reader failed
  pub Reached-failed : (later : Option (List ℕ)) → Runs known later a b (Err Read)
  Reached-failed later = record {
    end = tt;
    written = tt;
    status = tt;
    memory = λ e. absurd (cc e);
    read = λ e. text-read _ known left r.read r.taken
        (λ more. Answered-ended (Answered-more r.answered more));
  }

  -- it stopped before the open line was answered
  pub Reached-left : 0 < length line → IfSome known (λ text.
      (k : ℕ) × (k < length (lines text)) × Appends a b (replies (take k (lines text))))
  Reached-left some =
      text-read _ known left r.read r.taken
      (λ more. Answered-left (Answered-more r.answered more)
      (omega (arith, some, length-append line more)))

  -- the whole text was read, and the open line was answered
  pub Reached-end : (later c : Option (List ℕ)) (result : Result Status BenchError)
      → Consumes left later [] → IsAtEnd later
      → IfOk result (λ t. Appends b c (replies (lines line)) × (t ≡ status_after s (lines line)))
      → OnOk result (IfSome known (λ text. Appends a c (answers text)))
      × IfOk result (λ t. IfSome known (λ text. t ≡ status_of (lines text)))
  Reached-end later c (Err error) read end told = (tt, tt)
  Reached-end later c (Ok t) read end told =
      let both = Consumes-trans known left later r.read [] r.taken read in
      let taken = rw (append-nil r.read) at both in
      let all = Answered-whole r.answered c told.0 told.1 in (
        Consumes-whole known later r.read _ taken end all.0,
        Consumes-whole known later r.read _ taken end all.1,
      )

-- it stopped at one of the lines of a piece
pub Reached-stopped : {known left : Option (List ℕ)} {line : List ℕ} {s : Status}
    {a b c : Option (List ℕ)} (r : Reached known left line s a b)
    (later : Option (List ℕ)) (piece : List ℕ) → Consumes left later piece
    → Stopped (line ++ piece) s b c → IfSome known (λ text.
    (k : ℕ) × (k < length (lines text)) × Appends a c (replies (take k (lines text))))
Reached-stopped r later piece read stopped =
    Reached-left (Reached-more r later piece read stopped.answered) stopped.more
