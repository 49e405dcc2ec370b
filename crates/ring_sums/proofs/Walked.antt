-- SPDX-License-Identifier: ISC
-- What is found, one step after another.
use Rattle.std.proofs.Common.{◌≡◌, ◌∙◌, ◌++◌, ◌∷◌, ℕ, Bool, List, [], Option, Some, None, ap}
use Rattle.std.proofs.Common.{◌&&◌, true, false, append-nil, append_assoc, eqb, inl, inr}
use Rattle.std.proofs.Common.{◌+◌, ◌<◌, arith, get_or, length, map, refl, subst, sym}
use Rattle.std.proofs.Math.Bool.{and-true}
use Rattle.std.proofs.lemmas.List.{get_or-map, length-map}
use Rattle.std.proofs.lemmas.List.Concat.{flat_map-append}
use Rattle.std.proofs.lemmas.List.Folds.{list_all-append}
use Rattle.std.proofs.lemmas.List.Splits.{slice_split_at, slice_split_none}
use Rattle.std.proofs.lemmas.List.Sorted.{IsPermutation-append_left, IsPermutation-pop_more}
use Rattle.std.proofs.lemmas.List.Sorted.{IsPermutation-refl, IsPermutation-to_front}
use Rattle.std.specs.Cmp.Lexicographic.{slice_cmp}
use Rattle.std.specs.Ordering.{nat_cmp}
use Rattle.std.specs.List.{flat_map, list_all}
use Rattle.std.specs.Prelude.{if◌then◌else◌, is_ok, IsPermutation, IsSorted, IsSortedBy, OnOk}
use Rattle.std.specs.Prelude.{Result, Ok, Err}
use Rattle.std.specs.IoError.{error_kind}
use Rattle.std.specs.Str.{IsUtf8}
use Rattle.std.specs.declared.io.Error.{Error}
use Rattle.std.specs.declared.io.ErrorKind.TheVariants.{Interrupted}
use Rattle.ring_text.specs.Cut.{IsFirstCut, IsWithout}
use Rattle.ring_sums.specs.Event.{Event, Look, Open, Read, Tell, TellError, Does}
use Rattle.ring_sums.specs.Tree.{AreNamesTaken, Finds, InTurn, IsFailed, IsNameTaken, IsPartRead}
use Rattle.ring_sums.specs.Tree.{IsRead, IsReadOn, IsTaken, IsTreeFound, Names, directories_at}
use Rattle.ring_sums.specs.Tree.{directories_in, names_of}
use Rattle.ring_sums.specs.Tree.{files_at, files_in, is_entry, is_fine, names_in, paths_of, told_of}
use Rattle.ring_sums.specs.Tree.{waiting_of, with_slash}
use Rattle.ring_sums.specs.declared.steps.Fault.{Fault}
use Rattle.ring_sums.specs.declared.steps.Fault.TheVariants as fault
use Rattle.ring_sums.specs.declared.steps.Found.{Found}
use Rattle.ring_sums.specs.declared.tree.Walk.{Walk}

-- ---- what happened

pub Does-nothing : (old : Option (List Event)) → Does old old []
Does-nothing old = record {
  known = λ before is. is ∙ ap (λ (es : List Event). Some es) (sym (append-nil before));
}

pub Does-then : {a b c : Option (List Event)} {xs ys : List Event} → Does a b xs → Does b c ys
    → Does a c (xs ++ ys)
Does-then {xs = xs} {ys = ys} first next = record {
  known = λ before is. next.known (before ++ xs) (first.known before is)
      ∙ ap (λ (es : List Event). Some es) (append_assoc before xs ys);
}

-- what happens with one more, behind those before it
pub turn-more : {X : Type 0} (P : X → List Event → Type 0) (xs : List X) (x : X)
    (events more : List Event) → InTurn P xs events → P x more
    → InTurn P (xs ++ x ∷ []) (events ++ more)
turn-more P [] x events more none one =
    (more, [], one, refl, ap (λ (es : List Event). es ++ more) none ∙ sym (append-nil more))
turn-more P (y ∷ xs) x events more some one = (
  some.0,
  some.1 ++ more,
  some.2,
  turn-more P xs x some.1 more some.3 one,
  ap (λ (es : List Event). es ++ more) some.4 ∙ append_assoc some.0 some.1 more,
)

-- ---- what is found

pub on_ok : {T E : Type 0} {P Q : Type 0} (r : Result T E) → OnOk r P → (P → Q) → OnOk r Q
on_ok (Ok v) holds weaker = weaker holds
on_ok (Err e) holds weaker = tt

nothing_more : (xs ys : List (List ℕ)) → ys ≡ [] → xs ≡ xs ++ (ys ++ [])
nothing_more xs ys none =
    sym (append-nil xs) ∙ ap (λ (z : List (List ℕ)). xs ++ (z ++ [])) (sym none)

names_in-cut : {text line behind : List ℕ} → IsFirstCut 0 text line behind
    → names_in text ≡ line ∷ names_in behind
names_in-cut {line = line} {behind = behind} cut =
    rw cut.whole (slice_split_at (λ byte. eqb byte 0) line 0 behind cut.first refl)

names_in-whole : (text : List ℕ) → IsWithout 0 text → names_in text ≡ text ∷ []
names_in-whole text none = slice_split_none (λ byte. eqb byte 0) text none

and-false : (b : Bool) → (b && false) ≡ false
and-false true = refl
and-false false = refl

-- the names of a directory are taken up to the rest
pub record AreTakenTo {S : Type 0} (log : S → Option (List Event)) (directory bytes rest : List ℕ)
    (old new : Walk S) : Type 0 where
  pub front : List (List ℕ)
  pub joins : names_in bytes ≡ front ++ names_in rest
  pub found : Finds log old new (InTurn (IsNameTaken directory) front)

-- a directory is open, and some of its names are read
abbrev pub IsOpen : (path : List ℕ) → List Event → Type 0
IsOpen path events =
    (reads : List (Result (List ℕ) Error)) × (parts : List Event)
    × InTurn (IsPartRead path) reads parts × (events ≡ Open path None ∷ parts)

-- a fault is told
pub record IsTold {S : Type 0} (old new : Walk S) : Type 0 where
  pub output : new.output ≡ old.output
  pub names : new.names ≡ old.names
  pub files : paths_of new ≡ paths_of old
  pub waiting : waiting_of new ≡ waiting_of old
  pub whole : new.is_whole ≡ false

-- only the directories that wait change
pub record IsStep {S : Type 0} (old new : Walk S) : Type 0 where
  pub steps : new.steps ≡ old.steps
  pub output : new.output ≡ old.output
  pub names : new.names ≡ old.names
  pub files : paths_of new ≡ paths_of old
  pub whole : new.is_whole ≡ old.is_whole

-- nothing but the steps changes
pub record IsStill {S : Type 0} (old new : Walk S) : Type 0 where
  pub output : new.output ≡ old.output
  pub names : new.names ≡ old.names
  pub files : paths_of new ≡ paths_of old
  pub waiting : waiting_of new ≡ waiting_of old
  pub whole : new.is_whole ≡ old.is_whole

pub and_assoc : (x y z : Bool) → ((x && y) && z) ≡ (x && (y && z))
and_assoc true y z = refl
and_assoc false y z = refl

module _ {S : Type 0} {log : S → Option (List Event)} where
  pub Finds-nothing : (walk : Walk S) → Finds log walk walk (λ events. events ≡ [])
  Finds-nothing walk = record {
    events = [];
    are = refl;
    does = Does-nothing (log walk.steps);
    output = refl;
    names = refl;
    files = sym (append-nil (paths_of walk));
    waiting = sym (append-nil (waiting_of walk));
    whole = sym (and-true walk.is_whole);
  }

  pub Finds-map : {old new : Walk S} (P Q : List Event → Type 0)
      → ((events : List Event) → P events → Q events) → Finds log old new P → Finds log old new Q
  Finds-map P Q weaker found = record {
    events = found.events;
    are = weaker found.events found.are;
    does = found.does;
    output = found.output;
    names = found.names;
    files = found.files;
    waiting = found.waiting;
    whole = found.whole;
  }

  pub Finds-then : {a b c : Walk S} (P Q R : List Event → Type 0)
      → ((xs ys : List Event) → P xs → Q ys → R (xs ++ ys)) → Finds log a b P → Finds log b c Q
      → Finds log a c R
  Finds-then {a} {b} {c} P Q R joins first next =
      let files_so : paths_of c ≡ paths_of b ++ flat_map (files_in a.output) next.events =
      rw first.output at next.files in
      record {
        events = first.events ++ next.events;
        are = joins first.events next.events first.are next.are;
        does = Does-then first.does next.does;
        output = next.output ∙ first.output;
        names = next.names ∙ first.names;
        files = files_so
            ∙ ap (λ (z : List (List ℕ)). z ++ flat_map (files_in a.output) next.events) first.files
            ∙ append_assoc (paths_of a) _ _
            ∙ ap (λ (z : List (List ℕ)). paths_of a ++ z)
            (sym (flat_map-append (files_in a.output) first.events next.events));
        waiting = next.waiting
            ∙ ap (λ (z : List (List ℕ)). z ++ flat_map directories_in next.events) first.waiting
            ∙ append_assoc (waiting_of a) _ _
            ∙ ap (λ (z : List (List ℕ)). waiting_of a ++ z)
            (sym (flat_map-append directories_in first.events next.events));
        whole = next.whole ∙ ap (λ z. z && list_all is_fine next.events) first.whole
            ∙ and_assoc a.is_whole _ _
            ∙ ap (λ z. a.is_whole && z) (sym (list_all-append is_fine first.events next.events));
      }

  -- a step finds nothing
  pub Finds-one : {old new : Walk S} (event : Event) → files_in old.output event ≡ []
      → directories_in event ≡ [] → is_fine event ≡ true → IsStill old new
      → Does (log old.steps) (log new.steps) (event ∷ [])
      → Finds log old new (λ events. events ≡ event ∷ [])
  Finds-one {old} {new} event no_file no_directory fine still noted = record {
    events = event ∷ [];
    are = refl;
    does = noted;
    output = still.output;
    names = still.names;
    files = still.files ∙ nothing_more (paths_of old) (files_in old.output event) no_file;
    waiting = still.waiting ∙ nothing_more (waiting_of old) (directories_in event) no_directory;
    whole = still.whole ∙ sym (and-true old.is_whole)
        ∙ ap (λ z. old.is_whole && (z && true)) (sym fine);
  }

  -- a look fails, and that is told
  pub looked-failed : {old mid new : Walk S} (path told : List ℕ) (error : Error) → told ≡ path
      → IsStill old mid → Does (log old.steps) (log mid.steps) (Look path (Err error) ∷ [])
      → Finds log mid new (IsFailed told error) → Finds log old new (IsTaken path)
  looked-failed path told error same still noted failed =
      Finds-then (λ events. events ≡ Look path (Err error) ∷ []) (IsFailed told error)
      (IsTaken path)
      (λ xs ys looked told_so. (
        Err error,
        ap (λ (z : List Event). z ++ ys) looked
            ∙ ap (λ (z : List Event). Look path (Err error) ∷ z)
            (told_so ∙ ap (λ p. TellError p error ∷ []) same),
      )) (Finds-one (Look path (Err error)) refl refl refl still noted) failed

  -- what is neither a file nor a directory is told
  pub looked-told : {old new : Walk S} {between : Option (List Event)} (path told : List ℕ)
      (found : Found) (fault : Fault) → told ≡ path
      → told_of path (Ok found) ≡ Tell path fault ∷ [] → is_fine (Tell path fault) ≡ true
      → files_at old.output path found.kind found.identity ≡ []
      → directories_at path found.kind ≡ [] → IsStill old new
      → Does (log old.steps) between (Look path (Ok found) ∷ [])
      → Does between (log new.steps) (Tell told fault ∷ []) → Finds log old new (IsTaken path)
  looked-told {old} {new} {between} path told found fault same is fine no_file no_directory still
      looked noted = record {
        events = Look path (Ok found) ∷ Tell path fault ∷ [];
        are = (Ok found, ap (λ (z : List Event). Look path (Ok found) ∷ z) (sym is));
        does = Does-then looked
            (subst (λ p. Does between (log new.steps) (Tell p fault ∷ [])) same noted);
        output = still.output;
        names = still.names;
        files = still.files ∙ nothing_more (paths_of old) _ no_file;
        waiting = still.waiting ∙ nothing_more (waiting_of old) _ no_directory;
        whole = still.whole ∙ sym (and-true old.is_whole)
            ∙ ap (λ z. old.is_whole && (z && true)) (sym fine);
      }

  -- no name is taken
  pub taken-none : (directory bytes : List ℕ) (walk : Walk S)
      → AreTakenTo log directory bytes bytes walk walk
  taken-none directory bytes walk =
      record { front = []; joins = refl; found = Finds-nothing walk }

  -- one more is
  pub taken-more : {old mid new : Walk S} (directory bytes : List ℕ)
      {rest name behind : List ℕ} → AreTakenTo log directory bytes rest old mid
      → IsFirstCut 0 rest name behind → Finds log mid new (IsNameTaken directory name)
      → AreTakenTo log directory bytes behind old new
  taken-more directory bytes {rest} {name} {behind} so cut one = record {
    front = so.front ++ name ∷ [];
    joins = so.joins
        ∙ ap (λ (z : List (List ℕ)). so.front ++ z) (names_in-cut cut)
        ∙ sym (append_assoc so.front (name ∷ []) (names_in behind));
    found = Finds-then (InTurn (IsNameTaken directory) so.front) (IsNameTaken directory name)
        (InTurn (IsNameTaken directory) (so.front ++ name ∷ []))
        (λ xs ys some more. turn-more (IsNameTaken directory) so.front name xs ys some more)
        so.found one;
  }

  -- the last is
  pub taken-last : {old mid new : Walk S} (directory bytes rest : List ℕ)
      → AreTakenTo log directory bytes rest old mid → IsWithout 0 rest
      → Finds log mid new (IsNameTaken directory rest)
      → Finds log old new (AreNamesTaken directory bytes)
  taken-last directory bytes rest so none one =
      Finds-then (InTurn (IsNameTaken directory) so.front) (IsNameTaken directory rest)
      (AreNamesTaken directory bytes)
      (λ xs ys some more. subst
      (λ (z : List (List ℕ)). InTurn (IsNameTaken directory) z (xs ++ ys))
      (sym (so.joins ∙ ap (λ (z : List (List ℕ)). so.front ++ z) (names_in-whole rest none)))
      (turn-more (IsNameTaken directory) so.front rest xs ys some more))
      so.found one

  -- a directory's own name and that of its parent are passed over
  pub name-passed : (walk : Walk S) (directory name : List ℕ) → is_entry name ≡ false
      → Finds log walk walk (IsNameTaken directory name)
  name-passed walk directory name is =
      Finds-map (λ events. events ≡ []) (IsNameTaken directory name)
      (λ events none. rw is none) (Finds-nothing walk)

  -- any other is taken
  pub name-taken : {old new : Walk S} (directory name path : List ℕ) → is_entry name ≡ true
      → path ≡ directory ++ name → IsUtf8 path → Finds log old new (IsTaken path)
      → Finds log old new (IsNameTaken directory name)
  name-taken directory name path is joined text found =
      Finds-map (IsTaken path) (IsNameTaken directory name)
      (λ events taken. rw is (inl (
        subst IsUtf8 joined text,
        subst (λ p. IsTaken p events) joined taken,
      )))
      found

  -- or told
  pub name-told : {old new : Walk S} (directory name path : List ℕ) → is_entry name ≡ true
      → path ≡ directory ++ name → (IsUtf8 path → ⊥) → IsTold old new
      → Does (log old.steps) (log new.steps) (Tell path fault.NotUtf8 ∷ [])
      → Finds log old new (IsNameTaken directory name)
  name-told {old} {new} directory name path is joined other told noted = record {
    events = Tell path fault.NotUtf8 ∷ [];
    are = rw is (inr (
      (λ text. other (subst IsUtf8 (sym joined) text)),
      ap (λ p. Tell p fault.NotUtf8 ∷ []) joined,
    ));
    does = noted;
    output = told.output;
    names = told.names;
    files = told.files ∙ sym (append-nil (paths_of old));
    waiting = told.waiting ∙ sym (append-nil (waiting_of old));
    whole = told.whole ∙ sym (and-false old.is_whole);
  }

  -- the reads of a directory end
  pub ended : {old new : Walk S} (directory path : List ℕ) → IsStill old new
      → Does (log old.steps) (log new.steps) (Read (Ok []) ∷ [])
      → Finds log old new (IsReadOn false directory path)
  ended directory path still noted =
      Finds-map (λ events. events ≡ Read (Ok []) ∷ []) (IsReadOn false directory path)
      (λ events is. inl is) (Finds-one (Read (Ok [])) refl refl refl still noted)

  -- one is interrupted
  pub interrupted : {old new : Walk S} (directory path : List ℕ) (error : Error)
      → error_kind error ≡ Interrupted → IsStill old new
      → Does (log old.steps) (log new.steps) (Read (Err error) ∷ [])
      → Finds log old new (IsReadOn true directory path)
  interrupted directory path error is still noted =
      Finds-map (λ events. events ≡ Read (Err error) ∷ []) (IsReadOn true directory path)
      (λ events are. (Err error, (is, are)))
      (Finds-one (Read (Err error)) refl refl refl still noted)

  -- one gives names
  pub part-read : {old mid new : Walk S} (directory path names got : List ℕ) → got ≡ names
      → IsStill old mid → Does (log old.steps) (log mid.steps) (Read (Ok names) ∷ [])
      → Finds log mid new (AreNamesTaken path got)
      → Finds log old new (IsReadOn true directory path)
  part-read directory path names got same still noted taken =
      Finds-then (λ events. events ≡ Read (Ok names) ∷ []) (AreNamesTaken path got)
      (IsReadOn true directory path)
      (λ xs ys read some. (
        Ok names,
        (
          ys,
          subst (λ (z : List ℕ). AreNamesTaken path z ys) same some,
          ap (λ (z : List Event). z ++ ys) read,
        ),
      )) (Finds-one (Read (Ok names)) refl refl refl still noted) taken

  -- one fails
  pub read-failed : {old mid new : Walk S} (directory path told : List ℕ) (error : Error)
      → told ≡ directory → (error_kind error ≡ Interrupted → ⊥) → IsStill old mid
      → Does (log old.steps) (log mid.steps) (Read (Err error) ∷ [])
      → Finds log mid new (IsFailed told error)
      → Finds log old new (IsReadOn false directory path)
  read-failed directory path told error same other still noted failed =
      Finds-then (λ events. events ≡ Read (Err error) ∷ []) (IsFailed told error)
      (IsReadOn false directory path)
      (λ xs ys read told_so. inr (
        error,
        other,
        ap (λ (z : List Event). z ++ ys) read
            ∙ ap (λ (z : List Event). Read (Err error) ∷ z)
            (told_so ∙ ap (λ p. TellError p error ∷ []) same),
      )) (Finds-one (Read (Err error)) refl refl refl still noted) failed

  -- a directory is not opened
  pub not-opened : {old mid new : Walk S} (directory path told : List ℕ) (error : Error)
      → path ≡ with_slash directory → told ≡ directory → IsStill old mid
      → Does (log old.steps) (log mid.steps) (Open path (Some error) ∷ [])
      → Finds log mid new (IsFailed told error) → Finds log old new (IsRead directory)
  not-opened directory path told error slash same still noted failed =
      Finds-then (λ events. events ≡ Open path (Some error) ∷ []) (IsFailed told error)
      (IsRead directory)
      (λ xs ys opened told_so. inl (
        error,
        ap (λ (z : List Event). z ++ ys) opened
            ∙ ap (λ p. Open p (Some error) ∷ ys) slash
            ∙ ap (λ (z : List Event). Open (with_slash directory) (Some error) ∷ z)
            (told_so ∙ ap (λ p. TellError p error ∷ []) same),
      )) (Finds-one (Open path (Some error)) refl refl refl still noted) failed

  -- one is
  pub opened : {old new : Walk S} (directory path : List ℕ) → path ≡ with_slash directory
      → IsStill old new → Does (log old.steps) (log new.steps) (Open path None ∷ [])
      → Finds log old new (IsOpen (with_slash directory))
  opened directory path slash still noted =
      Finds-map (λ events. events ≡ Open path None ∷ []) (IsOpen (with_slash directory))
      (λ events are. ([], [], refl, are ∙ ap (λ p. Open p None ∷ []) slash))
      (Finds-one (Open path None) refl refl refl still noted)

  -- more of its names are read
  pub read-more : {old mid new : Walk S} (directory path : List ℕ) → path ≡ with_slash directory
      → Finds log old mid (IsOpen (with_slash directory))
      → Finds log mid new (IsReadOn true directory path)
      → Finds log old new (IsOpen (with_slash directory))
  read-more directory path slash so more =
      Finds-then (IsOpen (with_slash directory)) (IsReadOn true directory path)
      (IsOpen (with_slash directory))
      (λ xs ys some one. (
        some.0 ++ one.0 ∷ [],
        some.1 ++ ys,
        turn-more (IsPartRead (with_slash directory)) some.0 one.0 some.1 ys some.2
            (subst (λ p. IsPartRead p one.0 ys) slash one.1),
        ap (λ (z : List Event). z ++ ys) some.3,
      )) so more

  -- it is read to its end
  pub read-end : {old mid new : Walk S} (directory path : List ℕ)
      → Finds log old mid (IsOpen (with_slash directory))
      → Finds log mid new (IsReadOn false directory path) → Finds log old new (IsRead directory)
  read-end directory path so last =
      Finds-then (IsOpen (with_slash directory)) (IsReadOn false directory path)
      (IsRead directory)
      (λ xs ys some one. inr (
        some.0,
        some.1,
        ys,
        some.2,
        one,
        ap (λ (z : List Event). z ++ ys) some.3,
      )) so last

-- ---- a directory and those below it

pub names_same : {S : Type 0} (new old : Walk S) → new.names ≡ old.names
    → names_of new ≡ names_of old
names_same new old is = rw is refl

-- what is in order by a part of it is in the order of that
pub sorted-map : {V : Type 0} (f : V → List ℕ) (lt : List ℕ → List ℕ → Bool) (xs : List V)
    → IsSortedBy (λ x y. lt (f x) (f y)) xs → IsSortedBy lt (map f xs)
sorted-map f lt [] sorted = λ k d low below. absurd (omega (arith, below))
sorted-map f lt (x ∷ xs) sorted = λ k d low below.
    let long : length (map f (x ∷ xs)) ≡ length (x ∷ xs) = length-map (x ∷ xs) f in
    let next : k + 1 < length (x ∷ xs) = omega (arith, below, long) in
    let first : k < length (x ∷ xs) = omega (arith, next) in
    subst (λ (z : List ℕ). lt z (get_or (map f (x ∷ xs)) k d) ≡ false)
    (sym (get_or-map f (x ∷ xs) (k + 1) x d next))
    (subst (λ (z : List ℕ). lt (f (get_or (x ∷ xs) (k + 1) x)) z ≡ false)
    (sym (get_or-map f (x ∷ xs) k x d first)) (sorted k x low next))

-- what an append that is done says of the items
pub on_ok_items : {T E V Q : Type 0} (r : Result T E) (xs ys : List V) {zs : List V}
    → zs ≡ (if is_ok r then xs ++ ys else xs) → (zs ≡ xs ++ ys → Q) → OnOk r Q
on_ok_items (Ok v) xs ys is holds = holds is
on_ok_items (Err e) xs ys is holds = tt

-- some directories are read, and the others that are found wait
pub record IsWalkedTo {S : Type 0} (log : S → Option (List Event)) (directory : List ℕ)
    (old now : Walk S) : Type 0 where
  pub read : List (List ℕ)
  pub events : List Event
  pub are : InTurn IsRead read events
  pub does : Does (log old.steps) (log now.steps) events
  pub output : now.output ≡ old.output
  pub names : now.names ≡ old.names
  pub files : paths_of now ≡ flat_map (files_in old.output) events
  pub waiting : IsPermutation (directory ∷ flat_map directories_in events)
      (read ++ waiting_of now)
  pub whole : now.is_whole ≡ (old.is_whole && list_all is_fine events)

module _ {S : Type 0} {log : S → Option (List Event)} where
  pub walk-begins : {old now : Walk S} (directory : List ℕ) → now.steps ≡ old.steps
      → now.output ≡ old.output → now.names ≡ old.names → now.is_whole ≡ old.is_whole
      → paths_of now ≡ [] → waiting_of now ≡ directory ∷ [] → IsWalkedTo log directory old now
  walk-begins {old} {now} directory steps output names whole files waiting = record {
    read = [];
    events = [];
    are = refl;
    does = subst (λ s. Does (log old.steps) (log s) []) (sym steps) (Does-nothing (log old.steps));
    output = output;
    names = names;
    files = files;
    waiting = subst (λ (z : List (List ℕ)). IsPermutation (directory ∷ []) z) (sym waiting)
        (IsPermutation-refl (directory ∷ []));
    whole = whole ∙ sym (and-true old.is_whole);
  }

  -- the last that waits is read
  pub walk-more : {old a b c : Walk S} (directory next : List ℕ) (rest : List (List ℕ))
      → IsWalkedTo log directory old a → waiting_of a ≡ rest ++ next ∷ []
      → waiting_of b ≡ rest → IsStep a b → Finds log b c (IsRead next)
      → IsWalkedTo log directory old c
  walk-more {old} {a} {b} {c} directory next rest so last left still found =
      let more = flat_map directories_in found.events in
      let output : b.output ≡ old.output = still.output ∙ so.output in
      let files : paths_of c ≡ paths_of b ++ flat_map (files_in old.output) found.events =
      rw output at found.files in
      let whole : c.is_whole ≡ (b.is_whole && list_all is_fine found.events) = found.whole in
      let popped : IsPermutation (directory ∷ flat_map directories_in so.events)
      ((so.read ++ next ∷ []) ++ rest) =
      IsPermutation-pop_more _ so.read (waiting_of a) rest next so.waiting
      (subst (λ (z : List (List ℕ)). IsPermutation z (next ∷ rest)) (sym last)
      (IsPermutation-to_front rest next)) in
      let all : IsPermutation ((directory ∷ flat_map directories_in so.events) ++ more)
      (((so.read ++ next ∷ []) ++ rest) ++ more) = IsPermutation-append_left more _ _ popped in
      record {
        read = so.read ++ next ∷ [];
        events = so.events ++ found.events;
        are = turn-more IsRead so.read next so.events found.events so.are found.are;
        does = Does-then so.does
            (subst (λ s. Does (log s) (log c.steps) found.events) still.steps found.does);
        output = found.output ∙ output;
        names = found.names ∙ still.names ∙ so.names;
        files = files
            ∙ ap (λ (z : List (List ℕ)). z ++ flat_map (files_in old.output) found.events)
            (still.files ∙ so.files)
            ∙ sym (flat_map-append (files_in old.output) so.events found.events);
        waiting = subst
            (λ (z : List (List ℕ)). IsPermutation z ((so.read ++ next ∷ []) ++ waiting_of c))
            (ap (λ (z : List (List ℕ)). directory ∷ z)
            (sym (flat_map-append directories_in so.events found.events)))
            (subst (λ (z : List (List ℕ)). IsPermutation
            (directory ∷ (flat_map directories_in so.events ++ more)) z)
            (append_assoc (so.read ++ next ∷ []) rest more
            ∙ ap (λ (z : List (List ℕ)). (so.read ++ next ∷ []) ++ z)
            (ap (λ (z : List (List ℕ)). z ++ more) (sym left) ∙ sym found.waiting)) all);
        whole = whole
            ∙ ap (λ z. z && list_all is_fine found.events) (still.whole ∙ so.whole)
            ∙ and_assoc old.is_whole _ _
            ∙ ap (λ z. old.is_whole && z)
            (sym (list_all-append is_fine so.events found.events));
      }

  -- none waits, and the files are sorted
  pub walk-ends : {old now new : Walk S} (directory : List ℕ) (sorted : List (List ℕ))
      → IsWalkedTo log directory old now → waiting_of now ≡ []
      → IsPermutation (paths_of now) sorted → IsSorted (slice_cmp nat_cmp) sorted
      → now.steps ≡ new.steps → new.output ≡ now.output → new.is_whole ≡ now.is_whole
      → names_of new ≡ names_of now ++ sorted
      → Names log old new (IsTreeFound old.output directory)
  walk-ends {old} {now} {new} directory sorted so none same order steps output whole names =
      record {
        events = so.events;
        added = sorted;
        are = record {
          read = so.read;
          are = so.are;
          each = subst (λ (z : List (List ℕ)). IsPermutation
              (directory ∷ flat_map directories_in so.events) z)
              (ap (λ (z : List (List ℕ)). so.read ++ z) none ∙ append-nil so.read) so.waiting;
          files = subst (λ (z : List (List ℕ)). IsPermutation z sorted) so.files same;
          sorted = order;
        };
        does = subst (λ s. Does (log old.steps) (log s) so.events) steps so.does;
        output = output ∙ so.output;
        names = names ∙ ap (λ (z : List (List ℕ)). z ++ sorted) (names_same now old so.names);
        whole = whole ∙ so.whole;
      }
