-- Along each lawful log there is exactly one lean course.
use Rattle.std.proofs.Common.{◌≡◌, List, [], ◌∷◌, refl, sym, ◌∙◌, ap, subst, true, false, inl, inr}
use Rattle.std.specs.Prelude.{Bool, if◌then◌else◌, Some, None}
use Rattle.gw_site.specs.Image.{Image}
use Rattle.gw_site.specs.declared.turn.Turn.{Turn}
use Rattle.gw_site.specs.declared.turn.Turn.TheVariants.{Start, OpenFailed, Polled, Opened, HeardTill, Closed, HeardPt, Lost, Stopped, Linked, LinkFailed, SentTill, SentPt, CutTill, CutPt, Wrote, Synced, DiskFailed, Crash}
use Rattle.gw_owes.specs.Items.{RoundItem}
use Rattle.gw_owes.specs.ReadAs.{ReadAs, IsReadAs}
use Rattle.gw_owes.proofs.ReadLemmas.{reads-one}
use Rattle.gw_rules.specs.Laws.{IsLeanCourse, EachHasOneLeanCourse}
use Rattle.gw_rules.specs.Lawful.{may_begin, first_message, IsIdle, Begins, IsRead, AllowedTurn, IsCourse, turns_of}
use Rattle.gw_rules.specs.Lean.{goes_on, IsLean}
use Rattle.gw_rules.specs.Scene.{Scene}
use Rattle.gw_rules.specs.Stage.{AtPoll, Handling, busy, is_broken}
use Rattle.gw_site.specs.Sorts.{TurnSort, OpeningOutcome, Poll, Event, CallOutcome, PowerFailure, sort_of, is_between}
use Rattle.gw_rules.specs.View.{View, Move, Begin, Read, Make, begin, after, after_turn, at_first}
use Rattle.gw_rules.proofs.CourseLemmas.{begin-outside, begin-stage}
use Rattle.gw_rules.proofs.StageLemmas.{no-true, no-call, not-true, not-false, handling-not-polled, looking-not-round, round-busy, busy-broken}

-- ---- one

abbrev is_event_sort : TurnSort → Bool
is_event_sort OpeningOutcome = false
is_event_sort Poll = false
is_event_sort Event = true
is_event_sort CallOutcome = false
is_event_sort PowerFailure = false

-- an event of a poll
abbrev is_event : Turn → Bool
is_event turn = is_event_sort (sort_of turn)

-- an event comes right after a poll alone
event-polled : (v : View) (turn : Turn) → AllowedTurn v turn → is_event turn ≡ true → v.scene.stage ≡ AtPoll
event-polled v (Start setup) ok e = no-true e
event-polled v OpenFailed ok e = no-true e
event-polled v (Polled now) ok e = no-true e
event-polled v (Opened till) ok e = ok.0
event-polled v (HeardTill till bytes) ok e = ok.0.polled
event-polled v (Closed till) ok e = ok.polled
event-polled v (HeardPt pt bytes) ok e = ok.0.polled
event-polled v (Lost pt) ok e = ok.polled
event-polled v Stopped ok e = ok
event-polled v (Linked pt) ok e = no-true e
event-polled v (LinkFailed pt) ok e = no-true e
event-polled v (SentTill till bytes sent) ok e = no-true e
event-polled v (SentPt pt bytes sent) ok e = no-true e
event-polled v (CutTill till) ok e = no-true e
event-polled v (CutPt pt) ok e = no-true e
event-polled v (Wrote offset bytes) ok e = no-true e
event-polled v Synced ok e = no-true e
event-polled v DiskFailed ok e = no-true e
event-polled v (Crash file) ok e = no-true e

-- while a round is handled no event comes
no-later-event : (v : View) (moves : List Move) (turn : Turn) (rest : List Turn) → v.scene.stage ≡ Handling → IsCourse v moves → turns_of moves ≡ turn ∷ rest → is_event turn ≡ true → ⊥
no-later-event v [] turn rest s h e event = let n : [] ≡ turn ∷ rest = e in cc
no-later-event v (Begin ∷ moves) turn rest s h e event = no-later-event (after v Begin) moves turn rest (begin-stage v.scene v.items ∙ ap busy s) h.1 e event
no-later-event v (Read as_read ∷ moves) turn rest s h e event = no-later-event (after v (Read as_read)) moves turn rest (ap busy s) h.1 e event
no-later-event v (Make first ∷ moves) turn rest s h e event =
    let heads : first ≡ turn = (let n : first ∷ turns_of moves ≡ turn ∷ rest = e in cc) in
    handling-not-polled (sym s ∙ event-polled v first h.0 (ap is_event heads ∙ event))

-- where an item waits to begin, a turn of the run that comes first is an event
event-first : (v : View) (turn : Turn) → IsIdle v → (v.items ≡ [] → ⊥) → AllowedTurn v turn → is_between turn ≡ false → is_event turn ≡ true
event-first v (Start setup) idle some ok inside = sym inside
event-first v OpenFailed idle some ok inside = sym inside
event-first v (Polled now) idle some ok inside = absurd (some ok.items)
event-first v (Opened till) idle some ok inside = refl
event-first v (HeardTill till bytes) idle some ok inside = refl
event-first v (Closed till) idle some ok inside = refl
event-first v (HeardPt pt bytes) idle some ok inside = refl
event-first v (Lost pt) idle some ok inside = refl
event-first v Stopped idle some ok inside = refl
event-first v (Linked pt) idle some ok inside = no-call v.calls _ idle.calls ok
event-first v (LinkFailed pt) idle some ok inside = no-call v.calls _ idle.calls ok
event-first v (SentTill till bytes true) idle some ok inside = no-call v.calls _ idle.calls ok.1
event-first v (SentTill till bytes false) idle some ok inside = no-call v.calls _ idle.calls ok.1
event-first v (SentPt pt bytes true) idle some ok inside = no-call v.calls _ idle.calls ok.1
event-first v (SentPt pt bytes false) idle some ok inside = no-call v.calls _ idle.calls ok.1
event-first v (CutTill till) idle some ok inside = no-call v.calls _ idle.calls ok
event-first v (CutPt pt) idle some ok inside = no-call v.calls _ idle.calls ok
event-first v (Wrote offset bytes) idle some ok inside = no-call v.calls _ idle.calls ok.1
event-first v Synced idle some ok inside = no-call v.calls _ idle.calls ok
event-first v DiskFailed idle some (inl next) inside = no-call v.calls _ idle.calls next
event-first v DiskFailed idle some (inr looking) inside = absurd (looking-not-round v.scene.stage looking idle.round)
event-first v (Crash file) idle some ok inside = sym inside

begins-some : (v : View) → Begins v → v.items ≡ [] → ⊥
begins-some v b e = no-true (sym (ap (may_begin v.scene) e) ∙ b.first)

read-some : (v : View) (as_read : ReadAs) → IsRead v as_read → v.items ≡ [] → ⊥
read-some v as_read r e = let n : None ≡ Some r.bytes = sym (ap first_message e) ∙ r.message in cc

not-both : (v : View) (as_read : ReadAs) → Begins v → IsRead v as_read → ⊥
not-both v as_read b r = no-true (sym r.waits ∙ b.first)

read-one : (v : View) (one other : ReadAs) → IsRead v one → IsRead v other → one ≡ other
read-one v one other r s =
    let same : s.bytes ≡ r.bytes = (let n : Some s.bytes ≡ Some r.bytes = sym s.message ∙ r.message in cc) in
    reads-one r.bytes one other r.reads (subst (λ b. IsReadAs b other) same s.reads)

-- an item that waits and begins, before a turn of the run that comes in the other course
begin-or-make : (v : View) (xs : List Move) (turn : Turn) (rest : List Turn) → Begins v → IsCourse (after v Begin) xs → AllowedTurn v turn → is_between turn ≡ false → turns_of xs ≡ turn ∷ rest → ⊥
begin-or-make v xs turn rest b h ok inside e =
    no-later-event (after v Begin) xs turn rest (begin-stage v.scene v.items ∙ round-busy v.scene.stage b.idle.round) h e
    (event-first v turn b.idle (begins-some v b) ok inside)

read-or-make : (v : View) (as_read : ReadAs) (xs : List Move) (turn : Turn) (rest : List Turn) → IsRead v as_read → IsCourse (after v (Read as_read)) xs → AllowedTurn v turn → is_between turn ≡ false → turns_of xs ≡ turn ∷ rest → ⊥
read-or-make v as_read xs turn rest r h ok inside e =
    no-later-event (after v (Read as_read)) xs turn rest (round-busy v.scene.stage r.idle.round) h e
    (event-first v turn r.idle (read-some v as_read r) ok inside)

-- a turn follows
goes-turn : {A : Type 0} (moves : List Move) → goes_on moves ≡ true → turns_of moves ≡ [] → A
goes-turn [] g e = no-true g
goes-turn (Begin ∷ moves) g e = goes-turn moves g e
goes-turn (Read as_read ∷ moves) g e = goes-turn moves g e
goes-turn (Make turn ∷ moves) g e = absurd (let n : turn ∷ turns_of moves ≡ [] = e in cc)

-- and it is one of the same run
goes-inside : (moves : List Move) (turn : Turn) (rest : List Turn) → goes_on moves ≡ true → turns_of moves ≡ turn ∷ rest → is_between turn ≡ false
goes-inside [] turn rest g e = no-true g
goes-inside (Begin ∷ moves) turn rest g e = goes-inside moves turn rest g e
goes-inside (Read as_read ∷ moves) turn rest g e = goes-inside moves turn rest g e
goes-inside (Make first ∷ moves) turn rest g e =
    let heads : first ≡ turn = (let n : first ∷ turns_of moves ≡ turn ∷ rest = e in cc) in
    ap is_between (sym heads) ∙ not-true (is_between first) g

one-lean : (v : View) (one other : List Move) → IsCourse v one → IsCourse v other → IsLean one → IsLean other → turns_of one ≡ turns_of other → one ≡ other
one-lean v [] [] h k g f e = refl
one-lean v [] (Begin ∷ ys) h k g f e = goes-turn ys f.0 (sym e)
one-lean v [] (Read a ∷ ys) h k g f e = goes-turn ys f.0 (sym e)
one-lean v [] (Make turn ∷ ys) h k g f e = absurd (let n : [] ≡ turn ∷ turns_of ys = e in cc)
one-lean v (Begin ∷ xs) [] h k g f e = goes-turn xs g.0 e
one-lean v (Begin ∷ xs) (Begin ∷ ys) h k g f e = ap (λ l. Begin ∷ l) (one-lean (after v Begin) xs ys h.1 k.1 g.1 f.1 e)
one-lean v (Begin ∷ xs) (Read a ∷ ys) h k g f e = absurd (not-both v a h.0 k.0)
one-lean v (Begin ∷ xs) (Make turn ∷ ys) h k g f e = absurd (begin-or-make v xs turn (turns_of ys) h.0 h.1 k.0 (goes-inside xs turn (turns_of ys) g.0 e) e)
one-lean v (Read a ∷ xs) [] h k g f e = goes-turn xs g.0 e
one-lean v (Read a ∷ xs) (Begin ∷ ys) h k g f e = absurd (not-both v a k.0 h.0)
one-lean v (Read a ∷ xs) (Read b ∷ ys) h k g f e =
    let same : b ≡ a = read-one v b a k.0 h.0 in
    let k1 : IsCourse (after v (Read a)) ys = subst (λ r. IsCourse (after v (Read r)) ys) same k.1 in
    ap (λ l. Read a ∷ l) (one-lean (after v (Read a)) xs ys h.1 k1 g.1 f.1 e) ∙ ap (λ r. Read r ∷ ys) (sym same)
one-lean v (Read a ∷ xs) (Make turn ∷ ys) h k g f e = absurd (read-or-make v a xs turn (turns_of ys) h.0 h.1 k.0 (goes-inside xs turn (turns_of ys) g.0 e) e)
one-lean v (Make turn ∷ xs) [] h k g f e = absurd (let n : turn ∷ turns_of xs ≡ [] = e in cc)
one-lean v (Make turn ∷ xs) (Begin ∷ ys) h k g f e = absurd (begin-or-make v ys turn (turns_of xs) k.0 k.1 h.0 (goes-inside ys turn (turns_of xs) f.0 (sym e)) (sym e))
one-lean v (Make turn ∷ xs) (Read a ∷ ys) h k g f e = absurd (read-or-make v a ys turn (turns_of xs) k.0 k.1 h.0 (goes-inside ys turn (turns_of xs) f.0 (sym e)) (sym e))
one-lean v (Make turn ∷ xs) (Make other ∷ ys) h k g f e =
    let heads : other ≡ turn = (let n : turn ∷ turns_of xs ≡ other ∷ turns_of ys = e in cc) in
    let tails : turns_of xs ≡ turns_of ys = (let n : turn ∷ turns_of xs ≡ other ∷ turns_of ys = e in cc) in
    let k1 : IsCourse (after_turn v turn) ys = subst (λ t. IsCourse (after_turn v t) ys) heads k.1 in
    ap (λ l. Make turn ∷ l) (one-lean (after_turn v turn) xs ys h.1 k1 g f tails) ∙ ap (λ t. Make t ∷ ys) (sym heads)

-- ---- each

-- the course without what begins or is read in vain
abbrev lean : List Move → List Move
lean [] = []
lean (Begin ∷ moves) = if goes_on moves then Begin ∷ lean moves else lean moves
lean (Read as_read ∷ moves) = if goes_on moves then Read as_read ∷ lean moves else lean moves
lean (Make turn ∷ moves) = Make turn ∷ lean moves

-- what a turn between two runs goes by
record SameBase (v w : View) : Type 0 where
  outside : v.scene.outside ≡ w.scene.outside
  kept : v.scene.kept ≡ w.scene.kept
  flight : v.scene.flight ≡ w.scene.flight
  broken : is_broken v.scene.stage ≡ is_broken w.scene.stage

begin-kept : (scene : Scene) (items : List RoundItem) → (begin scene items).scene.kept ≡ scene.kept
begin-kept scene [] = refl
begin-kept scene (item ∷ items) = refl

begin-flight : (scene : Scene) (items : List RoundItem) → (begin scene items).scene.flight ≡ scene.flight
begin-flight scene [] = refl
begin-flight scene (item ∷ items) = refl

base-begin : (v w : View) → SameBase v w → SameBase v (after w Begin)
base-begin v w b = record {
  outside = b.outside ∙ sym (begin-outside w.scene w.items);
  kept = b.kept ∙ sym (begin-kept w.scene w.items);
  flight = b.flight ∙ sym (begin-flight w.scene w.items);
  broken = b.broken ∙ sym (ap is_broken (begin-stage w.scene w.items) ∙ busy-broken w.scene.stage);
}

base-read : (v w : View) (as_read : ReadAs) → SameBase v w → SameBase v (after w (Read as_read))
base-read v w as_read b = record { outside = b.outside; kept = b.kept; flight = b.flight; broken = b.broken ∙ sym (busy-broken w.scene.stage) }

base-same : (v : View) → SameBase v v
base-same v = record { outside = refl; kept = refl; flight = refl; broken = refl }

between-allowed : (v w : View) (turn : Turn) → SameBase v w → is_between turn ≡ true → AllowedTurn w turn → AllowedTurn v turn
between-allowed v w (Start setup) b e ok = (b.broken ∙ ok.0, ok.1)
between-allowed v w OpenFailed b e ok = b.broken ∙ ok
between-allowed v w (Polled now) b e ok = no-true e
between-allowed v w (Opened till) b e ok = no-true e
between-allowed v w (HeardTill till bytes) b e ok = no-true e
between-allowed v w (Closed till) b e ok = no-true e
between-allowed v w (HeardPt pt bytes) b e ok = no-true e
between-allowed v w (Lost pt) b e ok = no-true e
between-allowed v w Stopped b e ok = no-true e
between-allowed v w (Linked pt) b e ok = no-true e
between-allowed v w (LinkFailed pt) b e ok = no-true e
between-allowed v w (SentTill till bytes sent) b e ok = no-true e
between-allowed v w (SentPt pt bytes sent) b e ok = no-true e
between-allowed v w (CutTill till) b e ok = no-true e
between-allowed v w (CutPt pt) b e ok = no-true e
between-allowed v w (Wrote offset bytes) b e ok = no-true e
between-allowed v w Synced b e ok = no-true e
between-allowed v w DiskFailed b e ok = no-true e
between-allowed v w (Crash file) b e ok = (subst (λ o. Image o file) (sym b.outside) ok.0, ok.1)

between-after : (v w : View) (turn : Turn) → SameBase v w → is_between turn ≡ true → after_turn w turn ≡ after_turn v turn
between-after v w (Start setup) b e = rw (b.outside, b.kept, b.flight) refl
between-after v w OpenFailed b e = rw (b.outside, b.kept, b.flight) refl
between-after v w (Polled now) b e = no-true e
between-after v w (Opened till) b e = no-true e
between-after v w (HeardTill till bytes) b e = no-true e
between-after v w (Closed till) b e = no-true e
between-after v w (HeardPt pt bytes) b e = no-true e
between-after v w (Lost pt) b e = no-true e
between-after v w Stopped b e = no-true e
between-after v w (Linked pt) b e = no-true e
between-after v w (LinkFailed pt) b e = no-true e
between-after v w (SentTill till bytes sent) b e = no-true e
between-after v w (SentPt pt bytes sent) b e = no-true e
between-after v w (CutTill till) b e = no-true e
between-after v w (CutPt pt) b e = no-true e
between-after v w (Wrote offset bytes) b e = no-true e
between-after v w Synced b e = no-true e
between-after v w DiskFailed b e = no-true e
between-after v w (Crash file) b e = rw (b.kept, b.flight) refl

by_goes : (v : View) (test : Bool) (move : Move) (moves rest : List Move) → goes_on moves ≡ test → (test ≡ true → IsCourse v (move ∷ rest)) → (test ≡ false → IsCourse v rest) → IsCourse v (if goes_on moves then move ∷ rest else rest)
by_goes v true move moves rest e on off = rw e (on refl)
by_goes v false move moves rest e on off = rw e (off refl)

mutual
  lean-course : (v : View) (moves : List Move) → IsCourse v moves → IsCourse v (lean moves)
  lean-course v [] h = tt
  lean-course v (Begin ∷ moves) h = by_goes v (goes_on moves) Begin moves (lean moves) refl (λ on. (h.0, lean-course (after v Begin) moves h.1)) (λ off. dropped v (after v Begin) moves (base-begin v v (base-same v)) off h.1)
  lean-course v (Read a ∷ moves) h = by_goes v (goes_on moves) (Read a) moves (lean moves) refl (λ on. (h.0, lean-course (after v (Read a)) moves h.1)) (λ off. dropped v (after v (Read a)) moves (base-read v v a (base-same v)) off h.1)
  lean-course v (Make turn ∷ moves) h = (h.0, lean-course (after_turn v turn) moves h.1)

  -- what was begun before the next run begins is dropped
  dropped : (v w : View) (moves : List Move) → SameBase v w → goes_on moves ≡ false → IsCourse w moves → IsCourse v (lean moves)
  dropped v w [] b g h = tt
  dropped v w (Begin ∷ moves) b g h = by_goes v false Begin moves (lean moves) g (λ on. no-true on) (λ off. dropped v (after w Begin) moves (base-begin v w b) g h.1)
  dropped v w (Read a ∷ moves) b g h = by_goes v false (Read a) moves (lean moves) g (λ on. no-true on) (λ off. dropped v (after w (Read a)) moves (base-read v w a b) g h.1)
  dropped v w (Make turn ∷ moves) b g h =
      let between = not-false (is_between turn) g in
      (between-allowed v w turn b between h.0, subst (λ u. IsCourse u (lean moves)) (between-after v w turn b between) (lean-course (after_turn w turn) moves h.1))

-- it makes the same turns, and is lean

lean-turns : (moves : List Move) → turns_of (lean moves) ≡ turns_of moves
lean-turns [] = refl
lean-turns (Begin ∷ moves) = by_test (goes_on moves) refl (lean-turns moves)
  where
    by_test : (test : Bool) → goes_on moves ≡ test → turns_of (lean moves) ≡ turns_of moves → turns_of (lean (Begin ∷ moves)) ≡ turns_of moves
    by_test true t e = rw t e
    by_test false t e = rw t e
lean-turns (Read a ∷ moves) = by_test (goes_on moves) refl (lean-turns moves)
  where
    by_test : (test : Bool) → goes_on moves ≡ test → turns_of (lean moves) ≡ turns_of moves → turns_of (lean (Read a ∷ moves)) ≡ turns_of moves
    by_test true t e = rw t e
    by_test false t e = rw t e
lean-turns (Make turn ∷ moves) = ap (λ l. turn ∷ l) (lean-turns moves)

lean-goes : (moves : List Move) → goes_on (lean moves) ≡ goes_on moves
lean-goes [] = refl
lean-goes (Begin ∷ moves) = by_test (goes_on moves) refl (lean-goes moves)
  where
    by_test : (test : Bool) → goes_on moves ≡ test → goes_on (lean moves) ≡ goes_on moves → goes_on (lean (Begin ∷ moves)) ≡ goes_on moves
    by_test true t e = rw t (e ∙ t)
    by_test false t e = rw t (e ∙ t)
lean-goes (Read a ∷ moves) = by_test (goes_on moves) refl (lean-goes moves)
  where
    by_test : (test : Bool) → goes_on moves ≡ test → goes_on (lean moves) ≡ goes_on moves → goes_on (lean (Read a ∷ moves)) ≡ goes_on moves
    by_test true t e = rw t (e ∙ t)
    by_test false t e = rw t (e ∙ t)
lean-goes (Make turn ∷ moves) = refl

is-lean : (moves : List Move) → IsLean (lean moves)
is-lean [] = tt
is-lean (Begin ∷ moves) = by_test (goes_on moves) refl (is-lean moves)
  where
    by_test : (test : Bool) → goes_on moves ≡ test → IsLean (lean moves) → IsLean (lean (Begin ∷ moves))
    by_test true t h = rw t (lean-goes moves ∙ t, h)
    by_test false t h = rw t h
is-lean (Read a ∷ moves) = by_test (goes_on moves) refl (is-lean moves)
  where
    by_test : (test : Bool) → goes_on moves ≡ test → IsLean (lean moves) → IsLean (lean (Read a ∷ moves))
    by_test true t h = rw t (lean-goes moves ∙ t, h)
    by_test false t h = rw t h
is-lean (Make turn ∷ moves) = is-lean moves

lean-is : (log : List Turn) (moves : List Move) → turns_of moves ≡ log → IsCourse at_first moves → IsLeanCourse log (lean moves)
lean-is log moves e h = record { turns_are = lean-turns moves ∙ e; lawful = lean-course at_first moves h; lean = is-lean moves }

pub each-has-one-lean-course : EachHasOneLeanCourse
each-has-one-lean-course log (v, s) =
    let is = lean-is log s.course s.log_is s.lawful in
    record { moves = lean s.course; is_course = is; one = λ other c. one-lean at_first other (lean s.course) c.lawful is.lawful c.lean is.lean (c.turns_are ∙ sym is.turns_are) }
