-- No journal is refused in a log each of whose runs is opened with one setup.
use Rattle.std.proofs.Common.{◌≡◌, List, [], ◌∷◌, ◌++◌, refl, sym, ◌∙◌, ap, subst, arith, append_assoc, append-nil, inl, inr, true, false}
use Rattle.std.specs.Prelude.{Bool, ℕ}
use Rattle.gw_base.specs.declared.setup.Setup.{Setup}
use Rattle.gw_site.specs.Sorts.{TurnSort, OpeningOutcome, Poll, Event, CallOutcome, PowerFailure, IsQuiet, is_sort_between, sort_of}
use Rattle.gw_site.specs.declared.turn.Turn.{Turn}
use Rattle.gw_site.specs.declared.turn.Turn.TheVariants.{Start, OpenFailed, Polled, Opened, HeardTill, Closed, HeardPt, Lost, Stopped, Linked, LinkFailed, SentTill, SentPt, CutTill, CutPt, Wrote, Synced, DiskFailed, Crash}
use Rattle.gw_rules.specs.KeptLaws.{RanWith}
use Rattle.gw_rules.specs.Lawful.{IsCourse, Stands, turns_of}
use Rattle.gw_rules.specs.Opening.{opening}
use Rattle.gw_rules.specs.Scene.{records_of}
use Rattle.gw_rules.specs.Stage.{Stage, Resting, Opening, Looking, AtPoll, Handling, Over, Broken, busy, stage_synced, stage_wrote}
use Rattle.gw_rules.specs.Triple.{IsRun}
use Rattle.gw_rules.specs.View.{View, Move, Begin, Read, Make, after, after_turn, at_first, view_from}
use Rattle.gw_rules.proofs.CourseLemmas.{begin-stage, stands-more}
use Rattle.gw_rules.specs.LedgerRules.{LawfulRefusedOnlyWithFewerSlots}
use Rattle.gw_run.specs.ScriptLog.{AreOpenings, IsOpening, is_opening, is_power_failure}

-- ---- openings

-- whether an opening may come after these turns
abbrev pub may_open : Bool → List Turn → Bool
may_open first [] = first
may_open first (turn ∷ turns) = may_open (is_power_failure (sort_of turn)) turns

pub openings-append : (own : Setup) (first : Bool) (xs ys : List Turn) → AreOpenings own first xs → AreOpenings own (may_open first xs) ys → AreOpenings own first (xs ++ ys)
openings-append own first [] ys h k = k
openings-append own first (x ∷ xs) ys h k = (h.0, openings-append own (is_power_failure (sort_of x)) xs ys h.1 k)

pub openings-prefix : (own : Setup) (first : Bool) (xs ys : List Turn) → AreOpenings own first (xs ++ ys) → AreOpenings own first xs
openings-prefix own first [] ys h = tt
openings-prefix own first (x ∷ xs) ys h = (h.0, openings-prefix own (is_power_failure (sort_of x)) xs ys h.1)

-- one may come after a power failure
pub may-open-again : (first : Bool) (log : List Turn) (file : List ℕ) → may_open first (log ++ Crash file ∷ []) ≡ true
may-open-again first [] file = refl
may-open-again first (turn ∷ log) file = may-open-again (is_power_failure (sort_of turn)) log file

quiet-sort : (sort : TurnSort) → is_sort_between sort ≡ false → is_opening sort ≡ true → ⊥
quiet-sort OpeningOutcome e f = let h : true ≡ false = e in cc
quiet-sort Poll e f = let h : false ≡ true = f in cc
quiet-sort Event e f = let h : false ≡ true = f in cc
quiet-sort CallOutcome e f = let h : false ≡ true = f in cc
quiet-sort PowerFailure e f = let h : false ≡ true = f in cc

quiet-openings : (own : Setup) (first : Bool) (turns : List Turn) → IsQuiet turns → AreOpenings own first turns
quiet-openings own first [] quiet = tt
quiet-openings own first (turn ∷ turns) quiet = (λ e. absurd (quiet-sort (sort_of turn) quiet.0 e), quiet-openings own (is_power_failure (sort_of turn)) turns quiet.1)

-- one run with this setup, where an opening may come
pub run-openings : (own : Setup) (turns : List Turn) → IsRun own turns → AreOpenings own true turns
run-openings own turns (inl none) = subst (AreOpenings own true) (sym none) tt
run-openings own turns (inr (inl failed)) = subst (AreOpenings own true) (sym failed) (λ e. (refl, inr refl), tt)
run-openings own turns (inr (inr (run, quiet, inl start))) = subst (AreOpenings own true) (sym start) (λ e. (refl, inl refl), quiet-openings own false run quiet)
run-openings own turns (inr (inr (run, quiet, inr (file, crash)))) =
    subst (AreOpenings own true) (sym crash) (λ e. absurd (let h : false ≡ true = e in cc), (λ e. (refl, inl refl), quiet-openings own false run quiet))

started-with : (own setup : Setup) → IsOpening own (Start setup) → setup ≡ own
started-with own setup (inl e) = cc
started-with own setup (inr e) = absurd (let h : Start setup ≡ OpenFailed = e in cc)

start-in : (own setup : Setup) (first : Bool) (before rest log : List Turn) → log ≡ before ++ Start setup ∷ rest → AreOpenings own first log → setup ≡ own
start-in own setup first before rest [] e h = absurd (none before e) where
  none : (before : List Turn) → [] ≡ before ++ Start setup ∷ rest → ⊥
  none [] e = cc
  none (turn ∷ before) e = cc
start-in own setup first [] rest (turn ∷ log) e h =
    let is : turn ≡ Start setup = (let n : turn ∷ log ≡ Start setup ∷ rest = e in cc) in
    started-with own setup ((subst (λ t. is_opening (sort_of t) ≡ true → (first ≡ true) × IsOpening own t) is h.0) refl).1
start-in own setup first (one ∷ before) rest (turn ∷ log) e h =
    let tails : log ≡ before ++ Start setup ∷ rest = (let n : turn ∷ log ≡ one ∷ (before ++ Start setup ∷ rest) = e in cc) in
    start-in own setup (is_power_failure (sort_of turn)) before rest log tails h.1

-- each start in it has this setup
pub started-own : (own setup : Setup) (first : Bool) (log : List Turn) → AreOpenings own first log → RanWith setup log → setup ≡ own
started-own own setup first log h r = start-in own setup first r.before r.rest log r.log_is h

-- ---- stages

-- the file of the run is refused
abbrev pub is_refusing : Stage → Bool
is_refusing Resting = false
is_refusing (Opening refused) = refused
is_refusing (Looking refused) = refused
is_refusing AtPoll = false
is_refusing Handling = false
is_refusing Over = false
is_refusing Broken = false

busy-refuses : (s : Stage) → is_refusing s ≡ false → is_refusing (busy s) ≡ false
busy-refuses Resting e = refl
busy-refuses (Opening refused) e = e
busy-refuses (Looking refused) e = e
busy-refuses AtPoll e = refl
busy-refuses Handling e = refl
busy-refuses Over e = refl
busy-refuses Broken e = refl

synced-refuses : (s : Stage) → is_refusing s ≡ false → is_refusing (stage_synced s) ≡ false
synced-refuses Resting e = refl
synced-refuses (Opening refused) e = e
synced-refuses (Looking refused) e = e
synced-refuses AtPoll e = refl
synced-refuses Handling e = refl
synced-refuses Over e = refl
synced-refuses Broken e = refl

wrote-refuses : (s : Stage) → is_refusing s ≡ false → is_refusing (stage_wrote s) ≡ false
wrote-refuses Resting e = refl
wrote-refuses (Opening refused) e = e
wrote-refuses (Looking refused) e = refl
wrote-refuses AtPoll e = refl
wrote-refuses Handling e = refl
wrote-refuses Over e = refl
wrote-refuses Broken e = refl

-- a run with the one setup refuses no file
start-refuses : LawfulRefusedOnlyWithFewerSlots → (own : Setup) (log : List Turn) (v : View) (setup : Setup) → Stands log v → AreOpenings own true log → setup ≡ own → (refused : Bool) → (opening setup v.scene.outside.file (records_of v.scene)).refused ≡ refused → refused ≡ false
start-refuses rules own log v setup s h same false e = refl
start-refuses rules own log v setup s h same true e =
    let more = rules log v setup s e in
    let other = started-own own more.setup true log h more.ran in
    absurd (let lt = more.more in let a : more.setup.slots ≡ own.slots = ap (λ (one : Setup). one.slots) other in let b : setup.slots ≡ own.slots = ap (λ (one : Setup). one.slots) same in omega (arith, lt, a, b))

turn-refuses : LawfulRefusedOnlyWithFewerSlots → (own : Setup) (log : List Turn) (v : View) (turn : Turn) → Stands log v → AreOpenings own true log → (is_opening (sort_of turn) ≡ true → IsOpening own turn) → is_refusing v.scene.stage ≡ false → is_refusing (after_turn v turn).scene.stage ≡ false
turn-refuses rules own log v (Start setup) s h own_turn e = start-refuses rules own log v setup s h (started-with own setup (own_turn refl)) _ refl
turn-refuses rules own log v OpenFailed s h own_turn e = refl
turn-refuses rules own log v (Polled now) s h own_turn e = refl
turn-refuses rules own log v (Opened till) s h own_turn e = refl
turn-refuses rules own log v (HeardTill till bytes) s h own_turn e = refl
turn-refuses rules own log v (Closed till) s h own_turn e = refl
turn-refuses rules own log v (HeardPt pt bytes) s h own_turn e = refl
turn-refuses rules own log v (Lost pt) s h own_turn e = refl
turn-refuses rules own log v Stopped s h own_turn e = refl
turn-refuses rules own log v (Linked pt) s h own_turn e = busy-refuses v.scene.stage e
turn-refuses rules own log v (LinkFailed pt) s h own_turn e = busy-refuses v.scene.stage e
turn-refuses rules own log v (SentTill till bytes true) s h own_turn e = busy-refuses v.scene.stage e
turn-refuses rules own log v (SentTill till bytes false) s h own_turn e = busy-refuses v.scene.stage e
turn-refuses rules own log v (SentPt pt bytes true) s h own_turn e = busy-refuses v.scene.stage e
turn-refuses rules own log v (SentPt pt bytes false) s h own_turn e = busy-refuses v.scene.stage e
turn-refuses rules own log v (CutTill till) s h own_turn e = busy-refuses v.scene.stage e
turn-refuses rules own log v (CutPt pt) s h own_turn e = busy-refuses v.scene.stage e
turn-refuses rules own log v (Wrote offset bytes) s h own_turn e = wrote-refuses v.scene.stage e
turn-refuses rules own log v Synced s h own_turn e = synced-refuses v.scene.stage e
turn-refuses rules own log v DiskFailed s h own_turn e = refl
turn-refuses rules own log v (Crash file) s h own_turn e = refl

-- ---- logs

-- an opening after these turns has this setup
last-own : (own : Setup) (first : Bool) (log rest : List Turn) (turn : Turn) → AreOpenings own first (log ++ turn ∷ rest) → is_opening (sort_of turn) ≡ true → IsOpening own turn
last-own own first [] rest turn k is = (k.0 is).1
last-own own first (one ∷ log) rest turn k is = last-own own (is_power_failure (sort_of one)) log rest turn k.1 is

refuses-from : LawfulRefusedOnlyWithFewerSlots → (own : Setup) (log : List Turn) (v : View) (moves : List Move) → Stands log v → IsCourse v moves → AreOpenings own true (log ++ turns_of moves) → is_refusing v.scene.stage ≡ false → is_refusing (view_from v moves).scene.stage ≡ false
refuses-from rules own log v [] s h k e = e
refuses-from rules own log v (Begin ∷ moves) s h k e =
    let next = subst (λ l. Stands l (after v Begin)) (append-nil log) (stands-more log v (Begin ∷ []) s (h.0, tt)) in
    refuses-from rules own log (after v Begin) moves next h.1 k (ap is_refusing (begin-stage v.scene v.items) ∙ busy-refuses v.scene.stage e)
refuses-from rules own log v (Read as_read ∷ moves) s h k e =
    let next = subst (λ l. Stands l (after v (Read as_read))) (append-nil log) (stands-more log v (Read as_read ∷ []) s (h.0, tt)) in
    refuses-from rules own log (after v (Read as_read)) moves next h.1 k (busy-refuses v.scene.stage e)
refuses-from rules own log v (Make turn ∷ moves) s h k e =
    let before = openings-prefix own true log (turn ∷ turns_of moves) k in
    let own_turn : is_opening (sort_of turn) ≡ true → IsOpening own turn = λ is. last-own own true log (turns_of moves) turn k is in
    refuses-from rules own (log ++ turn ∷ []) (after_turn v turn) moves (stands-more log v (Make turn ∷ []) s (h.0, tt)) h.1
    (subst (AreOpenings own true) (sym (append_assoc log (turn ∷ []) (turns_of moves))) k) (turn-refuses rules own log v turn s before own_turn e)

-- so that none is refused
pub never-refused : LawfulRefusedOnlyWithFewerSlots → (own : Setup) (log : List Turn) (v : View) → Stands log v → AreOpenings own true log → v.scene.stage ≡ Looking true → ⊥
never-refused rules own log v s h e =
    let none = refuses-from rules own [] at_first s.course (record { course = []; log_is = refl; lawful = tt; view_is = refl }) s.lawful (subst (AreOpenings own true) (sym s.log_is) h) refl in
    let is : is_refusing v.scene.stage ≡ false = ap (λ (w : View). is_refusing w.scene.stage) (sym s.view_is) ∙ none in
    let n : true ≡ false = sym (ap is_refusing e) ∙ is in
    cc
