-- What is done on the connection of a terminal along a course, by its POIID and by its number.
use Rattle.std.proofs.Common.{◌≡◌, ℕ, zero, suc, ◌+◌, ◌≤◌, Bool, true, false, List, [], ◌∷◌, ◌++◌, map, reverse, refl, sym, ◌∙◌, ap, arith, append_assoc, inl, inr}
use Rattle.std.specs.Prelude.{◌==◌, Some, None, bytes_eq, if◌then◌else◌, option_map, slice_get, unwrap_or}
use Rattle.std.specs.List.{flat_map}
use Rattle.std.proofs.lemmas.Bool.Decides.{nat_tests}
use Rattle.std.proofs.lemmas.List.{map-append, reverse-append}
use Rattle.gw_base.specs.declared.setup.Pt.{Pt}
use Rattle.gw_base.specs.declared.setup.Setup.{Setup}
use Rattle.gw_site.specs.declared.turn.Turn.{Turn}
use Rattle.gw_site.specs.declared.turn.Turn.TheVariants.{Start, OpenFailed, Polled, Opened, HeardTill, Closed, HeardPt, Lost, Stopped, Linked, LinkFailed, SentTill, SentPt, CutTill, CutPt, Wrote, Synced, DiskFailed, Crash}
use Rattle.pt_core.specs.Exchange.{Exchange, Links, Sends, Hears}
use Rattle.gw_script.specs.site.Drill.{drill_poi, drill_pt}
use Rattle.gw_owes.specs.declared.terminal.Terminal.{Terminal}
use Rattle.gw_rules.specs.Lawful.{AllowedTurn, IsCourse, turns_of}
use Rattle.gw_rules.specs.Scene.{Scene}
use Rattle.gw_rules.specs.Stage.{AtPoll, Resting}
use Rattle.gw_rules.specs.View.{View, Move, Begin, Read, Make, after, after_turn}
use Rattle.gw_rules.proofs.LinkedLemmas.{Agrees, move-agrees}
use Rattle.gw_rules.proofs.RecordOrderLemmas.{configured}
use Rattle.gw_rules.proofs.SetupLemmas.{HasSetup, IsResting, begin-setup}
use Rattle.gw_rules.proofs.StageLemmas.{no-call}
use Rattle.gw_books.specs.Past.{numbering_at, poi_of_number}
use Rattle.gw_played.specs.Played.{PlacedExchange, done_by, exchanges_after, exchanges_from, exchanges_in, where_poi}
use Rattle.gw_drill.specs.DrillBooks.{StartWith, drill_setup, exchange_at, where_number}

-- ---- numbers and POIIDs

-- the POIID of the terminal of this number in a run of the drill; there are two
abbrev pub poi_at : ℕ → List ℕ
poi_at zero = drill_poi 0
poi_at (suc zero) = drill_poi 1
poi_at (suc (suc number)) = []

heads : (a b : Pt) (rest more : List Pt) → a ∷ rest ≡ b ∷ more → a ≡ b
heads a b rest more e = cc

tails : (a b : Pt) (rest more : List Pt) → a ∷ rest ≡ b ∷ more → rest ≡ more
tails a b rest more e = cc

-- the POIID of the terminal of this number among these
abbrev poi_in : List Terminal → ℕ → List ℕ
poi_in terminals number = (unwrap_or (option_map (λ (terminal : Terminal). numbering_at terminal.pt) (slice_get terminals number)) (record { poi = [] })).poi

poi-among : (terminals : List Terminal) → map (λ (terminal : Terminal). terminal.pt) terminals ≡ drill_pt 0 ∷ drill_pt 1 ∷ [] → (number : ℕ) → poi_in terminals number ≡ poi_at number
poi-among [] e number = absurd (let n : [] ≡ drill_pt 0 ∷ drill_pt 1 ∷ [] = e in cc)
poi-among (first ∷ []) e number = absurd (let n : first.pt ∷ [] ≡ drill_pt 0 ∷ drill_pt 1 ∷ [] = e in cc)
poi-among (first ∷ second ∷ third ∷ more) e number = absurd (let n : first.pt ∷ second.pt ∷ third.pt ∷ map (λ (terminal : Terminal). terminal.pt) more ≡ drill_pt 0 ∷ drill_pt 1 ∷ [] = e in cc)
poi-among (first ∷ second ∷ []) e zero = ap (λ (pt : Pt). pt.poi) (heads first.pt (drill_pt 0) (second.pt ∷ []) (drill_pt 1 ∷ []) e)
poi-among (first ∷ second ∷ []) e (suc zero) = ap (λ (pt : Pt). pt.poi) (heads second.pt (drill_pt 1) [] [] (tails first.pt (drill_pt 0) (second.pt ∷ []) (drill_pt 1 ∷ []) e))
poi-among (first ∷ second ∷ []) e (suc (suc number)) = refl

-- ---- in a run of the drill

-- where there is a run it has the drill's setup
abbrev pub InDrill : View → Type 0
InDrill v = (setup : Setup) → v.scene.setup ≡ Some setup → setup ≡ drill_setup

pub poi-known : (v : View) → Agrees v → InDrill v → HasSetup v.scene → (number : ℕ) → poi_of_number v.scene number ≡ poi_at number
poi-known v agrees drill known number =
    poi-among v.scene.core.terminals (configured v known.setup agrees known.setup_is ∙ ap (λ (setup : Setup). setup.terminals) (drill known.setup known.setup_is)) number

-- a turn leaves it so, if it starts no other run
pub turn-in-drill : (v : View) (turn : Turn) → InDrill v → ((setup : Setup) → turn ≡ Start setup → setup ≡ drill_setup) → InDrill (after_turn v turn)
turn-in-drill v (Start setup) drill own = λ other e. let same : setup ≡ other = (let n : Some setup ≡ Some other = e in cc) in sym same ∙ own setup refl
turn-in-drill v OpenFailed drill own = λ other e. absurd (let n : None ≡ Some other = e in cc)
turn-in-drill v (Polled now) drill own = drill
turn-in-drill v (Opened till) drill own = drill
turn-in-drill v (HeardTill till bytes) drill own = drill
turn-in-drill v (Closed till) drill own = drill
turn-in-drill v (HeardPt pt bytes) drill own = drill
turn-in-drill v (Lost pt) drill own = drill
turn-in-drill v Stopped drill own = drill
turn-in-drill v (Linked pt) drill own = drill
turn-in-drill v (LinkFailed pt) drill own = drill
turn-in-drill v (SentTill till bytes true) drill own = drill
turn-in-drill v (SentTill till bytes false) drill own = drill
turn-in-drill v (SentPt pt bytes true) drill own = drill
turn-in-drill v (SentPt pt bytes false) drill own = drill
turn-in-drill v (CutTill till) drill own = drill
turn-in-drill v (CutPt pt) drill own = drill
turn-in-drill v (Wrote offset bytes) drill own = drill
turn-in-drill v Synced drill own = drill
turn-in-drill v DiskFailed drill own = drill
turn-in-drill v (Crash file) drill own = λ other e. absurd (let n : None ≡ Some other = e in cc)

pub begin-in-drill : (v : View) → InDrill v → InDrill (after v Begin)
begin-in-drill v drill = λ setup e. drill setup (sym (begin-setup v.scene v.items) ∙ e)

-- ---- one turn

-- these are the numbers of its terminals
abbrev pub IsNumber : ℕ → Type 0
IsNumber number = (pt : ℕ) → bytes_eq (poi_at pt) (drill_poi number) ≡ (pt == number)

far-from : (pt number : ℕ) → number ≤ 1 → false ≡ (suc (suc pt) == number)
far-from pt number few = grind (arith, nat_tests)

pub first-number : IsNumber 0
first-number zero = refl
first-number (suc zero) = refl
first-number (suc (suc pt)) = far-from pt 0 (omega arith)

pub second-number : IsNumber 1
second-number zero = refl
second-number (suc zero) = refl
second-number (suc (suc pt)) = far-from pt 1 (omega arith)

same-where : (scene : Scene) (number pt : ℕ) (exchange : Exchange) → IsNumber number → poi_of_number scene pt ≡ poi_at pt → where_poi scene (drill_poi number) pt exchange ≡ where_number number pt exchange
same-where scene number pt exchange is known =
    ap (λ poi. if bytes_eq poi (drill_poi number) then exchange ∷ [] else []) known ∙ ap (λ test. if test then exchange ∷ [] else []) (is pt)

-- no event comes where there is no run, and nothing is owed
pub resting-polls : {A : Type 0} (v : View) → IsResting v → v.scene.stage ≡ AtPoll → A
resting-polls v rests e = absurd (let n : Resting ≡ AtPoll = sym rests.resting ∙ e in cc)

-- what a turn does by the POIID is what it does by the number
pub done-is : (number : ℕ) (v : View) (turn : Turn) → IsNumber number → Agrees v → InDrill v → AllowedTurn v turn → done_by v.scene (drill_poi number) turn ≡ exchange_at number turn
done-is number v (HeardPt pt bytes) is agrees drill ok = elim agrees.run [ inl known ↦ same-where v.scene number pt (Hears bytes) is (poi-known v agrees drill known pt) | inr rests ↦ resting-polls v rests ok.0.polled ]
done-is number v (Linked pt) is agrees drill ok = elim agrees.run [ inl known ↦ same-where v.scene number pt Links is (poi-known v agrees drill known pt) | inr rests ↦ no-call v.calls _ rests.calls ok ]
done-is number v (SentPt pt bytes true) is agrees drill ok = elim agrees.run [ inl known ↦ same-where v.scene number pt (Sends bytes) is (poi-known v agrees drill known pt) | inr rests ↦ no-call v.calls _ rests.calls ok.1 ]
done-is number v (SentPt pt bytes false) is agrees drill ok = elim agrees.run [ inl known ↦ same-where v.scene number pt (Sends bytes) is (poi-known v agrees drill known pt) | inr rests ↦ no-call v.calls _ rests.calls ok.1 ]
done-is number v (Start setup) is agrees drill ok = refl
done-is number v OpenFailed is agrees drill ok = refl
done-is number v (Polled now) is agrees drill ok = refl
done-is number v (Opened till) is agrees drill ok = refl
done-is number v (HeardTill till bytes) is agrees drill ok = refl
done-is number v (Closed till) is agrees drill ok = refl
done-is number v (Lost pt) is agrees drill ok = refl
done-is number v Stopped is agrees drill ok = refl
done-is number v (LinkFailed pt) is agrees drill ok = refl
done-is number v (SentTill till bytes sent) is agrees drill ok = refl
done-is number v (CutTill till) is agrees drill ok = refl
done-is number v (CutPt pt) is agrees drill ok = refl
done-is number v (Wrote offset bytes) is agrees drill ok = refl
done-is number v Synced is agrees drill ok = refl
done-is number v DiskFailed is agrees drill ok = refl
done-is number v (Crash file) is agrees drill ok = refl

where-reversed : (number pt : ℕ) (exchange : Exchange) → reverse (where_number number pt exchange) ≡ where_number number pt exchange
where-reversed number pt exchange = by_test (pt == number)
  where
    by_test : (test : Bool) → reverse (if test then exchange ∷ [] else []) ≡ (if test then exchange ∷ [] else [])
    by_test true = refl
    by_test false = refl

-- it is one thing at most
pub one-reversed : (number : ℕ) (turn : Turn) → reverse (exchange_at number turn) ≡ exchange_at number turn
one-reversed number (HeardPt pt bytes) = where-reversed number pt (Hears bytes)
one-reversed number (Linked pt) = where-reversed number pt Links
one-reversed number (SentPt pt bytes sent) = where-reversed number pt (Sends bytes)
one-reversed number (Start setup) = refl
one-reversed number OpenFailed = refl
one-reversed number (Polled now) = refl
one-reversed number (Opened till) = refl
one-reversed number (HeardTill till bytes) = refl
one-reversed number (Closed till) = refl
one-reversed number (Lost pt) = refl
one-reversed number Stopped = refl
one-reversed number (LinkFailed pt) = refl
one-reversed number (SentTill till bytes sent) = refl
one-reversed number (CutTill till) = refl
one-reversed number (CutPt pt) = refl
one-reversed number (Wrote offset bytes) = refl
one-reversed number Synced = refl
one-reversed number DiskFailed = refl
one-reversed number (Crash file) = refl

-- ---- along a course

-- without their places they are what was done
pub placed-are : (place : ℕ) (exchanges : List Exchange) → exchanges_in (map (λ (exchange : Exchange). let one : PlacedExchange = record { place = place; exchange = exchange } in one) exchanges) ≡ exchanges
placed-are place [] = refl
placed-are place (exchange ∷ exchanges) = ap (λ l. exchange ∷ l) (placed-are place exchanges)

-- the runs of the other turns start so
pub start-later : (turn : Turn) (turns : List Turn) → StartWith drill_setup (turn ∷ turns) → StartWith drill_setup turns
start-later turn turns starts = λ before after setup e. starts (turn ∷ before) after setup (ap (λ l. turn ∷ l) e)

-- and that of the first
pub start-first : (turn : Turn) (turns : List Turn) → StartWith drill_setup (turn ∷ turns) → (setup : Setup) → turn ≡ Start setup → setup ≡ drill_setup
start-first turn turns starts setup e = starts [] turns setup (ap (λ one. one ∷ turns) e)

-- what is done by the POIID is what is done by the number
pub exchanges-agree : (number : ℕ) (v : View) (place : ℕ) (exchanges : List PlacedExchange) (moves : List Move) → IsNumber number → Agrees v → InDrill v → IsCourse v moves → StartWith drill_setup (turns_of moves)
    → exchanges_in (exchanges_from (drill_poi number) v place exchanges moves) ≡ reverse (flat_map (exchange_at number) (turns_of moves)) ++ exchanges_in exchanges
exchanges-agree number v place exchanges [] is agrees drill course starts = refl
exchanges-agree number v place exchanges (Begin ∷ moves) is agrees drill course starts =
    exchanges-agree number (after v Begin) place exchanges moves is (move-agrees v Begin agrees course.0) (begin-in-drill v drill) course.1 starts
exchanges-agree number v place exchanges (Read as_read ∷ moves) is agrees drill course starts =
    exchanges-agree number (after v (Read as_read)) place exchanges moves is (move-agrees v (Read as_read) agrees course.0) drill course.1 starts
exchanges-agree number v place exchanges (Make turn ∷ moves) is agrees drill course starts =
    let new = exchanges_after (drill_poi number) v place exchanges (Make turn) in
    let rest = reverse (flat_map (exchange_at number) (turns_of moves)) in
    let here : exchanges_in new ≡ exchange_at number turn ++ exchanges_in exchanges =
    map-append (λ (one : PlacedExchange). one.exchange) (map (λ (exchange : Exchange). let one : PlacedExchange = record { place = place; exchange = exchange } in one) (done_by v.scene (drill_poi number) turn)) exchanges
    ∙ ap (λ l. l ++ exchanges_in exchanges) (placed-are place (done_by v.scene (drill_poi number) turn) ∙ done-is number v turn is agrees drill course.0) in
    exchanges-agree number (after_turn v turn) (place + 1) new moves is (move-agrees v (Make turn) agrees course.0) (turn-in-drill v turn drill (start-first turn (turns_of moves) starts)) course.1 (start-later turn (turns_of moves) starts)
    ∙ ap (λ l. rest ++ l) here
    ∙ sym (append_assoc rest (exchange_at number turn) (exchanges_in exchanges))
    ∙ ap (λ l. (rest ++ l) ++ exchanges_in exchanges) (sym (one-reversed number turn))
    ∙ ap (λ l. l ++ exchanges_in exchanges) (sym (reverse-append (exchange_at number turn) (flat_map (exchange_at number) (turns_of moves))))
