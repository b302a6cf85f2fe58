-- The books of the drill's terminals are honest for its log.
use Rattle.std.proofs.Common.{◌≡◌, ℕ, zero, suc, ◌+◌, Bool, true, false, List, [], ◌∷◌, ◌++◌, length, map, refl, sym, ◌∙◌, ap, subst, append-nil, inl, inr}
use Rattle.std.specs.Prelude.{Option, Some, None, bytes_eq, if◌then◌else◌, slice_get}
use Rattle.std.specs.List.{list_any}
use Rattle.std.proofs.lemmas.List.{map-append}
use Rattle.std.proofs.lemmas.Slice.Eq.{bytes_eq-Decides}
use Rattle.gw_base.specs.declared.setup.Setup.{Setup}
use Rattle.gw_site.specs.declared.turn.Turn.{Turn}
use Rattle.gw_site.specs.declared.turn.Turn.TheVariants.{Start, OpenFailed, Polled, Opened, HeardTill, Closed, HeardPt, Lost, Stopped, Linked, LinkFailed, SentTill, SentPt, CutTill, CutPt, Wrote, Synced, DiskFailed, Crash}
use Rattle.pt_core.specs.Exchange.{Exchange, Links, Sends, Hears, HearsSent}
use Rattle.pt_core.specs.History.{Setting}
use Rattle.gw_script.specs.site.Drill.{drill_poi, drill_pt}
use Rattle.gw_owes.specs.Calls.{LinkPt}
use Rattle.gw_owes.specs.declared.terminal.Terminal.{Terminal}
use Rattle.gw_rules.specs.Laws.{IsLeanCourse}
use Rattle.gw_rules.specs.Lawful.{AllowedTurn, IsCourse, turns_of}
use Rattle.gw_rules.specs.Scene.{Scene}
use Rattle.gw_rules.specs.Stage.{is_round}
use Rattle.gw_rules.specs.View.{View, Move, Begin, Read, Make, after, after_turn, at_first}
use Rattle.gw_rules.proofs.LinkStateLemmas.{Absent, Off, state_in, state_of}
use Rattle.gw_rules.proofs.LinkedLemmas.{Agrees, call-settled, event-settled, first-agrees, first-fits, is_on, move-agrees}
use Rattle.gw_rules.proofs.RecordOrderLemmas.{configured}
use Rattle.gw_rules.proofs.SetupLemmas.{HasSetup}
use Rattle.gw_rules.proofs.StageLemmas.{no-call}
use Rattle.gw_books.specs.Kinds.{BookedKind, kind_of_command}
use Rattle.gw_books.specs.Past.{MadeLink, Numbering, Past, no_past, past_after, past_from, past_of, poi_of_number, numbering_of_number, with_sent_bytes}
use Rattle.gw_played.specs.Played.{ArePlayed, HaveAllLinked, PlacedExchange, PlayedAgrees, PlayedIsHonest, done_by, exchanges_after, exchanges_from, exchanges_in, exchanges_of, where_poi}
use Rattle.gw_drill.specs.DrillBooks.{AreHonest, DrillIsHonest, StartWith, drill_pois, drill_settings, drill_setup, exchanges_at, setting_at}
use Rattle.gw_drill.proofs.ExchangeLemmas.{InDrill, begin-in-drill, exchanges-agree, first-number, placed-are, poi-known, resting-polls, second-number, start-first, start-later, turn-in-drill}

-- ---- terminals that there aren't

absent-among : (terminals : List Terminal) → map (λ (terminal : Terminal). terminal.pt) terminals ≡ drill_pt 0 ∷ drill_pt 1 ∷ [] → (number : ℕ) → state_of (slice_get terminals (suc (suc number))) ≡ Absent
absent-among [] e number = absurd (let n : [] ≡ drill_pt 0 ∷ drill_pt 1 ∷ [] = e in cc)
absent-among (first ∷ []) e number = absurd (let n : first.pt ∷ [] ≡ drill_pt 0 ∷ drill_pt 1 ∷ [] = e in cc)
absent-among (first ∷ second ∷ third ∷ more) e number = absurd (let n : first.pt ∷ second.pt ∷ third.pt ∷ map (λ (terminal : Terminal). terminal.pt) more ≡ drill_pt 0 ∷ drill_pt 1 ∷ [] = e in cc)
absent-among (first ∷ second ∷ []) e number = refl

absent : (v : View) → Agrees v → InDrill v → HasSetup v.scene → (number : ℕ) → state_in v.scene.core (suc (suc number)) ≡ Absent
absent v agrees drill known number = absent-among v.scene.core.terminals (configured v known.setup agrees known.setup_is ∙ ap (λ (setup : Setup). setup.terminals) (drill known.setup known.setup_is)) number

-- none is heard
not-heard : {A : Type 0} (v : View) (number : ℕ) (bytes : List ℕ) → Agrees v → InDrill v → HasSetup v.scene → AllowedTurn v (HeardPt (suc (suc number)) bytes) → A
not-heard v number bytes agrees drill known ok =
    let settled = event-settled v agrees ok.0.polled in
    absurd (let n : true ≡ false = sym ok.0.connected_is ∙ settled.linked (suc (suc number)) ∙ ap is_on (absent v agrees drill known number) in cc)

-- none is linked
not-linked : {A : Type 0} (v : View) (number : ℕ) → Agrees v → InDrill v → HasSetup v.scene → AllowedTurn v (Linked (suc (suc number))) → A
not-linked v number agrees drill known ok =
    let settled = call-settled v (LinkPt (suc (suc number))) agrees ok in
    let fits = first-fits v.scene.outside.moment v.scene.core v.calls (LinkPt (suc (suc number))) settled.fits ok in
    absurd (let n : Absent ≡ Off fits.0 = sym (absent v agrees drill known number) ∙ fits.1 in cc)

-- ---- POIIDs that none has

-- nothing is heard
abbrev HearsNone : List Exchange → Type 0
HearsNone [] = Unit {0}
HearsNone (Links ∷ exchanges) = HearsNone exchanges
HearsNone (Sends bytes ∷ exchanges) = HearsNone exchanges
HearsNone (Hears bytes ∷ exchanges) = ⊥

none-hears : (setting : Setting) (exchanges : List Exchange) → HearsNone exchanges → HearsSent setting exchanges
none-hears setting [] h = tt
none-hears setting (Links ∷ exchanges) h = none-hears setting exchanges h
none-hears setting (Sends bytes ∷ exchanges) h = none-hears setting exchanges h
none-hears setting (Hears bytes ∷ exchanges) h = absurd h

-- bytes that differ differ the other way round
other-way : (a b : List ℕ) → bytes_eq a b ≡ false → bytes_eq b a ≡ false
other-way a b e = by_test (bytes_eq b a) refl
  where
    by_test : (test : Bool) → bytes_eq b a ≡ test → test ≡ false
    by_test false f = refl
    by_test true f = absurd (let n : true ≡ false = sym ((bytes_eq-Decides a b).1 (sym ((bytes_eq-Decides b a).0 f))) ∙ e in cc)

-- no terminal has this POIID
record IsOther (poi : List ℕ) : Type 0 where
  first : bytes_eq (drill_poi 0) poi ≡ false
  second : bytes_eq (drill_poi 1) poi ≡ false

none-more : (new exchanges : List Exchange) → HearsNone new → HearsNone exchanges → HearsNone (new ++ exchanges)
none-more [] exchanges h k = k
none-more (Links ∷ new) exchanges h k = none-more new exchanges h k
none-more (Sends bytes ∷ new) exchanges h k = none-more new exchanges h k
none-more (Hears bytes ∷ new) exchanges h k = absurd h

none-where : (scene : Scene) (poi : List ℕ) (pt : ℕ) (exchange : Exchange) → HearsNone (exchange ∷ []) → HearsNone (where_poi scene poi pt exchange)
none-where scene poi pt exchange h = by_test (bytes_eq (poi_of_number scene pt) poi)
  where
    by_test : (test : Bool) → HearsNone (if test then exchange ∷ [] else [])
    by_test true = h
    by_test false = tt

heard-other : (v : View) (poi : List ℕ) (pt : ℕ) (bytes : List ℕ) → IsOther poi → Agrees v → InDrill v → HasSetup v.scene → AllowedTurn v (HeardPt pt bytes) → HearsNone (where_poi v.scene poi pt (Hears bytes))
heard-other v poi zero bytes other agrees drill known ok =
    subst (λ test. HearsNone (if test then Hears bytes ∷ [] else [])) (sym (ap (λ p. bytes_eq p poi) (poi-known v agrees drill known 0) ∙ other.first)) tt
heard-other v poi (suc zero) bytes other agrees drill known ok =
    subst (λ test. HearsNone (if test then Hears bytes ∷ [] else [])) (sym (ap (λ p. bytes_eq p poi) (poi-known v agrees drill known 1) ∙ other.second)) tt
heard-other v poi (suc (suc number)) bytes other agrees drill known ok = not-heard v number bytes agrees drill known ok

done-other : (v : View) (poi : List ℕ) (turn : Turn) → IsOther poi → Agrees v → InDrill v → AllowedTurn v turn → HearsNone (done_by v.scene poi turn)
done-other v poi (HeardPt pt bytes) other agrees drill ok = elim agrees.run [ inl known ↦ heard-other v poi pt bytes other agrees drill known ok | inr rests ↦ resting-polls v rests ok.0.polled ]
done-other v poi (Linked pt) other agrees drill ok = none-where v.scene poi pt Links tt
done-other v poi (SentPt pt bytes sent) other agrees drill ok = none-where v.scene poi pt (Sends bytes) tt
done-other v poi (Start setup) other agrees drill ok = tt
done-other v poi OpenFailed other agrees drill ok = tt
done-other v poi (Polled now) other agrees drill ok = tt
done-other v poi (Opened till) other agrees drill ok = tt
done-other v poi (HeardTill till bytes) other agrees drill ok = tt
done-other v poi (Closed till) other agrees drill ok = tt
done-other v poi (Lost pt) other agrees drill ok = tt
done-other v poi Stopped other agrees drill ok = tt
done-other v poi (LinkFailed pt) other agrees drill ok = tt
done-other v poi (SentTill till bytes sent) other agrees drill ok = tt
done-other v poi (CutTill till) other agrees drill ok = tt
done-other v poi (CutPt pt) other agrees drill ok = tt
done-other v poi (Wrote offset bytes) other agrees drill ok = tt
done-other v poi Synced other agrees drill ok = tt
done-other v poi DiskFailed other agrees drill ok = tt
done-other v poi (Crash file) other agrees drill ok = tt

other-hears-none : (poi : List ℕ) → IsOther poi → (v : View) (place : ℕ) (exchanges : List PlacedExchange) (moves : List Move) → Agrees v → InDrill v → IsCourse v moves → StartWith drill_setup (turns_of moves)
    → HearsNone (exchanges_in exchanges) → HearsNone (exchanges_in (exchanges_from poi v place exchanges moves))
other-hears-none poi other v place exchanges [] agrees drill course starts h = h
other-hears-none poi other v place exchanges (Begin ∷ moves) agrees drill course starts h =
    other-hears-none poi other (after v Begin) place exchanges moves (move-agrees v Begin agrees course.0) (begin-in-drill v drill) course.1 starts h
other-hears-none poi other v place exchanges (Read as_read ∷ moves) agrees drill course starts h =
    other-hears-none poi other (after v (Read as_read)) place exchanges moves (move-agrees v (Read as_read) agrees course.0) drill course.1 starts h
other-hears-none poi other v place exchanges (Make turn ∷ moves) agrees drill course starts h =
    let new : List PlacedExchange = map (λ (exchange : Exchange). let one : PlacedExchange = record { place = place; exchange = exchange } in one) (done_by v.scene poi turn) in
    other-hears-none poi other (after_turn v turn) (place + 1) (exchanges_after poi v place exchanges (Make turn)) moves (move-agrees v (Make turn) agrees course.0) (turn-in-drill v turn drill (start-first turn (turns_of moves) starts)) course.1 (start-later turn (turns_of moves) starts)
    (subst HearsNone (sym (map-append (λ (one : PlacedExchange). one.exchange) new exchanges))
    (none-more (exchanges_in new) (exchanges_in exchanges) (subst HearsNone (sym (placed-are place (done_by v.scene poi turn))) (done-other v poi turn other agrees drill course.0)) h))

-- ---- the links that were made

-- each is of one of the terminals
abbrev AreLinks : List MadeLink → Type 0
AreLinks links = (at : ℕ) (link : MadeLink) → slice_get links at ≡ Some link → list_any (bytes_eq link.numbering.poi) drill_pois ≡ true

one-more-link : (new : MadeLink) (links : List MadeLink) → list_any (bytes_eq new.numbering.poi) drill_pois ≡ true → AreLinks links → AreLinks (new ∷ links)
one-more-link new links own are zero link found =
    let same : new ≡ link = (let n : Some new ≡ Some link = found in cc) in
    ap (λ (one : MadeLink). list_any (bytes_eq one.numbering.poi) drill_pois) (sym same) ∙ own
one-more-link new links own are (suc at) link found = are at link found

linked-own : (v : View) (pt : ℕ) → Agrees v → InDrill v → HasSetup v.scene → AllowedTurn v (Linked pt) → list_any (bytes_eq (poi_of_number v.scene pt)) drill_pois ≡ true
linked-own v zero agrees drill known ok = ap (λ p. list_any (bytes_eq p) drill_pois) (poi-known v agrees drill known 0)
linked-own v (suc zero) agrees drill known ok = ap (λ p. list_any (bytes_eq p) drill_pois) (poi-known v agrees drill known 1)
linked-own v (suc (suc number)) agrees drill known ok = not-linked v number agrees drill known ok

sent-links : (scene : Scene) (numbering : Numbering) (bytes : List ℕ) (past : Past) (kind : Option BookedKind) → AreLinks past.links → AreLinks (with_sent_bytes scene numbering bytes past kind).links
sent-links scene numbering bytes past None are = are
sent-links scene numbering bytes past (Some kind) are = are

wrote-links : (round : Bool) (past : Past) → AreLinks past.links → AreLinks (if round then record past { deeds = past.occasion ∷ past.deeds } else past).links
wrote-links true past are = are
wrote-links false past are = are

turn-links : (v : View) (past : Past) (turn : Turn) → Agrees v → InDrill v → AllowedTurn v turn → AreLinks past.links → AreLinks (past_after v past (Make turn)).links
turn-links v past (Linked pt) agrees drill ok are = elim agrees.run [ inl known ↦ one-more-link (record { place = past.place; numbering = numbering_of_number v.scene pt; records = length v.scene.kept }) past.links (linked-own v pt agrees drill known ok) are | inr rests ↦ no-call v.calls _ rests.calls ok ]
turn-links v past (Start setup) agrees drill ok are = are
turn-links v past OpenFailed agrees drill ok are = are
turn-links v past (Polled now) agrees drill ok are = are
turn-links v past (Opened till) agrees drill ok are = are
turn-links v past (HeardTill till bytes) agrees drill ok are = are
turn-links v past (Closed till) agrees drill ok are = are
turn-links v past (HeardPt pt bytes) agrees drill ok are = are
turn-links v past (Lost pt) agrees drill ok are = are
turn-links v past Stopped agrees drill ok are = are
turn-links v past (LinkFailed pt) agrees drill ok are = are
turn-links v past (SentTill till bytes sent) agrees drill ok are = are
turn-links v past (SentPt pt bytes sent) agrees drill ok are = sent-links v.scene (numbering_of_number v.scene pt) bytes past (kind_of_command bytes) are
turn-links v past (CutTill till) agrees drill ok are = are
turn-links v past (CutPt pt) agrees drill ok are = are
turn-links v past (Wrote offset bytes) agrees drill ok are = wrote-links (is_round v.scene.stage) past are
turn-links v past Synced agrees drill ok are = are
turn-links v past DiskFailed agrees drill ok are = are
turn-links v past (Crash file) agrees drill ok are = are

links-along : (v : View) (past : Past) (moves : List Move) → Agrees v → InDrill v → IsCourse v moves → StartWith drill_setup (turns_of moves) → AreLinks past.links → AreLinks (past_from v past moves).links
links-along v past [] agrees drill course starts are = are
links-along v past (Begin ∷ moves) agrees drill course starts are = links-along (after v Begin) (past_after v past Begin) moves (move-agrees v Begin agrees course.0) (begin-in-drill v drill) course.1 starts are
links-along v past (Read as_read ∷ moves) agrees drill course starts are = links-along (after v (Read as_read)) past moves (move-agrees v (Read as_read) agrees course.0) drill course.1 starts are
links-along v past (Make turn ∷ moves) agrees drill course starts are =
    links-along (after_turn v turn) (past_after v past (Make turn)) moves (move-agrees v (Make turn) agrees course.0) (turn-in-drill v turn drill (start-first turn (turns_of moves) starts)) course.1 (start-later turn (turns_of moves) starts)
    (turn-links v past turn agrees drill course.0 are)

-- ---- the law

first-in-drill : InDrill at_first
first-in-drill setup e = absurd (let n : None ≡ Some setup = e in cc)

module _ (from payments : ℕ) (log : List Turn) (moves : List Move) (lean : IsLeanCourse log moves) (starts : StartWith drill_setup log)
    (first_hears : HearsSent (setting_at from payments 0) (exchanges_at 0 log)) (second_hears : HearsSent (setting_at from payments 1) (exchanges_at 1 log)) where
  starts-so : StartWith drill_setup (turns_of moves)
  starts-so = subst (StartWith drill_setup) (sym lean.turns_are) starts

  first-is : exchanges_in (exchanges_of (drill_poi 0) moves) ≡ exchanges_at 0 log
  first-is = exchanges-agree 0 at_first 0 [] moves first-number first-agrees first-in-drill lean.lawful starts-so ∙ append-nil (exchanges_at 0 (turns_of moves)) ∙ ap (exchanges_at 0) lean.turns_are

  second-is : exchanges_in (exchanges_of (drill_poi 1) moves) ≡ exchanges_at 1 log
  second-is = exchanges-agree 1 at_first 0 [] moves second-number first-agrees first-in-drill lean.lawful starts-so ∙ append-nil (exchanges_at 1 (turns_of moves)) ∙ ap (exchanges_at 1) lean.turns_are

  -- of the first terminal, of the second, and of none
  played-as : (poi : List ℕ) (first second : Bool) → bytes_eq poi (drill_poi 0) ≡ first → bytes_eq poi (drill_poi 1) ≡ second → HearsSent (if first then setting_at from payments 0 else setting_at from payments 1) (exchanges_in (exchanges_of poi moves))
  played-as poi true second e f =
      subst (λ p. HearsSent (setting_at from payments 0) (exchanges_in (exchanges_of p moves))) (sym ((bytes_eq-Decides poi (drill_poi 0)).0 e)) (subst (HearsSent (setting_at from payments 0)) (sym first-is) first_hears)
  played-as poi false true e f =
      subst (λ p. HearsSent (setting_at from payments 1) (exchanges_in (exchanges_of p moves))) (sym ((bytes_eq-Decides poi (drill_poi 1)).0 f)) (subst (HearsSent (setting_at from payments 1)) (sym second-is) second_hears)
  played-as poi false false e f =
      none-hears (setting_at from payments 1) (exchanges_in (exchanges_of poi moves))
      (other-hears-none poi (record { first = other-way poi (drill_poi 0) e; second = other-way poi (drill_poi 1) f }) at_first 0 [] moves first-agrees first-in-drill lean.lawful starts-so tt)

  pub played : ArePlayed (drill_settings from payments) moves
  played poi = played-as poi (bytes_eq poi (drill_poi 0)) (bytes_eq poi (drill_poi 1)) refl refl

  pub linked : HaveAllLinked drill_pois (past_of moves)
  linked = links-along at_first no_past moves first-agrees first-in-drill lean.lawful starts-so (λ at link found. absurd (let n : None ≡ Some link = found in cc))

  pub honest-so : PlayedIsHonest → PlayedAgrees → AreHonest from payments log
  honest-so honest agrees = record {
    moves = moves;
    lean = lean;
    honest = honest log moves (drill_settings from payments) drill_pois lean played (refl, (refl, tt)) linked;
    agrees = agrees log moves (drill_settings from payments) drill_pois lean played (refl, (refl, tt)) linked;
    first = first-is;
    second = second-is;
  }

pub drill-is-honest : PlayedIsHonest → PlayedAgrees → DrillIsHonest
drill-is-honest honest agrees from payments log moves lean starts first second = honest-so from payments log moves lean starts first second honest agrees
