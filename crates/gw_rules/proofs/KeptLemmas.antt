-- What is remembered of a terminal is kept while nothing of it is handled and its link lasts.
use Rattle.std.proofs.Common.{◌≡◌, ◌≢◌, ℕ, zero, suc, List, [], ◌∷◌, ◌++◌, refl, sym, ◌∙◌, ap, subst, true, false, inl, inr, eqb-true}
use Rattle.std.proofs.lemmas.Bool.{and_parts}
use Rattle.std.specs.Prelude.{Bool, ◌⊎◌, ◌+◌, ◌==◌, ◌&&◌, not, nat_lt, if◌then◌else◌, map, length, slice_get, Option, Some, None}
use Rattle.std.specs.List.{flat_map}
use Rattle.std.specs.Option.{option_map}
use Rattle.gw_base.specs.declared.key.Key.{Key}
use Rattle.gw_base.specs.declared.setup.Setup.{Setup}
use Rattle.gw_site.specs.Outside.{Connection, Outside, is_connected, without, hears, heard_on, new_connection}
use Rattle.gw_site.specs.Sorts.{IsQuiet, is_between}
use Rattle.gw_site.specs.declared.turn.Turn.{Turn}
use Rattle.gw_site.specs.declared.turn.Turn.TheVariants.{Start, OpenFailed, Polled, Opened, HeardTill, Closed, HeardPt, Lost, Stopped, Linked, LinkFailed, SentTill, SentPt, CutTill, CutPt, Wrote, Synced, DiskFailed, Crash}
use Rattle.sale_values.specs.declared.header.Header.{Header}
use Rattle.sale_values.specs.declared.request.SaleRequest.{SaleRequest}
use Rattle.sale_frame.specs.Decode.{DecodedFrames, decode_after, decode_frames}
use Rattle.zvt_apdu.specs.Decode.{decode_apdu}
use Rattle.zvt_apdu.specs.DecodeStream.{DecodedApdus, decode_apdus}
use Rattle.zvt_apdu.specs.Grammar.{ApduValue}
use Rattle.zvt_talk.specs.Talk.{TalkFacts}
use Rattle.zvt_talk.specs.TalkSteps.{talk_after_stop_wished}
use Rattle.zvt_talk.specs.declared.phase.Phase.TheVariants.{Asked as AskedPhase}
use Rattle.gw_owes.specs.Awaited.{one_more_awaited}
use Rattle.gw_owes.specs.Calls.{LinkPt, CutPt as OwedCutPt}
use Rattle.gw_owes.specs.Core.{Core, Wait}
use Rattle.gw_owes.specs.Events.{till_opened_items, has_bad_length, decoded_items, is_oversized, apdu_items, decoded_apdu_items, for_each_terminal, waits_by_deadline, items_due}
use Rattle.gw_owes.specs.Items.{RoundItem, Crowded, Message, Asked, Unframed, Gone, Greet, Handle, Serve, Queue, NextWaiting, Oversized, LinkLost, Late, Overdue, Due}
use Rattle.gw_owes.specs.Links.{LinkIsMade, LinkIsLost}
use Rattle.gw_owes.specs.Payments.{serve_row}
use Rattle.gw_owes.specs.ReadAs.{ReadAs}
use Rattle.gw_owes.specs.Row.{Known, Row, owing_where}
use Rattle.gw_owes.specs.Rows.{row_of, asked_row}
use Rattle.gw_owes.specs.Steps.{is_ready_standing}
use Rattle.gw_owes.specs.Terminals.{with_terminal, link_made, link_lost, forgets_till}
use Rattle.gw_owes.specs.WaitingRows.{next_waiting_row, overdue_row, queue_row}
use Rattle.gw_owes.specs.declared.terminal.Service.{Service}
use Rattle.gw_owes.specs.declared.terminal.Standing.{Standing}
use Rattle.gw_owes.specs.declared.terminal.Standing.TheVariants.{Unlinked, Registering, Enquiring, Ready, Serving, Aside}
use Rattle.gw_owes.specs.declared.terminal.Terminal.{Terminal}
use Rattle.gw_owes.proofs.NextLemmas.{each-next, each-overdue, each-queued}
use Rattle.gw_owes.proofs.PaymentLemmas.{StopsAt, each-served}
use Rattle.gw_owes.proofs.SetLemmas.{new-is-there}
use Rattle.gw_owes.proofs.TerminalLemmas.{greeting-changes-nothing, late-same, due-same, oversized-same, link-changes-alone, row-changes-alone}
use Rattle.gw_rules.specs.LinkLaws.{IsOfTerminal, BringNothing, EndsNone}
use Rattle.gw_rules.specs.Lawful.{may_begin, Begins, AllowedTurn, IsCourse, turns_of}
use Rattle.gw_rules.specs.Scene.{Scene, known_in, row_in, row_at, link_made_at, link_lost_at}
use Rattle.gw_rules.specs.View.{View, Move, Begin, Read, Make, read_first, after, after_turn, view_from}
use Rattle.gw_rules.proofs.CourseLemmas.{begin-outside}
use Rattle.gw_rules.proofs.LinkStateLemmas.{On, standing_state, state_of, state_in, may_begin_some, each-beginning, may_bring_more, each-bringing, is_message, all_look, next-looks, may_follow, each-following, all_follow, loses, apart}
use Rattle.gw_rules.proofs.LinkedLemmas.{Agrees, Settled, Losing, lose_none, at-keeps, at-keeps-alone, call-settled, call-setup, lost-at-turns, made-at-turns, move-agrees, round-setup}
use Rattle.gw_rules.proofs.OutsideCutLemmas.{no-link}
use Rattle.gw_rules.proofs.StageLemmas.{no-true, not-true}

-- ---- what is remembered of a terminal

-- but for the till that asked, which may be gone
abbrev pub without_asker : Terminal → Terminal
without_asker terminal = record terminal { asker = None }

abbrev pub kept_in : Core → ℕ → Option Terminal
kept_in core number = option_map without_asker (slice_get core.terminals number)

-- ---- what lasts of a terminal

-- a terminal of this standing serves something
abbrev pub is_serving : Standing → Bool
is_serving (Unlinked due) = false
is_serving Registering = false
is_serving Enquiring = false
is_serving (Ready last) = false
is_serving (Serving service last) = true
is_serving (Aside before reported) = false

-- a dialogue without its phase
abbrev pub without_phase : TalkFacts → TalkFacts
without_phase talk = record talk { phase = AskedPhase false }

-- the dialogue in this standing: of one that serves a stop may change the phase
abbrev pub lasting_talk : Standing → Option TalkFacts → Option TalkFacts
lasting_talk (Unlinked due) talk = talk
lasting_talk Registering talk = talk
lasting_talk Enquiring talk = talk
lasting_talk (Ready last) talk = talk
lasting_talk (Serving service last) talk = option_map without_phase talk
lasting_talk (Aside before reported) talk = talk

-- what is awaited in this standing: where it serves, one more with a stop
abbrev lasting_awaited : Standing → ℕ → ℕ
lasting_awaited (Unlinked due) awaited = awaited
lasting_awaited Registering awaited = awaited
lasting_awaited Enquiring awaited = awaited
lasting_awaited (Ready last) awaited = awaited
lasting_awaited (Serving service last) awaited = 0
lasting_awaited (Aside before reported) awaited = awaited

-- what lasts of a terminal of which nothing is handled: all but for the till that asked, and what a stop changes
abbrev pub lasting : Terminal → Terminal
lasting terminal = record { pt = terminal.pt; standing = terminal.standing; talk = lasting_talk terminal.standing terminal.talk; awaited = lasting_awaited terminal.standing terminal.awaited; asker = None }

abbrev pub lasting_in : Core → ℕ → Option Terminal
lasting_in core number = option_map lasting (kept_in core number)

-- where it doesn't serve, that is all but for the till
lasting-exact : (terminal : Terminal) → is_serving terminal.standing ≡ false → lasting terminal ≡ without_asker terminal
lasting-exact terminal none = by_standing terminal.standing none
  where
    with_standing : Standing → Terminal
    with_standing standing = record { pt = terminal.pt; standing = standing; talk = terminal.talk; awaited = terminal.awaited; asker = None }

    by_standing : (standing : Standing) → is_serving standing ≡ false
        → record { pt = terminal.pt; standing = standing; talk = lasting_talk standing terminal.talk; awaited = lasting_awaited standing terminal.awaited; asker = None } ≡ with_standing standing
    by_standing (Unlinked due) e = refl
    by_standing Registering e = refl
    by_standing Enquiring e = refl
    by_standing (Ready last) e = refl
    by_standing (Serving service last) e = no-true (sym e)
    by_standing (Aside before reported) e = refl

-- what lasts is of a terminal that is there
pub found-lasting : (core : Core) (pt : ℕ) (terminal : Terminal) → lasting_in core pt ≡ Some terminal → (own : Terminal) × (slice_get core.terminals pt ≡ Some own) × (lasting own ≡ terminal)
found-lasting core pt terminal lasts = by_found (slice_get core.terminals pt) lasts
  where
    by_found : (found : Option Terminal) → option_map lasting (option_map without_asker found) ≡ Some terminal → (own : Terminal) × (found ≡ Some own) × (lasting own ≡ terminal)
    by_found None e = absurd (let n : None ≡ Some terminal = e in cc)
    by_found (Some own) e = (own, refl, let n : Some (lasting own) ≡ Some terminal = e in cc)

-- so where nothing is served all is kept but for the till
pub lasting-kept : (core : Core) (pt : ℕ) (terminal : Terminal) → is_serving terminal.standing ≡ false → lasting_in core pt ≡ Some terminal → kept_in core pt ≡ Some terminal
lasting-kept core pt terminal none lasts =
    let found = found-lasting core pt terminal lasts in
    let standing : found.0.standing ≡ terminal.standing = ap (λ (t : Terminal). t.standing) found.2 in
    ap (option_map without_asker) found.1 ∙ ap Some (sym (lasting-exact found.0 (ap is_serving standing ∙ none)) ∙ found.2)

-- a stop of what is served changes nothing that lasts
stop-lasts : (terminal : Terminal) (talk : TalkFacts) (service : Service) (last awaited : ℕ) → terminal.standing ≡ Serving service last → terminal.talk ≡ Some talk
    → lasting (record terminal { talk = Some (talk_after_stop_wished talk); awaited = awaited }) ≡ lasting terminal
stop-lasts terminal talk service last awaited standing_is talk_is =
    subst (λ s. part s (Some (talk_after_stop_wished talk)) awaited ≡ part s terminal.talk terminal.awaited) (sym standing_is)
    (subst (λ t. part (Serving service last) (Some (talk_after_stop_wished talk)) awaited ≡ part (Serving service last) t terminal.awaited) (sym talk_is) refl)
  where
    part : Standing → Option TalkFacts → ℕ → Terminal
    part standing talk count = record { pt = terminal.pt; standing = standing; talk = lasting_talk standing talk; awaited = lasting_awaited standing count; asker = None }

-- the terminal is ready, so that it may begin to serve
abbrev pub is_ready_found : Option Terminal → Bool
is_ready_found None = false
is_ready_found (Some terminal) = is_ready_standing terminal.standing

abbrev pub ready_in : Core → ℕ → Bool
ready_in core number = is_ready_found (slice_get core.terminals number)

-- the item may change what is remembered of this terminal, where it isn't ready; one that begins to serve changes one that is
abbrev pub changes : ℕ → RoundItem → Bool
changes pt (Crowded till) = false
changes pt (Message till bytes) = false
changes pt (Asked till as_read) = false
changes pt (Unframed till) = false
changes pt (Gone till) = false
changes pt (Greet other apdu) = false
changes pt (Handle other apdu) = other == pt
changes pt (Serve other till header request) = false
changes pt (Queue other till header request) = false
changes pt (NextWaiting other) = false
changes pt (Oversized other) = false
changes pt (LinkLost other) = other == pt
changes pt (Late other) = false
changes pt (Overdue key) = false
changes pt (Due other) = false

abbrev pub change_none : ℕ → List RoundItem → Bool
change_none pt [] = true
change_none pt (item ∷ items) = not (changes pt item) && change_none pt items

-- ---- rows

pub without-kept : (till : ℕ) (terminals : List Terminal) (number : ℕ) → option_map without_asker (slice_get (map (forgets_till till) terminals) number) ≡ option_map without_asker (slice_get terminals number)
without-kept till [] number = refl
without-kept till (terminal ∷ terminals) zero = refl
without-kept till (terminal ∷ terminals) (suc number) = without-kept till terminals number

where-core : (holds : Bool) (known : Known) (row : Row) → row.core ≡ known.core → (owing_where holds known row).core ≡ known.core
where-core true known row e = e
where-core false known row e = refl

pub other-number : (pt other : ℕ) → (other == pt) ≡ false → pt ≢ other
other-number pt other e same = apart other pt e (sym same)

pub by-equal : {A : Type 0} (pt other : ℕ) → (other ≡ pt → A) → ((other == pt) ≡ false → A) → A
by-equal {A} pt other same differs = by_test (other == pt) refl
  where
    by_test : (test : Bool) → (other == pt) ≡ test → A
    by_test true e = same (eqb-true other pt e)
    by_test false e = differs e

-- a terminal that isn't ready begins to serve nothing, and what it serves may be stopped
serve-own : (known : Known) (number till : ℕ) (header : Header) (request : SaleRequest) → ready_in known.core number ≡ false → lasting_in (serve_row known number till header request).core number ≡ lasting_in known.core number
serve-own known number till header request none =
    each-served (λ (row : Row). lasting_in row.core number ≡ lasting_in known.core number) known number till header request (record {
      none = refl;
      begins = λ terminal last asking at. never_ready terminal last at.found at.standing_is;
      sent = λ terminal talk at now. stopped-lasts terminal talk at (one_more_awaited terminal.awaited);
      wished = λ terminal talk at later. stopped-lasts terminal talk at terminal.awaited;
      session = λ success. refl;
      settles = λ terminal at. refl;
      day = λ terminal last at. never_ready terminal last at.found at.standing_is;
      displays = λ terminal last outputs command at. never_ready terminal last at.found at.standing_is;
    })
  where
    never_ready : {A : Type 0} (terminal : Terminal) (last : ℕ) → slice_get known.core.terminals number ≡ Some terminal → terminal.standing ≡ Ready last → A
    never_ready terminal last found ready = no-true (sym none ∙ ap is_ready_found found ∙ ap is_ready_standing ready)

    stopped-lasts : (terminal : Terminal) (talk : TalkFacts) → StopsAt known number header request terminal talk → (awaited : ℕ)
        → lasting_in (with_terminal known.core number (record terminal { talk = Some (talk_after_stop_wished talk); awaited = awaited })) number ≡ lasting_in known.core number
    stopped-lasts terminal talk at awaited =
        let stopped : Terminal = record terminal { talk = Some (talk_after_stop_wished talk); awaited = awaited } in
        ap (λ found. option_map lasting (option_map without_asker found)) (new-is-there known.core.terminals number terminal stopped at.found) ∙ ap Some (stop-lasts terminal talk at.service at.last awaited at.standing_is at.talk_is)
        ∙ sym (ap (λ found. option_map lasting (option_map without_asker found)) at.found)

serve-lasts : (known : Known) (number till : ℕ) (header : Header) (request : SaleRequest) (pt : ℕ) → ready_in known.core pt ≡ false → lasting_in (serve_row known number till header request).core pt ≡ lasting_in known.core pt
serve-lasts known number till header request pt none = by-equal pt number
    (λ is. subst (λ n. ready_in known.core n ≡ false → lasting_in (serve_row known number till header request).core n ≡ lasting_in known.core n) is (serve-own known number till header request) none)
    (λ differs. ap (λ found. option_map lasting (option_map without_asker found)) ((row-changes-alone known (Serve number till header request) number refl).others pt (other-number pt number differs)))

-- so does one that isn't ready: nothing that waits for it is looked at
next-own : (known : Known) (number : ℕ) → ready_in known.core number ≡ false → lasting_in (next_waiting_row known number).core number ≡ lasting_in known.core number
next-own known number none =
    each-next (λ (row : Row). lasting_in row.core number ≡ lasting_in known.core number) known number (record {
      none = refl;
      refused = λ terminal last wait condition first is. refl;
      begins = λ terminal last wait asking at. never_ready terminal last at.first.found at.first.standing_is;
      day = λ terminal last wait at. never_ready terminal last at.first.found at.first.standing_is;
      left = λ terminal last wait first. refl;
    })
  where
    never_ready : {A : Type 0} (terminal : Terminal) (last : ℕ) → slice_get known.core.terminals number ≡ Some terminal → terminal.standing ≡ Ready last → A
    never_ready terminal last found ready = no-true (sym none ∙ ap is_ready_found found ∙ ap is_ready_standing ready)

next-lasts : (known : Known) (number pt : ℕ) → ready_in known.core pt ≡ false → lasting_in (next_waiting_row known number).core pt ≡ lasting_in known.core pt
next-lasts known number pt none = by-equal pt number
    (λ is. subst (λ n. ready_in known.core n ≡ false → lasting_in (next_waiting_row known number).core n ≡ lasting_in known.core n) is (next-own known number) none)
    (λ differs. ap (λ found. option_map lasting (option_map without_asker found)) ((row-changes-alone known (NextWaiting number) number refl).others pt (other-number pt number differs)))

-- what waits makes no difference
queue-kept : (known : Known) (number till : ℕ) (header : Header) (request : SaleRequest) (pt : ℕ) → kept_in (queue_row known number till header request).core pt ≡ kept_in known.core pt
queue-kept known number till header request pt =
    each-queued (λ (row : Row). kept_in row.core pt ≡ kept_in known.core pt) known number till header request (record { none = refl; joins = λ terminal key at. refl; taken = λ wait at. refl })

overdue-kept : (known : Known) (key : Key) (pt : ℕ) → kept_in (overdue_row known key).core pt ≡ kept_in known.core pt
overdue-kept known key pt = each-overdue (λ (row : Row). kept_in row.core pt ≡ kept_in known.core pt) known key (record { none = refl; taken = λ wait is overdue. refl })

-- an item that begins to serve nothing keeps all but the till
rows-kept : (tills : List Connection) (known : Known) (item : RoundItem) (pt : ℕ) → may_begin_some item ≡ false → changes pt item ≡ false → kept_in (row_of tills known item).core pt ≡ kept_in known.core pt
rows-kept tills known (Crowded till) pt none e = refl
rows-kept tills known (Message till bytes) pt none e = refl
rows-kept tills known (Asked till as_read) pt none e = ap (λ c. kept_in c pt) (where-core (is_connected tills till) known (asked_row known till as_read) refl)
rows-kept tills known (Unframed till) pt none e = ap (λ c. kept_in c pt) (where-core (is_connected tills till) known _ refl)
rows-kept tills known (Gone till) pt none e = without-kept till known.core.terminals pt
rows-kept tills known (Greet number apdu) pt none e = ap (λ c. kept_in c pt) (greeting-changes-nothing known number apdu)
rows-kept tills known (Handle number apdu) pt none e = ap (option_map without_asker) ((row-changes-alone known (Handle number apdu) number refl).others pt (other-number pt number e))
rows-kept tills known (Serve number till header request) pt none e = no-true (sym none)
rows-kept tills known (Queue number till header request) pt none e = queue-kept known number till header request pt
rows-kept tills known (NextWaiting number) pt none e = no-true (sym none)
rows-kept tills known (Oversized number) pt none e = ap (λ c. kept_in c pt) (oversized-same known number)
rows-kept tills known (LinkLost number) pt none e = ap (option_map without_asker) ((row-changes-alone known (LinkLost number) number refl).others pt (other-number pt number e))
rows-kept tills known (Late number) pt none e = ap (λ c. kept_in c pt) (late-same known number)
rows-kept tills known (Overdue key) pt none e = overdue-kept known key pt
rows-kept tills known (Due number) pt none e = ap (λ c. kept_in c pt) (due-same known number)

-- and each item keeps what lasts of a terminal that isn't ready
pub rows-last : (tills : List Connection) (known : Known) (item : RoundItem) (pt : ℕ) → ready_in known.core pt ≡ false → changes pt item ≡ false → lasting_in (row_of tills known item).core pt ≡ lasting_in known.core pt
rows-last tills known item pt none e = by_test (may_begin_some item) refl
  where
    by_test : (test : Bool) → may_begin_some item ≡ test → lasting_in (row_of tills known item).core pt ≡ lasting_in known.core pt
    by_test true is =
        each-beginning (λ i. lasting_in (row_of tills known i).core pt ≡ lasting_in known.core pt) item is (λ number till header request. serve-lasts known number till header request pt none)
        (λ number. next-lasts known number pt none)
    by_test false is = ap (option_map lasting) (rows-kept tills known item pt is e)

pub at-kept : (scene : Scene) (item : RoundItem) (pt : ℕ) → may_begin_some item ≡ false → changes pt item ≡ false → kept_in (row_at scene item).core pt ≡ kept_in scene.core pt
at-kept scene item pt none e = by_setup scene.setup
  where
    by_setup : (setup : Option Setup) → kept_in (row_in scene (λ known. row_of scene.outside.tills known item) setup).core pt ≡ kept_in scene.core pt
    by_setup None = refl
    by_setup (Some setup) = rows-kept scene.outside.tills (known_in scene setup) item pt none e

at-lasts : (scene : Scene) (item : RoundItem) (pt : ℕ) → ready_in scene.core pt ≡ false → changes pt item ≡ false → lasting_in (row_at scene item).core pt ≡ lasting_in scene.core pt
at-lasts scene item pt none e = by_setup scene.setup
  where
    by_setup : (setup : Option Setup) → lasting_in (row_in scene (λ known. row_of scene.outside.tills known item) setup).core pt ≡ lasting_in scene.core pt
    by_setup None = refl
    by_setup (Some setup) = rows-last scene.outside.tills (known_in scene setup) item pt none e

pub made-kept : (scene : Scene) (other pt : ℕ) → pt ≢ other → kept_in (link_made_at scene other).core pt ≡ kept_in scene.core pt
made-kept scene other pt differs = by_setup scene.setup
  where
    by_setup : (setup : Option Setup) → kept_in (row_in scene (λ known. link_made known other) setup).core pt ≡ kept_in scene.core pt
    by_setup None = refl
    by_setup (Some setup) = ap (option_map without_asker) ((link-changes-alone (known_in scene setup) other LinkIsMade).others pt differs)

pub lost-kept : (scene : Scene) (other pt : ℕ) → pt ≢ other → kept_in (link_lost_at scene other).core pt ≡ kept_in scene.core pt
lost-kept scene other pt differs = by_setup scene.setup
  where
    by_setup : (setup : Option Setup) → kept_in (row_in scene (λ known. link_lost known other) setup).core pt ≡ kept_in scene.core pt
    by_setup None = refl
    by_setup (Some setup) = ap (option_map without_asker) ((link-changes-alone (known_in scene setup) other LinkIsLost).others pt differs)

-- ---- items

pub change-none-append : (pt : ℕ) (items more : List RoundItem) → change_none pt items ≡ true → change_none pt more ≡ true → change_none pt (items ++ more) ≡ true
change-none-append pt [] more h k = k
change-none-append pt (item ∷ items) more h k =
    let p = and_parts (not (changes pt item)) (change_none pt items) h in
    rw (p.0, change-none-append pt items more p.1 k) refl

follow-changes-none : (pt : ℕ) (item : RoundItem) → may_follow item ≡ true → changes pt item ≡ false
follow-changes-none pt item e = each-following (λ i. changes pt i ≡ false) item e (λ number till header request. refl) (λ number till header request. refl) (λ number. refl)

pub follow-change-none : (pt : ℕ) (items : List RoundItem) → all_follow items ≡ true → change_none pt items ≡ true
follow-change-none pt [] e = refl
follow-change-none pt (item ∷ items) e =
    let p = and_parts (may_follow item) (all_follow items) e in
    rw (follow-changes-none pt item p.0, follow-change-none pt items p.1) refl

none-each : (pt number : ℕ) (item : ℕ → RoundItem) (terminals : List Terminal) → ((n : ℕ) → changes pt (item n) ≡ false) → change_none pt (for_each_terminal number item terminals) ≡ true
none-each pt number item [] never = refl
none-each pt number item (terminal ∷ terminals) never = rw (never number, none-each pt (number + 1) item terminals never) refl

none-overdue : (pt : ℕ) (waits : List Wait) → change_none pt (map (λ (wait : Wait). Overdue wait.key) waits) ≡ true
none-overdue pt [] = refl
none-overdue pt (wait ∷ waits) = none-overdue pt waits

pub due-change-none : (pt : ℕ) (core : Core) → change_none pt (items_due core) ≡ true
due-change-none pt core =
    change-none-append pt (for_each_terminal 0 Late core.terminals) (map (λ (wait : Wait). Overdue wait.key) (waits_by_deadline core.waits) ++ for_each_terminal 0 Due core.terminals) (none-each pt 0 Late core.terminals (λ n. refl))
    (change-none-append pt (map (λ (wait : Wait). Overdue wait.key) (waits_by_deadline core.waits)) (for_each_terminal 0 Due core.terminals) (none-overdue pt (waits_by_deadline core.waits)) (none-each pt 0 Due core.terminals (λ n. refl)))

none-where : (pt : ℕ) (test : Bool) (item : RoundItem) → changes pt item ≡ false → change_none pt (if test then item ∷ [] else []) ≡ true
none-where pt true item never = rw never refl
none-where pt false item never = refl

none-opened : (pt till : ℕ) (tills : List Connection) → change_none pt (till_opened_items till tills) ≡ true
none-opened pt till tills = by_test (nat_lt (length tills) 64)
  where
    by_test : (test : Bool) → change_none pt (if test then [] else Crowded till ∷ []) ≡ true
    by_test true = refl
    by_test false = refl

none-messages : (pt till : ℕ) (payloads : List (List ℕ)) → change_none pt (map (Message till) payloads) ≡ true
none-messages pt till [] = refl
none-messages pt till (payload ∷ payloads) = none-messages pt till payloads

none-till : (pt till : ℕ) (decoded : DecodedFrames) → change_none pt (decoded_items till decoded) ≡ true
none-till pt till decoded = change-none-append pt (map (Message till) decoded.payloads) _ (none-messages pt till decoded.payloads) (none-where pt (has_bad_length decoded.rest) (Unframed till) refl)

none-apdus : (pt other : ℕ) (apdus : List ApduValue) → (other == pt) ≡ false → change_none pt (flat_map (apdu_items other) apdus) ≡ true
none-apdus pt other [] e = refl
none-apdus pt other (apdu ∷ apdus) e = rw (e, none-apdus pt other apdus e) refl

none-pt : (pt other : ℕ) (decoded : DecodedApdus) → (other == pt) ≡ false → change_none pt (decoded_apdu_items other decoded) ≡ true
none-pt pt other decoded e = change-none-append pt (flat_map (apdu_items other) decoded.apdus) _ (none-apdus pt other decoded.apdus e) (none-where pt (is_oversized (decode_apdu decoded.rest)) (Oversized other) refl)

-- what each event brings but bytes of this terminal and the loss of its link
pub opened-none : (pt till : ℕ) (tills : List Connection) (core : Core) → change_none pt (till_opened_items till tills ++ items_due core) ≡ true
opened-none pt till tills core = change-none-append pt (till_opened_items till tills) (items_due core) (none-opened pt till tills) (due-change-none pt core)

pub till-none : (pt till : ℕ) (decoded : DecodedFrames) (core : Core) → change_none pt (decoded_items till decoded ++ items_due core) ≡ true
till-none pt till decoded core = change-none-append pt (decoded_items till decoded) (items_due core) (none-till pt till decoded) (due-change-none pt core)

pub other-none : (pt other : ℕ) (decoded : DecodedApdus) (core : Core) → (other == pt) ≡ false → change_none pt (decoded_apdu_items other decoded ++ items_due core) ≡ true
other-none pt other decoded core e = change-none-append pt (decoded_apdu_items other decoded) (items_due core) (none-pt pt other decoded e) (due-change-none pt core)

-- an item that begins is the first, and those after it are left; where it is a message that was read, or a look at what waits, others may come before them
pub record BeginsFirst (v : View) : Type 0 where
  pub item : RoundItem
  pub rest : List RoundItem
  pub new : List RoundItem
  pub items_are : v.items ≡ item ∷ rest
  pub new_is : all_follow new ≡ true
  pub left : (after v Begin).items ≡ new ++ rest
  pub alone : may_bring_more item ≡ false → new ≡ []
  -- where it is no message only a look at what waits may
  pub looks : is_message item ≡ false → all_look new ≡ true

pub left-alone : (v : View) (f : BeginsFirst v) → may_bring_more f.item ≡ false → (after v Begin).items ≡ f.rest
left-alone v f none = f.left ∙ ap (λ l. l ++ f.rest) (f.alone none)

looks-at : (scene : Scene) (number : ℕ) → all_look (row_at scene (NextWaiting number)).items ≡ true
looks-at scene number = by_setup scene.setup
  where
    by_setup : (setup : Option Setup) → all_look (row_in scene (λ known. row_of scene.outside.tills known (NextWaiting number)) setup).items ≡ true
    by_setup None = refl
    by_setup (Some setup) = next-looks (known_in scene setup) number

pub begins-first : (v : View) → Agrees v → Begins v → BeginsFirst v
begins-first v a b = by_items v.items refl
  where
    by_items : (items : List RoundItem) → v.items ≡ items → BeginsFirst v
    by_items [] e = no-true (sym (ap (may_begin v.scene) e) ∙ b.first)
    by_items (item ∷ rest) e =
        let known = round-setup v a.run b.idle.round in
        let adds = by_links known.setup known.setup_is a.links in
        record { item = item; rest = rest; new = (row_at v.scene item).items; items_are = e; new_is = adds.0; left = ap (λ l. (after (record v { items = l }) Begin).items) e; alone = adds.1; looks = looks_only (may_bring_more item) refl adds.1 }
      where
        looks_only : (test : Bool) → may_bring_more item ≡ test → (may_bring_more item ≡ false → (row_at v.scene item).items ≡ []) → is_message item ≡ false → all_look (row_at v.scene item).items ≡ true
        looks_only false e alone none = ap all_look (alone e)
        looks_only true e alone none =
            each-bringing (λ i. is_message i ≡ false → all_look (row_at v.scene i).items ≡ true) item e (λ till as_read n. no-true (sym n)) (λ number n. looks-at v.scene number) none

        by_links : (setup : Setup) → v.scene.setup ≡ Some setup → Settled v ⊎ Losing v → (all_follow (row_at v.scene item).items ≡ true) × (may_bring_more item ≡ false → (row_at v.scene item).items ≡ [])
        by_links setup is (inl s) =
            let none : lose_none (item ∷ rest) ≡ true = subst (λ l. lose_none l ≡ true) e s.none in
            let stays = not-true (loses item) (and_parts (not (loses item)) (lose_none rest) none).0 in
            ((at-keeps v.scene item setup is s.even stays).items, λ asked. (at-keeps-alone v.scene item setup is s.even stays asked).items)
        by_links setup is (inr l) =
            let same : LinkLost l.pt ≡ item = (let n : LinkLost l.pt ∷ l.rest ≡ item ∷ rest = sym l.items_are ∙ e in cc) in
            let none : (row_at v.scene item).items ≡ [] = subst (λ i. (row_at v.scene i).items ≡ []) same (lost-at-turns v.scene l.pt setup is).items in
            (ap all_follow none, λ asked. none)

pub read-none : (pt : ℕ) (as_read : ReadAs) (items : List RoundItem) → change_none pt items ≡ true → change_none pt (read_first as_read items) ≡ true
read-none pt as_read [] e = e
read-none pt as_read (Crowded till ∷ items) e = e
read-none pt as_read (Message till bytes ∷ items) e = e
read-none pt as_read (Asked till other ∷ items) e = e
read-none pt as_read (Unframed till ∷ items) e = e
read-none pt as_read (Gone till ∷ items) e = e
read-none pt as_read (Greet other apdu ∷ items) e = e
read-none pt as_read (Handle other apdu ∷ items) e = e
read-none pt as_read (Serve other till header request ∷ items) e = e
read-none pt as_read (Queue other till header request ∷ items) e = e
read-none pt as_read (NextWaiting other ∷ items) e = e
read-none pt as_read (Oversized other ∷ items) e = e
read-none pt as_read (LinkLost other ∷ items) e = e
read-none pt as_read (Late other ∷ items) e = e
read-none pt as_read (Overdue key ∷ items) e = e
read-none pt as_read (Due other ∷ items) e = e

-- ---- what was heard

heard-other : (connections : List Connection) (other pt : ℕ) (bytes : List ℕ) → (other == pt) ≡ false → heard_on (hears connections other bytes) pt ≡ heard_on connections pt
heard-other [] other pt bytes e = refl
heard-other (connection ∷ connections) other pt bytes e = by_tests (connection.number == other) (connection.number == pt) refl refl (heard-other connections other pt bytes e)
  where
    by_tests : (one two : Bool) → (connection.number == other) ≡ one → (connection.number == pt) ≡ two → heard_on (hears connections other bytes) pt ≡ heard_on connections pt → heard_on (hears (connection ∷ connections) other bytes) pt ≡ heard_on (connection ∷ connections) pt
    by_tests true true t u h = absurd (apart other pt e (sym (eqb-true connection.number other t) ∙ eqb-true connection.number pt u))
    by_tests true false t u h = rw (t, u) refl
    by_tests false true t u h = rw (t, u) refl
    by_tests false false t u h = rw (t, u) h

heard-without : (connections : List Connection) (other pt : ℕ) → (other == pt) ≡ false → heard_on (without connections other) pt ≡ heard_on connections pt
heard-without [] other pt e = refl
heard-without (connection ∷ connections) other pt e = by_tests (connection.number == other) (connection.number == pt) refl refl (heard-without connections other pt e)
  where
    by_tests : (one two : Bool) → (connection.number == other) ≡ one → (connection.number == pt) ≡ two → heard_on (without connections other) pt ≡ heard_on connections pt → heard_on (without (connection ∷ connections) other) pt ≡ heard_on (connection ∷ connections) pt
    by_tests true true t u h = absurd (apart other pt e (sym (eqb-true connection.number other t) ∙ eqb-true connection.number pt u))
    by_tests true false t u h = rw (t, u) h
    by_tests false true t u h = rw (t, u) refl
    by_tests false false t u h = rw (t, u) h

heard-new : (connections : List Connection) (other pt : ℕ) → (other == pt) ≡ false → heard_on (connections ++ new_connection other ∷ []) pt ≡ heard_on connections pt
heard-new [] other pt e = rw e refl
heard-new (connection ∷ connections) other pt e = by_test (connection.number == pt) refl (heard-new connections other pt e)
  where
    by_test : (test : Bool) → (connection.number == pt) ≡ test → heard_on (connections ++ new_connection other ∷ []) pt ≡ heard_on connections pt → heard_on (connection ∷ (connections ++ new_connection other ∷ [])) pt ≡ heard_on (connection ∷ connections) pt
    by_test true t h = rw t refl
    by_test false t h = rw t h

-- ---- what is kept

-- this lasts of the terminal, which is linked and not ready, and this was heard on its link; no item is left that may change it
pub record Kept (pt : ℕ) (terminal : Terminal) (heard : List ℕ) (v : View) : Type 0 where
  pub kept : lasting_in v.scene.core pt ≡ Some terminal
  pub linked : state_of (Some terminal) ≡ On
  pub unready : is_ready_standing terminal.standing ≡ false
  pub items : change_none pt v.items ≡ true
  pub heard_is : heard_on v.scene.outside.links pt ≡ heard

-- what lasts says whether it is linked
lasting-on : (terminal : Terminal) → state_of (Some (lasting terminal)) ≡ On → state_of (Some terminal) ≡ On
lasting-on terminal on = by_standing terminal.standing on
  where
    by_standing : (standing : Standing) → standing_state standing (lasting_talk standing terminal.talk) ≡ On → standing_state standing terminal.talk ≡ On
    by_standing (Unlinked due) e = e
    by_standing Registering e = refl
    by_standing Enquiring e = refl
    by_standing (Ready last) e = refl
    by_standing (Serving service last) e = refl
    by_standing (Aside before reported) e = refl

pub kept-on : (pt : ℕ) (terminal : Terminal) (heard : List ℕ) (v : View) → Kept pt terminal heard v → state_in v.scene.core pt ≡ On
kept-on pt terminal heard v k =
    let found = found-lasting v.scene.core pt terminal k.kept in
    ap state_of found.1 ∙ lasting-on found.0 (ap (λ (t : Terminal). state_of (Some t)) found.2 ∙ k.linked)

-- and whether it is ready
ready-lasting : (core : Core) (pt : ℕ) (terminal : Terminal) → lasting_in core pt ≡ Some terminal → ready_in core pt ≡ is_ready_standing terminal.standing
ready-lasting core pt terminal lasts =
    let found = found-lasting core pt terminal lasts in
    ap is_ready_found found.1 ∙ ap (λ (t : Terminal). is_ready_standing t.standing) found.2

-- with another view
same-lasts : (pt : ℕ) (terminal : Terminal) (heard : List ℕ) (v w : View) → Kept pt terminal heard v → lasting_in w.scene.core pt ≡ lasting_in v.scene.core pt → change_none pt w.items ≡ true → heard_on w.scene.outside.links pt ≡ heard_on v.scene.outside.links pt → Kept pt terminal heard w
same-lasts pt terminal heard v w k core items same = record { kept = core ∙ k.kept; linked = k.linked; unready = k.unready; items = items; heard_is = same ∙ k.heard_is }

pub begin-kept : (pt : ℕ) (terminal : Terminal) (heard : List ℕ) (v : View) → Agrees v → Kept pt terminal heard v → Begins v → Kept pt terminal heard (after v Begin)
begin-kept pt terminal heard v a k b =
    let first = begins-first v a b in
    let none : change_none pt (first.item ∷ first.rest) ≡ true = subst (λ l. change_none pt l ≡ true) first.items_are k.items in
    let p = and_parts (not (changes pt first.item)) (change_none pt first.rest) none in
    same-lasts pt terminal heard v (after v Begin) k
    (ap (λ l. lasting_in (after (record v { items = l }) Begin).scene.core pt) first.items_are ∙ at-lasts v.scene first.item pt (ready-lasting v.scene.core pt terminal k.kept ∙ k.unready) (not-true (changes pt first.item) p.0))
    (ap (change_none pt) first.left ∙ change-none-append pt first.new first.rest (follow-change-none pt first.new first.new_is) p.1)
    (ap (λ (o : Outside). heard_on o.links pt) (begin-outside v.scene v.items))

pub read-kept : (pt : ℕ) (terminal : Terminal) (heard : List ℕ) (v : View) (as_read : ReadAs) → Kept pt terminal heard v → Kept pt terminal heard (after v (Read as_read))
read-kept pt terminal heard v as_read k = same-lasts pt terminal heard v (after v (Read as_read)) k refl (read-none pt as_read v.items k.items) refl

-- a turn of a run keeps it that is neither of the terminal nor cuts it
pub turn-kept : (pt : ℕ) (terminal : Terminal) (heard : List ℕ) (v : View) (turn : Turn) → Agrees v → Kept pt terminal heard v → AllowedTurn v turn → is_between turn ≡ false → (IsOfTerminal pt turn → ⊥) → turn ≢ CutPt pt → Kept pt terminal heard (after_turn v turn)
turn-kept pt terminal heard v turn a k ok e none uncut = by_turn turn ok e none uncut
  where
    same : (w : View) → kept_in w.scene.core pt ≡ kept_in v.scene.core pt → change_none pt w.items ≡ true → heard_on w.scene.outside.links pt ≡ heard_on v.scene.outside.links pt → Kept pt terminal heard w
    same w core items all = same-lasts pt terminal heard v w k (ap (option_map lasting) core) items all

    linked : (other : ℕ) → AllowedTurn v (Linked other) → Kept pt terminal heard (after_turn v (Linked other))
    linked other ok = by-equal pt other
        (λ is. no-link other v (call-settled v (LinkPt other) a ok) (ap (state_in v.scene.core) is ∙ kept-on pt terminal heard v k) ok)
        (λ differs.
        let known = call-setup v (LinkPt other) a.run ok in
        same (after_turn v (Linked other)) (made-kept v.scene other pt (other-number pt other differs))
        (ap (λ l. change_none pt (l ++ v.items)) (made-at-turns v.scene other known.setup known.setup_is).items ∙ k.items)
        (heard-new (without v.scene.outside.links other) other pt differs ∙ heard-without v.scene.outside.links other pt differs))

    failed : (other : ℕ) → AllowedTurn v (LinkFailed other) → Kept pt terminal heard (after_turn v (LinkFailed other))
    failed other ok = by-equal pt other
        (λ is. no-link other v (call-settled v (LinkPt other) a ok) (ap (state_in v.scene.core) is ∙ kept-on pt terminal heard v k) ok)
        (λ differs.
        let known = call-setup v (LinkPt other) a.run ok in
        same (after_turn v (LinkFailed other)) (lost-kept v.scene other pt (other-number pt other differs)) (ap (λ l. change_none pt (l ++ v.items)) (lost-at-turns v.scene other known.setup known.setup_is).items ∙ k.items) refl)

    cut : (other : ℕ) → AllowedTurn v (CutPt other) → (CutPt other ≢ CutPt pt) → Kept pt terminal heard (after_turn v (CutPt other))
    cut other ok uncut = by-equal pt other (λ is. absurd (uncut (ap CutPt is)))
        (λ differs.
        let known = call-setup v (OwedCutPt other) a.run ok in
        same (after_turn v (CutPt other)) (lost-kept v.scene other pt (other-number pt other differs)) (ap (λ l. change_none pt (l ++ v.items)) (lost-at-turns v.scene other known.setup known.setup_is).items ∙ k.items)
        (heard-without v.scene.outside.links other pt differs))

    heard_more : (other : ℕ) (bytes : List ℕ) → (IsOfTerminal pt (HeardPt other bytes) → ⊥) → Kept pt terminal heard (after_turn v (HeardPt other bytes))
    heard_more other bytes none = by-equal pt other (λ is. absurd (none (inl (bytes, ap (λ n. HeardPt n bytes) is))))
        (λ differs.
        let decoded : DecodedApdus = decode_apdus ((decode_apdus (heard_on v.scene.outside.links other)).rest ++ bytes) in
        same (after_turn v (HeardPt other bytes)) refl (other-none pt other decoded v.scene.core differs) (heard-other v.scene.outside.links other pt bytes differs))

    lost : (other : ℕ) → (IsOfTerminal pt (Lost other) → ⊥) → Kept pt terminal heard (after_turn v (Lost other))
    lost other none = by-equal pt other (λ is. absurd (none (inr (ap Lost is))))
        (λ differs. same (after_turn v (Lost other)) refl (rw (differs, due-change-none pt v.scene.core) refl) (heard-without v.scene.outside.links other pt differs))

    by_turn : (turn : Turn) → AllowedTurn v turn → is_between turn ≡ false → (IsOfTerminal pt turn → ⊥) → turn ≢ CutPt pt → Kept pt terminal heard (after_turn v turn)
    by_turn (Start setup) ok e none uncut = absurd (let n : true ≡ false = e in cc)
    by_turn OpenFailed ok e none uncut = absurd (let n : true ≡ false = e in cc)
    by_turn (Polled now) ok e none uncut = same (after_turn v (Polled now)) refl (due-change-none pt v.scene.core) refl
    by_turn (Opened till) ok e none uncut = same (after_turn v (Opened till)) refl (opened-none pt till v.scene.outside.tills v.scene.core) refl
    by_turn (HeardTill till bytes) ok e none uncut =
        let decoded : DecodedFrames = decode_after (decode_frames (heard_on v.scene.outside.tills till)).rest bytes in
        same (after_turn v (HeardTill till bytes)) refl (till-none pt till decoded v.scene.core) refl
    by_turn (Closed till) ok e none uncut = same (after_turn v (Closed till)) refl (due-change-none pt v.scene.core) refl
    by_turn (HeardPt other bytes) ok e none uncut = heard_more other bytes none
    by_turn (Lost other) ok e none uncut = lost other none
    by_turn Stopped ok e none uncut = same (after_turn v Stopped) refl refl refl
    by_turn (Linked other) ok e none uncut = linked other ok
    by_turn (LinkFailed other) ok e none uncut = failed other ok
    by_turn (SentTill till bytes true) ok e none uncut = same (after_turn v (SentTill till bytes true)) refl k.items refl
    by_turn (SentTill till bytes false) ok e none uncut = same (after_turn v (SentTill till bytes false)) refl k.items refl
    by_turn (SentPt other bytes true) ok e none uncut = same (after_turn v (SentPt other bytes true)) refl k.items refl
    by_turn (SentPt other bytes false) ok e none uncut = same (after_turn v (SentPt other bytes false)) refl k.items refl
    by_turn (CutTill till) ok e none uncut = same (after_turn v (CutTill till)) (without-kept till v.scene.core.terminals pt) k.items refl
    by_turn (CutPt other) ok e none uncut = cut other ok uncut
    by_turn (Wrote offset bytes) ok e none uncut = same (after_turn v (Wrote offset bytes)) refl k.items refl
    by_turn Synced ok e none uncut = same (after_turn v Synced) refl k.items refl
    by_turn DiskFailed ok e none uncut = same (after_turn v DiskFailed) refl refl refl
    by_turn (Crash file) ok e none uncut = absurd (let n : true ≡ false = e in cc)

-- with what was heard on its link
abbrev pub KeptHere : ℕ → Terminal → View → Type 0
KeptHere pt terminal v = Kept pt terminal (heard_on v.scene.outside.links pt) v

pub kept-here : (pt : ℕ) (terminal : Terminal) (heard : List ℕ) (v : View) → Kept pt terminal heard v → KeptHere pt terminal v
kept-here pt terminal heard v k = record { kept = k.kept; linked = k.linked; unready = k.unready; items = k.items; heard_is = refl }

-- along a course in which nothing is heard of the terminal and its link lasts
pub moves-kept : (pt : ℕ) (terminal : Terminal) (heard : List ℕ) (v : View) (moves : List Move) → Agrees v → Kept pt terminal heard v → IsCourse v moves → IsQuiet (turns_of moves) → BringNothing pt (turns_of moves) → EndsNone pt (turns_of moves)
    → Kept pt terminal heard (view_from v moves)
moves-kept pt terminal heard v [] a k c q none lasts = k
moves-kept pt terminal heard v (Begin ∷ moves) a k c q none lasts = moves-kept pt terminal heard (after v Begin) moves (move-agrees v Begin a c.0) (begin-kept pt terminal heard v a k c.0) c.1 q none lasts
moves-kept pt terminal heard v (Read as_read ∷ moves) a k c q none lasts = moves-kept pt terminal heard (after v (Read as_read)) moves (move-agrees v (Read as_read) a c.0) (read-kept pt terminal heard v as_read k) c.1 q none lasts
moves-kept pt terminal heard v (Make turn ∷ moves) a k c q none lasts =
    moves-kept pt terminal heard (after_turn v turn) moves (move-agrees v (Make turn) a c.0) (turn-kept pt terminal heard v turn a k c.0 q.0 none.0 (λ is. lasts.0 (inr (inl is)))) c.1 q.1 none.1 lasts.1
