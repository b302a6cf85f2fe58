-- A terminal that has acknowledged its registration: it is enquired once that is done, and cut where it says nothing more in time.
use Rattle.std.proofs.Common.{◌≡◌, ℕ, ◌+◌, ◌≤◌, List, [], ◌∷◌, ◌++◌, refl, sym, ◌∙◌, ap, subst, true, false, inl, inr, append_assoc}
use Rattle.std.proofs.lemmas.Bool.{le-leb}
use Rattle.std.specs.Prelude.{Bool, ◌==◌, ◌||◌, slice_get, Option, Some}
use Rattle.std.specs.Option.{option_map}
use Rattle.gw_base.specs.Moment.{moment_of}
use Rattle.gw_base.specs.declared.setup.Pt.{Pt}
use Rattle.gw_base.specs.declared.setup.Setup.{Setup}
use Rattle.gw_site.specs.Outside.{Connection, Outside, is_connected, hears, heard_on, outside_after, outside_of}
use Rattle.gw_site.specs.Sorts.{IsQuiet, is_between}
use Rattle.gw_site.specs.declared.turn.Turn.{Turn}
use Rattle.gw_site.specs.declared.turn.Turn.TheVariants.{Start, OpenFailed, Polled, Opened, HeardTill, Closed, HeardPt, Lost, Stopped, Linked, LinkFailed, SentTill, SentPt, CutTill, CutPt, Wrote, Synced, DiskFailed, Crash}
use Rattle.gw_site.proofs.OutsideLemmas.{outside_of-append}
use Rattle.zvt_apdu.specs.DecodeStream.{decode_apdus, decode_apdus_within}
use Rattle.zvt_apdu.specs.Grammar.{ApduValue}
use Rattle.zvt_msg.specs.CommandCanonical.{canonical_command}
use Rattle.zvt_msg.specs.Message.{Ack, Nack, Completion, Other}
use Rattle.zvt_msg.specs.MessageDecode.{decode_pt_message}
use Rattle.zvt_talk.specs.Laws.{IsAckOrNack}
use Rattle.gw_owes.specs.Calls.{Ask, Acknowledge, OwedCall, SendPt}
use Rattle.gw_owes.specs.Events.{pt_bytes_items, items_due}
use Rattle.gw_owes.specs.Greeting.{greet_row}
use Rattle.gw_owes.specs.Handling.{enquiry_command, meaning_at, taking, handle_message, handle_row}
use Rattle.gw_owes.specs.Items.{RoundItem, Greet, Handle, NextWaiting}
use Rattle.gw_owes.specs.Links.{is_linked}
use Rattle.gw_owes.specs.Row.{Known, Row}
use Rattle.gw_owes.specs.Rows.{row_of}
use Rattle.gw_owes.specs.Terminals.{after_command}
use Rattle.gw_owes.specs.declared.terminal.Standing.TheVariants.{Enquiring}
use Rattle.gw_owes.specs.declared.terminal.Terminal.{Terminal}
use Rattle.gw_owes.proofs.HandlingLemmas.{handled-is, taken-keyless}
use Rattle.gw_owes.proofs.SetLemmas.{new-is-there}
use Rattle.gw_owes.proofs.TerminalLemmas.{greeting-changes-nothing, each-is-greeted}
use Rattle.gw_rules.specs.LinkLaws.{ack_bytes, completion_bytes, acknowledged_turns, IsSilentIn, enquired_turns, EnquiryFollowsRegistration, UnfinishedRegistrationIsCut, SilentEnquiryIsCut}
use Rattle.gw_rules.specs.Lawful.{first_call, may_begin, Begins, AllowedTurn, IsCourse, turns_of, IsLawful}
use Rattle.gw_rules.specs.Scene.{known_in, row_in, row_at}
use Rattle.gw_rules.specs.Stage.{Handling, busy, is_looking}
use Rattle.gw_rules.specs.View.{View, Move, Begin, Read, Make, later, after, after_turn}
use Rattle.gw_rules.proofs.CourseLemmas.{begin-outside, begin-stage}
use Rattle.gw_rules.proofs.KeptLemmas.{Kept, kept_in, without_asker, is_serving, lasting, lasting-kept, change_none, due-change-none, begins-first, left-alone}
use Rattle.gw_rules.proofs.LinkLawLemmas.{sent-next}
use Rattle.gw_rules.proofs.LinkStateLemmas.{On, state_of, on-linked, may_bring_more}
use Rattle.gw_rules.proofs.LinkedLemmas.{Agrees, move-agrees, turn-agrees}
use Rattle.gw_rules.proofs.PrefixLemmas.{Along}
use Rattle.gw_rules.proofs.SetupLemmas.{begin-setup}
use Rattle.gw_rules.proofs.SilenceLemmas.{IsLateTalk, found-kept, late-before-poll}
use Rattle.gw_rules.proofs.StageLemmas.{no-true, no-call, handling-not-polled}
use Rattle.gw_rules.proofs.RegistrationLemmas.{registered, KeptUpTo, kept-silent, registers-silent}
use Rattle.gw_rules.proofs.UnlawfulLemmas.{take-owed}

-- ---- items that begin, one after the other

-- this is kept of the terminal, which is linked, and these calls and items are owed in a round
pub record Owing (setup : Setup) (pt : ℕ) (terminal : Terminal) (heard : List ℕ) (o : Outside) (calls : List OwedCall) (items : List RoundItem) (v : View) : Type 0 where
  pub agrees : Agrees v
  pub setup_is : v.scene.setup ≡ Some setup
  pub kept : kept_in v.scene.core pt ≡ Some terminal
  pub linked : state_of (Some terminal) ≡ On
  pub outside_is : v.scene.outside ≡ o
  pub heard_is : heard_on o.links pt ≡ heard
  pub stage : v.scene.stage ≡ Handling
  pub calls_are : v.calls ≡ calls
  pub items_are : v.items ≡ items

-- what the item owes, and what is kept then
pub record OwesThen (known : Known) (pt : ℕ) (terminal : Terminal) (calls : List OwedCall) (row : Row) : Type 0 where
  pub kept : kept_in row.core pt ≡ Some terminal
  pub linked : state_of (Some terminal) ≡ On
  pub calls_are : row.calls ≡ calls

begin-owing : (setup : Setup) (pt : ℕ) (terminal new : Terminal) (heard : List ℕ) (o : Outside) (calls : List OwedCall) (item : RoundItem) (rest : List RoundItem) (v : View) → may_bring_more item ≡ false → Owing setup pt terminal heard o [] (item ∷ rest) v → Begins v
    → OwesThen (known_in v.scene setup) pt new calls (row_of v.scene.outside.tills (known_in v.scene setup) item) → Owing setup pt new heard o calls rest (after v Begin)
begin-owing setup pt terminal new heard o calls item rest v other w b g =
    let first = begins-first v w.agrees b in
    let heads : first.item ≡ item = (let n : first.item ∷ first.rest ≡ item ∷ rest = sym first.items_are ∙ w.items_are in cc) in
    let tails : first.rest ≡ rest = (let n : first.item ∷ first.rest ≡ item ∷ rest = sym first.items_are ∙ w.items_are in cc) in
    let row : row_at v.scene item ≡ row_of v.scene.outside.tills (known_in v.scene setup) item = ap (λ (s : Option Setup). row_in v.scene (λ known. row_of v.scene.outside.tills known item) s) w.setup_is in
    record {
      agrees = move-agrees v Begin w.agrees b;
      setup_is = begin-setup v.scene v.items ∙ w.setup_is;
      kept = ap (λ l. kept_in (after (record v { items = l }) Begin).scene.core pt) w.items_are ∙ ap (λ (r : Row). kept_in r.core pt) row ∙ g.kept;
      linked = g.linked;
      outside_is = begin-outside v.scene v.items ∙ w.outside_is;
      heard_is = w.heard_is;
      stage = begin-stage v.scene v.items ∙ ap busy w.stage;
      calls_are = ap (λ l. (after (record v { items = l }) Begin).calls) w.items_are ∙ ap (λ (r : Row). r.calls) row ∙ g.calls_are;
      items_are = left-alone v first (ap may_bring_more heads ∙ other) ∙ tails;
    }

-- the next of these turns is of the run
abbrev GoesOn : List Turn → Type 0
GoesOn turns = (turn : Turn) × (more : List Turn) × (turns ≡ turn ∷ more) × (is_between turn ≡ false)

-- where an item is left and no call is owed, no turn of the run comes
no-turn : {A : Type 0} (v : View) (turn : Turn) (item : RoundItem) (rest : List RoundItem) → v.scene.stage ≡ Handling → v.calls ≡ [] → v.items ≡ item ∷ rest → is_between turn ≡ false → AllowedTurn v turn → A
no-turn v (Start setup) item rest at calls items b ok = absurd (let n : true ≡ false = b in cc)
no-turn v OpenFailed item rest at calls items b ok = absurd (let n : true ≡ false = b in cc)
no-turn v (Polled now) item rest at calls items b ok = absurd (let n : [] ≡ item ∷ rest = sym ok.items ∙ items in cc)
no-turn v (Opened till) item rest at calls items b ok = handling-not-polled (sym at ∙ ok.0)
no-turn v (HeardTill till bytes) item rest at calls items b ok = handling-not-polled (sym at ∙ ok.0.polled)
no-turn v (Closed till) item rest at calls items b ok = handling-not-polled (sym at ∙ ok.polled)
no-turn v (HeardPt other bytes) item rest at calls items b ok = handling-not-polled (sym at ∙ ok.0.polled)
no-turn v (Lost other) item rest at calls items b ok = handling-not-polled (sym at ∙ ok.polled)
no-turn v Stopped item rest at calls items b ok = handling-not-polled (sym at ∙ ok)
no-turn v (Linked other) item rest at calls items b ok = no-call v.calls _ calls ok
no-turn v (LinkFailed other) item rest at calls items b ok = no-call v.calls _ calls ok
no-turn v (SentTill till bytes true) item rest at calls items b ok = no-call v.calls _ calls ok.1
no-turn v (SentTill till bytes false) item rest at calls items b ok = no-call v.calls _ calls ok.1
no-turn v (SentPt other bytes true) item rest at calls items b ok = no-call v.calls _ calls ok.1
no-turn v (SentPt other bytes false) item rest at calls items b ok = no-call v.calls _ calls ok.1
no-turn v (CutTill till) item rest at calls items b ok = no-call v.calls _ calls ok
no-turn v (CutPt other) item rest at calls items b ok = no-call v.calls _ calls ok
no-turn v (Wrote offset bytes) item rest at calls items b ok = no-call v.calls _ calls ok.1
no-turn v Synced item rest at calls items b ok = no-call v.calls _ calls ok
no-turn v DiskFailed item rest at calls items b (inl next) = no-call v.calls _ calls next
no-turn v DiskFailed item rest at calls items b (inr looking) = no-true (sym (ap is_looking at) ∙ looking)
no-turn v (Crash file) item rest at calls items b ok = absurd (let n : true ≡ false = b in cc)

-- so the item begins
item-begins : (v : View) (item : RoundItem) (rest : List RoundItem) (turns : List Turn) → v.scene.stage ≡ Handling → v.calls ≡ [] → v.items ≡ item ∷ rest → may_begin v.scene (item ∷ rest) ≡ true → GoesOn turns → Along v turns → Begins v × Along (after v Begin) turns
item-begins v item rest turns at calls items begins (turn, more, e, b) x = by_moves x.moves x.turns_are x.lawful
  where
    by_moves : (moves : List Move) → turns_of moves ≡ turns → IsCourse v moves → Begins v × Along (after v Begin) turns
    by_moves [] f h = absurd (let n : [] ≡ turn ∷ more = f ∙ e in cc)
    by_moves (Begin ∷ moves) f h = (h.0, record { moves = moves; turns_are = f; lawful = h.1 })
    by_moves (Read as_read ∷ moves) f h = no-true (sym h.0.waits ∙ ap (may_begin v.scene) items ∙ begins)
    by_moves (Make first ∷ moves) f h =
        let heads : first ≡ turn = (let n : first ∷ turns_of moves ≡ turn ∷ more = f ∙ e in cc) in
        no-turn v first item rest at calls items (ap is_between heads ∙ b) h.0

-- ---- what the two APDUs owe

abbrev ack_apdu : ApduValue
ack_apdu = record { class = 0x80; instr = 0x00; body = [] }

abbrev done_apdu : ApduValue
done_apdu = record { class = 0x06; instr = 0x0F; body = [] }

-- what is kept of a terminal that has acknowledged its registration at this moment
abbrev pub acknowledged : Pt → ℕ → ℕ → Terminal
acknowledged settings sent moment = without_asker (taking (registered settings sent) Ack moment)

-- what is kept of it once it was enquired
abbrev pub enquired : Pt → ℕ → ℕ → ℕ → Terminal
enquired settings sent moment asked = after_command (without_asker (taking (acknowledged settings sent moment) Completion asked)) (enquiry_command settings) Enquiring asked

own-linked : (terminal own : Terminal) → without_asker own ≡ terminal → state_of (Some terminal) ≡ On → is_linked own.standing ≡ true
own-linked terminal own same linked = ap (λ (t : Terminal). is_linked t.standing) same ∙ on-linked terminal.standing terminal.talk linked

greets-ack : (known : Known) (pt : ℕ) (terminal : Terminal) → kept_in known.core pt ≡ Some terminal → state_of (Some terminal) ≡ On → OwesThen known pt terminal [] (greet_row known pt ack_apdu)
unfolding decode_pt_message
greets-ack known pt terminal kept linked =
    let found = found-kept (slice_get known.core.terminals pt) terminal kept in
    record {
      kept = ap (λ c. kept_in c pt) (greeting-changes-nothing known pt ack_apdu) ∙ kept;
      linked = linked;
      calls_are = (each-is-greeted known pt ack_apdu found.0 Ack found.1 (own-linked terminal found.0 found.2 linked) refl).none (inl refl);
    }

greets-done : (known : Known) (pt : ℕ) (terminal : Terminal) → kept_in known.core pt ≡ Some terminal → state_of (Some terminal) ≡ On → OwesThen known pt terminal (SendPt pt Acknowledge ∷ []) (greet_row known pt done_apdu)
unfolding decode_pt_message
greets-done known pt terminal kept linked =
    let found = found-kept (slice_get known.core.terminals pt) terminal kept in
    record {
      kept = ap (λ c. kept_in c pt) (greeting-changes-nothing known pt done_apdu) ∙ kept;
      linked = linked;
      calls_are = (each-is-greeted known pt done_apdu found.0 Completion found.1 (own-linked terminal found.0 found.2 linked) refl).other not_ack (λ e. absurd (let n : Completion ≡ Other = e in cc));
    }
  where
    not_ack : IsAckOrNack Completion → ⊥
    not_ack (inl e) = absurd (let n : Completion ≡ Ack = e in cc)
    not_ack (inr (error_code, e)) = absurd (let n : Completion ≡ Nack error_code = e in cc)

handles-ack : (known : Known) (pt : ℕ) (settings : Pt) (sent : ℕ) → kept_in known.core pt ≡ Some (registered settings sent) → OwesThen known pt (acknowledged settings sent known.moment) [] (handle_row known pt ack_apdu)
unfolding decode_pt_message
handles-ack known pt settings sent kept =
    let found = found-kept (slice_get known.core.terminals pt) (registered settings sent) kept in
    let own : Terminal = found.0 in
    let asked : Terminal = record (registered settings sent) { asker = own.asker } in
    let own_is : own ≡ asked = ap (λ (t : Terminal). record t { asker = own.asker }) found.2 in
    let row = handled-is known pt ack_apdu own Ack found.1 (own-linked (registered settings sent) own found.2 refl) refl ∙ ap (λ t. handle_message known pt t Ack) own_is ∙ taken-keyless known pt (taking asked Ack known.moment) (meaning_at asked Ack) Ack refl in
    record {
      kept = ap (λ (r : Row). kept_in r.core pt) row ∙ ap (option_map without_asker) (new-is-there known.core.terminals pt own (taking asked Ack known.moment) found.1);
      linked = refl;
      calls_are = ap (λ (r : Row). r.calls) row;
    }

handles-done : (known : Known) (pt : ℕ) (settings : Pt) (sent moment : ℕ) → kept_in known.core pt ≡ Some (acknowledged settings sent moment) → OwesThen known pt (enquired settings sent moment known.moment) (SendPt pt (Ask (enquiry_command settings)) ∷ []) (handle_row known pt done_apdu)
unfolding decode_pt_message
handles-done known pt settings sent moment kept =
    let found = found-kept (slice_get known.core.terminals pt) (acknowledged settings sent moment) kept in
    let own : Terminal = found.0 in
    let asked : Terminal = record (acknowledged settings sent moment) { asker = own.asker } in
    let own_is : own ≡ asked = ap (λ (t : Terminal). record t { asker = own.asker }) found.2 in
    let row = handled-is known pt done_apdu own Completion found.1 (own-linked (acknowledged settings sent moment) own found.2 refl) refl ∙ ap (λ t. handle_message known pt t Completion) own_is ∙ taken-keyless known pt (taking asked Completion known.moment) (meaning_at asked Completion) Completion refl in
    record {
      kept = ap (λ (r : Row). kept_in r.core pt) row
          ∙ ap (option_map without_asker) (new-is-there known.core.terminals pt own (after_command (taking asked Completion known.moment) (enquiry_command settings) Enquiring known.moment) found.1);
      linked = refl;
      calls_are = ap (λ (r : Row). r.calls) row;
    }

-- ---- the turns

heard-more : (connections : List Connection) (pt : ℕ) (bytes : List ℕ) → is_connected connections pt ≡ true → heard_on (hears connections pt bytes) pt ≡ heard_on connections pt ++ bytes
heard-more [] pt bytes e = no-true e
heard-more (connection ∷ connections) pt bytes e = by_test (connection.number == pt) refl (heard-more connections pt bytes)
  where
    by_test : (test : Bool) → (connection.number == pt) ≡ test → (is_connected connections pt ≡ true → heard_on (hears connections pt bytes) pt ≡ heard_on connections pt ++ bytes)
        → heard_on (hears (connection ∷ connections) pt bytes) pt ≡ heard_on (connection ∷ connections) pt ++ bytes
    by_test true t h = rw (t, t) refl
    by_test false t h = rw (t, t) (h (sym (ap (λ b. b || is_connected connections pt) t) ∙ e))

-- bytes that bring these items
heard-owing : (setup : Setup) (pt : ℕ) (terminal : Terminal) (heard bytes : List ℕ) (items : List RoundItem) (v : View) → Agrees v → v.scene.setup ≡ Some setup → is_serving terminal.standing ≡ false → Kept pt terminal heard v → AllowedTurn v (HeardPt pt bytes) → pt_bytes_items pt heard bytes ≡ items
    → Owing setup pt terminal (heard ++ bytes) (outside_after v.scene.outside (HeardPt pt bytes)) [] (items ++ items_due v.scene.core) (after_turn v (HeardPt pt bytes))
heard-owing setup pt terminal heard bytes items v a is none k ok brings = record {
  agrees = turn-agrees v (HeardPt pt bytes) a ok;
  setup_is = is;
  kept = lasting-kept v.scene.core pt terminal none k.kept;
  linked = k.linked;
  outside_is = refl;
  heard_is = heard-more v.scene.outside.links pt bytes ok.0.connected_is ∙ ap (λ l. l ++ bytes) k.heard_is;
  stage = refl;
  calls_are = refl;
  items_are = ap (λ h. pt_bytes_items pt h bytes ++ items_due v.scene.core) k.heard_is ∙ ap (λ l. l ++ items_due v.scene.core) brings;
}

-- a call that was made, with which the terminal was sent bytes
sent-owing : (setup : Setup) (pt : ℕ) (terminal : Terminal) (heard bytes : List ℕ) (o : Outside) (call : OwedCall) (items : List RoundItem) (v : View) → Owing setup pt terminal heard o (call ∷ []) items v → AllowedTurn v (SentPt pt bytes true)
    → Owing setup pt terminal heard o [] items (after_turn v (SentPt pt bytes true))
sent-owing setup pt terminal heard bytes o call items v w ok = record {
  agrees = turn-agrees v (SentPt pt bytes true) w.agrees ok;
  setup_is = w.setup_is;
  kept = w.kept;
  linked = w.linked;
  outside_is = w.outside_is;
  heard_is = w.heard_is;
  stage = ap busy w.stage;
  calls_are = ap later w.calls_are;
  items_are = w.items_are;
}

-- the two items of an APDU, and what comes after them
abbrev apdu_then : ℕ → ApduValue → List RoundItem → List RoundItem
apdu_then pt apdu rest = Greet pt apdu ∷ Handle pt apdu ∷ NextWaiting pt ∷ rest

brings-ack : (pt : ℕ) → pt_bytes_items pt [] ack_bytes ≡ apdu_then pt ack_apdu []
unfolding decode_apdus decode_apdus_within
brings-ack pt = refl

brings-done : (pt : ℕ) → pt_bytes_items pt ack_bytes completion_bytes ≡ apdu_then pt done_apdu []
unfolding decode_apdus decode_apdus_within
brings-done pt = refl

-- where the registration is acknowledged
takes-ack : (setup : Setup) (settings : Pt) (pt sent : ℕ) (turns : List Turn) (v : View) → Agrees v → v.scene.setup ≡ Some setup → Kept pt (registered settings sent) [] v → AllowedTurn v (HeardPt pt ack_bytes) → Along (after_turn v (HeardPt pt ack_bytes)) turns → GoesOn turns
    → (w : View) × Owing setup pt (acknowledged settings sent v.scene.outside.moment) ack_bytes (outside_after v.scene.outside (HeardPt pt ack_bytes)) [] (NextWaiting pt ∷ items_due v.scene.core) w × Along w turns
takes-ack setup settings pt sent turns v a is k ok onward goes =
    let o : Outside = outside_after v.scene.outside (HeardPt pt ack_bytes) in
    let due : List RoundItem = items_due v.scene.core in
    let heard = after_turn v (HeardPt pt ack_bytes) in
    let h = heard-owing setup pt (registered settings sent) [] ack_bytes (apdu_then pt ack_apdu []) v a is refl k ok (brings-ack pt) in
    let first = item-begins heard (Greet pt ack_apdu) (Handle pt ack_apdu ∷ NextWaiting pt ∷ due) turns h.stage h.calls_are h.items_are refl goes onward in
    let g = begin-owing setup pt (registered settings sent) (registered settings sent) ack_bytes o [] (Greet pt ack_apdu) (Handle pt ack_apdu ∷ NextWaiting pt ∷ due) heard refl h first.0
    (greets-ack (known_in heard.scene setup) pt (registered settings sent) h.kept h.linked) in
    let greeted = after heard Begin in
    let second = item-begins greeted (Handle pt ack_apdu) (NextWaiting pt ∷ due) turns g.stage g.calls_are g.items_are refl goes first.1 in
    let b = begin-owing setup pt (registered settings sent) (acknowledged settings sent o.moment) ack_bytes o [] (Handle pt ack_apdu) (NextWaiting pt ∷ due) greeted refl g second.0
    (subst (λ (p : Outside). OwesThen (known_in greeted.scene setup) pt (acknowledged settings sent p.moment) [] (handle_row (known_in greeted.scene setup) pt ack_apdu)) g.outside_is (handles-ack (known_in greeted.scene setup) pt settings sent g.kept)) in
    (after greeted Begin, b, second.1)

silent-goes : (pt : ℕ) (silent : List Turn) (turn : Turn) (rest : List Turn) → IsSilentIn pt silent → is_between turn ≡ false → GoesOn (silent ++ turn ∷ rest)
silent-goes pt [] turn rest silence b = (turn, rest, refl, b)
silent-goes pt (first ∷ silent) turn rest silence b = (first, silent ++ turn ∷ rest, refl, silence.quiet.0)

-- a terminal that has acknowledged its registration, and of which nothing was heard since
acknowledged-silent : (before run first second rest : List Turn) (setup : Setup) (settings : Pt) (pt : ℕ) (turn : Turn) → IsLawful (before ++ Start setup ∷ (acknowledged_turns run pt first second ++ turn ∷ rest)) → IsQuiet run → IsSilentIn pt first → IsSilentIn pt second
    → slice_get setup.terminals pt ≡ Some settings → is_between turn ≡ false
    → KeptUpTo setup pt (acknowledged settings (outside_of (before ++ Start setup ∷ run)).moment (outside_of (before ++ Start setup ∷ (run ++ Linked pt ∷ first))).moment) ack_bytes (before ++ Start setup ∷ acknowledged_turns run pt first second) turn rest
acknowledged-silent before run first second rest setup settings pt turn lawful quiet one two configured b =
    let more : List Turn = second ++ turn ∷ rest in
    let sent : ℕ = (outside_of (before ++ Start setup ∷ run)).moment in
    let turns : acknowledged_turns run pt first second ++ turn ∷ rest ≡ run ++ Linked pt ∷ (first ++ HeardPt pt ack_bytes ∷ more) =
    append_assoc run (Linked pt ∷ (first ++ HeardPt pt ack_bytes ∷ second)) (turn ∷ rest) ∙ ap (λ l. run ++ Linked pt ∷ l) (append_assoc first (HeardPt pt ack_bytes ∷ second) (turn ∷ rest)) in
    let r = registers-silent before run first more setup settings pt (HeardPt pt ack_bytes) (subst (λ l. IsLawful (before ++ Start setup ∷ l)) turns lawful) quiet one configured in
    let log : List Turn = ((before ++ Start setup ∷ run) ++ Linked pt ∷ []) ++ first in
    let log_is : log ≡ before ++ Start setup ∷ (run ++ Linked pt ∷ first) = append_assoc (before ++ Start setup ∷ run) (Linked pt ∷ []) first ∙ append_assoc before (Start setup ∷ run) (Linked pt ∷ first) in
    let taken = takes-ack setup settings pt sent more r.view r.agrees r.setup_is r.kept r.allowed r.onward (silent-goes pt second turn rest two b) in
    let v : View = taken.0 in
    let w = taken.1 in
    let moment_is : r.view.scene.outside ≡ outside_of (before ++ Start setup ∷ (run ++ Linked pt ∷ first)) = r.outside_is ∙ ap outside_of log_is in
    let kept : Kept pt (acknowledged settings sent r.view.scene.outside.moment) ack_bytes v = record {
      kept = ap (option_map lasting) w.kept;
      linked = refl;
      unready = refl;
      items = ap (change_none pt) w.items_are ∙ due-change-none pt r.view.scene.core;
      heard_is = ap (λ (o : Outside). heard_on o.links pt) w.outside_is ∙ w.heard_is;
    } in
    let at : v.scene.outside ≡ outside_of (log ++ HeardPt pt ack_bytes ∷ []) = w.outside_is ∙ ap (λ o. outside_after o (HeardPt pt ack_bytes)) r.outside_is ∙ sym (outside_of-append log (HeardPt pt ack_bytes ∷ [])) in
    let whole : (log ++ HeardPt pt ack_bytes ∷ []) ++ second ≡ before ++ Start setup ∷ acknowledged_turns run pt first second =
    append_assoc log (HeardPt pt ack_bytes ∷ []) second ∙ ap (λ l. l ++ HeardPt pt ack_bytes ∷ second) log_is ∙ append_assoc before (Start setup ∷ (run ++ Linked pt ∷ first)) (HeardPt pt ack_bytes ∷ second)
    ∙ ap (λ l. before ++ Start setup ∷ l) (append_assoc run (Linked pt ∷ first) (HeardPt pt ack_bytes ∷ second)) in
    subst (λ l. KeptUpTo setup pt (acknowledged settings sent (outside_of (before ++ Start setup ∷ (run ++ Linked pt ∷ first))).moment) ack_bytes l turn rest) whole
    (kept-silent setup pt _ ack_bytes (log ++ HeardPt pt ack_bytes ∷ []) second rest turn v w.agrees w.setup_is (subst (λ (o : Outside). Kept pt (acknowledged settings sent o.moment) ack_bytes v) moment_is kept) at taken.2 two)

-- where it says that the registration is done, that is acknowledged
acknowledges-done : (setup : Setup) (settings : Pt) (pt sent moment : ℕ) (turns : List Turn) (v : View) → Agrees v → v.scene.setup ≡ Some setup → Kept pt (acknowledged settings sent moment) ack_bytes v → AllowedTurn v (HeardPt pt completion_bytes) → Along (after_turn v (HeardPt pt completion_bytes)) turns
    → GoesOn turns → (w : View) × Owing setup pt (acknowledged settings sent moment) (ack_bytes ++ completion_bytes) (outside_after v.scene.outside (HeardPt pt completion_bytes)) (SendPt pt Acknowledge ∷ []) (Handle pt done_apdu ∷ NextWaiting pt ∷ items_due v.scene.core) w × Along w turns
acknowledges-done setup settings pt sent moment turns v a is k ok onward goes =
    let terminal : Terminal = acknowledged settings sent moment in
    let o : Outside = outside_after v.scene.outside (HeardPt pt completion_bytes) in
    let due : List RoundItem = items_due v.scene.core in
    let heard = after_turn v (HeardPt pt completion_bytes) in
    let h = heard-owing setup pt terminal ack_bytes completion_bytes (apdu_then pt done_apdu []) v a is refl k ok (brings-done pt) in
    let begins = item-begins heard (Greet pt done_apdu) (Handle pt done_apdu ∷ NextWaiting pt ∷ due) turns h.stage h.calls_are h.items_are refl goes onward in
    let g = begin-owing setup pt terminal terminal (ack_bytes ++ completion_bytes) o (SendPt pt Acknowledge ∷ []) (Greet pt done_apdu) (Handle pt done_apdu ∷ NextWaiting pt ∷ due) heard refl h begins.0
    (greets-done (known_in heard.scene setup) pt terminal h.kept h.linked) in
    (after heard Begin, g, begins.1)

-- and then the terminal is enquired
enquires-then : (setup : Setup) (settings : Pt) (pt sent moment : ℕ) (o : Outside) (due : List RoundItem) (turns : List Turn) (v : View) → Owing setup pt (acknowledged settings sent moment) (ack_bytes ++ completion_bytes) o (SendPt pt Acknowledge ∷ []) (Handle pt done_apdu ∷ NextWaiting pt ∷ due) v
    → AllowedTurn v (SentPt pt ack_bytes true) → Along (after_turn v (SentPt pt ack_bytes true)) turns → GoesOn turns
    → (w : View) × Owing setup pt (enquired settings sent moment o.moment) (ack_bytes ++ completion_bytes) o (SendPt pt (Ask (enquiry_command settings)) ∷ []) (NextWaiting pt ∷ due) w × Along w turns
enquires-then setup settings pt sent moment o due turns v g ok onward goes =
    let acked = after_turn v (SentPt pt ack_bytes true) in
    let command : OwedCall = SendPt pt (Ask (enquiry_command settings)) in
    let s = sent-owing setup pt (acknowledged settings sent moment) (ack_bytes ++ completion_bytes) ack_bytes o (SendPt pt Acknowledge) (Handle pt done_apdu ∷ NextWaiting pt ∷ due) v g ok in
    let begins = item-begins acked (Handle pt done_apdu) (NextWaiting pt ∷ due) turns s.stage s.calls_are s.items_are refl goes onward in
    let e = begin-owing setup pt (acknowledged settings sent moment) (enquired settings sent moment o.moment) (ack_bytes ++ completion_bytes) o (command ∷ []) (Handle pt done_apdu) (NextWaiting pt ∷ due) acked refl s begins.0
    (subst (λ (p : Outside). OwesThen (known_in acked.scene setup) pt (enquired settings sent moment p.moment) (command ∷ []) (handle_row (known_in acked.scene setup) pt done_apdu)) s.outside_is (handles-done (known_in acked.scene setup) pt settings sent moment s.kept)) in
    (after acked Begin, e, begins.1)

-- ---- the laws

not-looking : is_looking Handling ≡ true → ⊥
not-looking e = no-true e

pub registered-is-enquired : EnquiryFollowsRegistration
registered-is-enquired before run first second rest setup settings pt turn next lawful quiet one two configured b c =
    let k = acknowledged-silent before run first second (turn ∷ next ∷ rest) setup settings pt (HeardPt pt completion_bytes) lawful quiet one two configured refl in
    let sent : ℕ = (outside_of (before ++ Start setup ∷ run)).moment in
    let moment : ℕ = (outside_of (before ++ Start setup ∷ (run ++ Linked pt ∷ first))).moment in
    let o : Outside = outside_after k.view.scene.outside (HeardPt pt completion_bytes) in
    let greets = acknowledges-done setup settings pt sent moment (turn ∷ next ∷ rest) k.view k.agrees k.setup_is k.kept k.allowed k.onward (turn, next ∷ rest, refl, b) in
    let greeted : View = greets.0 in
    let taken = take-owed greeted (SendPt pt Acknowledge) turn (next ∷ rest) (ap first_call greets.1.calls_are) greets.2 in
    record {
      acknowledged = sent-next greeted Handling pt Acknowledge turn greets.1.stage not-looking (ap first_call greets.1.calls_are) b taken.0;
      enquired = λ is.
          let asks = enquires-then setup settings pt sent moment o (items_due k.view.scene.core) (next ∷ rest) greeted greets.1 (subst (AllowedTurn greeted) is taken.0) (subst (λ t. Along (after_turn greeted t) (next ∷ rest)) is taken.1) (next, rest, refl, c) in
          let asked : View = asks.0 in
          let command = take-owed asked (SendPt pt (Ask (enquiry_command settings))) next rest (ap first_call asks.1.calls_are) asks.2 in
          sent-next asked Handling pt (Ask (enquiry_command settings)) next asks.1.stage not-looking (ap first_call asks.1.calls_are) c command.0;
    }

acknowledged-late : (settings : Pt) (sent at moment : ℕ) → at + settings.command ≤ moment → IsLateTalk moment (acknowledged settings sent at).talk
acknowledged-late settings sent at moment late = (_, refl, le-leb (at + settings.command) moment late)

pub unfinished-registration-is-cut : UnfinishedRegistrationIsCut
unfinished-registration-is-cut before run first second inside rest setup settings pt now later lawful quiet one two round nothing configured late =
    let k = acknowledged-silent before run first second (inside ++ Polled later ∷ rest) setup settings pt (Polled now) lawful quiet one two configured refl in
    let sent : ℕ = (outside_of (before ++ Start setup ∷ run)).moment in
    let moment : ℕ = (outside_of (before ++ Start setup ∷ (run ++ Linked pt ∷ first))).moment in
    late-before-poll pt (acknowledged settings sent moment) ack_bytes now later inside rest k.view k.agrees k.kept k.allowed k.onward round nothing tt (acknowledged-late settings sent moment (moment_of now) late)

enquired-late : (settings : Pt) (sent at asked moment : ℕ) → asked + settings.answer ≤ moment → IsLateTalk moment (enquired settings sent at asked).talk
enquired-late settings sent at asked moment late = (_, refl, le-leb (asked + settings.answer) moment late)

pub silent-enquiry-is-cut : SilentEnquiryIsCut
silent-enquiry-is-cut before run first second third inside rest setup settings pt now later lawful quiet one two three round nothing configured late =
    let log : List Turn = before ++ Start setup ∷ acknowledged_turns run pt first second in
    let more : List Turn = third ++ Polled now ∷ (inside ++ Polled later ∷ rest) in
    let enquiry : Turn = SentPt pt (canonical_command (enquiry_command settings)) true in
    let turns : enquired_turns run settings pt first second third ++ Polled now ∷ (inside ++ Polled later ∷ rest) ≡ acknowledged_turns run pt first second ++ HeardPt pt completion_bytes ∷ SentPt pt ack_bytes true ∷ enquiry ∷ more =
    append_assoc (acknowledged_turns run pt first second) (HeardPt pt completion_bytes ∷ SentPt pt ack_bytes true ∷ enquiry ∷ third) (Polled now ∷ (inside ++ Polled later ∷ rest)) in
    let k = acknowledged-silent before run first second (SentPt pt ack_bytes true ∷ enquiry ∷ more) setup settings pt (HeardPt pt completion_bytes) (subst (λ l. IsLawful (before ++ Start setup ∷ l)) turns lawful) quiet one two configured refl in
    let sent : ℕ = (outside_of (before ++ Start setup ∷ run)).moment in
    let moment : ℕ = (outside_of (before ++ Start setup ∷ (run ++ Linked pt ∷ first))).moment in
    let o : Outside = outside_after k.view.scene.outside (HeardPt pt completion_bytes) in
    let due : List RoundItem = items_due k.view.scene.core in
    let greets = acknowledges-done setup settings pt sent moment (SentPt pt ack_bytes true ∷ enquiry ∷ more) k.view k.agrees k.setup_is k.kept k.allowed k.onward (SentPt pt ack_bytes true, enquiry ∷ more, refl, refl) in
    let greeted : View = greets.0 in
    let taken = take-owed greeted (SendPt pt Acknowledge) (SentPt pt ack_bytes true) (enquiry ∷ more) (ap first_call greets.1.calls_are) greets.2 in
    let asks = enquires-then setup settings pt sent moment o due (enquiry ∷ more) greeted greets.1 taken.0 taken.1 (enquiry, more, refl, refl) in
    let asked : View = asks.0 in
    let command = take-owed asked (SendPt pt (Ask (enquiry_command settings))) enquiry more (ap first_call asks.1.calls_are) asks.2 in
    let terminal : Terminal = enquired settings sent moment o.moment in
    let w = sent-owing setup pt terminal (ack_bytes ++ completion_bytes) (canonical_command (enquiry_command settings)) o (SendPt pt (Ask (enquiry_command settings))) (NextWaiting pt ∷ due) asked asks.1 command.0 in
    let v : View = after_turn asked enquiry in
    let kept : Kept pt terminal (ack_bytes ++ completion_bytes) v = record {
      kept = ap (option_map lasting) w.kept;
      linked = refl;
      unready = refl;
      items = ap (change_none pt) w.items_are ∙ due-change-none pt k.view.scene.core;
      heard_is = ap (λ (o : Outside). heard_on o.links pt) w.outside_is ∙ w.heard_is;
    } in
    let at : v.scene.outside ≡ outside_of (log ++ HeardPt pt completion_bytes ∷ []) = w.outside_is ∙ ap (λ o. outside_after o (HeardPt pt completion_bytes)) k.outside_is ∙ sym (outside_of-append log (HeardPt pt completion_bytes ∷ [])) in
    let z = kept-silent setup pt terminal (ack_bytes ++ completion_bytes) (log ++ HeardPt pt completion_bytes ∷ []) third (inside ++ Polled later ∷ rest) (Polled now) v w.agrees w.setup_is kept at command.1 three in
    let comes : o.moment + settings.answer ≤ moment_of now = subst (λ (p : Outside). p.moment + settings.answer ≤ moment_of now) (sym k.outside_is) late in
    late-before-poll pt terminal (ack_bytes ++ completion_bytes) now later inside rest z.view z.agrees z.kept z.allowed z.onward round nothing tt (enquired-late settings sent moment o.moment (moment_of now) comes)
