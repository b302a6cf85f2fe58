-- What holds along a lawful course holds after each turn of the site, of the disk and of the power.
use Rattle.std.proofs.Common.{◌≡◌, ◌<◌, ◌≤◌, ℕ, ◌+◌, Bool, true, false, List, [], ◌∷◌, ◌++◌, length, refl, sym, ◌∙◌, ap, subst, arith, inl, inr, append_assoc, append-nil, le-leb}
use Rattle.std.proofs.lemmas.Bool.{and_from, or_from, or_left, or_parts, or_right}
use Rattle.std.specs.Prelude.{◌⊎◌, ◌&&◌, ◌||◌, not, nat_le, nat_lt, ℤ, bytes_eq, if◌then◌else◌, filter, map, slice_get, Option, Some, None, option_to_list}
use Rattle.std.specs.List.{list_any, list_all}
use Rattle.gw_base.specs.declared.key.Key.{Key}
use Rattle.gw_base.specs.declared.setup.Pt.{Pt}
use Rattle.gw_base.specs.declared.setup.Setup.{Setup}
use Rattle.gw_site.specs.Outside.{Connection, heard_on}
use Rattle.gw_site.specs.declared.turn.Turn.{Turn}
use Rattle.gw_site.specs.declared.turn.Turn.TheVariants.{Start, OpenFailed, Polled, Opened, HeardTill, Closed, HeardPt, Lost, Stopped, Wrote, Synced, DiskFailed, Crash}
use Rattle.sale_frame.specs.Decode.{DecodedFrames, decode_after, decode_frames}
use Rattle.jrn_log.specs.Decode.{has_gate}
use Rattle.jrn_record.specs.declared.records.Record.{Record}
use Rattle.gw_ledger.specs.Accounts.{open_slot}
use Rattle.gw_ledger.specs.Fold.{AreFolded}
use Rattle.gw_owes.specs.declared.terminal.Terminal.{Terminal}
use Rattle.gw_owes.specs.Calls.{OwedCall, SendTill, SendPt, LinkPt, WriteBody, WriteGate, WriteFirstGate, Sync, CutTill, CutPt, write_turn, records_kept}
use Rattle.gw_owes.specs.Core.{Core, Wait, new_core, new_terminal}
use Rattle.gw_owes.specs.Dialogues.{HasItsDialogue}
use Rattle.gw_owes.specs.Events.{till_opened_items, has_bad_length, decoded_items, for_each_terminal, waits_by_deadline, items_due}
use Rattle.gw_owes.specs.Items.{RoundItem, Crowded, Message, Unframed, Gone, LinkLost, Late, Overdue, Due}
use Rattle.gw_owes.proofs.DialogueLemmas.{new-has}
use Rattle.gw_owes.proofs.RecordLemmas.{LedgerLaws}
use Rattle.gw_owes.proofs.SetLemmas.{same-some}
use Rattle.gw_rules.specs.JournalFiles.{spare_disk}
use Rattle.gw_rules.specs.Lawful.{first_call}
use Rattle.gw_rules.specs.LedgerRules.{ledger_rules}
use Rattle.gw_rules.specs.Opening.{kept_of}
use Rattle.gw_rules.specs.RecordOrder.{records_coming}
use Rattle.gw_rules.specs.Scene.{records_of}
use Rattle.gw_rules.specs.Stage.{Stage, Resting, Opening, Looking, AtPoll, Handling, Over, Broken, is_round, is_running, is_broken, stage_synced, stage_wrote}
use Rattle.gw_rules.specs.TranscriptLaws.{cuts_terminal, cut_owed}
use Rattle.gw_rules.specs.View.{View, later, after_turn}
use Rattle.gw_rules.proofs.KeptFileLemmas.{owned}
use Rattle.gw_rules.proofs.KeptLawLemmas.{holds}
use Rattle.gw_rules.proofs.KeptPhaseLemmas.{Body, BodySync, FirstGate, FirstSync, GateSync, Holds as KeptHolds, LastSync, Mid, OpenGate, Phase, first-is, off-disk, writes-on-disk}
use Rattle.gw_rules.proofs.KeptTurnLemmas.{idle-rests}
use Rattle.gw_rules.proofs.OpeningLemmas.{is_opening}
use Rattle.gw_rules.proofs.OpensLemmas.{opens-all}
use Rattle.gw_rules.proofs.OwingLemmas.{clear-where, synced-broken, wrote-broken}
use Rattle.gw_rules.proofs.RecordOrderLemmas.{Ordered, written-coming}
use Rattle.gw_rules.proofs.RecordRowLemmas.{coming-kept, first-later, folds-at-once, writes-cut-none}
use Rattle.gw_rules.proofs.StageLemmas.{no-call, no-true}
use Rattle.gw_rules.proofs.TranscriptLogLemmas.{image-there, there-image}
use Rattle.gw_books.specs.Past.{Occasion, OfNothing, SentCommand, MadeLink, HeardEnd, MadePoll, Past, poi_of_number}
use Rattle.gw_books.specs.Books.{BookedEntry}
use Rattle.gw_books.specs.Agrees.{is_accepted, is_report, is_report_on, is_resolved_on, report_resolves, is_inside}
use Rattle.gw_books.proofs.Holding.{AreOutcomesTrue, AreFalling, AreKeyed, IsFirstOf, AreCallsSound, charges_terminal, charge_owed, is_deed, deed_owed, IsServingSound, IsRepliable, AreRepliable, is_report_after, IsResolvedOn, IsLinkSound, is_handle, Holds, TurnHolds}
use Rattle.gw_books.proofs.ListLemmas.{In, all-from, any-from, any-in, filter-in}
use Rattle.gw_books.proofs.RecordMoreLemmas.{accepted-more, asked-first, first-itself, first-of-first, outcomes-of-first, outcomes-later}

-- ---- commands

falling-later : (place : ℕ) (commands : List SentCommand) → AreFalling place commands → AreFalling (place + 1) commands
falling-later place [] falling = tt
falling-later place (command ∷ commands) falling = (omega (arith, falling.0), falling.1)

-- one turn later, with records more, the commands are keyed still
keyed-later : (kept more : List Record) (place : ℕ) (commands : List SentCommand) → ((key : Key) → is_accepted kept key ≡ true → is_accepted more key ≡ true) → IsFirstOf kept more → AreKeyed kept place commands → AreKeyed more (place + 1) commands
keyed-later kept more place commands stays first keyed = record {
  falling = falling-later place commands keyed.falling;
  accepted = λ command sent. let own = keyed.accepted command sent in record { key = own.key; key_is = own.key_is; accepted = stays own.key own.accepted; asked = asked-first kept more own.key command.kind first own.asked };
  once = keyed.once;
}

-- the key of an Intent that is kept stays accepted with the record in flight
flight-accepted : LedgerLaws → (kept : List Record) (flight : Option Record) → AreFolded (kept ++ option_to_list flight) → (key : Key) → is_accepted kept key ≡ true → is_accepted (kept ++ option_to_list flight) key ≡ true
flight-accepted laws kept None folded key accepted = subst (λ records. is_accepted records key ≡ true) (sym (append-nil kept)) accepted
flight-accepted laws kept (Some the_record) folded key accepted = accepted-more laws kept the_record key folded accepted

-- ---- reports

-- some pass one test: they pass another that it implies
any-by : {A : Type 0} (one other : A → Bool) (list : List A) → ((x : A) → one x ≡ true → other x ≡ true) → list_any one list ≡ true → list_any other list ≡ true
any-by one other list implies e = let found = any-in one list e in any-from other list found.0 found.1 (implies found.0 found.2)

-- a report on a link before a poll is one after the link
report-after : (poll : MadePoll) (link : MadeLink) (end : HeardEnd) → is_report_on poll link end ≡ true → is_report_after link end ≡ true
report-after poll link end e = by_tests (is_report end.ending) (bytes_eq end.numbering.poi link.numbering.poi) (nat_lt link.place end.place) (nat_lt end.place poll.place) e
  where
    by_tests : (a b c d : Bool) → (a && (b && (c && d))) ≡ true → (a && (b && c)) ≡ true
    by_tests true true true d e = refl
    by_tests true true false d e = e
    by_tests true false c d e = e
    by_tests false b c d e = e

resolved-on : (poll : MadePoll) (link : MadeLink) → IsResolvedOn poll.kept link → is_resolved_on poll link ≡ true
resolved-on poll link resolved = by_slot (open_slot poll.kept link.numbering.poi) resolved
  where
    by_slot : (unresolved : Option ℕ) → ((slot : ℕ) → unresolved ≡ Some slot → link.records ≤ slot) → list_all (λ slot. nat_le link.records slot) (option_to_list unresolved) ≡ true
    by_slot None each = refl
    by_slot (Some slot) each = and_from (nat_le link.records slot) true (le-leb link.records slot (each slot refl)) refl

-- where what was open as a link was made is resolved after each report on it, a report resolves at the poll
report-resolved : (past : Past) (poll : MadePoll) (link : MadeLink) → (list_any (is_report_after link) past.ends ≡ true → IsResolvedOn poll.kept link) → report_resolves past poll link ≡ true
report-resolved past poll link resolves = by_test (list_any (is_report_on poll link) past.ends) refl
  where
    by_test : (test : Bool) → list_any (is_report_on poll link) past.ends ≡ test → report_resolves past poll link ≡ true
    by_test true reported =
        ap (λ test. not test || is_resolved_on poll link) reported ∙ resolved-on poll link (resolves (any-by (is_report_on poll link) (is_report_after link) past.ends (report-after poll link) reported))
    by_test false none = ap (λ test. not test || is_resolved_on poll link) none

-- ---- items of which no dialogue takes an APDU

abbrev pub handles_none : List RoundItem → Type 0
handles_none items = list_any is_handle items ≡ false

none-append : (items more : List RoundItem) → handles_none items → handles_none more → handles_none (items ++ more)
none-append [] more h k = k
none-append (item ∷ items) more h k =
    let parts = or_parts (is_handle item) (list_any is_handle items) h in
    or_from (is_handle item) (list_any is_handle (items ++ more)) parts.0 (none-append items more parts.1 k)

none-each : (number : ℕ) (item : ℕ → RoundItem) (terminals : List Terminal) → ((n : ℕ) → is_handle (item n) ≡ false) → handles_none (for_each_terminal number item terminals)
none-each number item [] each = refl
none-each number item (terminal ∷ terminals) each =
    or_from (is_handle (item number)) (list_any is_handle (for_each_terminal (number + 1) item terminals)) (each number) (none-each (number + 1) item terminals each)

none-overdue : (waits : List Wait) → handles_none (map (λ (wait : Wait). Overdue wait.key) waits)
none-overdue [] = refl
none-overdue (wait ∷ waits) = none-overdue waits

pub due-handles-none : (core : Core) → handles_none (items_due core)
due-handles-none core =
    none-append (for_each_terminal 0 Late core.terminals) (map (λ (wait : Wait). Overdue wait.key) (waits_by_deadline core.waits) ++ for_each_terminal 0 Due core.terminals) (none-each 0 Late core.terminals (λ n. refl))
    (none-append (map (λ (wait : Wait). Overdue wait.key) (waits_by_deadline core.waits)) (for_each_terminal 0 Due core.terminals) (none-overdue (waits_by_deadline core.waits)) (none-each 0 Due core.terminals (λ n. refl)))

-- with what may be due after them
pub then-due : (items : List RoundItem) (core : Core) → handles_none items → handles_none (items ++ items_due core)
then-due items core none = none-append items (items_due core) none (due-handles-none core)

pub opened-handles-none : (till : ℕ) (tills : List Connection) → handles_none (till_opened_items till tills)
opened-handles-none till tills = by_test (nat_lt (length tills) 64)
  where
    by_test : (test : Bool) → handles_none (if test then [] else Crowded till ∷ [])
    by_test true = refl
    by_test false = refl

none-messages : (till : ℕ) (payloads : List (List ℕ)) → handles_none (map (Message till) payloads)
none-messages till [] = refl
none-messages till (payload ∷ payloads) = none-messages till payloads

pub till-handles-none : (till : ℕ) (decoded : DecodedFrames) → handles_none (decoded_items till decoded)
till-handles-none till decoded = none-append (map (Message till) decoded.payloads) _ (none-messages till decoded.payloads) (by_test (has_bad_length decoded.rest))
  where
    by_test : (test : Bool) → handles_none (if test then Unframed till ∷ [] else [])
    by_test true = refl
    by_test false = refl

-- ---- calls

-- a write sends no command
write-charges-none : (number : ℕ) (call : OwedCall) (turn : Turn) → write_turn call ≡ Some turn → charges_terminal number call ≡ false
write-charges-none number (SendTill till reply) turn e = refl
write-charges-none number (SendPt pt sending) turn e = absurd (let n : None ≡ Some turn = e in cc)
write-charges-none number (LinkPt pt) turn e = refl
write-charges-none number (WriteBody slot the_record) turn e = refl
write-charges-none number (WriteGate slot the_record) turn e = refl
write-charges-none number WriteFirstGate turn e = refl
write-charges-none number Sync turn e = refl
write-charges-none number (CutTill till) turn e = refl
write-charges-none number (CutPt pt) turn e = refl

write-is-deed : (call : OwedCall) (turn : Turn) → write_turn call ≡ Some turn → is_deed call ≡ true
write-is-deed (SendTill till reply) turn e = absurd (let n : None ≡ Some turn = e in cc)
write-is-deed (SendPt pt sending) turn e = absurd (let n : None ≡ Some turn = e in cc)
write-is-deed (LinkPt pt) turn e = absurd (let n : None ≡ Some turn = e in cc)
write-is-deed (WriteBody slot the_record) turn e = refl
write-is-deed (WriteGate slot the_record) turn e = refl
write-is-deed WriteFirstGate turn e = refl
write-is-deed Sync turn e = absurd (let n : None ≡ Some turn = e in cc)
write-is-deed (CutTill till) turn e = absurd (let n : None ≡ Some turn = e in cc)
write-is-deed (CutPt pt) turn e = absurd (let n : None ≡ Some turn = e in cc)

-- the first call is one that cuts no terminal: the later ones cut those that all do
later-cut : (number : ℕ) (calls : List OwedCall) (call : OwedCall) → first_call calls ≡ Some call → cuts_terminal number call ≡ false → cut_owed number (later calls) ≡ cut_owed number calls
later-cut number calls call next none = sym (ap (cut_owed number) (first-later calls call next) ∙ ap (λ test. test || cut_owed number (later calls)) none)

-- so it is of commands that may charge a card
later-charge : (number : ℕ) (calls : List OwedCall) (call : OwedCall) → first_call calls ≡ Some call → charges_terminal number call ≡ false → charge_owed number (later calls) ≡ charge_owed number calls
later-charge number calls call next none = sym (ap (charge_owed number) (first-later calls call next) ∙ ap (λ test. test || charge_owed number (later calls)) none)

later-sound : (records : List Record) (core : Core) (commands : List SentCommand) (occasion : Occasion) (calls : List OwedCall) → AreCallsSound records core commands occasion calls → AreCallsSound records core commands occasion (later calls)
later-sound records core commands occasion [] sound = sound
later-sound records core commands occasion (call ∷ calls) sound = sound.1

-- a deed among the later calls is one among all
later-deed : (calls : List OwedCall) → deed_owed (later calls) ≡ true → deed_owed calls ≡ true
later-deed [] deed = deed
later-deed (call ∷ calls) deed = or_right (is_deed call) (deed_owed calls) deed

first-deed : (calls : List OwedCall) (call : OwedCall) → first_call calls ≡ Some call → is_deed call ≡ true → deed_owed calls ≡ true
first-deed calls call next deed = ap deed_owed (first-later calls call next) ∙ or_left (is_deed call) (deed_owed (later calls)) deed

-- while a run opens its journal, no write comes after one
opening-last : (log : List Turn) (v : View) (call : OwedCall) (turn : Turn) → Ordered log v → first_call v.calls ≡ Some call → write_turn call ≡ Some turn → is_opening v.scene.stage ≡ true → deed_owed (later v.calls) ≡ false
opening-last log v call turn o next writes opens = by_phase h.phase
  where
    h : KeptHolds (owned ledger_rules) log v
    h = holds ledger_rules log v o.keeps

    none : records_kept v.calls ≡ []
    none = o.quiet opens

    writes_sync : {A : Type 0} (rest : List OwedCall) → v.calls ≡ Sync ∷ rest → A
    writes_sync rest e = absurd (let n : None ≡ Some turn = ap write_turn (sym (first-is v.calls rest Sync call e next)) ∙ writes in cc)

    keeps_one : {A : Type 0} (the_record : Record) (more : List OwedCall) → records_kept v.calls ≡ the_record ∷ records_kept more → A
    keeps_one the_record more e = absurd (let n : [] ≡ the_record ∷ records_kept more = sym none ∙ e in cc)

    by_step : Mid (owned ledger_rules) log v.scene.kept v.scene.flight v.calls → deed_owed (later v.calls) ≡ false
    by_step (FirstSync e) = writes_sync _ e
    by_step (FirstGate g) = ap (λ calls. deed_owed (later calls)) g.calls_are
    by_step (GateSync g) = writes_sync _ g.calls_are
    by_step (Body a) = keeps_one a.the_record a.more (ap records_kept a.calls_are)
    by_step (BodySync a) = keeps_one a.the_record a.more (ap records_kept a.calls_are)
    by_step (OpenGate a) = keeps_one a.the_record a.more (ap records_kept a.calls_are)
    by_step (LastSync a) = writes_sync _ a.calls_are

    by_phase : Phase (owned ledger_rules) log v.scene.kept v.scene.flight v.calls v.scene.stage → deed_owed (later v.calls) ≡ false
    by_phase (inl c) = no-call v.calls call c.calls_are next
    by_phase (inr (inl r)) = absurd (off-disk v.calls call r.spares next (writes-on-disk call turn writes))
    by_phase (inr (inr m)) = by_step m.0

-- ---- stages

wrote-round : (stage : Stage) → is_round (stage_wrote stage) ≡ true → (is_round stage ≡ true) ⊎ (is_opening stage ≡ true)
wrote-round Resting e = inl e
wrote-round (Opening refused) e = inl e
wrote-round (Looking refused) e = inr refl
wrote-round AtPoll e = inl e
wrote-round Handling e = inl e
wrote-round Over e = inl e
wrote-round Broken e = inl e

synced-round : (stage : Stage) → is_round (stage_synced stage) ≡ is_round stage
synced-round Resting = refl
synced-round (Opening refused) = refl
synced-round (Looking refused) = refl
synced-round AtPoll = refl
synced-round Handling = refl
synced-round Over = refl
synced-round Broken = refl

-- ---- what most turns leave as it was

-- the past once a turn was made by which nothing is sent, linked or heard to its end
abbrev next_past : Past → Occasion → ℕ → List MadeLink → List MadePoll → List Occasion → Past
next_past past occasion heard lasting polls deeds = record past { place = past.place + 1; occasion = occasion; heard = heard; lasting = lasting; polls = polls; deeds = deeds }

-- each poll of these was made before the next turn, with the first of these records, and each report before it has resolved
record AreMade (kept : List Record) (past : Past) (polls : List MadePoll) : Type 0 where
  before : (poll : MadePoll) → In poll polls → poll.place < past.place + 1
  kept_polled : (poll : MadePoll) → In poll polls → IsFirstOf poll.kept kept
  resolved : list_all (λ (poll : MadePoll). list_all (report_resolves past poll) poll.links) polls ≡ true

made-before : (v : View) (past : Past) (book : List BookedEntry) → Holds v past book → AreMade v.scene.kept past past.polls
made-before v past book h = record { before = λ poll made. omega (arith, h.polled poll made); kept_polled = h.kept_polled; resolved = h.polls }

-- the same is remembered and the same records come, and the calls that are owed are sound
record Leaves (v w : View) (past : Past) (occasion : Occasion) (heard : ℕ) (lasting : List MadeLink) (polls : List MadePoll) (deeds : List Occasion) : Type 0 where
  kept : (key : Key) → is_accepted v.scene.kept key ≡ true → is_accepted w.scene.kept key ≡ true
  kept_first : IsFirstOf v.scene.kept w.scene.kept
  coming : records_coming w ≡ records_coming v
  core : w.scene.core ≡ v.scene.core
  clear : is_broken w.scene.stage ≡ false → is_broken v.scene.stage ≡ false
  calls : AreCallsSound (records_coming v) v.scene.core past.commands occasion w.calls
  charge_free : (number : ℕ) → charge_owed number w.calls ≡ charge_owed number v.calls
  cut_free : (number : ℕ) → cut_owed number w.calls ≡ cut_owed number v.calls
  inside : is_round w.scene.stage ≡ true → deed_owed w.calls ≡ true → is_inside occasion ≡ true
  deeds_inside : list_all is_inside deeds ≡ true
  heard_least : past.heard ≤ heard
  heard_most : heard ≤ past.place + 1
  handled : list_any is_handle w.items ≡ true → (poll : MadePoll) → In poll polls → poll.place < heard
  linked : (link : MadeLink) → In link lasting → In link past.lasting
  made : AreMade v.scene.kept past polls

-- after such a turn all holds still
goes-on : (v w : View) (past : Past) (occasion : Occasion) (heard : ℕ) (lasting : List MadeLink) (polls : List MadePoll) (deeds : List Occasion) (book : List BookedEntry)
    → Holds v past book → Leaves v w past occasion heard lasting polls deeds → Holds w (next_past past occasion heard lasting polls deeds) book
goes-on v w past occasion heard lasting polls deeds book h l = record {
  heard = l.heard_most;
  ended = λ end within. omega (arith, h.ended end within, l.heard_least);
  commands = keyed-later v.scene.kept w.scene.kept past.place past.commands l.kept l.kept_first h.commands;
  outcomes = outcomes-later past.commands book past.place (past.place + 1) (records_coming w) (omega arith) (subst (λ records. AreOutcomesTrue past.commands book past.place records) (sym l.coming) h.outcomes);
  calls = subst (λ records. AreCallsSound records w.scene.core past.commands occasion w.calls) (sym l.coming) (subst (λ (core : Core). AreCallsSound (records_coming v) core past.commands occasion w.calls) (sym l.core) l.calls);
  serving = λ clear number terminal found no_charge no_cut.
      subst (λ records. IsServingSound records past.commands terminal.pt.poi terminal.standing) (sym l.coming)
      (h.serving (l.clear clear) number terminal (there number terminal found) (sym (l.charge_free number) ∙ no_charge) (sym (l.cut_free number) ∙ no_cut));
  repliable = λ number terminal found. h.repliable number terminal (there number terminal found);
  dialogues = λ clear number terminal found no_cut. h.dialogues (l.clear clear) number terminal (there number terminal found) (sym (l.cut_free number) ∙ no_cut);
  inside = l.inside;
  deeds = l.deeds_inside;
  polled = l.made.before;
  handled = l.handled;
  links = λ clear link within. link_stays link (h.links (l.clear clear) link (l.linked link within));
  polls = l.made.resolved;
  replies = h.replies;
  replied = λ reply sent. first-of-first reply.kept v.scene.kept w.scene.kept (h.replied reply sent) l.kept_first;
  kept_polled = λ poll made. first-of-first poll.kept v.scene.kept w.scene.kept (l.made.kept_polled poll made) l.kept_first;
}
  where
    there : (number : ℕ) (terminal : Terminal) → slice_get w.scene.core.terminals number ≡ Some terminal → slice_get v.scene.core.terminals number ≡ Some terminal
    there number terminal found = ap (λ (core : Core). slice_get core.terminals number) (sym l.core) ∙ found

    resolved : (number : ℕ) (link : MadeLink) → (cut_owed number v.calls ≡ true) ⊎ IsResolvedOn (records_coming v) link → (cut_owed number w.calls ≡ true) ⊎ IsResolvedOn (records_coming w) link
    resolved number link (inl cut) = inl (l.cut_free number ∙ cut)
    resolved number link (inr resolves) = inr (subst (λ records. IsResolvedOn records link) (sym l.coming) resolves)

    link_stays : (link : MadeLink) → IsLinkSound (records_coming v) v.scene.core v.calls past link → IsLinkSound (records_coming w) w.scene.core w.calls (next_past past occasion heard lasting polls deeds) link
    link_stays link s = record {
      of_terminal = record { number = s.of_terminal.number; terminal = s.of_terminal.terminal; found = ap (λ (core : Core). slice_get core.terminals s.of_terminal.number) l.core ∙ s.of_terminal.found; poi_is = s.of_terminal.poi_is };
      before = omega (arith, s.before);
      records_before = subst (λ (records : List Record). link.records ≤ length records) (sym l.coming) s.records_before;
      resolved = λ reported. resolved s.of_terminal.number link (s.resolved reported);
    }

-- ---- events of the site

-- no call was owed and none is, and the same is kept and remembered
event-leaves : (v w : View) (past : Past) (occasion : Occasion) (heard : ℕ) (lasting : List MadeLink) (polls : List MadePoll) (book : List BookedEntry) → Holds v past book
    → is_broken v.scene.stage ≡ false → v.calls ≡ [] → w.calls ≡ [] → w.scene.kept ≡ v.scene.kept → w.scene.flight ≡ v.scene.flight → w.scene.core ≡ v.scene.core → past.heard ≤ heard → heard ≤ past.place + 1
    → (list_any is_handle w.items ≡ true → (poll : MadePoll) → In poll polls → poll.place < heard) → ((link : MadeLink) → In link lasting → In link past.lasting) → AreMade v.scene.kept past polls
    → Leaves v w past occasion heard lasting polls past.deeds
event-leaves v w past occasion heard lasting polls book h clear before none kept flight core least most handled linked made =
    let file : records_of w.scene ≡ records_of v.scene = ap (λ l. l ++ option_to_list w.scene.flight) kept ∙ ap (λ (f : Option Record). v.scene.kept ++ option_to_list f) flight in
    record {
      kept = λ key accepted. subst (λ (records : List Record). is_accepted records key ≡ true) (sym kept) accepted;
      kept_first = subst (IsFirstOf v.scene.kept) (sym kept) (first-itself v.scene.kept);
      coming = ap (λ l. l ++ records_kept w.calls) file ∙ ap (λ calls. records_of v.scene ++ records_kept calls) (none ∙ sym before);
      core = core;
      clear = λ w_clear. clear;
      calls = subst (λ calls. AreCallsSound (records_coming v) v.scene.core past.commands occasion calls) (sym none) tt;
      charge_free = λ number. ap (charge_owed number) (none ∙ sym before);
      cut_free = λ number. ap (cut_owed number) (none ∙ sym before);
      inside = λ round deed. no-true (sym (ap deed_owed none) ∙ deed);
      deeds_inside = h.deeds;
      heard_least = least;
      heard_most = most;
      handled = handled;
      linked = linked;
      made = made;
    }

-- an event that follows a poll, and brings no APDU
event-holds : (log : List Turn) (v w : View) (past : Past) (lasting : List MadeLink) (book : List BookedEntry) → Ordered log v → v.scene.stage ≡ AtPoll → Holds v past book
    → w.calls ≡ [] → w.scene.kept ≡ v.scene.kept → w.scene.flight ≡ v.scene.flight → w.scene.core ≡ v.scene.core → handles_none w.items → ((link : MadeLink) → In link lasting → In link past.lasting)
    → Holds w (next_past past past.occasion past.heard lasting past.polls past.deeds) book
event-holds log v w past lasting book o polled h none kept flight core handles linked =
    goes-on v w past past.occasion past.heard lasting past.polls past.deeds book h
    (event-leaves v w past past.occasion past.heard lasting past.polls book h (ap is_broken polled) (o.owing.polled polled) none kept flight core (omega arith) (omega (arith, h.heard))
    (λ some. no-true (sym handles ∙ some)) linked (made-before v past book h))

pub opened-holds : (till : ℕ) → TurnHolds (Opened till)
opened-holds till log v past book o ok h =
    event-holds log v (after_turn v (Opened till)) past past.lasting book o ok.0 h refl refl refl refl (then-due (till_opened_items till v.scene.outside.tills) v.scene.core (opened-handles-none till v.scene.outside.tills)) (λ link within. within)

pub heard-till-holds : (till : ℕ) (bytes : List ℕ) → TurnHolds (HeardTill till bytes)
heard-till-holds till bytes log v past book o ok h =
    let decoded : DecodedFrames = decode_after (decode_frames (heard_on v.scene.outside.tills till)).rest bytes in
    event-holds log v (after_turn v (HeardTill till bytes)) past past.lasting book o ok.0.polled h refl refl refl refl (then-due (decoded_items till decoded) v.scene.core (till-handles-none till decoded)) (λ link within. within)

pub closed-holds : (till : ℕ) → TurnHolds (Closed till)
closed-holds till log v past book o ok h =
    event-holds log v (after_turn v (Closed till)) past past.lasting book o ok.polled h refl refl refl refl (then-due (Gone till ∷ []) v.scene.core refl) (λ link within. within)

-- the links of a terminal that is lost last no longer
pub lost-holds : (pt : ℕ) → TurnHolds (Lost pt)
lost-holds pt log v past book o ok h =
    let stays : MadeLink → Bool = λ (link : MadeLink). not (bytes_eq link.numbering.poi (poi_of_number v.scene pt)) in
    event-holds log v (after_turn v (Lost pt)) past (filter stays past.lasting) book o ok.polled h refl refl refl refl (then-due (LinkLost pt ∷ []) v.scene.core refl) (λ link within. (filter-in stays past.lasting link within).0)

pub stopped-holds : TurnHolds Stopped
stopped-holds log v past book o ok h = event-holds log v (after_turn v Stopped) past past.lasting book o ok h refl refl refl refl refl (λ link within. within)

-- what is heard of a terminal is heard after each poll
pub heard-pt-holds : (pt : ℕ) (bytes : List ℕ) → TurnHolds (HeardPt pt bytes)
heard-pt-holds pt bytes log v past book o ok h =
    goes-on v (after_turn v (HeardPt pt bytes)) past past.occasion past.place past.lasting past.polls past.deeds book h
    (event-leaves v (after_turn v (HeardPt pt bytes)) past past.occasion past.place past.lasting past.polls book h (ap is_broken ok.0.polled) (o.owing.polled ok.0.polled) refl refl refl refl h.heard (omega arith)
    (λ some. h.polled) (λ link within. within) (made-before v past book h))

-- ---- polls

-- at a poll each report has resolved
pub polled-holds : (now : ℤ) → TurnHolds (Polled now)
polled-holds now log v past book o ok h =
    goes-on v w past OfNothing past.heard past.lasting (poll ∷ past.polls) past.deeds book h
    (event-leaves v w past OfNothing past.heard past.lasting (poll ∷ past.polls) book h clear ok.calls refl refl refl refl (omega arith) (omega (arith, h.heard))
    (λ some. no-true (sym (due-handles-none v.scene.core) ∙ some)) (λ link within. within) made)
  where
    w : View
    w = after_turn v (Polled now)

    poll : MadePoll
    poll = record { place = past.place; links = past.lasting; kept = v.scene.kept }

    clear : is_broken v.scene.stage ≡ false
    clear = clear-where v.scene.stage is_running refl ok.running

    coming : records_coming v ≡ v.scene.kept
    coming = coming-kept v (ap spare_disk ok.calls) (idle-rests (owned ledger_rules) log v (holds ledger_rules log v o.keeps) ok.running ok.calls).is_open.no_flight

    resolves : (number : ℕ) (link : MadeLink) → (cut_owed number v.calls ≡ true) ⊎ IsResolvedOn (records_coming v) link → IsResolvedOn v.scene.kept link
    resolves number link (inl cut) = no-true (sym (ap (cut_owed number) ok.calls) ∙ cut)
    resolves number link (inr resolved) = subst (λ records. IsResolvedOn records link) coming resolved

    each : (link : MadeLink) → In link past.lasting → report_resolves past poll link ≡ true
    each link within = let s = h.links clear link within in report-resolved past poll link (λ reported. resolves s.of_terminal.number link (s.resolved reported))

    before : (one : MadePoll) → In one (poll ∷ past.polls) → one.place < past.place + 1
    before one (inl same) = omega (arith, ap (λ (p : MadePoll). p.place) same)
    before one (inr older) = omega (arith, h.polled one older)

    first_kept : (one : MadePoll) → In one (poll ∷ past.polls) → IsFirstOf one.kept v.scene.kept
    first_kept one (inl same) = subst (λ (p : MadePoll). IsFirstOf p.kept v.scene.kept) (sym same) (first-itself v.scene.kept)
    first_kept one (inr older) = h.kept_polled one older

    made : AreMade v.scene.kept past (poll ∷ past.polls)
    made = record {
      before = before;
      kept_polled = first_kept;
      resolved = and_from (list_all (report_resolves past poll) past.lasting) (list_all (λ (one : MadePoll). list_all (report_resolves past one) one.links) past.polls) (all-from (report_resolves past poll) past.lasting each) h.polls;
    }

-- ---- the disk

-- the first call was made, which is on the disk: the same is remembered, and the same records come
disk-leaves : (v w : View) (past : Past) (deeds : List Occasion) (book : List BookedEntry) (call : OwedCall) → Holds v past book → first_call v.calls ≡ Some call
    → ((number : ℕ) → cuts_terminal number call ≡ false) → ((number : ℕ) → charges_terminal number call ≡ false) → w.calls ≡ later v.calls → w.items ≡ v.items → w.scene.core ≡ v.scene.core
    → ((key : Key) → is_accepted v.scene.kept key ≡ true → is_accepted w.scene.kept key ≡ true) → IsFirstOf v.scene.kept w.scene.kept → records_coming w ≡ records_coming v → is_broken w.scene.stage ≡ is_broken v.scene.stage
    → (is_round w.scene.stage ≡ true → deed_owed w.calls ≡ true → is_inside past.occasion ≡ true) → list_all is_inside deeds ≡ true
    → Leaves v w past past.occasion past.heard past.lasting past.polls deeds
disk-leaves v w past deeds book call h next cuts charges calls items core kept kept_first coming broken inside all_inside = record {
  kept = kept;
  kept_first = kept_first;
  coming = coming;
  core = core;
  clear = λ clear. sym broken ∙ clear;
  calls = subst (λ owed. AreCallsSound (records_coming v) v.scene.core past.commands past.occasion owed) (sym calls) (later-sound (records_coming v) v.scene.core past.commands past.occasion v.calls h.calls);
  charge_free = λ number. ap (charge_owed number) calls ∙ later-charge number v.calls call next (charges number);
  cut_free = λ number. ap (cut_owed number) calls ∙ later-cut number v.calls call next (cuts number);
  inside = inside;
  deeds_inside = all_inside;
  heard_least = omega arith;
  heard_most = omega (arith, h.heard);
  handled = λ some. h.handled (sym (ap (list_any is_handle) items) ∙ some);
  linked = λ link within. within;
  made = made-before v past book h;
}

-- a write is a deed of what an item is about, but while the journal is opened
pub wrote-holds : (offset : ℕ) (bytes : List ℕ) → TurnHolds (Wrote offset bytes)
wrote-holds offset bytes log v past book o ok h = by_round (is_round v.scene.stage) refl
  where
    turn : Turn
    turn = Wrote offset bytes

    w : View
    w = after_turn v turn

    coming : records_coming w ≡ records_coming v
    coming = written-coming log v ok.0 turn (holds ledger_rules log v o.keeps) ok.1 ok.2

    leaves : (deeds : List Occasion) → (is_round w.scene.stage ≡ true → deed_owed w.calls ≡ true → is_inside past.occasion ≡ true) → list_all is_inside deeds ≡ true → Leaves v w past past.occasion past.heard past.lasting past.polls deeds
    leaves deeds inside all_inside =
        disk-leaves v w past deeds book ok.0 h ok.1 (λ number. writes-cut-none number ok.0 turn ok.2) (λ number. write-charges-none number ok.0 turn ok.2) refl refl refl (λ key accepted. accepted) (first-itself v.scene.kept) coming
        (wrote-broken v.scene.stage) inside all_inside

    -- while the journal is opened no write comes after this one
    opening_inside : is_round v.scene.stage ≡ false → (is_round v.scene.stage ≡ true) ⊎ (is_opening v.scene.stage ≡ true) → deed_owed (later v.calls) ≡ true → is_inside past.occasion ≡ true
    opening_inside off (inl round) deed = no-true (sym off ∙ round)
    opening_inside off (inr opens) deed = no-true (sym (opening-last log v ok.0 turn o ok.1 ok.2 opens) ∙ deed)

    by_round : (test : Bool) → is_round v.scene.stage ≡ test → Holds w (record (if test then record past { deeds = past.occasion ∷ past.deeds } else past) { place = past.place + 1 }) book
    by_round true round =
        let own : is_inside past.occasion ≡ true = h.inside round (first-deed v.calls ok.0 ok.1 (write-is-deed ok.0 turn ok.2)) in
        goes-on v w past past.occasion past.heard past.lasting past.polls (past.occasion ∷ past.deeds) book h (leaves (past.occasion ∷ past.deeds) (λ w_round deed. own) (and_from (is_inside past.occasion) (list_all is_inside past.deeds) own h.deeds))
    by_round false off =
        goes-on v w past past.occasion past.heard past.lasting past.polls past.deeds book h (leaves past.deeds (λ w_round deed. opening_inside off (wrote-round v.scene.stage w_round) deed) h.deeds)

-- a sync keeps the record in flight
pub synced-holds : LedgerLaws → TurnHolds Synced
synced-holds laws log v past book o ok h =
    let w : View = after_turn v Synced in
    let folded : AreFolded (records_of v.scene) = (folds-at-once log v (holds ledger_rules log v o.keeps)).file in
    let coming : records_coming w ≡ records_coming v =
    ap (λ l. l ++ records_kept (later v.calls)) (append-nil (records_of v.scene)) ∙ ap (λ l. records_of v.scene ++ l) (sym (ap records_kept (first-later v.calls Sync ok))) in
    goes-on v w past past.occasion past.heard past.lasting past.polls past.deeds book h
    (disk-leaves v w past past.deeds book Sync h ok (λ number. refl) (λ number. refl) refl refl refl (flight-accepted laws v.scene.kept v.scene.flight folded) (option_to_list v.scene.flight, refl) coming
    (synced-broken v.scene.stage)
    (λ round deed. h.inside (sym (synced-round v.scene.stage) ∙ round) (later-deed v.calls deed)) h.deeds)

-- ---- the ends of runs, and their beginning

-- the calls that were owed are dropped: of the records that would have come the first ones come, and no link lasts where the disk is well
record Drops (v w : View) (past : Past) (occasion : Occasion) (lasting : List MadeLink) : Type 0 where
  kept : (key : Key) → is_accepted v.scene.kept key ≡ true → is_accepted w.scene.kept key ≡ true
  kept_first : IsFirstOf v.scene.kept w.scene.kept
  more : List Record
  first : records_coming v ≡ records_coming w ++ more
  calls : AreCallsSound (records_coming w) w.scene.core past.commands occasion w.calls
  serving : is_broken w.scene.stage ≡ false → (number : ℕ) (terminal : Terminal) → slice_get w.scene.core.terminals number ≡ Some terminal → IsServingSound (records_coming w) past.commands terminal.pt.poi terminal.standing
  repliable : AreRepliable w.scene.core
  dialogues : is_broken w.scene.stage ≡ false → (number : ℕ) (terminal : Terminal) → slice_get w.scene.core.terminals number ≡ Some terminal → HasItsDialogue terminal
  ended : is_round w.scene.stage ≡ false
  items : w.items ≡ []
  links : is_broken w.scene.stage ≡ false → (link : MadeLink) → In link lasting → ⊥

-- after such a turn all holds still
drops-hold : (v w : View) (past : Past) (occasion : Occasion) (lasting : List MadeLink) (book : List BookedEntry) → Holds v past book → Drops v w past occasion lasting → Holds w (next_past past occasion past.heard lasting past.polls past.deeds) book
drops-hold v w past occasion lasting book h d = record {
  heard = omega (arith, h.heard);
  ended = h.ended;
  commands = keyed-later v.scene.kept w.scene.kept past.place past.commands d.kept d.kept_first h.commands;
  outcomes = outcomes-later past.commands book past.place (past.place + 1) (records_coming w) (omega arith)
      (outcomes-of-first past.commands book past.place (records_coming w) d.more (subst (λ records. AreOutcomesTrue past.commands book past.place records) d.first h.outcomes));
  calls = d.calls;
  serving = λ clear number terminal found no_charge no_cut. d.serving clear number terminal found;
  repliable = d.repliable;
  dialogues = λ clear number terminal found no_cut. d.dialogues clear number terminal found;
  inside = λ round deed. no-true (sym d.ended ∙ round);
  deeds = h.deeds;
  polled = λ poll made. omega (arith, h.polled poll made);
  handled = λ some. no-true (sym (ap (list_any is_handle) d.items) ∙ some);
  links = λ clear link within. absurd (d.links clear link within);
  polls = h.polls;
  replies = h.replies;
  replied = λ reply sent. first-of-first reply.kept v.scene.kept w.scene.kept (h.replied reply sent) d.kept_first;
  kept_polled = λ poll made. first-of-first poll.kept v.scene.kept w.scene.kept (h.kept_polled poll made) d.kept_first;
}

-- where calls are dropped, those of the records that were kept come that are there
first-file : (v : View) (calls : List OwedCall) → records_kept calls ≡ [] → records_coming v ≡ (records_of v.scene ++ records_kept calls) ++ records_kept v.calls
first-file v calls none = ap (λ l. l ++ records_kept v.calls) (sym (ap (λ l. records_of v.scene ++ l) none ∙ append-nil (records_of v.scene)))

-- no terminal is there
no-terminal : {A : Type 0} (number : ℕ) (terminal : Terminal) → slice_get [] number ≡ Some terminal → A
no-terminal number terminal found = absurd (let n : None ≡ Some terminal = found in cc)

-- nothing is remembered, and there is no run
nobody-drops : (v w : View) (past : Past) → ((key : Key) → is_accepted v.scene.kept key ≡ true → is_accepted w.scene.kept key ≡ true) → IsFirstOf v.scene.kept w.scene.kept → (more : List Record) → records_coming v ≡ records_coming w ++ more
    → w.calls ≡ [] → w.items ≡ [] → w.scene.core.terminals ≡ [] → is_round w.scene.stage ≡ false → Drops v w past OfNothing []
nobody-drops v w past kept kept_first more first none items nobody ended = record {
  kept = kept;
  kept_first = kept_first;
  more = more;
  first = first;
  calls = subst (λ calls. AreCallsSound (records_coming w) w.scene.core past.commands OfNothing calls) (sym none) tt;
  serving = λ clear number terminal found. no-terminal number terminal (there number terminal found);
  repliable = λ number terminal found. no-terminal number terminal (there number terminal found);
  dialogues = λ clear number terminal found. no-terminal number terminal (there number terminal found);
  ended = ended;
  items = items;
  links = λ clear link within. within;
}
  where
    there : (number : ℕ) (terminal : Terminal) → slice_get w.scene.core.terminals number ≡ Some terminal → slice_get [] number ≡ Some terminal
    there number terminal found = ap (λ (l : List Terminal). slice_get l number) (sym nobody) ∙ found

-- what holds of each terminal that isn't linked, and was never, holds of those of a run that begins
new-terminals : (P : Terminal → Type 0) → ((pt : Pt) → P (new_terminal pt)) → (setup : Setup) (number : ℕ) (terminal : Terminal) → slice_get (new_core setup).terminals number ≡ Some terminal → P terminal
new-terminals P each setup number terminal found =
    let was = image-there new_terminal setup.terminals number terminal found in
    subst P (same-some (new_terminal was.0) terminal (sym (there-image new_terminal setup.terminals number was.0 was.1) ∙ found)) (each was.0)

pub start-holds : (setup : Setup) → TurnHolds (Start setup)
start-holds setup log v past book o ok h = drops-hold v w past OfNothing [] book h drops
  where
    w : View
    w = after_turn v (Start setup)

    none : records_kept w.calls ≡ []
    none = opens-all (λ calls. records_kept calls ≡ []) refl refl setup v.scene.outside.file (records_of v.scene)

    drops : Drops v w past OfNothing []
    drops = record {
      kept = λ key accepted. accepted;
      kept_first = first-itself v.scene.kept;
      more = records_kept v.calls;
      first = first-file v w.calls none;
      calls = opens-all (λ calls. AreCallsSound (records_coming w) w.scene.core past.commands OfNothing calls) (tt, tt) (tt, (tt, (tt, tt))) setup v.scene.outside.file (records_of v.scene);
      serving = λ clear. new-terminals (λ (t : Terminal). IsServingSound (records_coming w) past.commands t.pt.poi t.standing) (λ pt. tt) setup;
      repliable = new-terminals (λ (t : Terminal). IsRepliable t.standing) (λ pt. tt) setup;
      dialogues = λ clear. new-has setup;
      ended = refl;
      items = refl;
      links = λ clear link within. within;
    }

pub open-failed-holds : TurnHolds OpenFailed
open-failed-holds log v past book o ok h =
    let w : View = after_turn v OpenFailed in
    drops-hold v w past OfNothing [] book h (nobody-drops v w past (λ key accepted. accepted) (first-itself v.scene.kept) (records_kept v.calls) (first-file v [] refl) refl refl refl refl)

-- what was kept is kept after a power failure, and the records are the first of those that would have come
record IsFirst (v : View) (kept : List Record) : Type 0 where
  stays : (key : Key) → is_accepted v.scene.kept key ≡ true → is_accepted kept key ≡ true
  kept_first : IsFirstOf v.scene.kept kept
  more : List Record
  first : records_coming v ≡ kept ++ more

left-first : LedgerLaws → (v : View) → AreFolded (records_of v.scene) → (gate : Bool) → IsFirst v (if gate then records_of v.scene else v.scene.kept)
left-first laws v folded true = record {
  stays = flight-accepted laws v.scene.kept v.scene.flight folded;
  kept_first = (option_to_list v.scene.flight, refl);
  more = records_kept v.calls;
  first = refl;
}
left-first laws v folded false = record {
  stays = λ key accepted. accepted;
  kept_first = first-itself v.scene.kept;
  more = option_to_list v.scene.flight ++ records_kept v.calls;
  first = append_assoc v.scene.kept (option_to_list v.scene.flight) (records_kept v.calls);
}

pub crash-holds : LedgerLaws → (file : List ℕ) → TurnHolds (Crash file)
crash-holds laws file log v past book o ok h =
    let w : View = after_turn v (Crash file) in
    let folded : AreFolded (records_of v.scene) = (folds-at-once log v (holds ledger_rules log v o.keeps)).file in
    let left : IsFirst v (kept_of v.scene file) = left-first laws v folded (has_gate file (length v.scene.kept)) in
    let coming : records_coming w ≡ kept_of v.scene file = append-nil (kept_of v.scene file ++ []) ∙ append-nil (kept_of v.scene file) in
    drops-hold v w past OfNothing [] book h (nobody-drops v w past left.stays left.kept_first left.more (left.first ∙ ap (λ l. l ++ left.more) (sym coming)) refl refl refl refl)

-- nothing is owed after a failed call on the disk
pub disk-failed-holds : TurnHolds DiskFailed
disk-failed-holds log v past book o ok h = drops-hold v w past past.occasion past.lasting book h drops
  where
    w : View
    w = after_turn v DiskFailed

    drops : Drops v w past past.occasion past.lasting
    drops = record {
      kept = λ key accepted. accepted;
      kept_first = first-itself v.scene.kept;
      more = records_kept v.calls;
      first = first-file v [] refl;
      calls = tt;
      serving = λ clear. no-true (sym clear);
      repliable = h.repliable;
      dialogues = λ clear. no-true (sym clear);
      ended = refl;
      items = refl;
      links = λ clear. no-true (sym clear);
    }
