-- What holds along a course holds once an item has begun, and once a message was read.
use Rattle.std.proofs.Common.{◌≡◌, ◌≢◌, ◌≤◌, ◌<◌, ℕ, Bool, true, false, List, [], ◌∷◌, ◌++◌, length, refl, sym, ◌∙◌, ap, subst, arith, inl, inr}
use Rattle.std.proofs.lemmas.Bool.{and_parts, ltb-true, or_parts}
use Rattle.std.specs.Prelude.{◌⊎◌, ◌||◌, ◌&&◌, not, bytes_eq, nat_lt, map, slice_get, Option, Some, None, option_to_list}
use Rattle.std.specs.List.{list_any, list_all, flat_map}
use Rattle.gw_base.specs.declared.setup.Setup.{Setup}
use Rattle.gw_site.specs.Outside.{Connection, is_connected}
use Rattle.gw_site.specs.declared.turn.Turn.{Turn}
use Rattle.zvt_msg.specs.Message.{MessageValue}
use Rattle.jrn_record.specs.declared.records.Record.{Record}
use Rattle.jrn_record.specs.declared.records.Record.TheVariants.{Outcome}
use Rattle.gw_owes.specs.declared.terminal.Terminal.{Terminal}
use Rattle.gw_owes.specs.Calls.{records_kept, CutTill}
use Rattle.gw_owes.specs.Dialogues.{HasItsDialogue, AllHaveDialogues}
use Rattle.gw_owes.specs.Items.{RoundItem, Crowded, Message, Asked, Unframed, Gone, Greet, Handle, Serve, Queue, NextWaiting, Oversized, LinkLost, Late, Overdue, Due}
use Rattle.gw_owes.specs.ReadAs.{ReadAs}
use Rattle.gw_owes.specs.Row.{Known, Row, owing}
use Rattle.gw_owes.specs.Rows.{asked_row, row_of}
use Rattle.gw_owes.specs.TerminalLaws.{owes_cut}
use Rattle.gw_owes.specs.TerminalRows.{terminal_of, terminal_row}
use Rattle.gw_owes.specs.Terminals.{forgets_till}
use Rattle.gw_owes.proofs.DialogueLemmas.{rows-keep}
use Rattle.gw_owes.proofs.HandlingLemmas.{by-where}
use Rattle.gw_owes.proofs.SetLemmas.{same-some}
use Rattle.gw_owes.proofs.TerminalLemmas.{row-changes-alone}
use Rattle.gw_rules.specs.JournalFiles.{spare_disk}
use Rattle.gw_rules.specs.LedgerRules.{ledger_rules}
use Rattle.gw_rules.specs.Lawful.{may_begin, Begins}
use Rattle.gw_rules.specs.RecordOrder.{records_coming}
use Rattle.gw_rules.specs.Scene.{Scene, records_of, known_in, row_at}
use Rattle.gw_rules.specs.Stage.{is_round, is_broken}
use Rattle.gw_rules.specs.TranscriptLaws.{cut_owed}
use Rattle.gw_rules.specs.View.{View, Begin, Read, begun, after, at_first, read_first}
use Rattle.gw_rules.proofs.KeptFileLemmas.{owned}
use Rattle.gw_rules.proofs.KeptLawLemmas.{holds}
use Rattle.gw_rules.proofs.KeptPhaseLemmas.{round-runs}
use Rattle.gw_rules.proofs.KeptTurnLemmas.{idle-rests, no-more}
use Rattle.gw_rules.proofs.LinkedLemmas.{round-setup}
use Rattle.gw_rules.proofs.OwingLemmas.{clear-where}
use Rattle.gw_rules.proofs.RecordOrderLemmas.{Ordered, between-items, first-was-read, row-is, waits-between-items}
use Rattle.gw_rules.proofs.RecordRowLemmas.{coming-kept}
use Rattle.gw_rules.proofs.SetupLemmas.{HasSetup}
use Rattle.gw_rules.proofs.StageLemmas.{no-true}
use Rattle.gw_rules.proofs.TranscriptLogLemmas.{AreCallsOf, own-owed, rows-of, image-there, there-image}
use Rattle.gw_owes.specs.Core.{Wait}
use Rattle.gw_owes.specs.Waits.{waiting_with, queue_of, first_waiting}
use Rattle.gw_owes.proofs.NextLemmas.{each-queued, each-overdue}
use Rattle.gw_books.specs.Past.{Occasion, OfRequest, OfMessage, OfNothing, MadeLink, Ending, HeardEnd, MadePoll, Past, no_past, occasion_waiting, occasion_of, ending_at, ends_by, ends_of, past_after, numbering_at}
use Rattle.gw_books.specs.Books.{BookedEntry, Honest}
use Rattle.gw_books.specs.Agrees.{is_report, is_report_on, report_resolves, is_resolved_on}
use Rattle.gw_books.proofs.ListLemmas.{In, in-either}
use Rattle.gw_books.proofs.HandledLemmas.{IsItemHandled}
use Rattle.gw_books.proofs.Holding.{AreOutcomesTrue, AreCallsSound, is_handle, charge_owed, IsServingSound, IsResolvedOn, IsLinkSound, IsLinkAtRest, Holds, HoldsBetween, HoldsAfterRow, begun_past, ReadHolds}
use Rattle.gw_books.proofs.Numbering.{AreLinkedBeforeHearing, BeginHolds, Numbered, NumberedBetween, RowHolds}
use Rattle.gw_books.proofs.QuietRowLemmas.{asked-ends-none}

-- ---- dialogues

-- an item of a terminal leaves each terminal its dialogue, but one whose cut is owed
terminal-dialogues : (known : Known) (item : RoundItem) (number : ℕ) → terminal_of item ≡ Some number → AreCallsOf (Some number) (terminal_row known item).calls → AllHaveDialogues known.core
    → (pt : ℕ) (terminal : Terminal) → slice_get (terminal_row known item).core.terminals pt ≡ Some terminal → cut_owed pt (terminal_row known item).calls ≡ false → HasItsDialogue terminal
terminal-dialogues known item number is of all pt terminal found no_cut = by_cut (owes_cut (terminal_row known item).calls) refl
  where
    by_cut : (test : Bool) → owes_cut (terminal_row known item).calls ≡ test → HasItsDialogue terminal
    by_cut true cuts =
        let differs : pt ≢ number = λ same. no-true (sym no_cut ∙ ap (λ n. cut_owed n (terminal_row known item).calls) same ∙ (own-owed number known.moment (terminal_row known item).calls of).1 ∙ cuts) in
        all pt terminal (sym ((row-changes-alone known item number is).others pt differs) ∙ found)
    by_cut false none = rows-keep known item all none pt terminal found

-- so does each item
pub row-dialogues : (tills : List Connection) (known : Known) (item : RoundItem) → AllHaveDialogues known.core → (pt : ℕ) (terminal : Terminal) → slice_get (row_of tills known item).core.terminals pt ≡ Some terminal
    → cut_owed pt (row_of tills known item).calls ≡ false → HasItsDialogue terminal
row-dialogues tills known (Crowded till) all pt terminal found no_cut = all pt terminal found
row-dialogues tills known (Message till bytes) all pt terminal found no_cut = all pt terminal found
row-dialogues tills known (Asked till as_read) all pt terminal found no_cut =
    by-where (λ (row : Row). slice_get row.core.terminals pt ≡ Some terminal → HasItsDialogue terminal) known (asked_row known till as_read) (is_connected tills till) (all pt terminal) (λ there. all pt terminal) found
row-dialogues tills known (Unframed till) all pt terminal found no_cut =
    by-where (λ (row : Row). slice_get row.core.terminals pt ≡ Some terminal → HasItsDialogue terminal) known (owing known (CutTill till ∷ [])) (is_connected tills till) (all pt terminal) (λ there. all pt terminal) found
row-dialogues tills known (Gone till) all pt terminal found no_cut =
    let there = image-there (forgets_till till) known.core.terminals pt terminal found in
    let same : forgets_till till there.0 ≡ terminal = same-some (forgets_till till there.0) terminal (sym (there-image (forgets_till till) known.core.terminals pt there.0 there.1) ∙ found) in
    subst HasItsDialogue same (all pt there.0 there.1)
row-dialogues tills known (Greet number apdu) all pt terminal found no_cut = terminal-dialogues known (Greet number apdu) number refl (rows-of tills known (Greet number apdu)) all pt terminal found no_cut
row-dialogues tills known (Handle number apdu) all pt terminal found no_cut = terminal-dialogues known (Handle number apdu) number refl (rows-of tills known (Handle number apdu)) all pt terminal found no_cut
row-dialogues tills known (Serve number till header request) all pt terminal found no_cut =
    terminal-dialogues known (Serve number till header request) number refl (rows-of tills known (Serve number till header request)) all pt terminal found no_cut
row-dialogues tills known (Queue number till header request) all pt terminal found no_cut =
    each-queued (λ (row : Row). slice_get row.core.terminals pt ≡ Some terminal → HasItsDialogue terminal) known number till header request (record {
      none = all pt terminal;
      joins = λ at key joins. all pt terminal;
      taken = λ wait taken. all pt terminal;
    }) found
row-dialogues tills known (NextWaiting number) all pt terminal found no_cut = terminal-dialogues known (NextWaiting number) number refl (rows-of tills known (NextWaiting number)) all pt terminal found no_cut
row-dialogues tills known (Oversized number) all pt terminal found no_cut = terminal-dialogues known (Oversized number) number refl (rows-of tills known (Oversized number)) all pt terminal found no_cut
row-dialogues tills known (LinkLost number) all pt terminal found no_cut = terminal-dialogues known (LinkLost number) number refl (rows-of tills known (LinkLost number)) all pt terminal found no_cut
row-dialogues tills known (Late number) all pt terminal found no_cut = terminal-dialogues known (Late number) number refl (rows-of tills known (Late number)) all pt terminal found no_cut
row-dialogues tills known (Overdue key) all pt terminal found no_cut =
    each-overdue (λ (row : Row). slice_get row.core.terminals pt ≡ Some terminal → HasItsDialogue terminal) known key (record {
      none = all pt terminal;
      taken = λ wait waits overdue. all pt terminal;
    }) found
row-dialogues tills known (Due number) all pt terminal found no_cut = terminal-dialogues known (Due number) number refl (rows-of tills known (Due number)) all pt terminal found no_cut

-- ---- ends

-- the end of a terminal's dialogue at the last hearing
abbrev heard_now : Past → Terminal → Ending → HeardEnd
heard_now past terminal ending = record { place = past.heard; numbering = numbering_at terminal.pt; ending = ending }

-- an end that a message brings has the place of the last hearing
ends-by-now : (past : Past) (message : MessageValue) (found : Option Terminal) (end : HeardEnd) → In end (flat_map (ends_by past message) (option_to_list found)) → end.place ≡ past.heard
ends-by-now past message None end within = absurd within
ends-by-now past message (Some terminal) end within = by_ending (ending_at past terminal message) within
  where
    by_one : (ending : Ending) → (end ≡ heard_now past terminal ending) ⊎ ⊥ → end.place ≡ past.heard
    by_one ending (inl is) = ap (λ (e : HeardEnd). e.place) is
    by_one ending (inr none) = absurd none

    by_ending : (ending : Option Ending) → In end (map (λ (e : Ending). heard_now past terminal e) (option_to_list ending) ++ []) → end.place ≡ past.heard
    by_ending None none = absurd none
    by_ending (Some ending) one = by_one ending one

-- so has each that an item brings
pub new-ends-now : (scene : Scene) (past : Past) (occasion : Occasion) (end : HeardEnd) → In end (ends_of scene past occasion) → end.place ≡ past.heard
new-ends-now scene past (OfRequest header request) end within = absurd within
new-ends-now scene past (OfMessage number message) end within = ends-by-now past message (slice_get scene.core.terminals number) end within
new-ends-now scene past OfNothing end within = absurd within

-- an end after the poll is none before it
after-poll : (poll : MadePoll) (link : MadeLink) (end : HeardEnd) → poll.place < end.place → is_report_on poll link end ≡ false
after-poll poll link end late = by_tests (is_report end.ending) (bytes_eq end.numbering.poi link.numbering.poi) (nat_lt link.place end.place) (nat_lt end.place poll.place) refl
  where
    by_tests : (report own later before : Bool) → nat_lt end.place poll.place ≡ before → (report && (own && (later && before))) ≡ false
    by_tests false own later before e = refl
    by_tests true false later before e = refl
    by_tests true true false before e = refl
    by_tests true true true false e = refl
    by_tests true true true true e = absurd (let early : end.place < poll.place = ltb-true end.place poll.place e in omega (arith, early, late))

ends-after-poll : (poll : MadePoll) (link : MadeLink) (ends : List HeardEnd) → ((end : HeardEnd) → In end ends → poll.place < end.place) → list_any (is_report_on poll link) ends ≡ false
ends-after-poll poll link [] each = refl
ends-after-poll poll link (end ∷ ends) each =
    ap (λ b. b || list_any (is_report_on poll link) ends) (after-poll poll link end (each end (inl refl))) ∙ ends-after-poll poll link ends (λ other within. each other (inr within))

-- what is about a request that waits brings no end
waiting-ends-none : (scene : Scene) (past : Past) (wait : Option Wait) → ends_of scene past (occasion_waiting wait) ≡ []
waiting-ends-none scene past None = refl
waiting-ends-none scene past (Some wait) = refl

-- no item but Handle brings an end, and a poll lies before that of Handle
item-reports-none : (scene : Scene) (past : Past) (item : RoundItem) (poll : MadePoll) (link : MadeLink) → (is_handle item ≡ true → poll.place < past.heard) → list_any (is_report_on poll link) (ends_of scene past (occasion_of scene.core item)) ≡ false
item-reports-none scene past (Crowded till) poll link early = refl
item-reports-none scene past (Message till bytes) poll link early = refl
item-reports-none scene past (Asked till as_read) poll link early = ap (list_any (is_report_on poll link)) (asked-ends-none scene past as_read)
item-reports-none scene past (Unframed till) poll link early = refl
item-reports-none scene past (Gone till) poll link early = refl
item-reports-none scene past (Greet number apdu) poll link early = refl
item-reports-none scene past (Handle number apdu) poll link early =
    ends-after-poll poll link (ends_of scene past (occasion_of scene.core (Handle number apdu))) (λ end within. subst (λ n. poll.place < n) (sym (new-ends-now scene past (occasion_of scene.core (Handle number apdu)) end within)) (early refl))
item-reports-none scene past (Serve number till header request) poll link early = refl
item-reports-none scene past (Queue number till header request) poll link early = refl
item-reports-none scene past (NextWaiting number) poll link early = ap (list_any (is_report_on poll link)) (waiting-ends-none scene past (first_waiting (queue_of number scene.core.waits)))
item-reports-none scene past (Oversized number) poll link early = refl
item-reports-none scene past (LinkLost number) poll link early = refl
item-reports-none scene past (Late number) poll link early = refl
item-reports-none scene past (Overdue key) poll link early = ap (list_any (is_report_on poll link)) (waiting-ends-none scene past (waiting_with key scene.core.waits))
item-reports-none scene past (Due number) poll link early = refl

-- where none of the first list passes, some of both pass where some of the second do
any-second : {A : Type 0} (test : A → Bool) (first second : List A) → list_any test first ≡ false → list_any test (first ++ second) ≡ list_any test second
any-second test [] second none = refl
any-second test (x ∷ first) second none =
    let parts = or_parts (test x) (list_any test first) none in
    ap (λ b. b || list_any test (first ++ second)) parts.0 ∙ any-second test first second parts.1

-- the same reports count on each link
links-resolve : (past now : Past) (ends : List HeardEnd) (poll : MadePoll) (links : List MadeLink) → now.ends ≡ ends ++ past.ends → ((link : MadeLink) → list_any (is_report_on poll link) ends ≡ false)
    → list_all (report_resolves past poll) links ≡ true → list_all (report_resolves now poll) links ≡ true
links-resolve past now ends poll [] same none all = refl
links-resolve past now ends poll (link ∷ links) same none all =
    let parts = and_parts (report_resolves past poll link) (list_all (report_resolves past poll) links) all in
    let reports : list_any (is_report_on poll link) now.ends ≡ list_any (is_report_on poll link) past.ends = ap (list_any (is_report_on poll link)) same ∙ any-second (is_report_on poll link) ends past.ends (none link) in
    let first : report_resolves now poll link ≡ true = ap (λ b. not b || is_resolved_on poll link) reports ∙ parts.0 in
    ap (λ b. b && list_all (report_resolves now poll) links) first ∙ links-resolve past now ends poll links same none parts.1

-- and at each poll
polls-resolve : (past now : Past) (ends : List HeardEnd) (polls : List MadePoll) → now.ends ≡ ends ++ past.ends → ((poll : MadePoll) → In poll polls → (link : MadeLink) → list_any (is_report_on poll link) ends ≡ false)
    → list_all (λ (poll : MadePoll). list_all (report_resolves past poll) poll.links) polls ≡ true → list_all (λ (poll : MadePoll). list_all (report_resolves now poll) poll.links) polls ≡ true
polls-resolve past now ends [] same none all = refl
polls-resolve past now ends (poll ∷ polls) same none all =
    let parts = and_parts (list_all (report_resolves past poll) poll.links) (list_all (λ (poll : MadePoll). list_all (report_resolves past poll) poll.links) polls) all in
    ap (λ b. b && list_all (λ (poll : MadePoll). list_all (report_resolves now poll) poll.links) polls) (links-resolve past now ends poll poll.links same (none poll (inl refl)) parts.0)
    ∙ polls-resolve past now ends polls same (λ other within. none other (inr within)) parts.1

-- ---- between items

-- what an item begins with
pub between-holds : (log : List Turn) (v : View) (past : Past) (book : List BookedEntry) → Ordered log v → Begins v → Holds v past book → (k : HasSetup v.scene) → HoldsBetween (known_in v.scene k.setup) past book
between-holds log v past book o b h k =
    let running = round-runs v.scene.stage b.idle.round in
    let clear : is_broken v.scene.stage ≡ false = clear-where v.scene.stage is_round refl b.idle.round in
    let coming : records_coming v ≡ v.scene.kept = coming-kept v (ap spare_disk b.idle.calls) (idle-rests (owned ledger_rules) log v (holds ledger_rules log v o.keeps) running b.idle.calls).is_open.no_flight in
    record {
      in_order = between-items log v o k running b.idle.calls;
      heard = h.heard;
      ended = h.ended;
      commands = h.commands;
      outcomes = subst (AreOutcomesTrue past.commands book past.place) coming h.outcomes;
      serving = λ number terminal found.
          subst (λ l. IsServingSound l past.commands terminal.pt.poi terminal.standing) coming (h.serving clear number terminal found (ap (charge_owed number) b.idle.calls) (ap (cut_owed number) b.idle.calls));
      repliable = h.repliable;
      dialogues = λ number terminal found. h.dialogues clear number terminal found (ap (cut_owed number) b.idle.calls);
      links = λ link lasts. at_rest coming link (h.links clear link lasts);
      waits = waits-between-items log v o k running b.idle.calls;
    }
  where
    at_rest : records_coming v ≡ v.scene.kept → (link : MadeLink) → IsLinkSound (records_coming v) v.scene.core v.calls past link → IsLinkAtRest v.scene.kept v.scene.core past link
    at_rest coming link sound = record {
      of_terminal = sound.of_terminal;
      before = sound.before;
      records_before = subst (λ (l : List Record). link.records ≤ length l) coming sound.records_before;
      resolved = λ reported. by_cut (sound.resolved reported);
    }
      where
        by_cut : (cut_owed sound.of_terminal.number v.calls ≡ true) ⊎ IsResolvedOn (records_coming v) link → IsResolvedOn v.scene.kept link
        by_cut (inl cut) = no-true (sym (ap (cut_owed sound.of_terminal.number) b.idle.calls) ∙ cut)
        by_cut (inr resolved) = subst (λ l. IsResolvedOn l link) coming resolved

-- and the trace numbers with it
pub between-numbered : (v : View) (past : Past) (book : List BookedEntry) → Numbered v past book → (setup : Setup) → NumberedBetween (known_in v.scene setup) past book
between-numbered v past book n setup = record { records = n.kept; standings = n.standings }

-- where the item that comes first handles an APDU, each link was made before that was heard
pub first-linked : (v : View) (past : Past) (book : List BookedEntry) (item : RoundItem) (rest : List RoundItem) → Numbered v past book → v.items ≡ item ∷ rest → is_handle item ≡ true → AreLinkedBeforeHearing past
first-linked v past book item rest n e handles = n.linked (ap (list_any is_handle) e ∙ ap (λ b. b || list_any is_handle rest) handles)

-- ---- an item begins

-- what a row leaves holds along the course
row-holds : (log : List Turn) (v : View) (past : Past) (book : List BookedEntry) (item : RoundItem) (rest : List RoundItem) (row : Row) → Ordered log v → Begins v → Holds v past book → (k : HasSetup v.scene) → v.items ≡ item ∷ rest
    → row_of v.scene.outside.tills (known_in v.scene k.setup) item ≡ row → HoldsAfterRow (known_in v.scene k.setup) (begun_past v.scene past item) book row → Holds (begun v.scene row rest) (begun_past v.scene past item) book
row-holds log v past book item rest row o b h k e is r =
    let none : v.scene.flight ≡ None = (idle-rests (owned ledger_rules) log v (holds ledger_rules log v o.keeps) (round-runs v.scene.stage b.idle.round) b.idle.calls).is_open.no_flight in
    let clear : is_broken v.scene.stage ≡ false = clear-where v.scene.stage is_round refl b.idle.round in
    let now : Past = begun_past v.scene past item in
    let coming : records_coming (begun v.scene row rest) ≡ v.scene.kept ++ records_kept row.calls = ap (λ l. l ++ records_kept row.calls) (no-more v.scene.kept v.scene.flight none) in
    record {
      heard = h.heard;
      ended = λ end within. ended end (in-either end (ends_of v.scene past (occasion_of v.scene.core item)) past.ends within);
      commands = h.commands;
      outcomes = subst (AreOutcomesTrue past.commands book past.place) (sym coming) r.outcomes;
      calls = subst (λ l. AreCallsSound l row.core past.commands (occasion_of v.scene.core item) row.calls) (sym coming) r.calls;
      serving = λ runs number terminal found no_charge no_cut.
          subst (λ l. IsServingSound l past.commands terminal.pt.poi terminal.standing) (sym coming) (r.serving number terminal found no_charge no_cut);
      repliable = r.repliable;
      dialogues = λ runs number terminal found no_cut.
          row-dialogues v.scene.outside.tills (known_in v.scene k.setup) item (λ one before there. h.dialogues clear one before there (ap (cut_owed one) b.idle.calls)) number terminal
          (ap (λ (row : Row). slice_get row.core.terminals number) is ∙ found) (ap (λ (row : Row). cut_owed number row.calls) is ∙ no_cut);
      inside = λ round deed. r.inside deed;
      deeds = h.deeds;
      polled = h.polled;
      handled = λ handles poll within. h.handled (ap (list_any is_handle) e ∙ handles_later (is_handle item) (sym (any-second is_handle row.items rest r.handles_none) ∙ handles)) poll within;
      links = λ runs link lasts. subst (λ l. IsLinkSound l row.core row.calls now link) (sym coming) (r.links link lasts);
      polls = polls-resolve past now (ends_of v.scene past (occasion_of v.scene.core item)) past.polls refl
          (λ poll within link. item-reports-none v.scene past item poll link (λ handles. h.handled (ap (list_any is_handle) e ∙ ap (λ b. b || list_any is_handle rest) handles) poll within)) h.polls;
      replies = h.replies;
      replied = h.replied;
      kept_polled = h.kept_polled;
    }
  where
    ended : (end : HeardEnd) → In end (ends_of v.scene past (occasion_of v.scene.core item)) ⊎ In end past.ends → end.place ≤ past.heard
    ended end (inl new) = let now = new-ends-now v.scene past (occasion_of v.scene.core item) end new in omega (arith, now)
    ended end (inr old) = h.ended end old

    handles_later : (b : Bool) → list_any is_handle rest ≡ true → (b || list_any is_handle rest) ≡ true
    handles_later true later = refl
    handles_later false later = later

-- where each row holds, so does the beginning of an item
pub begin-holds : ((item : RoundItem) → IsItemHandled item → RowHolds item) → BeginHolds
begin-holds rows log v past book o b handled h n honest = by_items v.items refl
  where
    by_items : (items : List RoundItem) → v.items ≡ items → Holds (after v Begin) (past_after v past Begin) book
    by_items [] e = no-true (sym (ap (may_begin v.scene) e) ∙ b.first)
    by_items (item ∷ rest) e =
        let k = round-setup v o.agrees.run b.idle.round in
        let known : Known = known_in v.scene k.setup in
        let book_honest : Honest (begun_past v.scene past item) book = subst (λ (items : List RoundItem). Honest (past_after (record v { items = items }) past Begin) book) e honest in
        let r =
        rows item (handled item rest e) v.scene v.scene.outside.tills known past book refl (between-holds log v past book o b h k) (between-numbered v past book n k.setup) (first-linked v past book item rest n e) (first-was-read log v item rest o k e)
        book_honest in
        subst (λ (items : List RoundItem). Holds (after (record v { items = items }) Begin) (past_after (record v { items = items }) past Begin) book) (sym e)
        (row-holds log v past book item rest (row_at v.scene item) o b h k e (sym (row-is v.scene k item)) (subst (HoldsAfterRow known (begun_past v.scene past item) book) (sym (row-is v.scene k item)) r))

-- ---- a message is read

-- what is read is nothing of a terminal to handle
read-handles : (as_read : ReadAs) (items : List RoundItem) → list_any is_handle (read_first as_read items) ≡ list_any is_handle items
read-handles as_read [] = refl
read-handles as_read (Crowded till ∷ items) = refl
read-handles as_read (Message till bytes ∷ items) = refl
read-handles as_read (Asked till other ∷ items) = refl
read-handles as_read (Unframed till ∷ items) = refl
read-handles as_read (Gone till ∷ items) = refl
read-handles as_read (Greet number apdu ∷ items) = refl
read-handles as_read (Handle number apdu ∷ items) = refl
read-handles as_read (Serve number till header request ∷ items) = refl
read-handles as_read (Queue number till header request ∷ items) = refl
read-handles as_read (NextWaiting number ∷ items) = refl
read-handles as_read (Oversized number ∷ items) = refl
read-handles as_read (LinkLost number ∷ items) = refl
read-handles as_read (Late number ∷ items) = refl
read-handles as_read (Overdue key ∷ items) = refl
read-handles as_read (Due number ∷ items) = refl

pub read-holds : ReadHolds
read-holds log v past book as_read o r h =
    let clear : is_broken v.scene.stage ≡ false = clear-where v.scene.stage is_round refl r.idle.round in
    let coming : records_coming (after v (Read as_read)) ≡ records_coming v = ap (λ calls. records_of v.scene ++ records_kept calls) (sym r.idle.calls) in
    record {
      heard = h.heard;
      ended = h.ended;
      commands = h.commands;
      outcomes = subst (AreOutcomesTrue past.commands book past.place) (sym coming) h.outcomes;
      calls = tt;
      serving = λ runs number terminal found no_charge no_cut.
          subst (λ l. IsServingSound l past.commands terminal.pt.poi terminal.standing) (sym coming) (h.serving clear number terminal found (ap (charge_owed number) r.idle.calls) (ap (cut_owed number) r.idle.calls));
      repliable = h.repliable;
      dialogues = λ runs number terminal found no_cut. h.dialogues clear number terminal found (ap (cut_owed number) r.idle.calls);
      inside = λ round deed. no-true deed;
      deeds = h.deeds;
      polled = h.polled;
      handled = λ handles. h.handled (sym (read-handles as_read v.items) ∙ handles);
      links = λ runs link lasts. subst (λ l. IsLinkSound l v.scene.core [] past link) (sym coming) (subst (λ calls. IsLinkSound (records_coming v) v.scene.core calls past link) r.idle.calls (h.links clear link lasts));
      polls = h.polls;
      replies = h.replies;
      replied = h.replied;
      kept_polled = h.kept_polled;
    }

-- ---- before the first turn

none-there : {A B : Type 0} (at : ℕ) (x : A) → slice_get [] at ≡ Some x → B
none-there at x found = absurd (let n : None ≡ Some x = found in cc)

pub first-holds : (book : List BookedEntry) → Holds at_first no_past book
first-holds book = record {
  heard = omega arith;
  ended = λ end within. absurd within;
  commands = record { falling = tt; accepted = λ command within. absurd within; once = λ one other key within. absurd within };
  outcomes = λ at outcome intent found. none-there at (Outcome outcome) found;
  calls = tt;
  serving = λ clear number terminal found. none-there number terminal found;
  repliable = λ number terminal found. none-there number terminal found;
  dialogues = λ clear number terminal found. none-there number terminal found;
  inside = λ round. no-true round;
  deeds = refl;
  polled = λ poll within. absurd within;
  handled = λ handles. no-true handles;
  links = λ clear link lasts. absurd lasts;
  polls = refl;
  replies = λ reply within. absurd within;
  replied = λ reply within. absurd within;
  kept_polled = λ poll within. absurd within;
}
