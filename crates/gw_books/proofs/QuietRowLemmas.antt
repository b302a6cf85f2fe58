-- What an item leaves that keeps no record and brings no end of a dialogue: each but Serve and Handle.
use Rattle.std.proofs.Common.{◌≡◌, ℕ, Bool, true, false, List, [], ◌∷◌, ◌++◌, refl, sym, ◌∙◌, ap, subst, inl, inr, eqb-true, append-nil}
use Rattle.std.specs.Prelude.{◌⊎◌, ◌==◌, set, slice_get, Option, Some, None, Result, Ok, Err}
use Rattle.std.specs.List.{list_any}
use Rattle.gw_base.specs.declared.condition.Condition.{Condition}
use Rattle.gw_base.specs.declared.condition.Condition.TheVariants.{Aborted}
use Rattle.gw_base.specs.declared.key.Key.{Key}
use Rattle.gw_base.specs.declared.setup.Pt.{Pt}
use Rattle.gw_site.specs.Outside.{is_connected}
use Rattle.sale_values.specs.declared.header.Header.{Header}
use Rattle.sale_values.specs.declared.request.SaleRequest.{SaleRequest}
use Rattle.zvt_apdu.specs.Grammar.{ApduValue}
use Rattle.zvt_msg.specs.declared.fault.PtFault.{PtFault}
use Rattle.zvt_msg.specs.Message.{MessageValue, Ack, Nack, Intermediate, Line, Block, Status, Completion, Abort, Other}
use Rattle.zvt_msg.specs.MessageDecode.{decode_pt_message}
use Rattle.zvt_talk.specs.Talk.{TalkFacts}
use Rattle.jrn_record.specs.declared.records.Record.{Record}
use Rattle.gw_owes.specs.declared.terminal.Standing.TheVariants.{Unlinked}
use Rattle.gw_owes.specs.declared.terminal.Terminal.{Terminal}
use Rattle.gw_owes.specs.Calls.{OwedCall, LinkPt, CutTill, records_kept}
use Rattle.gw_owes.specs.Core.{Core, Wait}
use Rattle.gw_owes.specs.Deadlines.{is_late, is_due}
use Rattle.gw_owes.specs.Greeting.{greeting, sending_calls, greet_decoded}
use Rattle.gw_owes.specs.Items.{RoundItem, Crowded, Message, Asked, Unframed, Gone, Greet, Oversized, LinkLost, Late, Due}
use Rattle.gw_owes.specs.Links.{cutting}
use Rattle.gw_owes.specs.ReadAs.{ReadAs, Request, Silent, NoMessage, NoJson}
use Rattle.gw_owes.specs.RecordLaws.{IsReadFromTill}
use Rattle.gw_owes.specs.Reply.{ReplyValue}
use Rattle.gw_owes.specs.Requests.{reply_to, begun_by}
use Rattle.gw_owes.specs.Row.{Known, Row, owing, owing_where}
use Rattle.gw_owes.specs.Rows.{asked_row, gone_row}
use Rattle.gw_owes.specs.SessionRows.{session_succeeds}
use Rattle.gw_owes.specs.Stops.{wishing}
use Rattle.gw_owes.specs.Terminals.{terminal_becomes, with_terminal, reply_calls_to, reply_to_lost, unlinked_terminal, unlinks, forgets_till, core_without}
use Rattle.gw_owes.specs.WaitingRows.{overdue_row, queue_row, taken_out, wait_of}
use Rattle.gw_owes.specs.Waits.{core_with_wait, core_without_wait}
use Rattle.gw_owes.proofs.HandlingLemmas.{by-where, each-terminal, each-linked}
use Rattle.gw_owes.proofs.KeepingLemmas.{replies-keep-nothing}
use Rattle.gw_owes.proofs.NextLemmas.{each-overdue, each-queued}
use Rattle.gw_owes.proofs.PaymentLemmas.{StopsAt}
use Rattle.gw_owes.proofs.RecordLemmas.{LedgerLaws}
use Rattle.gw_owes.proofs.SetLemmas.{new-is-there, others-stay, same-some}
use Rattle.gw_rules.specs.Scene.{Scene}
use Rattle.gw_rules.proofs.LinkStateLemmas.{apart}
use Rattle.gw_rules.proofs.RowFormLemmas.{form-begun}
use Rattle.gw_rules.proofs.StageLemmas.{no-true}
use Rattle.gw_rules.proofs.TranscriptLogLemmas.{image-there, there-image}
use Rattle.gw_books.specs.Past.{Occasion, OfNothing, SentCommand, MadeLink, HeardEnd, Past, occasion_read, ends_of, waiting_keys}
use Rattle.gw_books.specs.Books.{BookedEntry}
use Rattle.gw_books.proofs.Holding.{AreOutcomesTrue, AreCallsSound, deed_owed, is_handle, IsServingSound, IsRepliable, IsOfTerminal, IsLinkSound, IsLinkAtRest, HoldsBetween, HoldsAfterRow, records_after}
use Rattle.gw_books.proofs.Numbering.{RowHolds}
use Rattle.gw_books.proofs.ReplyLimitLemmas.{asked-within}
use Rattle.gw_books.proofs.ServedReplyLemmas.{lost-sound, replies-no-deed, replies-sound}
use Rattle.gw_books.proofs.StepTruthLemmas.{asked-true}

-- ---- terminals that stay, or lose their links

-- the terminal was there before with its settings; it has its standing from there, or isn't linked
pub record WasThere (before : Core) (number : ℕ) (terminal : Terminal) : Type 0 where
  pub old : Terminal
  pub found : slice_get before.terminals number ≡ Some old
  pub pt_is : terminal.pt ≡ old.pt
  pub standing_is : (terminal.standing ≡ old.standing) ⊎ ((due : Option ℕ) × (terminal.standing ≡ Unlinked due))

-- the terminal is still there, with its settings
pub record IsStillThere (after : Core) (number : ℕ) (terminal : Terminal) : Type 0 where
  pub new : Terminal
  pub found : slice_get after.terminals number ≡ Some new
  pub pt_is : new.pt ≡ terminal.pt

-- each terminal stays in its standing, or loses its link
pub record IsCalm (before after : Core) : Type 0 where
  pub was : (number : ℕ) (terminal : Terminal) → slice_get after.terminals number ≡ Some terminal → WasThere before number terminal
  pub stays : (number : ℕ) (terminal : Terminal) → slice_get before.terminals number ≡ Some terminal → IsStillThere after number terminal

-- where nothing is changed
pub same-calm : (core : Core) → IsCalm core core
same-calm core = record {
  was = λ number terminal found. record { old = terminal; found = found; pt_is = refl; standing_is = inl refl };
  stays = λ number terminal found. record { new = terminal; found = found; pt_is = refl };
}

-- where a till is forgotten
pub gone-calm : (core : Core) (till : ℕ) → IsCalm core (core_without core till)
gone-calm core till = record {
  was = was_there;
  stays = λ number terminal found. record { new = forgets_till till terminal; found = there-image (forgets_till till) core.terminals number terminal found; pt_is = refl };
}
  where
    was_there : (number : ℕ) (terminal : Terminal) → slice_get (core_without core till).terminals number ≡ Some terminal → WasThere core number terminal
    was_there number terminal found =
        let there = image-there (forgets_till till) core.terminals number terminal found in
        let same : forgets_till till there.0 ≡ terminal = same-some (forgets_till till there.0) terminal (sym (there-image (forgets_till till) core.terminals number there.0 there.1) ∙ found) in
        record { old = there.0; found = there.1; pt_is = sym (ap (λ (t : Terminal). t.pt) same); standing_is = inl (sym (ap (λ (t : Terminal). t.standing) same)) }

-- where a terminal stays in its standing, or loses its link
becomes-calm : (core : Core) (number : ℕ) (old new : Terminal) → slice_get core.terminals number ≡ Some old → new.pt ≡ old.pt → (new.standing ≡ old.standing) ⊎ ((due : Option ℕ) × (new.standing ≡ Unlinked due)) → IsCalm core (with_terminal core number new)
becomes-calm core number old new found settings standing = record {
  was = λ other terminal there. was_there other terminal there (other == number) refl;
  stays = λ other terminal there. still_there other terminal there (other == number) refl;
}
  where
    is_new : (other : ℕ) → other ≡ number → slice_get (set core.terminals number new) other ≡ Some new
    is_new other same = ap (slice_get (set core.terminals number new)) same ∙ new-is-there core.terminals number old new found

    was_there : (other : ℕ) (terminal : Terminal) → slice_get (with_terminal core number new).terminals other ≡ Some terminal → (test : Bool) → (other == number) ≡ test → WasThere core other terminal
    was_there other terminal there true e =
        let same : other ≡ number = eqb-true other number e in
        let is : new ≡ terminal = same-some new terminal (sym (is_new other same) ∙ there) in
        record {
          old = old;
          found = ap (slice_get core.terminals) same ∙ found;
          pt_is = sym (ap (λ (t : Terminal). t.pt) is) ∙ settings;
          standing_is = subst (λ (t : Terminal). (t.standing ≡ old.standing) ⊎ ((due : Option ℕ) × (t.standing ≡ Unlinked due))) is standing;
        }
    was_there other terminal there false e =
        record { old = terminal; found = sym (others-stay core.terminals number other new (apart other number e)) ∙ there; pt_is = refl; standing_is = inl refl }

    still_there : (other : ℕ) (terminal : Terminal) → slice_get core.terminals other ≡ Some terminal → (test : Bool) → (other == number) ≡ test → IsStillThere (with_terminal core number new) other terminal
    still_there other terminal there true e =
        let same : other ≡ number = eqb-true other number e in
        let is : old ≡ terminal = same-some old terminal (sym found ∙ sym (ap (slice_get core.terminals) same) ∙ there) in
        record { new = new; found = is_new other same; pt_is = settings ∙ ap (λ (t : Terminal). t.pt) is }
    still_there other terminal there false e = record { new = terminal; found = others-stay core.terminals number other new (apart other number e) ∙ there; pt_is = refl }

-- where it loses its link
pub unlinked-calm : (core : Core) (number : ℕ) (old new : Terminal) (due : Option ℕ) → slice_get core.terminals number ≡ Some old → new.pt ≡ old.pt → new.standing ≡ Unlinked due → IsCalm core (with_terminal core number new)
unlinked-calm core number old new due found settings standing = becomes-calm core number old new found settings (inr (due, standing))

-- ---- rows that leave them so

-- the row keeps no record, does no deed, brings nothing of a terminal to handle, and each terminal stays in its standing or loses its link
pub record IsQuiet (known : Known) (row : Row) : Type 0 where
  pub calm : IsCalm known.core row.core
  pub none_kept : records_kept row.calls ≡ []
  pub no_deed : deed_owed row.calls ≡ false
  pub handles_none : list_any is_handle row.items ≡ false

calm-serving : (records : List Record) (commands : List SentCommand) (core : Core) (number : ℕ) (terminal : Terminal) (was : WasThere core number terminal) → IsServingSound records commands was.old.pt.poi was.old.standing
    → IsServingSound records commands terminal.pt.poi terminal.standing
calm-serving records commands core number terminal was sound = by_standing was.standing_is
  where
    by_standing : (terminal.standing ≡ was.old.standing) ⊎ ((due : Option ℕ) × (terminal.standing ≡ Unlinked due)) → IsServingSound records commands terminal.pt.poi terminal.standing
    by_standing (inl same) =
        subst (λ (pt : Pt). IsServingSound records commands pt.poi terminal.standing) (sym was.pt_is) (subst (IsServingSound records commands was.old.pt.poi) (sym same) sound)
    by_standing (inr lost) = subst (IsServingSound records commands terminal.pt.poi) (sym lost.1) tt

calm-serves : (core : Core) (number : ℕ) (terminal : Terminal) (was : WasThere core number terminal) → IsRepliable was.old.standing → IsRepliable terminal.standing
calm-serves core number terminal was serves = by_standing was.standing_is
  where
    by_standing : (terminal.standing ≡ was.old.standing) ⊎ ((due : Option ℕ) × (terminal.standing ≡ Unlinked due)) → IsRepliable terminal.standing
    by_standing (inl same) = subst IsRepliable (sym same) serves
    by_standing (inr lost) = subst IsRepliable (sym lost.1) tt

-- a link stays that of a terminal
calm-of : (before after : Core) (link : MadeLink) → IsCalm before after → IsOfTerminal before link → IsOfTerminal after link
calm-of before after link calm of =
    let there = calm.stays of.number of.terminal of.found in
    record { number = of.number; terminal = there.new; found = there.found; poi_is = ap (λ (pt : Pt). pt.poi) there.pt_is ∙ of.poi_is }

-- what a quiet row leaves, whatever its item is about
pub quiet-holds : (known : Known) (past : Past) (book : List BookedEntry) (occasion : Occasion) (row : Row) → HoldsBetween known past book → IsQuiet known row → AreCallsSound known.kept row.core past.commands occasion row.calls
    → HoldsAfterRow known (record past { occasion = occasion }) book row
quiet-holds known past book occasion row h q calls =
    let same : records_after known row ≡ known.kept = ap (λ l. known.kept ++ l) q.none_kept ∙ append-nil known.kept in
    record {
      outcomes = subst (AreOutcomesTrue past.commands book past.place) (sym same) h.outcomes;
      calls = subst (λ l. AreCallsSound l row.core past.commands occasion row.calls) (sym same) calls;
      serving = λ number terminal found no_charge no_cut.
          let was = q.calm.was number terminal found in
          subst (λ l. IsServingSound l past.commands terminal.pt.poi terminal.standing) (sym same) (calm-serving known.kept past.commands known.core number terminal was (h.serving number was.old was.found));
      repliable = λ number terminal found.
          let was = q.calm.was number terminal found in
          calm-serves known.core number terminal was (h.repliable number was.old was.found);
      inside = λ deed. no-true (sym q.no_deed ∙ deed);
      handles_none = q.handles_none;
      links = λ link lasts. subst (λ l. IsLinkSound l row.core row.calls (record past { occasion = occasion }) link) (sym same) (link_sound link (h.links link lasts));
    }
  where
    link_sound : (link : MadeLink) → IsLinkAtRest known.kept known.core past link → IsLinkSound known.kept row.core row.calls (record past { occasion = occasion }) link
    link_sound link rest = record {
      of_terminal = calm-of known.core row.core link q.calm rest.of_terminal;
      before = rest.before;
      records_before = rest.records_before;
      resolved = λ reported. inr (rest.resolved reported);
    }

-- what is served is to be stopped, and goes on being served
pub stopped-quiet : (known : Known) (number : ℕ) (header : Header) (request : SaleRequest) (terminal : Terminal) (talk : TalkFacts) (awaited : ℕ) (calls : List OwedCall) → StopsAt known number header request terminal talk → records_kept calls ≡ [] → deed_owed calls ≡ false
    → IsQuiet known (terminal_becomes known number (record (wishing terminal talk) { awaited = awaited }) calls)
stopped-quiet known number header request terminal talk awaited calls at none_kept no_deed =
    record { calm = becomes-calm known.core number terminal (record (wishing terminal talk) { awaited = awaited }) at.found refl (inl refl); none_kept = none_kept; no_deed = no_deed; handles_none = refl }

-- a Login or a Logout succeeds
pub session-quiet : (known : Known) (till : ℕ) (header : Header) (request : SaleRequest) → IsQuiet known (session_succeeds known till header request)
session-quiet known till header request = record {
  calm = record {
    was = λ number terminal found. record { old = terminal; found = found; pt_is = refl; standing_is = inl refl };
    stays = λ number terminal found. record { new = terminal; found = found; pt_is = refl };
  };
  none_kept = refl;
  no_deed = refl;
  handles_none = refl;
}

-- a row that owes these calls and changes nothing
pub owing-holds : (known : Known) (past : Past) (book : List BookedEntry) (occasion : Occasion) (calls : List OwedCall) (items : List RoundItem) → HoldsBetween known past book → records_kept calls ≡ [] → deed_owed calls ≡ false
    → list_any is_handle items ≡ false → AreCallsSound known.kept known.core past.commands occasion calls → HoldsAfterRow known (record past { occasion = occasion }) book (record { core = known.core; calls = calls; items = items })
owing-holds known past book occasion calls items h none_kept no_deed handles_none sound =
    quiet-holds known past book occasion (record { core = known.core; calls = calls; items = items }) h (record { calm = same-calm known.core; none_kept = none_kept; no_deed = no_deed; handles_none = handles_none }) sound

-- nothing is owed
pub nothing-holds : (known : Known) (past : Past) (book : List BookedEntry) (occasion : Occasion) → HoldsBetween known past book → HoldsAfterRow known (record past { occasion = occasion }) book (owing known [])
nothing-holds known past book occasion h = owing-holds known past book occasion [] [] h refl refl refl tt

-- ---- tills

pub crowded-holds : (till : ℕ) → RowHolds (Crowded till)
crowded-holds till scene tills known past book core h numbered linked read honest = owing-holds known past book OfNothing (CutTill till ∷ []) [] h refl refl refl (tt, tt)

pub message-holds : (till : ℕ) (bytes : List ℕ) → RowHolds (Message till bytes)
message-holds till bytes scene tills known past book core h numbered linked read honest = nothing-holds known past book OfNothing h

pub unframed-holds : (till : ℕ) → RowHolds (Unframed till)
unframed-holds till scene tills known past book core h numbered linked read honest =
    by-where (λ (row : Row). HoldsAfterRow known (record past { occasion = OfNothing }) book row) known (owing known (CutTill till ∷ [])) (is_connected tills till) (nothing-holds known past book OfNothing h)
    (λ there. owing-holds known past book OfNothing (CutTill till ∷ []) [] h refl refl refl (tt, tt))

pub gone-holds : (till : ℕ) → RowHolds (Gone till)
gone-holds till scene tills known past book core h numbered linked read honest =
    quiet-holds known past book OfNothing (gone_row known till) h (record { calm = gone-calm known.core till; none_kept = refl; no_deed = refl; handles_none = refl }) tt

-- what a till's message begins is no message of a terminal
pub asked-handles-none : (known : Known) (till : ℕ) (as_read : ReadAs) → list_any is_handle (begun_by known till as_read) ≡ false
asked-handles-none known till as_read = form-begun (λ items. list_any is_handle items ≡ false) known till refl as_read (λ number header request is. refl) (λ number header request is. refl)

-- a till's message ends no dialogue
pub asked-ends-none : (scene : Scene) (past : Past) (as_read : ReadAs) → ends_of scene past (occasion_read as_read) ≡ []
asked-ends-none scene past (Request header request) = refl
asked-ends-none scene past Silent = refl
asked-ends-none scene past (NoMessage fault) = refl
asked-ends-none scene past (NoJson fault) = refl

-- the reply to a message that was read is within its limits, and says what is true
replied-holds : (laws : LedgerLaws) (known : Known) (past : Past) (book : List BookedEntry) (till : ℕ) (as_read : ReadAs) → HoldsBetween known past book → IsReadFromTill as_read
    → HoldsAfterRow known (record past { occasion = occasion_read as_read }) book (asked_row known till as_read)
replied-holds laws known past book till as_read h read = by_reply (reply_to known as_read) refl
  where
    by_reply : (reply : Option ReplyValue) → reply_to known as_read ≡ reply
        → HoldsAfterRow known (record past { occasion = occasion_read as_read }) book (record { core = known.core; calls = reply_calls_to (Some till) reply; items = begun_by known till as_read })
    by_reply None e = owing-holds known past book (occasion_read as_read) [] (begun_by known till as_read) h refl refl (asked-handles-none known till as_read) tt
    by_reply (Some reply) e =
        owing-holds known past book (occasion_read as_read) (reply_calls_to (Some till) (Some reply)) (begun_by known till as_read) h refl refl (asked-handles-none known till as_read)
        (record { within = asked-within laws known as_read reply h.in_order read e; says = asked-true laws known as_read reply h.in_order read e }, tt)

pub asked-holds : (laws : LedgerLaws) (till : ℕ) (as_read : ReadAs) → RowHolds (Asked till as_read)
asked-holds laws till as_read scene tills known past book core h numbered linked read honest =
    subst (λ (ends : List HeardEnd). HoldsAfterRow known (record past { occasion = occasion_read as_read; ends = ends ++ past.ends }) book (owing_where (is_connected tills till) known (asked_row known till as_read))) (sym (asked-ends-none scene past as_read))
    (by-where (λ (row : Row). HoldsAfterRow known (record past { occasion = occasion_read as_read }) book row) known (asked_row known till as_read) (is_connected tills till) (nothing-holds known past book (occasion_read as_read) h)
    (λ there. replied-holds laws known past book till as_read h read))

-- ---- terminals

-- what holds of the row of a terminal that is about nothing said
abbrev LeavesHolding : Known → Past → List BookedEntry → Row → Type 0
LeavesHolding known past book row = HoldsAfterRow known (record past { occasion = OfNothing }) book row

greeted-holds : (known : Known) (past : Past) (book : List BookedEntry) (number : ℕ) (message : MessageValue) → HoldsBetween known past book → LeavesHolding known past book (owing known (sending_calls number (greeting message)))
greeted-holds known past book number Ack h = nothing-holds known past book OfNothing h
greeted-holds known past book number (Nack error_code) h = nothing-holds known past book OfNothing h
greeted-holds known past book number (Intermediate intermediate_status) h = owing-holds known past book OfNothing _ [] h refl refl refl (tt, tt)
greeted-holds known past book number (Line text) h = owing-holds known past book OfNothing _ [] h refl refl refl (tt, tt)
greeted-holds known past book number (Block objects) h = owing-holds known past book OfNothing _ [] h refl refl refl (tt, tt)
greeted-holds known past book number (Status fields) h = owing-holds known past book OfNothing _ [] h refl refl refl (tt, tt)
greeted-holds known past book number Completion h = owing-holds known past book OfNothing _ [] h refl refl refl (tt, tt)
greeted-holds known past book number (Abort result_code) h = owing-holds known past book OfNothing _ [] h refl refl refl (tt, tt)
greeted-holds known past book number Other h = owing-holds known past book OfNothing _ [] h refl refl refl (tt, tt)

-- a cut
cut-holds : (known : Known) (past : Past) (book : List BookedEntry) (number : ℕ) → HoldsBetween known past book → LeavesHolding known past book (cutting known number)
cut-holds known past book number h = owing-holds known past book OfNothing _ [] h refl refl refl (tt, tt)

pub oversized-holds : (number : ℕ) → RowHolds (Oversized number)
oversized-holds number scene tills known past book core h numbered linked read honest =
    each-linked (LeavesHolding known past book) known number (λ terminal. cutting known number) (nothing-holds known past book OfNothing h) (λ terminal found linked. cut-holds known past book number h)

pub greet-holds : (number : ℕ) (apdu : ApduValue) → RowHolds (Greet number apdu)
greet-holds number apdu scene tills known past book core h numbered linked read honest = by_decoded (decode_pt_message apdu)
  where
    by_decoded : (decoded : Result MessageValue PtFault) → LeavesHolding known past book (greet_decoded known number decoded)
    by_decoded (Ok message) =
        each-linked (LeavesHolding known past book) known number (λ terminal. owing known (sending_calls number (greeting message))) (nothing-holds known past book OfNothing h) (λ terminal found linked. greeted-holds known past book number message h)
    by_decoded (Err fault) =
        each-linked (LeavesHolding known past book) known number (λ terminal. cutting known number) (nothing-holds known past book OfNothing h) (λ terminal found linked. cut-holds known past book number h)

pub late-holds : (number : ℕ) → RowHolds (Late number)
late-holds number scene tills known past book core h numbered linked read honest =
    each-terminal (LeavesHolding known past book) known number (λ terminal. owing_where (is_late known.moment terminal.talk) known (cutting known number)) (nothing-holds known past book OfNothing h)
    (λ terminal found. by-where (LeavesHolding known past book) known (cutting known number) (is_late known.moment terminal.talk) (nothing-holds known past book OfNothing h) (λ late. cut-holds known past book number h))

pub due-holds : (number : ℕ) → RowHolds (Due number)
due-holds number scene tills known past book core h numbered linked read honest =
    each-terminal (LeavesHolding known past book) known number (λ terminal. owing_where (is_due known.moment terminal.standing) known (owing known (LinkPt number ∷ []))) (nothing-holds known past book OfNothing h)
    (λ terminal found.
    by-where (LeavesHolding known past book) known (owing known (LinkPt number ∷ [])) (is_due known.moment terminal.standing) (nothing-holds known past book OfNothing h)
    (λ due. owing-holds known past book OfNothing (LinkPt number ∷ []) [] h refl refl refl (tt, tt)))

-- the loss of a terminal's link leaves it unlinked, and owes no more than a reply
pub unlinks-quiet : (known : Known) (number : ℕ) (terminal : Terminal) → slice_get known.core.terminals number ≡ Some terminal → IsQuiet known (unlinks known number terminal)
unlinks-quiet known number terminal found = record {
  calm = unlinked-calm known.core number terminal (unlinked_terminal terminal known.moment) _ found refl refl;
  none_kept = (replies-keep-nothing terminal.asker (reply_to_lost terminal.standing)).no_records;
  no_deed = replies-no-deed terminal.asker (reply_to_lost terminal.standing);
  handles_none = refl;
}

-- a link that is lost leaves its terminal unlinked
pub link-lost-holds : (number : ℕ) → RowHolds (LinkLost number)
link-lost-holds number scene tills known past book core h numbered linked read honest =
    each-terminal (LeavesHolding known past book) known number (unlinks known number) (nothing-holds known past book OfNothing h) (λ terminal found.
    quiet-holds known past book OfNothing (unlinks known number terminal) h (unlinks-quiet known number terminal found)
    (replies-sound known.kept (unlinks known number terminal).core past.commands OfNothing terminal.asker (reply_to_lost terminal.standing)
    (λ own replies. lost-sound known.kept (waiting_keys (unlinks known number terminal).core) OfNothing terminal.standing own (h.repliable number terminal found) replies)))

-- ---- requests that wait

-- a core with other requests that wait has the same terminals
pub waits-calm : (core : Core) (waits : List Wait) → IsCalm core (record core { waits = waits })
waits-calm core waits = record {
  was = λ number terminal found. record { old = terminal; found = found; pt_is = refl; standing_is = inl refl };
  stays = λ number terminal found. record { new = terminal; found = found; pt_is = refl };
}

-- one is taken out and refused
pub taken-quiet : (known : Known) (condition : Condition) (wait : Wait) (items : List RoundItem) → list_any is_handle items ≡ false → IsQuiet known (record (taken_out known condition wait) { items = items })
taken-quiet known condition wait items none = record { calm = waits-calm known.core (core_without_wait known.core wait.key).waits; none_kept = refl; no_deed = refl; handles_none = none }

-- one joins, or a till takes it out
pub queue-quiet : (known : Known) (number till : ℕ) (header : Header) (request : SaleRequest) → IsQuiet known (queue_row known number till header request)
queue-quiet known number till header request = each-queued (IsQuiet known) known number till header request (record {
  none = record { calm = same-calm known.core; none_kept = refl; no_deed = refl; handles_none = refl };
  joins = λ terminal key at. record { calm = waits-calm known.core (core_with_wait known.core (wait_of known number till header request key)).waits; none_kept = refl; no_deed = refl; handles_none = refl };
  taken = λ wait at. taken-quiet known Aborted wait [] refl;
})

-- its deadline has come
pub overdue-quiet : (known : Known) (key : Key) → IsQuiet known (overdue_row known key)
overdue-quiet known key = each-overdue (IsQuiet known) known key (record {
  none = record { calm = same-calm known.core; none_kept = refl; no_deed = refl; handles_none = refl };
  taken = λ wait found overdue. taken-quiet known Aborted wait [] refl;
})
