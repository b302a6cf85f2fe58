-- Along each lawful course nobody waits for a terminal that is ready, but where its queue is looked at next.
use Rattle.std.proofs.Common.{◌≡◌, ◌≢◌, ℕ, zero, suc, List, [], ◌∷◌, ◌++◌, refl, sym, ◌∙◌, ap, subst, true, false, inl, inr, eqb-true}
use Rattle.std.proofs.lemmas.Bool.{and_parts, eq-eqb}
use Rattle.std.specs.Prelude.{Bool, ℤ, ◌⊎◌, ◌==◌, not, if◌then◌else◌, map, filter, slice_get, Option, Some, None}
use Rattle.std.specs.List.{flat_map}
use Rattle.std.specs.Option.{option_map}
use Rattle.gw_base.specs.declared.condition.Condition.{Condition}
use Rattle.gw_base.specs.declared.key.Key.{Key}
use Rattle.gw_base.specs.declared.setup.Pt.{Pt}
use Rattle.gw_base.specs.declared.setup.Setup.{Setup}
use Rattle.gw_site.specs.Outside.{Connection, is_connected, heard_on}
use Rattle.gw_site.specs.declared.turn.Turn.{Turn}
use Rattle.gw_site.specs.declared.turn.Turn.TheVariants.{Start, OpenFailed, Polled, Opened, HeardTill, Closed, HeardPt, Lost, Stopped, Linked, LinkFailed, SentTill, SentPt, CutTill, CutPt, Wrote, Synced, DiskFailed, Crash}
use Rattle.sale_frame.specs.Decode.{DecodedFrames, decode_after, decode_frames}
use Rattle.sale_values.specs.declared.header.Header.{Header}
use Rattle.sale_values.specs.declared.request.SaleRequest.{SaleRequest}
use Rattle.sale_values.specs.declared.request.SaleRequest.TheVariants as requests
use Rattle.zvt_apdu.specs.Decode.{decode_apdu}
use Rattle.zvt_apdu.specs.DecodeStream.{DecodedApdus, decode_apdus}
use Rattle.zvt_apdu.specs.Grammar.{ApduValue}
use Rattle.gw_ledger.specs.Keys.{same_key}
use Rattle.gw_owes.specs.Calls.{LinkPt, CutPt as OwedCutPt, CutTill as OwedCutTill}
use Rattle.gw_owes.specs.Core.{Core, Wait, new_terminal}
use Rattle.gw_owes.specs.Events.{is_oversized, apdu_items, decoded_apdu_items, items_due}
use Rattle.gw_owes.specs.Items.{RoundItem, Crowded, Message, Asked, Unframed, Gone, Greet, Handle, Serve, Queue, NextWaiting, Oversized, LinkLost, Late, Overdue, Due}
use Rattle.gw_owes.specs.Links.{LinkIsMade, LinkIsLost}
use Rattle.gw_owes.specs.ReadAs.{ReadAs}
use Rattle.gw_owes.specs.Reconciliations.{begins_day}
use Rattle.gw_owes.specs.Row.{Known, Row, owing, owing_nothing, owing_where}
use Rattle.gw_owes.specs.Rows.{asked_row, row_of}
use Rattle.gw_owes.specs.Steps.{is_ready_standing, refused_again}
use Rattle.gw_owes.specs.Terminals.{terminal_at, registers, unlinks, link_made, link_lost, core_without}
use Rattle.gw_owes.specs.WaitingLaws.{may_wait}
use Rattle.gw_owes.specs.WaitingRows.{begins_from_queue, next_waiting_row, overdue_row, queue_row, wait_of}
use Rattle.gw_owes.specs.Waits.{first_waiting, queue_of}
use Rattle.gw_owes.specs.declared.terminal.Standing.TheVariants.{Ready}
use Rattle.gw_owes.specs.declared.terminal.Terminal.{Terminal}
use Rattle.gw_owes.proofs.BeginLawLemmas.{each-next-served, each-next-reversed}
use Rattle.gw_owes.proofs.HandlingLemmas.{each-terminal}
use Rattle.gw_owes.proofs.NextLemmas.{each-next, each-overdue, each-queued, known_without, ready-with}
use Rattle.gw_owes.proofs.NextOrderLemmas.{first-there}
use Rattle.gw_owes.proofs.PaymentLemmas.{waits-steps}
use Rattle.gw_owes.proofs.SetLemmas.{new-is-there}
use Rattle.gw_owes.proofs.TerminalLemmas.{link-changes-alone, link-leaves-waits, row-leaves-waits}
use Rattle.gw_owes.proofs.WaitingReplyLemmas.{each-first-next}
use Rattle.gw_rules.specs.Lawful.{AllowedTurn, Begins, IsRead, IsCourse, MayPoll, Stands}
use Rattle.gw_rules.specs.QueueLaws.{EachLogHasWaitsInOrder, ReadyHasNoQueue, queue_in}
use Rattle.gw_rules.specs.Scene.{known_in, row_in, link_made_at, link_lost_at}
use Rattle.gw_rules.specs.Stage.{Stage, Resting, Opening, Looking, AtPoll, Handling, Over, Broken, busy, stage_synced, stage_wrote, is_round, is_running}
use Rattle.gw_rules.specs.View.{View, Move, Begin, Read, Make, read_first, after, after_turn, view_from, at_first}
use Rattle.gw_rules.proofs.CourseLemmas.{begin-stage, stands-more}
use Rattle.gw_rules.proofs.CutLemmas.{is_dead, dead-busy}
use Rattle.gw_rules.proofs.DayLogLemmas.{stands-agree}
use Rattle.gw_rules.proofs.KeptLemmas.{BeginsFirst, begins-first, by-equal, change_none, changes, due-change-none, follow-change-none, is_ready_found, lasting, left-alone, opened-none, other-number, ready_in, rows-last, till-none, without_asker, without-kept}
use Rattle.gw_rules.proofs.KeptPhaseLemmas.{round-runs}
use Rattle.gw_rules.proofs.LinkLawLemmas.{busy-not-poll}
use Rattle.gw_rules.proofs.LinkStateLemmas.{may_bring_more, next-unready}
use Rattle.gw_rules.proofs.LinkedLemmas.{Agrees, call-setup, round-setup}
use Rattle.gw_rules.proofs.OwingLemmas.{clear-where}
use Rattle.gw_rules.proofs.RecordRowLemmas.{lost-brings-none, made-brings-none}
use Rattle.gw_rules.proofs.ReportLemmas.{none-waiting}
use Rattle.gw_rules.proofs.SetupLemmas.{HasSetup}
use Rattle.gw_rules.proofs.StageLemmas.{no-true, not-true, handling-not-polled, round-busy}

-- ---- which terminals are ready

-- of a terminal that isn't ready no item of another makes one that is
rows-no-new : (tills : List Connection) (known : Known) (item : RoundItem) (number : ℕ) → changes number item ≡ false → ready_in (row_of tills known item).core number ≡ true → ready_in known.core number ≡ true
rows-no-new tills known item number none ready = by_test (ready_in known.core number) refl
  where
    of_lasting : (found : Option Terminal) → is_ready_found (option_map lasting (option_map without_asker found)) ≡ is_ready_found found
    of_lasting None = refl
    of_lasting (Some terminal) = refl

    by_test : (test : Bool) → ready_in known.core number ≡ test → ready_in known.core number ≡ true
    by_test true e = e
    by_test false e =
        no-true (sym e ∙ sym (of_lasting (slice_get known.core.terminals number)) ∙ ap is_ready_found (sym (rows-last tills known item number e none)) ∙ of_lasting (slice_get (row_of tills known item).core.terminals number) ∙ ready)

made-no-new : (known : Known) (pt number : ℕ) → ready_in (link_made known pt).core number ≡ true → ready_in known.core number ≡ true
made-no-new known pt number = by-equal number pt
    (λ same. subst (λ n. ready_in (link_made known pt).core n ≡ true → ready_in known.core n ≡ true) same own)
    (λ differs ready. ap is_ready_found (sym ((link-changes-alone known pt LinkIsMade).others number (other-number number pt differs))) ∙ ready)
  where
    own : ready_in (link_made known pt).core pt ≡ true → ready_in known.core pt ≡ true
    own = each-terminal (λ (row : Row). ready_in row.core pt ≡ true → ready_in known.core pt ≡ true) known pt (registers known pt) (λ ready. ready)
        (λ terminal found ready. no-true (sym (ap is_ready_found (new-is-there known.core.terminals pt terminal _ found)) ∙ ready))

lost-no-new : (known : Known) (pt number : ℕ) → ready_in (link_lost known pt).core number ≡ true → ready_in known.core number ≡ true
lost-no-new known pt number = by-equal number pt
    (λ same. subst (λ n. ready_in (link_lost known pt).core n ≡ true → ready_in known.core n ≡ true) same own)
    (λ differs ready. ap is_ready_found (sym ((link-changes-alone known pt LinkIsLost).others number (other-number number pt differs))) ∙ ready)
  where
    own : ready_in (link_lost known pt).core pt ≡ true → ready_in known.core pt ≡ true
    own = each-terminal (λ (row : Row). ready_in row.core pt ≡ true → ready_in known.core pt ≡ true) known pt (unlinks known pt) (λ ready. ready)
        (λ terminal found ready. no-true (sym (ap is_ready_found (new-is-there known.core.terminals pt terminal _ found)) ∙ ready))

-- a till that is gone changes none
gone-no-new : (core : Core) (till number : ℕ) → ready_in (core_without core till) number ≡ true → ready_in core number ≡ true
gone-no-new core till number ready = sym (of_kept (slice_get core.terminals number)) ∙ ap is_ready_found (sym (without-kept till core.terminals number)) ∙ of_kept (slice_get (core_without core till).terminals number) ∙ ready
  where
    of_kept : (found : Option Terminal) → is_ready_found (option_map without_asker found) ≡ is_ready_found found
    of_kept None = refl
    of_kept (Some terminal) = refl

new-unready : {A : Type 0} (pts : List Pt) (number : ℕ) → is_ready_found (slice_get (map new_terminal pts) number) ≡ true → A
new-unready [] number ready = no-true ready
new-unready (pt ∷ pts) zero ready = no-true ready
new-unready (pt ∷ pts) (suc number) ready = new-unready pts number ready

-- ---- queues

-- where nobody waits, nobody does with fewer requests
still-empty : (number : ℕ) (keeps : Wait → Bool) (waits : List Wait) → queue_of number waits ≡ [] → queue_of number (filter keeps waits) ≡ []
still-empty number keeps [] e = refl
still-empty number keeps (wait ∷ waits) e = by_tests (wait.pt == number) (keeps wait) refl refl (still-empty number keeps waits)
  where
    by_tests : (own kept : Bool) → (wait.pt == number) ≡ own → keeps wait ≡ kept → (queue_of number waits ≡ [] → queue_of number (filter keeps waits) ≡ []) → queue_of number (filter keeps (wait ∷ waits)) ≡ []
    by_tests true kept a b more = absurd (let n : wait ∷ queue_of number waits ≡ [] = sym (ap (λ (b : Bool). if b then wait ∷ queue_of number waits else queue_of number waits) a) ∙ e in cc)
    by_tests false true a b more = rw (b, a) (more (sym (ap (λ (b : Bool). if b then wait ∷ queue_of number waits else queue_of number waits) a) ∙ e))
    by_tests false false a b more = rw b (more (sym (ap (λ (b : Bool). if b then wait ∷ queue_of number waits else queue_of number waits) a) ∙ e))

joined-other : (number : ℕ) (waits : List Wait) (wait : Wait) → (wait.pt == number) ≡ false → queue_of number waits ≡ [] → queue_of number (waits ++ wait ∷ []) ≡ []
joined-other number [] wait differs e = rw differs refl
joined-other number (other ∷ waits) wait differs e = by_test (other.pt == number) refl (joined-other number waits wait differs)
  where
    by_test : (own : Bool) → (other.pt == number) ≡ own → (queue_of number waits ≡ [] → queue_of number (waits ++ wait ∷ []) ≡ []) → queue_of number (other ∷ (waits ++ wait ∷ [])) ≡ []
    by_test true a more = absurd (let n : other ∷ queue_of number waits ≡ [] = sym (ap (λ (b : Bool). if b then other ∷ queue_of number waits else queue_of number waits) a) ∙ e in cc)
    by_test false a more = rw a (more (sym (ap (λ (b : Bool). if b then other ∷ queue_of number waits else queue_of number waits) a) ∙ e))

none-first : (waits : List Wait) → first_waiting waits ≡ None → waits ≡ []
none-first [] e = refl
none-first (wait ∷ waits) e = absurd (let n : Some wait ≡ None = e in cc)

where-empties : (number : ℕ) (test : Bool) (known : Known) (row : Row) → row.core.waits ≡ known.core.waits → queue_of number known.core.waits ≡ [] → queue_of number (owing_where test known row).core.waits ≡ []
where-empties number true known row same e = ap (queue_of number) same ∙ e
where-empties number false known row same e = e

leaves-empty : (known : Known) (number : ℕ) (waits : List Wait) → waits ≡ known.core.waits → queue_of number known.core.waits ≡ [] → queue_of number waits ≡ []
leaves-empty known number waits same e = ap (queue_of number) same ∙ e

-- of a terminal that is ready then, nobody waits where nobody did: none joins while it is ready
queue-empties : (known : Known) (pt till : ℕ) (header : Header) (request : SaleRequest) (number : ℕ) → ready_in (queue_row known pt till header request).core number ≡ true → queue_of number known.core.waits ≡ []
    → queue_of number (queue_row known pt till header request).core.waits ≡ []
queue-empties known pt till header request number =
    each-queued (λ (row : Row). ready_in row.core number ≡ true → queue_of number known.core.waits ≡ [] → queue_of number row.core.waits ≡ []) known pt till header request (record {
      none = λ ready e. e;
      joins = λ terminal key at ready e. by_test terminal key at.found (waits-steps known header request (Some (record { number = pt; terminal = terminal })) at.waits_is).not_ready ready e (pt == number) refl;
      taken = λ wait at ready e. still-empty number (λ (other : Wait). not (same_key wait.key other.key)) known.core.waits e;
    })
  where
    by_test : (terminal : Terminal) (key : Key) → terminal_at known pt ≡ Some terminal → is_ready_standing terminal.standing ≡ false → ready_in known.core number ≡ true → queue_of number known.core.waits ≡ [] → (test : Bool) → (pt == number) ≡ test
        → queue_of number (known.core.waits ++ wait_of known pt till header request key ∷ []) ≡ []
    by_test terminal key found unready ready e true same =
        no-true (sym (ap is_ready_found found ∙ unready) ∙ ap (ready_in known.core) (eqb-true pt number same) ∙ ready)
    by_test terminal key found unready ready e false differs = joined-other number known.core.waits (wait_of known pt till header request key) differs e

next-empties : (known : Known) (pt number : ℕ) → queue_of number known.core.waits ≡ [] → queue_of number (next_waiting_row known pt).core.waits ≡ []
next-empties known pt number e = each-next (λ (row : Row). queue_of number row.core.waits ≡ []) known pt (record {
  none = e;
  refused = λ terminal last wait condition first is. without wait;
  begins = λ terminal last wait asking at. without wait;
  day = λ terminal last wait at. without wait;
  left = λ terminal last wait first. without wait;
})
  where
    without : (wait : Wait) → queue_of number (filter (λ (other : Wait). not (same_key wait.key other.key)) known.core.waits) ≡ []
    without wait = still-empty number (λ (other : Wait). not (same_key wait.key other.key)) known.core.waits e

overdue-empties : (known : Known) (key : Key) (number : ℕ) → queue_of number known.core.waits ≡ [] → queue_of number (overdue_row known key).core.waits ≡ []
overdue-empties known key number e =
    each-overdue (λ (row : Row). queue_of number row.core.waits ≡ []) known key (record { none = e; taken = λ wait is overdue. still-empty number (λ (other : Wait). not (same_key wait.key other.key)) known.core.waits e })

rows-empty : (tills : List Connection) (known : Known) (item : RoundItem) (number : ℕ) → ready_in (row_of tills known item).core number ≡ true → queue_of number known.core.waits ≡ [] → queue_of number (row_of tills known item).core.waits ≡ []
rows-empty tills known (Crowded till) number ready e = e
rows-empty tills known (Message till bytes) number ready e = e
rows-empty tills known (Asked till as_read) number ready e = where-empties number (is_connected tills till) known (asked_row known till as_read) refl e
rows-empty tills known (Unframed till) number ready e = where-empties number (is_connected tills till) known (owing known (OwedCutTill till ∷ [])) refl e
rows-empty tills known (Gone till) number ready e = still-empty number (λ (wait : Wait). not (wait.till == till)) known.core.waits e
rows-empty tills known (Greet pt apdu) number ready e = leaves-empty known number (row_of tills known (Greet pt apdu)).core.waits (row-leaves-waits known (Greet pt apdu) refl) e
rows-empty tills known (Handle pt apdu) number ready e = leaves-empty known number (row_of tills known (Handle pt apdu)).core.waits (row-leaves-waits known (Handle pt apdu) refl) e
rows-empty tills known (Serve pt till header request) number ready e = leaves-empty known number (row_of tills known (Serve pt till header request)).core.waits (row-leaves-waits known (Serve pt till header request) refl) e
rows-empty tills known (Queue pt till header request) number ready e = queue-empties known pt till header request number ready e
rows-empty tills known (NextWaiting pt) number ready e = next-empties known pt number e
rows-empty tills known (Oversized pt) number ready e = leaves-empty known number (row_of tills known (Oversized pt)).core.waits (row-leaves-waits known (Oversized pt) refl) e
rows-empty tills known (LinkLost pt) number ready e = leaves-empty known number (row_of tills known (LinkLost pt)).core.waits (row-leaves-waits known (LinkLost pt) refl) e
rows-empty tills known (Late pt) number ready e = leaves-empty known number (row_of tills known (Late pt)).core.waits (row-leaves-waits known (Late pt) refl) e
rows-empty tills known (Overdue key) number ready e = overdue-empties known key number e
rows-empty tills known (Due pt) number ready e = leaves-empty known number (row_of tills known (Due pt)).core.waits (row-leaves-waits known (Due pt) refl) e

-- ---- the first that waits

-- a terminal that begins to serve it is ready no longer
next-serves : (tills : List Connection) (known : Known) (number : ℕ) (terminal : Terminal) (last : ℕ) (wait : Wait) → terminal_at known number ≡ Some terminal → terminal.standing ≡ Ready last → first_waiting (queue_of number known.core.waits) ≡ Some wait
    → may_wait wait.request → refused_again known wait.header wait.request (Some (record { number = number; terminal = terminal })) ≡ None → ready_in (next_waiting_row known number).core number ≡ false
next-serves tills known number terminal last wait found ready first may passes = by_request wait.request refl may
  where
    by_day : (period_request : SaleRequest) → wait.request ≡ period_request → begins_from_queue (known_without known wait) number wait.till wait.header period_request terminal ≡ begins_day (known_without known wait) number wait.till wait.header terminal terminal.standing → ready_in (next_waiting_row known number).core number ≡ false
    by_day period_request is day =
        ap (λ (row : Row). ready_in row.core number)
        ((each-first-next tills known number terminal wait found (ap is_ready_standing ready) first).begun passes
        ∙ ap (λ r. begins_from_queue (known_without known wait) number wait.till wait.header r terminal) is ∙ day
        ∙ ap (begins_day (known_without known wait) number wait.till wait.header terminal) ready)
        ∙ ap is_ready_found (new-is-there known.core.terminals number terminal _ found)

    neither : {A : Type 0} → (false ≡ true) ⊎ (false ≡ true) → A
    neither (inl e) = no-true e
    neither (inr e) = no-true e

    by_request : (request : SaleRequest) → wait.request ≡ request → may_wait request → ready_in (next_waiting_row known number).core number ≡ false
    by_request requests.Login is may = neither may.1
    by_request requests.Logout is may = neither may.1
    by_request (requests.Payment payment) is may =
        let begins = each-next-served tills known wait payment number terminal last found ready first is passes in
        ap is_ready_found begins.goes_on.found ∙ ap is_ready_standing begins.goes_on.standing_is
    by_request (requests.Reversal reversal) is may =
        let begins = each-next-reversed tills known wait reversal number terminal last found ready first is passes in
        ap is_ready_found begins.goes_on.found ∙ ap is_ready_standing begins.goes_on.standing_is
    by_request (requests.Abort reference) is may = neither may.1
    by_request (requests.Status reference) is may = neither may.1
    by_request (requests.Reconciliation period) is may = by_day (requests.Reconciliation period) is refl
    by_request (requests.Display outputs) is may = neither may.1
    by_request (requests.Print qualifier) is may = neither may.1
    by_request requests.Diagnosis is may = neither may.1

-- where it is ready once its queue was looked at, nobody waits for it, or it is looked at again
next-ready : (tills : List Connection) (known : Known) (number : ℕ) → ((wait : Wait) → first_waiting (queue_of number known.core.waits) ≡ Some wait → may_wait wait.request) → ready_in (next_waiting_row known number).core number ≡ true
    → (queue_of number (next_waiting_row known number).core.waits ≡ []) ⊎ ((next_waiting_row known number).items ≡ NextWaiting number ∷ [])
next-ready tills known number may ready = by_terminal (terminal_at known number) refl
  where
    unready : {A : Type 0} → next_waiting_row known number ≡ owing_nothing known → is_ready_found (terminal_at known number) ≡ false → A
    unready row none = no-true (sym none ∙ ap (λ (r : Row). ready_in r.core number) (sym row) ∙ ready)

    by_first : (terminal : Terminal) → terminal_at known number ≡ Some terminal → is_ready_standing terminal.standing ≡ true → (first : Option Wait) → first_waiting (queue_of number known.core.waits) ≡ first
        → (queue_of number (next_waiting_row known number).core.waits ≡ []) ⊎ ((next_waiting_row known number).items ≡ NextWaiting number ∷ [])
    by_first terminal found is None first = inl (ap (λ (row : Row). queue_of number row.core.waits) (none-waiting known number terminal found first) ∙ none-first (queue_of number known.core.waits) first)
    by_first terminal found is (Some wait) first = by_refused (refused_again known wait.header wait.request (Some (record { number = number; terminal = terminal }))) refl
      where
        by_refused : (refused : Option Condition) → refused_again known wait.header wait.request (Some (record { number = number; terminal = terminal })) ≡ refused
            → (queue_of number (next_waiting_row known number).core.waits ≡ []) ⊎ ((next_waiting_row known number).items ≡ NextWaiting number ∷ [])
        by_refused (Some condition) e = inr ((each-first-next tills known number terminal wait found is first).refused condition e).1
        by_refused None e =
            let with_last = ready-with terminal.standing is in
            no-true (sym (next-serves tills known number terminal with_last.last wait found with_last.standing_is first (may wait first) e) ∙ ready)

    by_terminal : (terminal : Option Terminal) → terminal_at known number ≡ terminal → (queue_of number (next_waiting_row known number).core.waits ≡ []) ⊎ ((next_waiting_row known number).items ≡ NextWaiting number ∷ [])
    by_terminal None none = unready (rw none refl) (ap is_ready_found none)
    by_terminal (Some terminal) found = by_test (is_ready_standing terminal.standing) refl
      where
        by_test : (test : Bool) → is_ready_standing terminal.standing ≡ test → (queue_of number (next_waiting_row known number).core.waits ≡ []) ⊎ ((next_waiting_row known number).items ≡ NextWaiting number ∷ [])
        by_test true is = by_first terminal found is (first_waiting (queue_of number known.core.waits)) refl
        by_test false is = unready (next-unready known number terminal found is) (ap is_ready_found found ∙ is)

-- ---- items that are to come

-- the terminal whose message the item handles
abbrev handled_of : RoundItem → Option ℕ
handled_of (Crowded till) = None
handled_of (Message till bytes) = None
handled_of (Asked till as_read) = None
handled_of (Unframed till) = None
handled_of (Gone till) = None
handled_of (Greet pt apdu) = None
handled_of (Handle pt apdu) = Some pt
handled_of (Serve pt till header request) = None
handled_of (Queue pt till header request) = None
handled_of (NextWaiting pt) = None
handled_of (Oversized pt) = None
handled_of (LinkLost pt) = None
handled_of (Late pt) = None
handled_of (Overdue key) = None
handled_of (Due pt) = None

-- after a message of a terminal its queue is looked at next
abbrev IsNextOf : Option ℕ → List RoundItem → Type 0
IsNextOf None items = Unit {0}
IsNextOf (Some pt) items = (rest : List RoundItem) × (items ≡ NextWaiting pt ∷ rest)

abbrev Followed : List RoundItem → Type 0
Followed [] = Unit {0}
Followed (item ∷ items) = IsNextOf (handled_of item) items × Followed items

next-more : (pt : Option ℕ) (items more : List RoundItem) → IsNextOf pt items → IsNextOf pt (items ++ more)
next-more None items more h = tt
next-more (Some pt) items more (rest, e) = (rest ++ more, ap (λ l. l ++ more) e)

followed-append : (items more : List RoundItem) → Followed items → Followed more → Followed (items ++ more)
followed-append [] more h k = k
followed-append (item ∷ items) more h k = (next-more (handled_of item) items more h.0, followed-append items more h.1 k)

none-handled : (item : RoundItem) → ((pt : ℕ) → changes pt item ≡ false) → handled_of item ≡ None
none-handled (Crowded till) none = refl
none-handled (Message till bytes) none = refl
none-handled (Asked till as_read) none = refl
none-handled (Unframed till) none = refl
none-handled (Gone till) none = refl
none-handled (Greet pt apdu) none = refl
none-handled (Handle pt apdu) none = no-true (sym (none pt) ∙ eq-eqb pt pt refl)
none-handled (Serve pt till header request) none = refl
none-handled (Queue pt till header request) none = refl
none-handled (NextWaiting pt) none = refl
none-handled (Oversized pt) none = refl
none-handled (LinkLost pt) none = refl
none-handled (Late pt) none = refl
none-handled (Overdue key) none = refl
none-handled (Due pt) none = refl

-- items that change no terminal handle no message
plain-followed : (items : List RoundItem) → ((pt : ℕ) → change_none pt items ≡ true) → Followed items
plain-followed [] none = tt
plain-followed (item ∷ items) none =
    (subst (λ (pt : Option ℕ). IsNextOf pt items) (sym (none-handled item (λ pt. not-true (changes pt item) (and_parts (not (changes pt item)) (change_none pt items) (none pt)).0))) tt, plain-followed items (λ pt. (and_parts (not (changes pt item)) (change_none pt items) (none pt)).1))

due-followed : (core : Core) → Followed (items_due core)
due-followed core = plain-followed (items_due core) (λ pt. due-change-none pt core)

apdus-followed : (pt : ℕ) (apdus : List ApduValue) → Followed (flat_map (apdu_items pt) apdus)
apdus-followed pt [] = tt
apdus-followed pt (apdu ∷ apdus) = (tt, ((flat_map (apdu_items pt) apdus, refl), (tt, apdus-followed pt apdus)))

pt-followed : (pt : ℕ) (decoded : DecodedApdus) → Followed (decoded_apdu_items pt decoded)
pt-followed pt decoded = followed-append (flat_map (apdu_items pt) decoded.apdus) _ (apdus-followed pt decoded.apdus) (by_test (is_oversized (decode_apdu decoded.rest)))
  where
    by_test : (test : Bool) → Followed (if test then Oversized pt ∷ [] else [])
    by_test true = (tt, tt)
    by_test false = tt

read-followed : (as_read : ReadAs) (items : List RoundItem) → Followed items → Followed (read_first as_read items)
read-followed as_read [] h = h
read-followed as_read (Crowded till ∷ items) h = h
read-followed as_read (Message till bytes ∷ items) h = h
read-followed as_read (Asked till other ∷ items) h = h
read-followed as_read (Unframed till ∷ items) h = h
read-followed as_read (Gone till ∷ items) h = h
read-followed as_read (Greet pt apdu ∷ items) h = h
read-followed as_read (Handle pt apdu ∷ items) h = h
read-followed as_read (Serve pt till header request ∷ items) h = h
read-followed as_read (Queue pt till header request ∷ items) h = h
read-followed as_read (NextWaiting pt ∷ items) h = h
read-followed as_read (Oversized pt ∷ items) h = h
read-followed as_read (LinkLost pt ∷ items) h = h
read-followed as_read (Late pt ∷ items) h = h
read-followed as_read (Overdue key ∷ items) h = h
read-followed as_read (Due pt ∷ items) h = h

-- ---- what holds along a course

-- the queue of this terminal is looked at next
abbrev LooksNext : View → ℕ → Type 0
LooksNext v number = (rest : List RoundItem) × (v.items ≡ NextWaiting number ∷ rest)

-- until the run ends nobody waits for a terminal that is ready, but where its queue is looked at next
record ReadyQueues (v : View) : Type 0 where
  ready : is_dead v.scene.stage ≡ false → (number : ℕ) → ready_in v.scene.core number ≡ true → (queue_in v number ≡ []) ⊎ LooksNext v number
  polled : v.scene.stage ≡ AtPoll → (number : ℕ) → ready_in v.scene.core number ≡ true → queue_in v number ≡ []
  followed : Followed v.items

pub alive-before : (before now : Stage) → (is_dead before ≡ true → is_dead now ≡ true) → is_dead now ≡ false → is_dead before ≡ false
alive-before before now dies alive = by_test (is_dead before) refl
  where
    by_test : (test : Bool) → is_dead before ≡ test → is_dead before ≡ false
    by_test true e = no-true (sym alive ∙ dies e)
    by_test false e = e

pub wrote-dies : (stage : Stage) → is_dead stage ≡ true → is_dead (stage_wrote stage) ≡ true
wrote-dies Resting e = no-true e
wrote-dies (Opening refused) e = no-true e
wrote-dies (Looking refused) e = no-true e
wrote-dies AtPoll e = no-true e
wrote-dies Handling e = no-true e
wrote-dies Over e = refl
wrote-dies Broken e = refl

pub synced-dies : (stage : Stage) → is_dead stage ≡ true → is_dead (stage_synced stage) ≡ true
synced-dies Resting e = no-true e
synced-dies (Opening refused) e = no-true e
synced-dies (Looking refused) e = no-true e
synced-dies AtPoll e = no-true e
synced-dies Handling e = no-true e
synced-dies Over e = refl
synced-dies Broken e = refl

wrote-not-poll : {A : Type 0} (stage : Stage) → stage_wrote stage ≡ AtPoll → A
wrote-not-poll Resting e = absurd (let n : Resting ≡ AtPoll = e in cc)
wrote-not-poll (Opening refused) e = absurd (let n : Opening refused ≡ AtPoll = e in cc)
wrote-not-poll (Looking refused) e = handling-not-polled e
wrote-not-poll AtPoll e = handling-not-polled e
wrote-not-poll Handling e = handling-not-polled e
wrote-not-poll Over e = absurd (let n : Over ≡ AtPoll = e in cc)
wrote-not-poll Broken e = absurd (let n : Broken ≡ AtPoll = e in cc)

synced-not-poll : {A : Type 0} (stage : Stage) → stage_synced stage ≡ AtPoll → A
synced-not-poll Resting e = absurd (let n : Resting ≡ AtPoll = e in cc)
synced-not-poll (Opening refused) e = absurd (let n : Looking refused ≡ AtPoll = e in cc)
synced-not-poll (Looking refused) e = absurd (let n : Looking refused ≡ AtPoll = e in cc)
synced-not-poll AtPoll e = handling-not-polled e
synced-not-poll Handling e = handling-not-polled e
synced-not-poll Over e = absurd (let n : Over ≡ AtPoll = e in cc)
synced-not-poll Broken e = absurd (let n : Broken ≡ AtPoll = e in cc)

-- a run is running or ended, or there is none
pub round-alive : (stage : Stage) → is_running stage ≡ true → is_dead stage ≡ false
round-alive Resting e = refl
round-alive (Opening refused) e = refl
round-alive (Looking refused) e = refl
round-alive AtPoll e = refl
round-alive Handling e = refl
round-alive Over e = no-true e
round-alive Broken e = no-true e

-- ---- items that begin

begin-ready-queues : EachLogHasWaitsInOrder → (log : List Turn) (v : View) → Stands log v → ReadyQueues v → Begins v → ReadyQueues (after v Begin)
begin-ready-queues waits log v s q b = record {
  ready = λ alive number is. to_view number (by_item number first.item first.items_are (left-alone v first) items_are (ap (λ (c : Core). ready_in c number) (sym core_is) ∙ is));
  polled = λ e. handling-not-polled (sym at ∙ e);
  followed = subst Followed (sym first.left) (followed-append first.new first.rest (plain-followed first.new (λ pt. follow-change-none pt first.new first.new_is)) (subst Followed first.items_are q.followed).1);
}
  where
    agrees : Agrees v
    agrees = stands-agree log v s

    first : BeginsFirst v
    first = begins-first v agrees b

    k : HasSetup v.scene
    k = round-setup v agrees.run b.idle.round

    known : Known
    known = known_in v.scene k.setup

    tills : List Connection
    tills = v.scene.outside.tills

    at : (after v Begin).scene.stage ≡ Handling
    at = begin-stage v.scene v.items ∙ round-busy v.scene.stage b.idle.round

    core_is : (after v Begin).scene.core ≡ (row_of tills known first.item).core
    core_is =
        ap (λ l. (after (record v { items = l }) Begin).scene.core) first.items_are ∙ ap (λ (o : Option Setup). (row_in v.scene (λ known. row_of v.scene.outside.tills known first.item) o).core) k.setup_is

    items_are : (after v Begin).items ≡ (row_of tills known first.item).items ++ first.rest
    items_are =
        ap (λ l. (after (record v { items = l }) Begin).items) first.items_are ∙ ap (λ (o : Option Setup). (row_in v.scene (λ known. row_of v.scene.outside.tills known first.item) o).items ++ first.rest) k.setup_is

    alive_now : is_dead v.scene.stage ≡ false
    alive_now = round-alive v.scene.stage (round-runs v.scene.stage b.idle.round)

    Result : ℕ → RoundItem → Type 0
    Result number item = (queue_of number (row_of tills known item).core.waits ≡ []) ⊎ LooksNext (after v Begin) number

    to_view : (number : ℕ) → Result number first.item → (queue_in (after v Begin) number ≡ []) ⊎ LooksNext (after v Begin) number
    to_view number (inl e) = inl (ap (λ (c : Core). queue_of number c.waits) core_is ∙ e)
    to_view number (inr looks) = inr looks

    may : (number : ℕ) (wait : Wait) → first_waiting (queue_of number known.core.waits) ≡ Some wait → may_wait wait.request
    may number wait e =
        let there = first-there number known.core.waits wait e in
        ((waits log v k.setup s k.setup_is (clear-where v.scene.stage is_round refl b.idle.round)).each there.at wait there.there).may

    kept : (number : ℕ) (item : RoundItem) → v.items ≡ item ∷ first.rest → item ≢ NextWaiting number → ready_in (row_of tills known item).core number ≡ true → ready_in known.core number ≡ true → Result number item
    kept number item items differs ready was = by_before (q.ready alive_now number was)
      where
        by_before : (queue_in v number ≡ []) ⊎ LooksNext v number → Result number item
        by_before (inl e) = inl (rows-empty tills known item number ready e)
        by_before (inr (rest, e)) = absurd (differs (let n : item ∷ first.rest ≡ NextWaiting number ∷ rest = sym items ∙ e in cc))

    plain : (number : ℕ) (item : RoundItem) → v.items ≡ item ∷ first.rest → changes number item ≡ false → item ≢ NextWaiting number → ready_in (row_of tills known item).core number ≡ true → Result number item
    plain number item items none differs ready = kept number item items differs ready (rows-no-new tills known item number none ready)

    next : (pt : ℕ) → (after v Begin).items ≡ (next_waiting_row known pt).items ++ first.rest → ready_in (next_waiting_row known pt).core pt ≡ true → Result pt (NextWaiting pt)
    next pt new ready = by_next (next-ready tills known pt (may pt) ready)
      where
        by_next : (queue_of pt (next_waiting_row known pt).core.waits ≡ []) ⊎ ((next_waiting_row known pt).items ≡ NextWaiting pt ∷ []) → Result pt (NextWaiting pt)
        by_next (inl e) = inl e
        by_next (inr e) = inr (first.rest, new ∙ ap (λ l. l ++ first.rest) e)

    by_item : (number : ℕ) (item : RoundItem) → v.items ≡ item ∷ first.rest → (may_bring_more item ≡ false → (after v Begin).items ≡ first.rest) → (after v Begin).items ≡ (row_of tills known item).items ++ first.rest
        → ready_in (row_of tills known item).core number ≡ true → Result number item
    by_item number (Crowded till) items alone new ready = plain number (Crowded till) items refl (λ e. cc) ready
    by_item number (Message till bytes) items alone new ready = plain number (Message till bytes) items refl (λ e. cc) ready
    by_item number (Asked till as_read) items alone new ready = plain number (Asked till as_read) items refl (λ e. cc) ready
    by_item number (Unframed till) items alone new ready = plain number (Unframed till) items refl (λ e. cc) ready
    by_item number (Gone till) items alone new ready = plain number (Gone till) items refl (λ e. cc) ready
    by_item number (Greet pt apdu) items alone new ready = plain number (Greet pt apdu) items refl (λ e. cc) ready
    by_item number (Handle pt apdu) items alone new ready = by-equal number pt
        (λ same. let follows = (subst Followed items q.followed).0 in inr (follows.0, alone refl ∙ follows.1 ∙ ap (λ n. NextWaiting n ∷ follows.0) same))
        (λ differs. plain number (Handle pt apdu) items differs (λ e. cc) ready)
    by_item number (Serve pt till header request) items alone new ready = plain number (Serve pt till header request) items refl (λ e. cc) ready
    by_item number (Queue pt till header request) items alone new ready = plain number (Queue pt till header request) items refl (λ e. cc) ready
    by_item number (NextWaiting pt) items alone new ready = by-equal number pt
        (λ same. subst (λ n. ready_in (next_waiting_row known pt).core n ≡ true → Result n (NextWaiting pt)) same (next pt new) ready)
        (λ differs. plain number (NextWaiting pt) items refl (λ e. other-number number pt differs (let n : NextWaiting pt ≡ NextWaiting number = e in cc)) ready)
    by_item number (Oversized pt) items alone new ready = plain number (Oversized pt) items refl (λ e. cc) ready
    by_item number (LinkLost pt) items alone new ready = kept number (LinkLost pt) items (λ e. cc) ready (lost-no-new known pt number ready)
    by_item number (Late pt) items alone new ready = plain number (Late pt) items refl (λ e. cc) ready
    by_item number (Overdue key) items alone new ready = plain number (Overdue key) items refl (λ e. cc) ready
    by_item number (Due pt) items alone new ready = plain number (Due pt) items refl (λ e. cc) ready

-- ---- turns

-- a call was made: no terminal is ready then that wasn't, and nobody waits where nobody did
call-ready : (v w : View) → ReadyQueues v → (is_dead v.scene.stage ≡ true → is_dead w.scene.stage ≡ true) → (w.scene.stage ≡ AtPoll → ⊥) → ((number : ℕ) → ready_in w.scene.core number ≡ true → ready_in v.scene.core number ≡ true)
    → ((number : ℕ) → queue_in v number ≡ [] → queue_in w number ≡ []) → w.items ≡ v.items → ReadyQueues w
call-ready v w q dies no_poll new empties items = record {
  ready = λ alive number is. by_before number (q.ready (alive-before v.scene.stage w.scene.stage dies alive) number (new number is));
  polled = λ e number is. absurd (no_poll e);
  followed = subst Followed (sym items) q.followed;
}
  where
    by_before : (number : ℕ) → (queue_in v number ≡ []) ⊎ LooksNext v number → (queue_in w number ≡ []) ⊎ LooksNext w number
    by_before number (inl e) = inl (empties number e)
    by_before number (inr (rest, e)) = inr (rest, items ∙ e)

-- an event has come
event-ready : (v : View) (w : View) → ReadyQueues v → v.scene.stage ≡ AtPoll → w.scene.core ≡ v.scene.core → (w.scene.stage ≡ AtPoll → ⊥) → Followed w.items → ReadyQueues w
event-ready v w q at core no_poll followed = record {
  ready = λ alive number is. inl (ap (λ (c : Core). queue_of number c.waits) core ∙ q.polled at number (ap (λ (c : Core). ready_in c number) (sym core) ∙ is));
  polled = λ e number is. absurd (no_poll e);
  followed = followed;
}

-- no terminal is ready
none-ready : (w : View) → ((number : ℕ) → ready_in w.scene.core number ≡ true → ⊥) → Followed w.items → ReadyQueues w
none-ready w none followed = record { ready = λ alive number is. absurd (none number is); polled = λ e number is. absurd (none number is); followed = followed }

-- the run is over
dead-ready : (w : View) → is_dead w.scene.stage ≡ true → (w.scene.stage ≡ AtPoll → ⊥) → Followed w.items → ReadyQueues w
dead-ready w dead no_poll followed = record { ready = λ alive number is. no-true (sym alive ∙ dead); polled = λ e number is. absurd (no_poll e); followed = followed }

no-poll-handling : Handling ≡ AtPoll → ⊥
no-poll-handling e = handling-not-polled e

polled-ready : (v : View) (now : ℤ) → ReadyQueues v → MayPoll v → ReadyQueues (after_turn v (Polled now))
polled-ready v now q ok = record { ready = λ alive number is. inl (quiet number is); polled = λ e. quiet; followed = due-followed v.scene.core }
  where
    quiet : (number : ℕ) → ready_in v.scene.core number ≡ true → queue_in v number ≡ []
    quiet number is = by_before (q.ready (round-alive v.scene.stage ok.running) number is)
      where
        by_before : (queue_in v number ≡ []) ⊎ LooksNext v number → queue_in v number ≡ []
        by_before (inl e) = e
        by_before (inr (rest, e)) = absurd (let n : [] ≡ NextWaiting number ∷ rest = sym ok.items ∙ e in cc)

-- an event of a link
linked-ready : (v : View) (pt : ℕ) → Agrees v → ReadyQueues v → AllowedTurn v (Linked pt) → ReadyQueues (after_turn v (Linked pt))
linked-ready v pt a q ok =
    let k = call-setup v (LinkPt pt) a.run ok in
    let known : Known = known_in v.scene k.setup in
    let core : (link_made_at v.scene pt).core ≡ (link_made known pt).core = ap (λ (o : Option Setup). (row_in v.scene (λ known. link_made known pt) o).core) k.setup_is in
    call-ready v (after_turn v (Linked pt)) q (dead-busy v.scene.stage) (λ e. busy-not-poll v.scene.stage e) (λ number is. made-no-new known pt number (ap (λ (c : Core). ready_in c number) (sym core) ∙ is))
    (λ number e. ap (λ (c : Core). queue_of number c.waits) core ∙ leaves-empty known number (link_made known pt).core.waits (link-leaves-waits known pt LinkIsMade) e) (ap (λ l. l ++ v.items) (made-brings-none v.scene pt))

lost-ready : (v w : View) (pt : ℕ) → ReadyQueues v → (k : HasSetup v.scene) → w.scene.stage ≡ busy v.scene.stage → w.scene.core ≡ (link_lost_at v.scene pt).core → w.items ≡ (link_lost_at v.scene pt).items ++ v.items → ReadyQueues w
lost-ready v w pt q k stage is_core items =
    let known : Known = known_in v.scene k.setup in
    let core : w.scene.core ≡ (link_lost known pt).core = is_core ∙ ap (λ (o : Option Setup). (row_in v.scene (λ known. link_lost known pt) o).core) k.setup_is in
    call-ready v w q (λ dead. ap is_dead stage ∙ dead-busy v.scene.stage dead) (λ e. busy-not-poll v.scene.stage (sym stage ∙ e)) (λ number is. lost-no-new known pt number (ap (λ (c : Core). ready_in c number) (sym core) ∙ is))
    (λ number e. ap (λ (c : Core). queue_of number c.waits) core ∙ leaves-empty known number (link_lost known pt).core.waits (link-leaves-waits known pt LinkIsLost) e) (items ∙ ap (λ l. l ++ v.items) (lost-brings-none v.scene pt))

turn-ready-queues : (v : View) (turn : Turn) → Agrees v → ReadyQueues v → AllowedTurn v turn → ReadyQueues (after_turn v turn)
turn-ready-queues v (Start setup) a q ok = none-ready (after_turn v (Start setup)) (λ number is. new-unready setup.terminals number is) tt
turn-ready-queues v OpenFailed a q ok = none-ready (after_turn v OpenFailed) (λ number is. no-true is) tt
turn-ready-queues v (Polled now) a q ok = polled-ready v now q ok
turn-ready-queues v (Opened till) a q ok = event-ready v (after_turn v (Opened till)) q ok.0 refl no-poll-handling (plain-followed _ (λ pt. opened-none pt till v.scene.outside.tills v.scene.core))
turn-ready-queues v (HeardTill till bytes) a q ok =
    let decoded : DecodedFrames = decode_after (decode_frames (heard_on v.scene.outside.tills till)).rest bytes in
    event-ready v (after_turn v (HeardTill till bytes)) q ok.0.polled refl no-poll-handling (plain-followed _ (λ pt. till-none pt till decoded v.scene.core))
turn-ready-queues v (Closed till) a q ok = event-ready v (after_turn v (Closed till)) q ok.polled refl no-poll-handling (tt, due-followed v.scene.core)
turn-ready-queues v (HeardPt pt bytes) a q ok =
    let decoded : DecodedApdus = decode_apdus ((decode_apdus (heard_on v.scene.outside.links pt)).rest ++ bytes) in
    event-ready v (after_turn v (HeardPt pt bytes)) q ok.0.polled refl no-poll-handling (followed-append (decoded_apdu_items pt decoded) (items_due v.scene.core) (pt-followed pt decoded) (due-followed v.scene.core))
turn-ready-queues v (Lost pt) a q ok = event-ready v (after_turn v (Lost pt)) q ok.polled refl no-poll-handling (tt, due-followed v.scene.core)
turn-ready-queues v Stopped a q ok = dead-ready (after_turn v Stopped) refl (λ e. let n : Over ≡ AtPoll = e in cc) tt
turn-ready-queues v (Linked pt) a q ok = linked-ready v pt a q ok
turn-ready-queues v (LinkFailed pt) a q ok = lost-ready v (after_turn v (LinkFailed pt)) pt q (call-setup v (LinkPt pt) a.run ok) refl refl refl
turn-ready-queues v (SentTill till bytes true) a q ok = call-ready v (after_turn v (SentTill till bytes true)) q (dead-busy v.scene.stage) (λ e. busy-not-poll v.scene.stage e) (λ number is. is) (λ number e. e) refl
turn-ready-queues v (SentTill till bytes false) a q ok = call-ready v (after_turn v (SentTill till bytes false)) q (dead-busy v.scene.stage) (λ e. busy-not-poll v.scene.stage e) (λ number is. is) (λ number e. e) refl
turn-ready-queues v (SentPt pt bytes true) a q ok = call-ready v (after_turn v (SentPt pt bytes true)) q (dead-busy v.scene.stage) (λ e. busy-not-poll v.scene.stage e) (λ number is. is) (λ number e. e) refl
turn-ready-queues v (SentPt pt bytes false) a q ok = call-ready v (after_turn v (SentPt pt bytes false)) q (dead-busy v.scene.stage) (λ e. busy-not-poll v.scene.stage e) (λ number is. is) (λ number e. e) refl
turn-ready-queues v (CutTill till) a q ok =
    call-ready v (after_turn v (CutTill till)) q (dead-busy v.scene.stage) (λ e. busy-not-poll v.scene.stage e) (gone-no-new v.scene.core till)
    (λ number e. still-empty number (λ (wait : Wait). not (wait.till == till)) v.scene.core.waits e) refl
turn-ready-queues v (CutPt pt) a q ok = lost-ready v (after_turn v (CutPt pt)) pt q (call-setup v (OwedCutPt pt) a.run ok) refl refl refl
turn-ready-queues v (Wrote offset bytes) a q ok = call-ready v (after_turn v (Wrote offset bytes)) q (wrote-dies v.scene.stage) (λ e. wrote-not-poll v.scene.stage e) (λ number is. is) (λ number e. e) refl
turn-ready-queues v Synced a q ok = call-ready v (after_turn v Synced) q (synced-dies v.scene.stage) (λ e. synced-not-poll v.scene.stage e) (λ number is. is) (λ number e. e) refl
turn-ready-queues v DiskFailed a q ok = dead-ready (after_turn v DiskFailed) refl (λ e. let n : Broken ≡ AtPoll = e in cc) tt
turn-ready-queues v (Crash file) a q ok = none-ready (after_turn v (Crash file)) (λ number is. no-true is) tt

read-ready-queues : (v : View) (as_read : ReadAs) → ReadyQueues v → IsRead v as_read → ReadyQueues (after v (Read as_read))
read-ready-queues v as_read q r = record {
  ready = λ alive number is. by_before number (q.ready (round-alive v.scene.stage (round-runs v.scene.stage r.idle.round)) number is);
  polled = λ e number is. absurd (busy-not-poll v.scene.stage e);
  followed = read-followed as_read v.items q.followed;
}
  where
    by_before : (number : ℕ) → (queue_in v number ≡ []) ⊎ LooksNext v number → (queue_in v number ≡ []) ⊎ LooksNext (after v (Read as_read)) number
    by_before number (inl e) = inl e
    by_before number (inr (rest, e)) = inr (rest, ap (read_first as_read) e)

-- ---- along a course

moves-ready : EachLogHasWaitsInOrder → (log : List Turn) (v : View) (moves : List Move) → Stands log v → ReadyQueues v → IsCourse v moves → ReadyQueues (view_from v moves)
moves-ready waits log v [] s q c = q
moves-ready waits log v (Begin ∷ moves) s q c = moves-ready waits (log ++ []) (after v Begin) moves (stands-more log v (Begin ∷ []) s (c.0, tt)) (begin-ready-queues waits log v s q c.0) c.1
moves-ready waits log v (Read as_read ∷ moves) s q c = moves-ready waits (log ++ []) (after v (Read as_read)) moves (stands-more log v (Read as_read ∷ []) s (c.0, tt)) (read-ready-queues v as_read q c.0) c.1
moves-ready waits log v (Make turn ∷ moves) s q c = moves-ready waits (log ++ turn ∷ []) (after_turn v turn) moves (stands-more log v (Make turn ∷ []) s (c.0, tt)) (turn-ready-queues v turn (stands-agree log v s) q c.0) c.1

log-ready : EachLogHasWaitsInOrder → (log : List Turn) (v : View) → Stands log v → ReadyQueues v
log-ready waits log v s =
    subst ReadyQueues s.view_is (moves-ready waits [] at_first s.course (record { course = []; log_is = refl; lawful = tt; view_is = refl }) (none-ready at_first (λ number is. no-true is) tt) s.lawful)

pub ready-has-no-queue : EachLogHasWaitsInOrder → ReadyHasNoQueue
ready-has-no-queue waits log v number terminal last s may found is = by_before ((log-ready waits log v s).ready (round-alive v.scene.stage may.running) number (ap is_ready_found found ∙ ap is_ready_standing is))
  where
    by_before : (queue_in v number ≡ []) ⊎ LooksNext v number → queue_in v number ≡ []
    by_before (inl e) = e
    by_before (inr (rest, e)) = absurd (let n : [] ≡ NextWaiting number ∷ rest = sym may.items ∙ e in cc)
