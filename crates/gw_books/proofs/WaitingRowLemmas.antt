-- What a request that waits leaves: it joins the others, it is refused, or it is begun.
use Rattle.std.proofs.Common.{◌≡◌, ◌∙◌, ℕ, Bool, true, false, List, [], ◌∷◌, ◌++◌, Option, Some, None, refl, sym, ap, subst, inl, inr}
use Rattle.std.proofs.lemmas.Option.{same_Some}
use Rattle.std.specs.List.{list_any}
use Rattle.std.specs.Prelude.{◌&&◌, bytes_eq, codes, if◌then◌else◌, option_map, unwrap_or}
use Rattle.gw_base.specs.declared.condition.Condition.{Condition}
use Rattle.gw_base.specs.declared.condition.Condition.TheVariants.{Aborted, NotAllowed, NotFound, UnavailableService}
use Rattle.gw_base.specs.declared.key.Key.{Key}
use Rattle.gw_base.specs.Condition.{name_of}
use Rattle.jrn_record.specs.declared.records.Record.{Record}
use Rattle.gw_ledger.specs.Fold.{found_of}
use Rattle.sale_values.specs.declared.header.Header.{Header}
use Rattle.sale_values.specs.declared.request.SaleRequest.{SaleRequest}
use Rattle.sale_values.specs.declared.request.SaleRequest.TheVariants as requests
use Rattle.sale_msg.specs.declared.table.Envelope.TheVariants as envelopes
use Rattle.gw_owes.specs.Core.{Core, Wait}
use Rattle.gw_owes.specs.Diagnosis.{NamedTerminal}
use Rattle.gw_owes.specs.Items.{RoundItem, Queue, NextWaiting, Overdue}
use Rattle.sale_values.specs.Key.{key_of}
use Rattle.gw_owes.specs.KeptReplies.{own_key}
use Rattle.gw_owes.specs.Reversals.{names_irreversible, names_none}
use Rattle.gw_owes.specs.Payments.{beginning_row}
use Rattle.gw_owes.specs.ReadAs.{Request}
use Rattle.gw_owes.specs.RecordLaws.{IsReadFromTill}
use Rattle.gw_owes.specs.Reconciliations.{asked_for_day, day_command}
use Rattle.gw_owes.specs.Replies.{failure_reply, header_of_reply}
use Rattle.gw_owes.specs.Row.{Known, Row, becoming, owing_nothing}
use Rattle.gw_owes.specs.Steps.{asks_transaction, is_used_up, refused_again}
use Rattle.gw_owes.specs.WaitingLaws.{IsWaitInOrder, may_wait}
use Rattle.gw_owes.specs.WaitingRows.{next_waiting_row, overdue_row, taken_out, wait_of}
use Rattle.gw_owes.specs.Waits.{core_with_wait, core_without_wait, first_waiting, queue_of, waiting_with}
use Rattle.gw_owes.proofs.NextLemmas.{each-next, each-overdue, each-queued, known_without}
use Rattle.gw_owes.proofs.PaymentLemmas.{day_row}
use Rattle.gw_owes.proofs.NextOrderLemmas.{begun-anew, first-there, in-queue, without-in-order}
use Rattle.gw_owes.proofs.WaitingListLemmas.{waits-under}
use Rattle.gw_owes.proofs.WaitingOrderLemmas.{without-keeps}
use Rattle.gw_owes.proofs.ReadLimitLemmas.{header-read}
use Rattle.gw_owes.proofs.RecordLemmas.{LedgerLaws}
use Rattle.gw_rules.specs.Scene.{Scene}
use Rattle.gw_books.specs.Agrees.{key_about}
use Rattle.gw_books.specs.Books.{BookedEntry}
use Rattle.gw_books.specs.Past.{OfRequest, Past, ends_of, occasion_waiting, waiting_keys}
use Rattle.gw_books.specs.SaidLaws.{header_key}
use Rattle.gw_books.proofs.Holding.{HoldsAfterRow, HoldsBetween, IsReplySound, IsReplyWithin, begun_past, is_handle}
use Rattle.gw_books.proofs.Numbering.{RowHolds}
use Rattle.gw_books.proofs.QuietRowLemmas.{nothing-holds, quiet-holds, taken-quiet, waits-calm}
use Rattle.gw_books.proofs.ReplyLimitLemmas.{failure-within}
use Rattle.gw_books.proofs.RecordMoreLemmas.{unknown-accepted}
use Rattle.gw_books.proofs.ReplyTruthLemmas.{meant-own, reply-true-more, unknown-true}
use Rattle.gw_books.proofs.ServeLemmas.{begins-holds, beside-leaves, day-beside}
use Rattle.gw_books.proofs.StepTruthLemmas.{failure-true}

-- ---- what is known without it

-- between items as much holds once a request waits no longer
pub between-without : (known : Known) (past : Past) (book : List BookedEntry) (wait : Wait) → HoldsBetween known past book → HoldsBetween (known_without known wait) past book
between-without known past book wait h = record {
  in_order = without-in-order known wait h.in_order;
  heard = h.heard;
  ended = h.ended;
  commands = h.commands;
  outcomes = h.outcomes;
  serving = h.serving;
  repliable = h.repliable;
  dialogues = h.dialogues;
  links = λ link lasts.
      let rest = h.links link lasts in
      record { of_terminal = record { number = rest.of_terminal.number; terminal = rest.of_terminal.terminal; found = rest.of_terminal.found; poi_is = rest.of_terminal.poi_is }; before = rest.before; records_before = rest.records_before; resolved = rest.resolved };
  waits = without-keeps known wait h.waits;
}

-- what a row leaves holds whatever waited before it
after-without : (known : Known) (past : Past) (book : List BookedEntry) (wait : Wait) (row : Row) → HoldsAfterRow (known_without known wait) past book row → HoldsAfterRow known past book row
after-without known past book wait row h =
    record { outcomes = h.outcomes; calls = h.calls; serving = h.serving; repliable = h.repliable; inside = h.inside; handles_none = h.handles_none; links = h.links }

-- ---- it is refused

-- the key of a header that has one
own-header-key : (header : Header) (key : Key) → own_key header ≡ Some key → header_key header ≡ key
own-header-key header key = by-service header.service
  where
    by-service : (service : Option (List ℕ)) → option_map (λ (text : List ℕ). record { sale = header.sale; poi = header.poi; service = text }) service ≡ Some key
        → ◌≡◌ {A = Key} (record { sale = header.sale; poi = header.poi; service = unwrap_or service [] }) key
    by-service None is = absurd cc
    by-service (Some text) is = same_Some _ key is

-- a request that may wait is about its own key
waits-about : (records : List Record) (own : Key) (header : Header) (request : SaleRequest) → may_wait request → key_about records own header request ≡ Some own
waits-about records own header requests.Login may = refl
waits-about records own header requests.Logout may = refl
waits-about records own header (requests.Payment ask) may = refl
waits-about records own header (requests.Reversal ask) may = refl
waits-about records own header (requests.Abort reference) may = refl
waits-about records own header (requests.Status reference) (served, inl transaction) = absurd cc
waits-about records own header (requests.Status reference) (served, inr day) = absurd cc
waits-about records own header (requests.Reconciliation period) may = refl
waits-about records own header (requests.Display outputs) may = refl
waits-about records own header (requests.Print qualifier) may = refl
waits-about records own header requests.Diagnosis may = refl

-- its refusal can be spelled
pub waiting-within : (known : Known) (wait : Wait) (condition : Condition) → IsWaitInOrder known wait → IsReplyWithin (failure_reply wait.header condition)
waiting-within known wait condition is =
    let message = is.read.read.1 in
    let asked = message.read in
    failure-within wait.header condition (header-read envelopes.Request asked.0 wait.header asked.1.request_of.header_is)

-- and its key has no Intent
refused-sound : (known : Known) (waiting : List Key) (asking : Header) (request : SaleRequest) (wait : Wait) (condition : Condition) → IsWaitInOrder known wait
    → key_about known.kept (header_key wait.header) asking request ≡ Some (header_key wait.header) → bytes_eq (name_of condition) (codes "InProgress") ≡ false
    → IsReplySound known.kept waiting (OfRequest asking request) (failure_reply wait.header condition)
refused-sound known waiting asking request wait condition is about idle =
    let unknown : found_of known.kept (header_key wait.header) ≡ None = ap (found_of known.kept) (own-header-key wait.header wait.key is.key) ∙ is.unknown in
    record {
      within = waiting-within known wait condition is;
      says = reply-true-more known.kept waiting (OfRequest asking request) (failure_reply wait.header condition)
          (failure-true known.kept (OfRequest asking request) wait.header condition
          (unknown-true known.kept (OfRequest asking request) (header_of_reply wait.header) condition idle (meant-own known.kept (header_key wait.header) asking request about) (unknown-accepted known.kept (header_key wait.header) unknown)));
    }

-- it is taken out and refused
taken-holds : (known : Known) (past : Past) (book : List BookedEntry) (asking : Header) (request : SaleRequest) (wait : Wait) (condition : Condition) (items : List RoundItem) → HoldsBetween known past book → IsWaitInOrder known wait
    → key_about known.kept (header_key wait.header) asking request ≡ Some (header_key wait.header) → bytes_eq (name_of condition) (codes "InProgress") ≡ false → list_any is_handle items ≡ false
    → HoldsAfterRow known (record past { occasion = OfRequest asking request }) book (record (taken_out known condition wait) { items = items })
taken-holds known past book asking request wait condition items h is about idle none =
    quiet-holds known past book (OfRequest asking request) (record (taken_out known condition wait) { items = items }) h
    (taken-quiet known condition wait items none)
    (refused-sound known (waiting_keys (core_without_wait known.core wait.key)) asking request wait condition is about idle, tt)

-- ---- it joins, or a till takes it out

pub queue-holds : (number till : ℕ) (header : Header) (request : SaleRequest) → RowHolds (Queue number till header request)
queue-holds number till header request scene tills known past book same between numbered linked read honest =
    each-queued (λ (row : Row). HoldsAfterRow known (record past { occasion = OfRequest header request }) book row) known number till header request (record {
      none = nothing-holds known past book (OfRequest header request) between;
      joins = λ terminal key at.
          quiet-holds known past book (OfRequest header request) (becoming (core_with_wait known.core (wait_of known number till header request key)) []) between
          (record { calm = waits-calm known.core (core_with_wait known.core (wait_of known number till header request key)).waits; none_kept = refl; no_deed = refl; handles_none = refl }) tt;
      taken = λ wait at.
          let there = waits-under (key_of header at.reference) known.core.waits wait at.waits_is in
          taken-holds known past book header request wait Aborted [] between (between.waits.each there.place wait there.there)
          (subst (λ (r : SaleRequest). key_about known.kept (header_key wait.header) header r ≡ Some (header_key wait.header)) (sym at.request_is) refl) refl refl;
    })

-- ---- what is about it

-- the past as an item about it has begun
abbrev about : Past → Option Wait → Past
about past wait = record past { occasion = occasion_waiting wait }

begun-about : (scene : Scene) (past : Past) (wait : Option Wait) → ◌≡◌ {A = Past} (record past { occasion = occasion_waiting wait; ends = ends_of scene past (occasion_waiting wait) ++ past.ends }) (about past wait)
begun-about scene past None = refl
begun-about scene past (Some wait) = refl

-- ---- its deadline

pub overdue-holds : (key : Key) → RowHolds (Overdue key)
overdue-holds key scene tills known past book same between numbered linked read honest = subst (λ (p : Past). HoldsAfterRow known p book (overdue_row known key)) (sym is) holds
  where
    is : begun_past scene past (Overdue key) ≡ about past (waiting_with key known.core.waits)
    is = begun-about scene past (waiting_with key scene.core.waits) ∙ ap (λ (core : Core). about past (waiting_with key core.waits)) same

    holds : HoldsAfterRow known (about past (waiting_with key known.core.waits)) book (overdue_row known key)
    holds = each-overdue (λ (row : Row). HoldsAfterRow known (about past (waiting_with key known.core.waits)) book row) known key (record {
      none = nothing-holds known past book (occasion_waiting (waiting_with key known.core.waits)) between;
      taken = λ wait found overdue.
          let there = waits-under key known.core.waits wait found in
          let one : IsWaitInOrder known wait = between.waits.each there.place wait there.there in
          subst (λ (w : Option Wait). HoldsAfterRow known (about past w) book (taken_out known Aborted wait)) (sym found)
          (taken-holds known past book wait.header wait.request wait Aborted [] between one (waits-about known.kept (header_key wait.header) wait.header wait.request one.may) refl refl);
    })

-- ---- its turn comes

-- it is refused with none of these reasons
again-idle : (known : Known) (header : Header) (request : SaleRequest) (named : Option NamedTerminal) (condition : Condition) → refused_again known header request named ≡ Some condition → bytes_eq (name_of condition) (codes "InProgress") ≡ false
again-idle known header request named condition is =
    by-tests (names_none known.kept header.poi request) (names_irreversible known.kept header.poi request) (asks_transaction request && is_used_up known.kept header.poi named) is
  where
    idle : (one : Condition) → bytes_eq (name_of one) (codes "InProgress") ≡ false → Some one ≡ Some condition → bytes_eq (name_of condition) (codes "InProgress") ≡ false
    idle one holds same = subst (λ (c : Condition). bytes_eq (name_of c) (codes "InProgress") ≡ false) (same_Some one condition same) holds

    by-tests : (none irreversible used_up : Bool) → (if none then Some NotFound else (if irreversible then Some NotAllowed else (if used_up then Some UnavailableService else None))) ≡ Some condition
        → bytes_eq (name_of condition) (codes "InProgress") ≡ false
    by-tests true irreversible used_up is = idle NotFound refl is
    by-tests false true used_up is = idle NotAllowed refl is
    by-tests false false true is = idle UnavailableService refl is
    by-tests false false false is = absurd cc

pub next-waiting-holds : LedgerLaws → (number : ℕ) → RowHolds (NextWaiting number)
next-waiting-holds laws number scene tills known past book same between numbered linked read honest = subst (λ (p : Past). HoldsAfterRow known p book (next_waiting_row known number)) (sym is) holds
  where
    first : Option Wait
    first = first_waiting (queue_of number known.core.waits)

    is : begun_past scene past (NextWaiting number) ≡ about past first
    is = begun-about scene past (first_waiting (queue_of number scene.core.waits)) ∙ ap (λ (core : Core). about past (first_waiting (queue_of number core.waits))) same

    ordered : (wait : Wait) → first ≡ Some wait → IsWaitInOrder known wait
    ordered wait is = in-queue laws known between.in_order between.waits number wait (first-there number known.core.waits wait is)

    of-first : (wait : Wait) (row : Row) → first ≡ Some wait → HoldsAfterRow known (record past { occasion = OfRequest wait.header wait.request }) book row → HoldsAfterRow known (about past first) book row
    of-first wait row is holds = subst (λ (w : Option Wait). HoldsAfterRow known (about past w) book row) (sym is) holds

    holds : HoldsAfterRow known (about past first) book (next_waiting_row known number)
    holds = each-next (λ (row : Row). HoldsAfterRow known (about past first) book row) known number (record {
      none = nothing-holds known past book (occasion_waiting first) between;
      refused = λ terminal last wait condition at refuses.
          let one = ordered wait at.first_is in
          of-first wait (record (taken_out known condition wait) { items = NextWaiting number ∷ [] }) at.first_is
          (taken-holds known past book wait.header wait.request wait condition (NextWaiting number ∷ []) between one (waits-about known.kept (header_key wait.header) wait.header wait.request one.may)
          (again-idle known wait.header wait.request (Some (record { number = number; terminal = terminal })) condition refuses) refl);
      begins = λ terminal last wait asking at.
          of-first wait (beginning_row (known_without known wait) number wait.till terminal last asking.intent asking.original) at.first.first_is
          (after-without known (record past { occasion = OfRequest wait.header wait.request }) book wait (beginning_row (known_without known wait) number wait.till terminal last asking.intent asking.original)
          (begins-holds laws (known_without known wait) past book (between-without known past book wait between) number wait.till wait.header wait.request terminal last asking at.first.found
          (begun-anew laws known between.in_order between.waits number terminal last wait asking at)));
      day = λ terminal last wait at.
          let one = ordered wait at.first.first_is in
          let read-as : IsReadFromTill (Request wait.header (requests.Reconciliation at.period)) = subst (λ (r : SaleRequest). IsReadFromTill (Request wait.header r)) at.request_is one.read.read in
          of-first wait (day_row (known_without known wait) number wait.till wait.header terminal last) at.first.first_is
          (after-without known (record past { occasion = OfRequest wait.header wait.request }) book wait (day_row (known_without known wait) number wait.till wait.header terminal last)
          (beside-leaves laws (known_without known wait) past book (between-without known past book wait between) number wait.till wait.header wait.request terminal
          (asked_for_day (known_without known wait) wait.till terminal last wait.header) (day_command terminal.pt) at.first.found refl refl (day-beside wait.header at.period read-as) tt));
      left = λ terminal last wait at.
          of-first wait (owing_nothing (known_without known wait)) at.first_is
          (quiet-holds known past book (OfRequest wait.header wait.request) (owing_nothing (known_without known wait)) between
          (record { calm = waits-calm known.core (core_without_wait known.core wait.key).waits; none_kept = refl; no_deed = refl; handles_none = refl }) tt);
    })
