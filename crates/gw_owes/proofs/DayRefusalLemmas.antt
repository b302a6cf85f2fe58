-- Why a Reconciliation fails, that each reason has its condition, and that it begins where no step refuses it.
use Rattle.std.proofs.Common.{◌≡◌, ◌≢◌, ◌⊎◌, inl, inr, Bool, true, false, List, [], refl, sym, ◌∙◌, ap, subst}
use Rattle.std.specs.Prelude.{if◌then◌else◌, Option, Some, None}
use Rattle.gw_base.specs.declared.condition.Condition.{Condition}
use Rattle.gw_base.specs.declared.condition.Condition.TheVariants.{Aborted, Busy, Cancel, InProgress, InsertedCard, InvalidCard, LoggedOut, MessageFormat, NotAllowed, NotFound, Refusal, UnavailableDevice, UnavailableService}
use Rattle.gw_site.specs.Outside.{is_connected}
use Rattle.sale_values.specs.declared.header.Header.{Header}
use Rattle.sale_values.specs.declared.names.Period.{Period}
use Rattle.sale_values.specs.declared.names.Period.TheVariants.{SaleReconciliation, AcquirerSynchronisation, AcquirerReconciliation, PreviousReconciliation}
use Rattle.sale_values.specs.declared.request.SaleRequest.TheVariants as requests
use Rattle.sale_reply.specs.declared.reply.Told.{Told as ResultBody}
use Rattle.jrn_record.specs.declared.records.Record.{Record}
use Rattle.gw_ledger.specs.declared.entry.Found.{Found}
use Rattle.gw_ledger.specs.declared.entry.Found.TheVariants.{Entry, Closed}
use Rattle.xlate.specs.Reply.{result_body_of}
use Rattle.gw_owes.specs.declared.terminal.Standing.{Standing}
use Rattle.gw_owes.specs.declared.terminal.Standing.TheVariants.{Unlinked, Registering, Enquiring, Ready, Serving, Aside}
use Rattle.gw_owes.specs.Content.{has_same_content}
use Rattle.gw_owes.specs.DayLaws.{PassesUpToStanding}
use Rattle.gw_owes.specs.DayRefusals.{AsksTerminal, RefusesReconciliation, ReconciliationIsBegun, ReconciliationWaits, ReconciliationIsAgain, ReconciliationFails, EachReconciliationIsReplied, EachDayCauseIsReplied, EachDayFailureHasCause, OnlyMayBegins}
use Rattle.gw_owes.specs.Diagnosis.{NamedTerminal, named_terminal}
use Rattle.gw_owes.specs.KeptReplies.{found_for}
use Rattle.gw_owes.specs.ReadAs.{Request}
use Rattle.gw_owes.specs.Requests.{request_reply}
use Rattle.gw_owes.specs.ReversalLaws.{IsNewAtTerminal, IsNewOfTill}
use Rattle.gw_owes.specs.Row.{Known, Row}
use Rattle.gw_owes.specs.Rows.{asked_row}
use Rattle.gw_owes.specs.Sessions.{is_logged_out}
use Rattle.gw_owes.specs.Steps.{StepResult, KeptReply, Fails, Begins, Waits, is_sale_period, is_out_of_service, is_ready_standing, items_of_result, lacks_room, reply_of_result, result_at_queue, service_items, service_reply, step_result}
use Rattle.gw_owes.specs.Waits.{is_pending_again, is_pending_key, is_queue_full}
use Rattle.gw_owes.proofs.HandlingLemmas.{by-where}
use Rattle.gw_owes.proofs.ReconciliationLemmas.{result_of_new, result-new}
use Rattle.gw_owes.proofs.RefusalLemmas.{same-condition}
use Rattle.gw_owes.proofs.StepLemmas.{each-on-record-is-replied, not-pending-result, pending-again-result, pending-otherwise-result}

-- a Reconciliation begins, waits, gets its reply again, or fails
abbrev BeginsOrIsReplied : Known → Header → Period → Option NamedTerminal → Type 0
BeginsOrIsReplied known header period named =
    ReconciliationIsBegun known header period named ⊎ (ReconciliationWaits known header period named ⊎ (ReconciliationIsAgain known header period ⊎ ReconciliationFails known header period named))

-- the reply, by the terminal that is named and the result
reply-by : (known : Known) (header : Header) (period : Period) (named : Option NamedTerminal) (result : StepResult) → named_terminal known.core header.poi ≡ named
    → step_result known header (requests.Reconciliation period) named ≡ result → request_reply known header (requests.Reconciliation period) ≡ reply_of_result known.kept header result
reply-by known header period named result named_is is = ap (λ (n : Option NamedTerminal). service_reply known header (requests.Reconciliation period) n) named_is ∙ ap (reply_of_result known.kept header) is

fails : (known : Known) (header : Header) (period : Period) (named : Option NamedTerminal) (condition : Condition) → named_terminal known.core header.poi ≡ named → RefusesReconciliation known header period named condition
    → step_result known header (requests.Reconciliation period) named ≡ Fails condition → BeginsOrIsReplied known header period named
fails known header period named condition named_is cause is = inr (inr (inr (record { condition = condition; cause = cause; replied = reply-by known header period named (Fails condition) named_is is })))

-- where the key is new, doesn't wait, and isn't that of an end of day that is served, with what its steps ask
module _ (known : Known) (header : Header) (named : NamedTerminal) (named_is : named_terminal known.core header.poi ≡ Some named) (none : found_for known.kept header ≡ None)
    (not_pending : is_pending_key known.core header (Some named) ≡ false) where
  new : IsNewAtTerminal known header (Some named)
  new = record { unknown = none; not_pending = not_pending; terminal = named; is_named = refl }

  of-till : is_logged_out known.core header.sale header.poi ≡ false → IsNewOfTill known header (Some named)
  of-till logged_in = record { new = new; logged_in = logged_in }

  -- an end of day, by the standing of its terminal, and whether as many wait for that as may
  day-at : PassesUpToStanding known header named → (standing : Standing) (full : Bool) → named.terminal.standing ≡ standing → is_queue_full known (Some named) ≡ full
      → step_result known header (requests.Reconciliation AcquirerReconciliation) (Some named) ≡ result_of_new AcquirerReconciliation standing false false full → BeginsOrIsReplied known header AcquirerReconciliation (Some named)
  day-at may standing full is is_full result = by-standing standing full is is_full result
    where
      asks : AsksTerminal known header AcquirerReconciliation (Some named)
      asks = record { terminal = named; is_named = refl; may = may; day = refl }

      by-standing : (of_it : Standing) (full : Bool) → named.terminal.standing ≡ of_it → is_queue_full known (Some named) ≡ full
          → step_result known header (requests.Reconciliation AcquirerReconciliation) (Some named) ≡ result_of_new AcquirerReconciliation of_it false false full → BeginsOrIsReplied known header AcquirerReconciliation (Some named)
      by-standing (Unlinked due) full is is_full result = fails known header AcquirerReconciliation (Some named) UnavailableDevice named_is (inr (record { asks = asks; out = ap is_out_of_service is })) result
      by-standing Registering full is is_full result = fails known header AcquirerReconciliation (Some named) UnavailableDevice named_is (inr (record { asks = asks; out = ap is_out_of_service is })) result
      by-standing Enquiring full is is_full result = fails known header AcquirerReconciliation (Some named) UnavailableDevice named_is (inr (record { asks = asks; out = ap is_out_of_service is })) result
      by-standing (Ready last) full is is_full result =
          inl (record { terminal = named; is_named = refl; may = may; at = inr (refl, (last, is)); no_reply = reply-by known header AcquirerReconciliation (Some named) Begins named_is result })
      by-standing (Serving service last) true is is_full result =
          fails known header AcquirerReconciliation (Some named) Busy named_is (record { asks = asks; service = service; last = last; serves = is }, is_full) result
      by-standing (Serving service last) false is is_full result =
          inr (inl (record {
            serving = record { asks = asks; service = service; last = last; serves = is };
            not_full = is_full;
            waits = result;
            no_reply = reply-by known header AcquirerReconciliation (Some named) Waits named_is result;
          }))
      by-standing (Aside before reported) full is is_full result = fails known header AcquirerReconciliation (Some named) UnavailableDevice named_is (inr (record { asks = asks; out = ap is_out_of_service is })) result

  -- by its type, where the till isn't logged out
  type-at : (period : Period) (no_room : Bool) → is_logged_out known.core header.sale header.poi ≡ false → lacks_room known.setup.slots known.kept known.core ≡ no_room
      → step_result known header (requests.Reconciliation period) (Some named) ≡ result_of_new period named.terminal.standing false no_room (is_queue_full known (Some named)) → BeginsOrIsReplied known header period (Some named)
  type-at SaleReconciliation true logged_in room result =
      fails known header SaleReconciliation (Some named) UnavailableService named_is (inr (record { of_till = of-till logged_in; served = refl }, room)) result
  type-at SaleReconciliation false logged_in room result =
      inl (record {
        terminal = named;
        is_named = refl;
        may = record { unknown = none; not_pending = not_pending; logged_in = logged_in; room = room };
        at = inl refl;
        no_reply = reply-by known header SaleReconciliation (Some named) Begins named_is result;
      })
  type-at AcquirerSynchronisation no_room logged_in room result = fails known header AcquirerSynchronisation (Some named) UnavailableService named_is (inl (of-till logged_in, refl)) result
  type-at AcquirerReconciliation true logged_in room result =
      fails known header AcquirerReconciliation (Some named) UnavailableService named_is (inr (record { of_till = of-till logged_in; served = refl }, room)) result
  type-at AcquirerReconciliation false logged_in room result =
      day-at (record { unknown = none; not_pending = not_pending; logged_in = logged_in; room = room }) named.terminal.standing (is_queue_full known (Some named)) refl refl result
  type-at PreviousReconciliation no_room logged_in room result = fails known header PreviousReconciliation (Some named) UnavailableService named_is (inl (of-till logged_in, refl)) result

  new-at : (period : Period) (out : Bool) → is_logged_out known.core header.sale header.poi ≡ out
      → step_result known header (requests.Reconciliation period) (Some named) ≡ result_of_new period named.terminal.standing out (lacks_room known.setup.slots known.kept known.core) (is_queue_full known (Some named))
      → BeginsOrIsReplied known header period (Some named)
  new-at period true logged result = fails known header period (Some named) LoggedOut named_is (new, logged) result
  new-at period false logged result = type-at period (lacks_room known.setup.slots known.kept known.core) logged refl result

replied-at : (known : Known) (header : Header) (period : Period) (named : Option NamedTerminal) → named_terminal known.core header.poi ≡ named → found_for known.kept header ≡ None → BeginsOrIsReplied known header period named
replied-at known header period named named_is none = by-again (is_pending_again known header (requests.Reconciliation period) named) refl
  where
    by-named : (there : Option NamedTerminal) → named_terminal known.core header.poi ≡ there → is_pending_key known.core header there ≡ false → BeginsOrIsReplied known header period there
    by-named None there_is not_pending =
        fails known header period None UnavailableDevice there_is (inl (record { unknown = none; not_pending = not_pending; unnamed = refl })) (not-pending-result known header (requests.Reconciliation period) None none not_pending)
    by-named (Some there) there_is not_pending =
        new-at known header there there_is none not_pending period (is_logged_out known.core header.sale header.poi) refl (result-new known header period there none not_pending)

    by-key : is_pending_again known header (requests.Reconciliation period) named ≡ false → (pending : Bool) → is_pending_key known.core header named ≡ pending → BeginsOrIsReplied known header period named
    by-key other true pending =
        fails known header period named NotAllowed named_is (inr (record { unknown = none; pending = pending; other = other })) (pending-otherwise-result known header (requests.Reconciliation period) named none pending other)
    by-key other false not_pending = by-named named named_is not_pending

    by-again : (again : Bool) → is_pending_again known header (requests.Reconciliation period) named ≡ again → BeginsOrIsReplied known header period named
    by-again true again = fails known header period named InProgress named_is (record { unknown = none; again = again }) (pending-again-result known header (requests.Reconciliation period) named none again)
    by-again false other = by-key other (is_pending_key known.core header named) refl

-- a Reconciliation that is on record is finished
closed-finished : (kept : List Record) (period : Period) (found : Found) → has_same_content kept (requests.Reconciliation period) found ≡ true → result_body_of found ≢ None
closed-finished kept period (Entry entry) same none = cc
closed-finished kept period (Closed closed) same none = cc

on-record : (known : Known) (header : Header) (period : Period) (found : Found) (same : Bool) (body : Option ResultBody) → found_for known.kept header ≡ Some found
    → has_same_content known.kept (requests.Reconciliation period) found ≡ same → result_body_of found ≡ body → BeginsOrIsReplied known header period (named_terminal known.core header.poi)
on-record known header period found true (Some body) there same kept =
    let replied = each-on-record-is-replied known header (requests.Reconciliation period) (named_terminal known.core header.poi) found there in
    inr (inr (inl (record { found = found; on_record = there; same = same; body = body; kept = kept; replied = replied.finished same body kept })))
on-record known header period found true None there same kept = absurd (closed-finished known.kept period found same kept)
on-record known header period found false body there other kept =
    let replied = each-on-record-is-replied known header (requests.Reconciliation period) (named_terminal known.core header.poi) found there in
    inr (inr (inr (record { condition = NotAllowed; cause = inl (record { found = found; on_record = there; other = other }); replied = replied.other_content other })))

pub each-reconciliation-replied : EachReconciliationIsReplied
each-reconciliation-replied known header period = by-found (found_for known.kept header) refl
  where
    by-found : (found : Option Found) → found_for known.kept header ≡ found → BeginsOrIsReplied known header period (named_terminal known.core header.poi)
    by-found None none = replied-at known header period (named_terminal known.core header.poi) refl none
    by-found (Some found) there = on-record known header period found _ _ there refl refl

pub each-day-failure-has-cause : EachDayFailureHasCause
each-day-failure-has-cause known header period condition replied = by-case (each-reconciliation-replied known header period)
  where
    by-case : BeginsOrIsReplied known header period (named_terminal known.core header.poi) → RefusesReconciliation known header period (named_terminal known.core header.poi) condition
    by-case (inl begins) = let none = begins.no_reply in absurd cc
    by-case (inr (inl waits)) = let none = waits.no_reply in absurd cc
    by-case (inr (inr (inl again))) = let kept = again.replied in absurd cc
    by-case (inr (inr (inr refused))) =
        subst (RefusesReconciliation known header period (named_terminal known.core header.poi)) (same-condition header refused.condition condition (sym refused.replied ∙ replied)) refused.cause

-- ---- each cause is replied

-- the reply at the terminal that is named, on a new key that doesn't wait and isn't that of an end of day that is served, where the steps ask this
reply-where : (known : Known) (header : Header) (period : Period) (named : NamedTerminal) → named_terminal known.core header.poi ≡ Some named → found_for known.kept header ≡ None → is_pending_key known.core header (Some named) ≡ false
    → (out no_room full : Bool) (standing : Standing) → is_logged_out known.core header.sale header.poi ≡ out → lacks_room known.setup.slots known.kept known.core ≡ no_room → is_queue_full known (Some named) ≡ full
    → named.terminal.standing ≡ standing → request_reply known header (requests.Reconciliation period) ≡ reply_of_result known.kept header (result_of_new period standing out no_room full)
reply-where known header period named named_is none not_pending out no_room full standing o r f s =
    reply-by known header period (Some named) (result_of_new period standing out no_room full) named_is
    (result-new known header period named none not_pending
    ∙ (ap (λ (b : Bool). result_of_new period named.terminal.standing b (lacks_room known.setup.slots known.kept known.core) (is_queue_full known (Some named))) o
    ∙ (ap (λ (b : Bool). result_of_new period named.terminal.standing out b (is_queue_full known (Some named))) r
    ∙ (ap (λ (b : Bool). result_of_new period named.terminal.standing out no_room b) f ∙ ap (λ (of_it : Standing). result_of_new period of_it out no_room full) s))))

-- so an end of day that may begin is replied by the standing, and whether as many wait for the terminal as may
day-where : (known : Known) (header : Header) (period : Period) (asks : AsksTerminal known header period (named_terminal known.core header.poi)) (standing : Standing) (full : Bool) → asks.terminal.terminal.standing ≡ standing
    → is_queue_full known (named_terminal known.core header.poi) ≡ full
    → request_reply known header (requests.Reconciliation period) ≡ reply_of_result known.kept header (result_of_new AcquirerReconciliation standing false false full)
day-where known header period asks standing full is is_full =
    reply-where known header period asks.terminal asks.is_named asks.may.unknown asks.may.not_pending false false full standing asks.may.logged_in asks.may.room (sym (ap (is_queue_full known) asks.is_named) ∙ is_full) is
    ∙ ap (λ (p : Period). reply_of_result known.kept header (result_of_new p standing false false full)) asks.day

-- at the terminal that is named, which is new
new-where : (known : Known) (header : Header) (period : Period) (new : IsNewAtTerminal known header (named_terminal known.core header.poi)) (out no_room : Bool) → is_logged_out known.core header.sale header.poi ≡ out
    → lacks_room known.setup.slots known.kept known.core ≡ no_room
    → request_reply known header (requests.Reconciliation period)
    ≡ reply_of_result known.kept header (result_of_new period (IsNewAtTerminal.terminal new).terminal.standing out no_room (is_queue_full known (Some (IsNewAtTerminal.terminal new))))
new-where known header period new out no_room o r =
    reply-where known header period new.terminal new.is_named new.unknown (subst (λ (n : Option NamedTerminal). is_pending_key known.core header n ≡ false) new.is_named new.not_pending) out no_room
    (is_queue_full known (Some new.terminal)) new.terminal.terminal.standing o r refl refl

out-reply : (standing : Standing) (full : Bool) → is_out_of_service standing ≡ true → result_of_new AcquirerReconciliation standing false false full ≡ Fails UnavailableDevice
out-reply (Unlinked due) full out = refl
out-reply Registering full out = refl
out-reply Enquiring full out = refl
out-reply (Ready last) full out = absurd cc
out-reply (Serving service last) full out = absurd cc
out-reply (Aside before reported) full out = refl

pub each-day-cause-is-replied : EachDayCauseIsReplied
each-day-cause-is-replied known header period Aborted cause = absurd cause
each-day-cause-is-replied known header period Busy (finds, full) = day-where known header period finds.asks (Serving finds.service finds.last) true finds.serves full
each-day-cause-is-replied known header period Cancel cause = absurd cause
each-day-cause-is-replied known header period InProgress cause =
    reply-by known header period (named_terminal known.core header.poi) (Fails InProgress) refl (pending-again-result known header (requests.Reconciliation period) (named_terminal known.core header.poi) cause.unknown cause.again)
each-day-cause-is-replied known header period InsertedCard cause = absurd cause
each-day-cause-is-replied known header period InvalidCard cause = absurd cause
each-day-cause-is-replied known header period LoggedOut (new, out) = new-where known header period new true (lacks_room known.setup.slots known.kept known.core) out refl
each-day-cause-is-replied known header period MessageFormat cause = absurd cause
each-day-cause-is-replied known header period NotAllowed (inl otherwise) =
    let replied = each-on-record-is-replied known header (requests.Reconciliation period) (named_terminal known.core header.poi) otherwise.found otherwise.on_record in
    replied.other_content otherwise.other
each-day-cause-is-replied known header period NotAllowed (inr cause) =
    reply-by known header period (named_terminal known.core header.poi) (Fails NotAllowed) refl
    (pending-otherwise-result known header (requests.Reconciliation period) (named_terminal known.core header.poi) cause.unknown cause.pending cause.other)
each-day-cause-is-replied known header period NotFound cause = absurd cause
each-day-cause-is-replied known header period Refusal cause = absurd cause
each-day-cause-is-replied known header period UnavailableDevice (inl nowhere) =
    reply-by known header period None (Fails UnavailableDevice) nowhere.unnamed
    (not-pending-result known header (requests.Reconciliation period) None nowhere.unknown (subst (λ (n : Option NamedTerminal). is_pending_key known.core header n ≡ false) nowhere.unnamed nowhere.not_pending))
each-day-cause-is-replied known header period UnavailableDevice (inr finds) =
    day-where known header period finds.asks finds.asks.terminal.terminal.standing (is_queue_full known (named_terminal known.core header.poi)) refl refl
    ∙ ap (reply_of_result known.kept header) (out-reply finds.asks.terminal.terminal.standing (is_queue_full known (named_terminal known.core header.poi)) finds.out)
each-day-cause-is-replied known header period UnavailableService (inl (of_till, unserved)) =
    new-where known header period of_till.new false (lacks_room known.setup.slots known.kept known.core) of_till.logged_in refl
    ∙ ap (λ (b : Bool). reply_of_result known.kept header (if b then Fails UnavailableService else (if lacks_room known.setup.slots known.kept known.core then Fails UnavailableService else (if is_sale_period period then Begins else (if is_out_of_service of_till.new.terminal.terminal.standing then Fails UnavailableDevice else (if is_ready_standing of_till.new.terminal.terminal.standing then Begins else result_at_queue known (Some of_till.new.terminal))))))) unserved
each-day-cause-is-replied known header period UnavailableService (inr (of_type, no_room)) =
    new-where known header period of_type.of_till.new false true of_type.of_till.logged_in no_room
    ∙ ap (λ (b : Bool). reply_of_result known.kept header (if b then Fails UnavailableService else Fails UnavailableService)) of_type.served

-- ---- what begins

pub only-may-begins : OnlyMayBegins
only-may-begins tills known till header period some = by-case (each-reconciliation-replied known header period)
  where
    named : Option NamedTerminal
    named = named_terminal known.core header.poi

    by-named : (of_it : Option NamedTerminal) (result : StepResult) → items_of_result till header (requests.Reconciliation period) of_it result ≢ [] → reply_of_result known.kept header result ≡ None
    by-named None result some = absurd (some refl)
    by-named (Some terminal) KeptReply some = absurd (some refl)
    by-named (Some terminal) (Fails condition) some = absurd (some refl)
    by-named (Some terminal) Begins some = refl
    by-named (Some terminal) Waits some = refl

    some_items : service_items known till header (requests.Reconciliation period) named ≢ []
    some_items none =
        some (by-where (λ (row : Row). row.items ≡ []) known (asked_row known till (Request header (requests.Reconciliation period))) (is_connected tills till) refl (λ there. none))

    none : request_reply known header (requests.Reconciliation period) ≡ None
    none = by-named named (step_result known header (requests.Reconciliation period) named) some_items

    by-case : BeginsOrIsReplied known header period named → ReconciliationIsBegun known header period named ⊎ ReconciliationWaits known header period named
    by-case (inl begins) = inl begins
    by-case (inr (inl waits)) = inr waits
    by-case (inr (inr (inl again))) = let e = sym none ∙ again.replied in absurd cc
    by-case (inr (inr (inr refused))) = let e = sym none ∙ refused.replied in absurd cc
