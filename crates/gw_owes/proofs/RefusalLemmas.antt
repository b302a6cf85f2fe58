-- Why a reversal is refused, that each reason has its condition, and that a reversal begins where no step refuses it.
use Rattle.std.proofs.Common.{◌≡◌, ◌⊎◌, ℕ, refl, sym, ◌∙◌, ap, subst, inl, inr, Bool, true, false}
use Rattle.std.proofs.lemmas.Bool.{and_from, eq-eqb, not-true, not_from_false, not_from_true}
use Rattle.std.proofs.lemmas.Option.{same_Some}
use Rattle.std.specs.Prelude.{is_some, not, ◌&&◌, if◌then◌else◌, List, Option, Some, None}
use Rattle.gw_base.specs.declared.condition.Condition.{Condition}
use Rattle.gw_base.specs.declared.condition.Condition.TheVariants.{Aborted, Busy, Cancel, InProgress, InsertedCard, InvalidCard, LoggedOut, MessageFormat, NotAllowed, NotFound, Refusal, UnavailableDevice, UnavailableService}
use Rattle.sale_values.specs.declared.header.Header.{Header}
use Rattle.sale_values.specs.declared.request.ReversalAsk.{ReversalAsk}
use Rattle.sale_values.specs.declared.request.SaleRequest.TheVariants as requests
use Rattle.sale_reply.specs.declared.reply.Told.{Told as ResultBody}
use Rattle.sale_reply.specs.declared.reply.Verdict.{Verdict}
use Rattle.jrn_record.specs.declared.records.Outcome.{Outcome as TheOutcome}
use Rattle.jrn_record.specs.declared.records.Record.{Record}
use Rattle.gw_ledger.specs.declared.entry.Entry.{Entry as TheEntry}
use Rattle.gw_ledger.specs.declared.entry.Found.{Found}
use Rattle.gw_ledger.specs.Accounts.{is_settled}
use Rattle.gw_ledger.specs.Slots.{is_reversible, is_reversed}
use Rattle.xlate.specs.Reply.{result_body_of}
use Rattle.gw_owes.specs.declared.terminal.Standing.{Standing}
use Rattle.gw_owes.specs.declared.terminal.Standing.TheVariants.{Unlinked, Registering, Enquiring, Ready, Serving, Aside}
use Rattle.gw_owes.specs.Content.{has_same_content, is_same_amount}
use Rattle.gw_owes.specs.Diagnosis.{NamedTerminal, named_terminal}
use Rattle.gw_owes.specs.KeptReplies.{found_for}
use Rattle.gw_owes.specs.PaymentLaws.{IsReversible}
use Rattle.gw_owes.specs.Replies.{failure, failure_reply}
use Rattle.gw_owes.specs.Requests.{request_reply}
use Rattle.gw_owes.specs.ReversalLaws.{IsNewAtTerminal, IsNewOfTill, NamesIrreversible, NamesReversible, ServesAnother, IsReadyThere, RefusesReversal, ReversalBegins, ReversalWaits, ReversalIsAgain, ReversalIsRefused, EachReversalBeginsOrIsReplied, EachCauseIsReplied, EachFailureHasItsCause, UnnamedIsNotFound, IrreversibleIsNotAllowed, ReversibleBegins}
use Rattle.gw_owes.specs.Reversals.{original_of, is_whole_of, may_be_reversed, is_irreversible}
use Rattle.gw_owes.specs.Row.{Known}
use Rattle.gw_owes.specs.Sessions.{is_logged_out}
use Rattle.gw_owes.specs.Steps.{StepResult, Fails, Begins, Waits, is_used_up, lacks_room, is_out_of_service, is_ready_standing, is_unavailable, is_ready, step_result, reply_of_result}
use Rattle.gw_owes.specs.Waits.{is_pending_again, is_pending_key, is_queue_full}
use Rattle.gw_owes.proofs.ReversalLemmas.{names-original}
use Rattle.gw_owes.proofs.StepLemmas.{each-on-record-is-replied, not-pending-result, pending-again-result, pending-otherwise-result}

-- ---- what may be reversed

same-amount : (asked : Option ℕ) (approved : ℕ) → ((amount : ℕ) → asked ≡ Some amount → amount ≡ approved) → is_same_amount asked approved ≡ true
same-amount None approved whole = refl
same-amount (Some amount) approved whole = eq-eqb amount approved (whole amount refl)

may-reverse : (kept : List Record) (reversal : ReversalAsk) (original : TheEntry) (approval : TheOutcome) → IsReversible kept reversal original approval → may_be_reversed kept reversal original ≡ true
may-reverse kept reversal original approval reversible =
    and_from (is_reversible original.intent.what && is_whole_of reversal.amount original.result) (not (is_reversed kept original.slot) && not (is_settled kept original.slot))
    (and_from (is_reversible original.intent.what) (is_whole_of reversal.amount original.result) (ap is_reversible reversible.what)
    (ap (is_whole_of reversal.amount) reversible.result ∙ and_from approval.approved (is_same_amount reversal.amount approval.amount) reversible.approved (same-amount reversal.amount approval.amount reversible.whole)))
    (and_from (not (is_reversed kept original.slot)) (not (is_settled kept original.slot)) (not_from_false (is_reversed kept original.slot) reversible.not_reversed) (not_from_false (is_settled kept original.slot) reversible.not_settled))

apart : false ≡ true → ⊥
apart e = cc

-- by what the text names
irreversible-by : (known : Known) (header : Header) (reversal : ReversalAsk) (found : Option TheEntry) → original_of known.kept header.poi reversal ≡ found → is_irreversible known.kept reversal found ≡ true → NamesIrreversible known header reversal
irreversible-by known header reversal None is irreversible = absurd cc
irreversible-by known header reversal (Some original) is irreversible = record {
  original = original;
  named = is;
  irreversible = λ approval reversible. apart (sym (not-true (may_be_reversed known.kept reversal original) irreversible) ∙ may-reverse known.kept reversal original approval reversible);
}

-- ---- the steps of a new key

-- the result at a terminal that is configured, by the steps that are left, and whether as many requests wait for it as may
abbrev result-by : Bool → Bool → Bool → Bool → Bool → Bool → Bool → StepResult
result-by unnamed irreversible used_up no_room unavailable ready full =
    if unnamed then Fails NotFound else (if irreversible then Fails NotAllowed else (if used_up then Fails UnavailableService else (if no_room then Fails UnavailableService else
    (if unavailable then Fails UnavailableDevice else (if ready then Begins else (if full then Fails Busy else Waits))))))

-- the same, whether the SaleID is logged out there or not
abbrev result-where : Bool → Bool → Bool → Bool → Bool → Bool → Bool → Bool → StepResult
result-where logged_out unnamed irreversible used_up no_room unavailable ready full = if logged_out then Fails LoggedOut else result-by unnamed irreversible used_up no_room unavailable ready full

-- the same, whether a terminal is named or not
abbrev result-from : Bool → Bool → Bool → Bool → Bool → Bool → Bool → Bool → Bool → StepResult
result-from unconfigured logged_out unnamed irreversible used_up no_room unavailable ready full =
    if unconfigured then Fails UnavailableDevice else result-where logged_out unnamed irreversible used_up no_room unavailable ready full

new-result : (known : Known) (header : Header) (reversal : ReversalAsk) (named : NamedTerminal) → found_for known.kept header ≡ None → is_pending_key known.core header (Some named) ≡ false → is_logged_out known.core header.sale header.poi ≡ false
    → step_result known header (requests.Reversal reversal) (Some named)
    ≡ result-by (not (is_some (original_of known.kept header.poi reversal))) (is_irreversible known.kept reversal (original_of known.kept header.poi reversal)) (is_used_up known.kept header.poi (Some named)) (lacks_room known.setup.slots known.kept known.core) (is_unavailable (Some named)) (is_ready (Some named)) (is_queue_full known (Some named))
new-result known header reversal named none not_pending logged_in =
    not-pending-result known header (requests.Reversal reversal) (Some named) none not_pending
    ∙ ap (λ (out : Bool). result-where out (not (is_some (original_of known.kept header.poi reversal))) (is_irreversible known.kept reversal (original_of known.kept header.poi reversal)) (is_used_up known.kept header.poi (Some named))
    (lacks_room known.setup.slots known.kept known.core) (is_unavailable (Some named)) (is_ready (Some named)) (is_queue_full known (Some named))) logged_in

-- the reply, by the terminal that is named and the result
reply-by : (known : Known) (header : Header) (reversal : ReversalAsk) (named : Option NamedTerminal) (result : StepResult) → named_terminal known.core header.poi ≡ named → step_result known header (requests.Reversal reversal) named ≡ result
    → request_reply known header (requests.Reversal reversal) ≡ reply_of_result known.kept header result
reply-by known header reversal named result named_is is =
    ap (λ (found : Option NamedTerminal). reply_of_result known.kept header (step_result known header (requests.Reversal reversal) found)) named_is ∙ ap (reply_of_result known.kept header) is

-- ---- a new key

-- a reversal begins, waits, is a repeat, or is refused
abbrev BeginsOrIsReplied : Known → Header → ReversalAsk → Option NamedTerminal → Type 0
BeginsOrIsReplied known header reversal named =
    ReversalBegins known header reversal named ⊎ (ReversalWaits known header reversal named ⊎ (ReversalIsAgain known header reversal ⊎ ReversalIsRefused known header reversal named))

refused : (known : Known) (header : Header) (reversal : ReversalAsk) (named : Option NamedTerminal) (condition : Condition) → named_terminal known.core header.poi ≡ named → RefusesReversal known header reversal named condition
    → step_result known header (requests.Reversal reversal) named ≡ Fails condition → BeginsOrIsReplied known header reversal named
refused known header reversal named condition named_is cause is =
    inr (inr (inr (record { condition = condition; cause = cause; replied = reply-by known header reversal named (Fails condition) named_is is })))

unnamed-none : (found : Option TheEntry) → not (is_some found) ≡ true → found ≡ None
unnamed-none None unnamed = refl
unnamed-none (Some original) unnamed = absurd cc

-- a terminal that is ready has its last trace number
ready-there : (named : NamedTerminal) (standing : Standing) → named.terminal.standing ≡ standing → is_ready_standing standing ≡ true → IsReadyThere (Some named)
ready-there named (Unlinked due) is ready = absurd cc
ready-there named Registering is ready = absurd cc
ready-there named Enquiring is ready = absurd cc
ready-there named (Ready last) is ready = record { terminal = named; is_named = refl; last = last; ready = is }
ready-there named (Serving service last) is ready = absurd cc
ready-there named (Aside before reported) is ready = absurd cc

-- a terminal that is in service and isn't ready serves another
serves-another : (named : NamedTerminal) (standing : Standing) → named.terminal.standing ≡ standing → is_out_of_service standing ≡ false → is_ready_standing standing ≡ false → ServesAnother (Some named)
serves-another named (Unlinked due) is out ready = absurd cc
serves-another named Registering is out ready = absurd cc
serves-another named Enquiring is out ready = absurd cc
serves-another named (Ready last) is out ready = absurd cc
serves-another named (Serving service last) is out ready = record { terminal = named; is_named = refl; service = service; last = last; serves = is }
serves-another named (Aside before reported) is out ready = absurd cc

-- its key is new, and its POIID names this terminal
new-at : (known : Known) (header : Header) (named : NamedTerminal) → found_for known.kept header ≡ None → is_pending_key known.core header (Some named) ≡ false → IsNewAtTerminal known header (Some named)
new-at known header named none not_pending = record { unknown = none; not_pending = not_pending; terminal = named; is_named = refl }

-- and its SaleID isn't logged out there
logged-in-at : (known : Known) (header : Header) (named : NamedTerminal) → found_for known.kept header ≡ None → is_pending_key known.core header (Some named) ≡ false → is_logged_out known.core header.sale header.poi ≡ false → IsNewOfTill known header (Some named)
logged-in-at known header named none not_pending logged_in = record { new = new-at known header named none not_pending; logged_in = logged_in }

-- and its text names an entry that may be reversed
names-reversible : (known : Known) (header : Header) (reversal : ReversalAsk) (named : NamedTerminal) → found_for known.kept header ≡ None → is_pending_key known.core header (Some named) ≡ false → is_logged_out known.core header.sale header.poi ≡ false
    → not (is_some (original_of known.kept header.poi reversal)) ≡ false
    → is_irreversible known.kept reversal (original_of known.kept header.poi reversal) ≡ false → NamesReversible known header reversal (Some named)
names-reversible known header reversal named none not_pending logged_in names may =
    let original = names-original known.kept header.poi reversal names may in
    record { new = logged-in-at known header named none not_pending logged_in; original = original.original; original_is = original.named; approval = original.approval; reversible = original.reversible }

replied-new : (known : Known) (header : Header) (reversal : ReversalAsk) (named : NamedTerminal) → named_terminal known.core header.poi ≡ Some named → found_for known.kept header ≡ None → is_pending_key known.core header (Some named) ≡ false → is_logged_out known.core header.sale header.poi ≡ false
    → (unnamed irreversible used_up no_room unavailable ready full : Bool) → not (is_some (original_of known.kept header.poi reversal)) ≡ unnamed → is_irreversible known.kept reversal (original_of known.kept header.poi reversal) ≡ irreversible
    → is_used_up known.kept header.poi (Some named) ≡ used_up → lacks_room known.setup.slots known.kept known.core ≡ no_room → is_unavailable (Some named) ≡ unavailable → is_ready (Some named) ≡ ready → is_queue_full known (Some named) ≡ full
    → step_result known header (requests.Reversal reversal) (Some named) ≡ result-by unnamed irreversible used_up no_room unavailable ready full → BeginsOrIsReplied known header reversal (Some named)
replied-new known header reversal named named_is none not_pending logged_in true irreversible used_up no_room unavailable ready full names may number room out is_ready_at is_full result =
    refused known header reversal (Some named) NotFound named_is (logged-in-at known header named none not_pending logged_in, unnamed-none (original_of known.kept header.poi reversal) names) result
replied-new known header reversal named named_is none not_pending logged_in false true used_up no_room unavailable ready full names may number room out is_ready_at is_full result =
    refused known header reversal (Some named) NotAllowed named_is (inr (inr (logged-in-at known header named none not_pending logged_in, irreversible-by known header reversal (original_of known.kept header.poi reversal) refl may))) result
replied-new known header reversal named named_is none not_pending logged_in false false true no_room unavailable ready full names may number room out is_ready_at is_full result =
    refused known header reversal (Some named) UnavailableService named_is (names-reversible known header reversal named none not_pending logged_in names may, inl number) result
replied-new known header reversal named named_is none not_pending logged_in false false false true unavailable ready full names may number room out is_ready_at is_full result =
    refused known header reversal (Some named) UnavailableService named_is (names-reversible known header reversal named none not_pending logged_in names may, inr room) result
replied-new known header reversal named named_is none not_pending logged_in false false false false true ready full names may number room out is_ready_at is_full result =
    refused known header reversal (Some named) UnavailableDevice named_is
    (inr (record { names = names-reversible known header reversal named none not_pending logged_in names may; number = number; room = room }, record { terminal = named; is_named = refl; out = out })) result
replied-new known header reversal named named_is none not_pending logged_in false false false false false false true names may number room out is_ready_at is_full result =
    refused known header reversal (Some named) Busy named_is
    (record { names = names-reversible known header reversal named none not_pending logged_in names may; number = number; room = room }, (serves-another named named.terminal.standing refl out is_ready_at, is_full)) result
replied-new known header reversal named named_is none not_pending logged_in false false false false false false false names may number room out is_ready_at is_full result =
    inr (inl (record {
      passes = record { names = names-reversible known header reversal named none not_pending logged_in names may; number = number; room = room };
      serving = serves-another named named.terminal.standing refl out is_ready_at;
      not_full = is_full;
      waits = result;
      no_reply = reply-by known header reversal (Some named) Waits named_is result;
    }))
replied-new known header reversal named named_is none not_pending logged_in false false false false false true full names may number room out is_ready_at is_full result =
    inl (record {
      passes = record { names = names-reversible known header reversal named none not_pending logged_in names may; number = number; room = room };
      there = ready-there named named.terminal.standing refl is_ready_at;
      begins = result;
      no_reply = reply-by known header reversal (Some named) Begins named_is result;
    })

-- by the terminal that the POIID names
replied-at : (known : Known) (header : Header) (reversal : ReversalAsk) (named : Option NamedTerminal) → named_terminal known.core header.poi ≡ named → found_for known.kept header ≡ None → BeginsOrIsReplied known header reversal named
replied-at known header reversal named named_is none = by-again (is_pending_again known header (requests.Reversal reversal) named) refl
  where
    by-session : (there : NamedTerminal) → named_terminal known.core header.poi ≡ Some there → is_pending_key known.core header (Some there) ≡ false → (out : Bool) → is_logged_out known.core header.sale header.poi ≡ out
        → BeginsOrIsReplied known header reversal (Some there)
    by-session there there_is not_pending true out =
        refused known header reversal (Some there) LoggedOut there_is (new-at known header there none not_pending, out)
        (not-pending-result known header (requests.Reversal reversal) (Some there) none not_pending
        ∙ ap (λ (b : Bool). result-where b (not (is_some (original_of known.kept header.poi reversal))) (is_irreversible known.kept reversal (original_of known.kept header.poi reversal)) (is_used_up known.kept header.poi (Some there))
        (lacks_room known.setup.slots known.kept known.core) (is_unavailable (Some there)) (is_ready (Some there)) (is_queue_full known (Some there))) out)
    by-session there there_is not_pending false logged_in =
        replied-new known header reversal there there_is none not_pending logged_in _ _ _ _ _ _ _ refl refl refl refl refl refl refl (new-result known header reversal there none not_pending logged_in)

    by-named : (there : Option NamedTerminal) → named_terminal known.core header.poi ≡ there → is_pending_key known.core header there ≡ false → BeginsOrIsReplied known header reversal there
    by-named None there_is not_pending =
        refused known header reversal None UnavailableDevice there_is (inl (record { unknown = none; not_pending = not_pending; unnamed = refl })) (not-pending-result known header (requests.Reversal reversal) None none not_pending)
    by-named (Some there) there_is not_pending = by-session there there_is not_pending (is_logged_out known.core header.sale header.poi) refl

    by-key : is_pending_again known header (requests.Reversal reversal) named ≡ false → (pending : Bool) → is_pending_key known.core header named ≡ pending → BeginsOrIsReplied known header reversal named
    by-key other true pending =
        refused known header reversal named NotAllowed named_is (inr (inl (record { unknown = none; pending = pending; other = other }))) (pending-otherwise-result known header (requests.Reversal reversal) named none pending other)
    by-key other false not_pending = by-named named named_is not_pending

    by-again : (again : Bool) → is_pending_again known header (requests.Reversal reversal) named ≡ again → BeginsOrIsReplied known header reversal named
    by-again true again =
        refused known header reversal named InProgress named_is (inr (record { unknown = none; again = again })) (pending-again-result known header (requests.Reversal reversal) named none again)
    by-again false other = by-key other (is_pending_key known.core header named) refl

-- ---- a key on record

replied-on-record : (known : Known) (header : Header) (reversal : ReversalAsk) (found : Found) (same : Bool) (body : Option ResultBody) → found_for known.kept header ≡ Some found
    → has_same_content known.kept (requests.Reversal reversal) found ≡ same → result_body_of found ≡ body → BeginsOrIsReplied known header reversal (named_terminal known.core header.poi)
replied-on-record known header reversal found true (Some body) there same kept =
    let replied = each-on-record-is-replied known header (requests.Reversal reversal) (named_terminal known.core header.poi) found there in
    inr (inr (inl (record { found = found; on_record = there; same = same; body = body; kept = kept; replied = replied.finished same body kept })))
replied-on-record known header reversal found true None there same kept =
    let replied = each-on-record-is-replied known header (requests.Reversal reversal) (named_terminal known.core header.poi) found there in
    inr (inr (inr (record { condition = InProgress; cause = inl (record { found = found; on_record = there; same = same; is_open = kept }); replied = replied.in_progress same kept })))
replied-on-record known header reversal found false body there other kept =
    let replied = each-on-record-is-replied known header (requests.Reversal reversal) (named_terminal known.core header.poi) found there in
    inr (inr (inr (record { condition = NotAllowed; cause = inl (record { found = found; on_record = there; other = other }); replied = replied.other_content other })))

-- by what the records have under the key
replied-by : (known : Known) (header : Header) (reversal : ReversalAsk) (found : Option Found) → found_for known.kept header ≡ found → BeginsOrIsReplied known header reversal (named_terminal known.core header.poi)
replied-by known header reversal None none = replied-at known header reversal (named_terminal known.core header.poi) refl none
replied-by known header reversal (Some found) there = replied-on-record known header reversal found _ _ there refl refl

pub each-reversal-is-replied : EachReversalBeginsOrIsReplied
each-reversal-is-replied known header reversal = replied-by known header reversal (found_for known.kept header) refl

-- ---- each reason

pub unnamed-is-not-found : UnnamedIsNotFound
unnamed-is-not-found known header reversal named named_is none not_pending logged_in unnamed =
    reply-by known header reversal (Some named) (Fails NotFound) named_is
    (new-result known header reversal named none not_pending logged_in
    ∙ ap (λ (found : Option TheEntry). result-by (not (is_some found)) (is_irreversible known.kept reversal found) (is_used_up known.kept header.poi (Some named)) (lacks_room known.setup.slots known.kept known.core) (is_unavailable (Some named)) (is_ready (Some named)) (is_queue_full known (Some named))) unnamed)

-- by whether the entry that is named may be reversed
may-by : (known : Known) (header : Header) (reversal : ReversalAsk) (original : TheEntry) (may : Bool) → original_of known.kept header.poi reversal ≡ Some original → may_be_reversed known.kept reversal original ≡ may
    → ((approval : TheOutcome) → IsReversible known.kept reversal original approval → ⊥) → may ≡ false
may-by known header reversal original false is may irreversible = refl
may-by known header reversal original true is may irreversible =
    let has = names-original known.kept header.poi reversal (ap (λ (found : Option TheEntry). not (is_some found)) is)
    (ap (is_irreversible known.kept reversal) is ∙ not_from_true (may_be_reversed known.kept reversal original) may) in
    absurd (irreversible has.approval (subst (λ (entry : TheEntry). IsReversible known.kept reversal entry has.approval) (some-same has.original original (sym has.named ∙ is)) has.reversible))
  where
    some-same : (one other : TheEntry) → Some one ≡ Some other → one ≡ other
    some-same one other same = cc

pub irreversible-is-not-allowed : IrreversibleIsNotAllowed
irreversible-is-not-allowed known header reversal named named_is none not_pending logged_in names =
    reply-by known header reversal (Some named) (Fails NotAllowed) named_is
    (new-result known header reversal named none not_pending logged_in
    ∙ ap (λ (found : Option TheEntry). result-by (not (is_some found)) (is_irreversible known.kept reversal found) (is_used_up known.kept header.poi (Some named)) (lacks_room known.setup.slots known.kept known.core) (is_unavailable (Some named)) (is_ready (Some named)) (is_queue_full known (Some named))) names.named
    ∙ ap (λ (may : Bool). result-by false (not may) (is_used_up known.kept header.poi (Some named)) (lacks_room known.setup.slots known.kept known.core) (is_unavailable (Some named)) (is_ready (Some named)) (is_queue_full known (Some named)))
    (may-by known header reversal names.original (may_be_reversed known.kept reversal names.original) names.named refl names.irreversible))

pub reversible-begins : ReversibleBegins
reversible-begins known header reversal named last original approval named_is ready none not_pending logged_in is reversible number room = record {
  passes = record {
    names = record { new = logged-in-at known header named none not_pending logged_in; original = original; original_is = is; approval = approval; reversible = reversible };
    number = number;
    room = room;
  };
  there = record { terminal = named; is_named = refl; last = last; ready = ready };
  begins = begins;
  no_reply = reply-by known header reversal (Some named) Begins named_is begins;
}
  where
    begins : step_result known header (requests.Reversal reversal) (Some named) ≡ Begins
    begins =
        new-result known header reversal named none not_pending logged_in
        ∙ ap (λ (found : Option TheEntry). result-by (not (is_some found)) (is_irreversible known.kept reversal found) (is_used_up known.kept header.poi (Some named)) (lacks_room known.setup.slots known.kept known.core) (is_unavailable (Some named)) (is_ready (Some named)) (is_queue_full known (Some named))) is
        ∙ ap (λ (may : Bool). result-by false (not may) (is_used_up known.kept header.poi (Some named)) (lacks_room known.setup.slots known.kept known.core) (is_unavailable (Some named)) (is_ready (Some named)) (is_queue_full known (Some named))) (may-reverse known.kept reversal original approval reversible)
        ∙ ap (λ (used_up : Bool). result-by false false used_up (lacks_room known.setup.slots known.kept known.core) (is_unavailable (Some named)) (is_ready (Some named)) (is_queue_full known (Some named))) number
        ∙ ap (λ (no_room : Bool). result-by false false false no_room (is_unavailable (Some named)) (is_ready (Some named)) (is_queue_full known (Some named))) room
        ∙ ap (λ (standing : Standing). result-by false false false false (is_out_of_service standing) (is_ready_standing standing) (is_queue_full known (Some named))) ready

-- ---- each cause is replied, and nothing else is

-- the reply to a reversal on a new key that doesn't wait and isn't that of the end of day that is served, where the steps ask this
reply-where : (known : Known) (header : Header) (reversal : ReversalAsk) (named : Option NamedTerminal) → named_terminal known.core header.poi ≡ named → found_for known.kept header ≡ None → is_pending_key known.core header named ≡ false
    → (unconfigured logged_out unnamed irreversible used_up no_room unavailable ready full : Bool) → not (is_some named) ≡ unconfigured → is_logged_out known.core header.sale header.poi ≡ logged_out → not (is_some (original_of known.kept header.poi reversal)) ≡ unnamed
    → is_irreversible known.kept reversal (original_of known.kept header.poi reversal) ≡ irreversible → is_used_up known.kept header.poi named ≡ used_up → lacks_room known.setup.slots known.kept known.core ≡ no_room
    → is_unavailable named ≡ unavailable → is_ready named ≡ ready → is_queue_full known named ≡ full
    → request_reply known header (requests.Reversal reversal) ≡ reply_of_result known.kept header (result-from unconfigured logged_out unnamed irreversible used_up no_room unavailable ready full)
reply-where known header reversal named named_is none not_pending unconfigured logged_out unnamed irreversible used_up no_room unavailable ready full u o n i d r v y f =
    reply-by known header reversal named (result-from unconfigured logged_out unnamed irreversible used_up no_room unavailable ready full) named_is
    (not-pending-result known header (requests.Reversal reversal) named none not_pending
    ∙ ap (λ (b : Bool). result-from b (is_logged_out known.core header.sale header.poi) (not (is_some (original_of known.kept header.poi reversal))) (is_irreversible known.kept reversal (original_of known.kept header.poi reversal)) (is_used_up known.kept header.poi named) (lacks_room known.setup.slots known.kept known.core) (is_unavailable named) (is_ready named) (is_queue_full known named)) u
    ∙ ap (λ (b : Bool). result-from unconfigured b (not (is_some (original_of known.kept header.poi reversal))) (is_irreversible known.kept reversal (original_of known.kept header.poi reversal)) (is_used_up known.kept header.poi named) (lacks_room known.setup.slots known.kept known.core) (is_unavailable named) (is_ready named) (is_queue_full known named)) o
    ∙ ap (λ (b : Bool). result-from unconfigured logged_out b (is_irreversible known.kept reversal (original_of known.kept header.poi reversal)) (is_used_up known.kept header.poi named) (lacks_room known.setup.slots known.kept known.core) (is_unavailable named) (is_ready named) (is_queue_full known named)) n
    ∙ ap (λ (b : Bool). result-from unconfigured logged_out unnamed b (is_used_up known.kept header.poi named) (lacks_room known.setup.slots known.kept known.core) (is_unavailable named) (is_ready named) (is_queue_full known named)) i
    ∙ ap (λ (b : Bool). result-from unconfigured logged_out unnamed irreversible b (lacks_room known.setup.slots known.kept known.core) (is_unavailable named) (is_ready named) (is_queue_full known named)) d
    ∙ ap (λ (b : Bool). result-from unconfigured logged_out unnamed irreversible used_up b (is_unavailable named) (is_ready named) (is_queue_full known named)) r
    ∙ ap (λ (b : Bool). result-from unconfigured logged_out unnamed irreversible used_up no_room b (is_ready named) (is_queue_full known named)) v
    ∙ ap (λ (b : Bool). result-from unconfigured logged_out unnamed irreversible used_up no_room unavailable b (is_queue_full known named)) y
    ∙ ap (λ (b : Bool). result-from unconfigured logged_out unnamed irreversible used_up no_room unavailable ready b) f)

-- what the steps ask of a reversal whose text names an entry of the terminal that may be reversed
record Passes (known : Known) (header : Header) (reversal : ReversalAsk) (named : Option NamedTerminal) : Type 0 where
  pub none : found_for known.kept header ≡ None
  pub not_pending : is_pending_key known.core header named ≡ false
  pub configured : not (is_some named) ≡ false
  pub logged_in : is_logged_out known.core header.sale header.poi ≡ false
  pub names : not (is_some (original_of known.kept header.poi reversal)) ≡ false
  pub may : is_irreversible known.kept reversal (original_of known.kept header.poi reversal) ≡ false

passes-names : (known : Known) (header : Header) (reversal : ReversalAsk) (named : Option NamedTerminal) → NamesReversible known header reversal named → Passes known header reversal named
passes-names known header reversal named names = record {
  none = names.new.new.unknown;
  not_pending = names.new.new.not_pending;
  configured = ap (λ (there : Option NamedTerminal). not (is_some there)) names.new.new.is_named;
  logged_in = names.new.logged_in;
  names = ap (λ (found : Option TheEntry). not (is_some found)) names.original_is;
  may = ap (is_irreversible known.kept reversal) names.original_is ∙ ap not (may-reverse known.kept reversal names.original names.approval names.reversible);
}

-- the key of a request that is new at a terminal doesn't wait there
not-pending-at : (known : Known) (header : Header) (named : Option NamedTerminal) (new : IsNewAtTerminal known header named) → is_pending_key known.core header (Some (IsNewAtTerminal.terminal new)) ≡ false
not-pending-at known header named new = sym (ap (is_pending_key known.core header) new.is_named) ∙ new.not_pending

-- the reply where the text names an entry that may be reversed, by what is left to ask
reply-passed : (known : Known) (header : Header) (reversal : ReversalAsk) (named : Option NamedTerminal) → named_terminal known.core header.poi ≡ named → NamesReversible known header reversal named
    → (used_up no_room unavailable ready full : Bool) → is_used_up known.kept header.poi named ≡ used_up → lacks_room known.setup.slots known.kept known.core ≡ no_room → is_unavailable named ≡ unavailable → is_ready named ≡ ready
    → is_queue_full known named ≡ full → request_reply known header (requests.Reversal reversal) ≡ reply_of_result known.kept header (result-by false false used_up no_room unavailable ready full)
reply-passed known header reversal named named_is names used_up no_room unavailable ready full d r v y f =
    let passes = passes-names known header reversal named names in
    reply-where known header reversal named named_is passes.none passes.not_pending false false false false used_up no_room unavailable ready full passes.configured passes.logged_in passes.names passes.may d r v y f

-- by the condition
replied-cause : (known : Known) (header : Header) (reversal : ReversalAsk) (named : Option NamedTerminal) (condition : Condition) → named_terminal known.core header.poi ≡ named → RefusesReversal known header reversal named condition
    → request_reply known header (requests.Reversal reversal) ≡ Some (failure_reply header condition)
replied-cause known header reversal named Aborted named_is cause = absurd cause
replied-cause known header reversal named Busy named_is (passes, (serving, full)) =
    reply-passed known header reversal named named_is passes.names false false false false true passes.number passes.room
    (ap is_unavailable serving.is_named ∙ ap is_out_of_service serving.serves) (ap is_ready serving.is_named ∙ ap is_ready_standing serving.serves) full
replied-cause known header reversal named Cancel named_is cause = absurd cause
replied-cause known header reversal named InProgress named_is (inl again) =
    let replied = each-on-record-is-replied known header (requests.Reversal reversal) (named_terminal known.core header.poi) again.found again.on_record in
    replied.in_progress again.same again.is_open
replied-cause known header reversal named InProgress named_is (inr pending) =
    reply-by known header reversal named (Fails InProgress) named_is (pending-again-result known header (requests.Reversal reversal) named pending.unknown pending.again)
replied-cause known header reversal named InsertedCard named_is cause = absurd cause
replied-cause known header reversal named InvalidCard named_is cause = absurd cause
replied-cause known header reversal named LoggedOut named_is cause =
    reply-where known header reversal named named_is cause.0.unknown cause.0.not_pending false true _ _ _ _ _ _ _ (ap (λ (there : Option NamedTerminal). not (is_some there)) cause.0.is_named) cause.1 refl refl refl refl refl refl refl
replied-cause known header reversal named MessageFormat named_is cause = absurd cause
replied-cause known header reversal named NotAllowed named_is (inl other) =
    let replied = each-on-record-is-replied known header (requests.Reversal reversal) (named_terminal known.core header.poi) other.found other.on_record in
    replied.other_content other.other
replied-cause known header reversal named NotAllowed named_is (inr (inl pending)) =
    reply-by known header reversal named (Fails NotAllowed) named_is (pending-otherwise-result known header (requests.Reversal reversal) named pending.unknown pending.pending pending.other)
replied-cause known header reversal named NotAllowed named_is (inr (inr cause)) =
    irreversible-is-not-allowed known header reversal cause.0.new.terminal (named_is ∙ cause.0.new.is_named) cause.0.new.unknown (not-pending-at known header named cause.0.new) cause.0.logged_in cause.1
replied-cause known header reversal named NotFound named_is cause =
    unnamed-is-not-found known header reversal cause.0.new.terminal (named_is ∙ cause.0.new.is_named) cause.0.new.unknown (not-pending-at known header named cause.0.new) cause.0.logged_in cause.1
replied-cause known header reversal named Refusal named_is cause = absurd cause
replied-cause known header reversal named UnavailableDevice named_is (inl nowhere) =
    reply-where known header reversal named named_is nowhere.unknown nowhere.not_pending true _ _ _ _ _ _ _ _ (ap (λ (there : Option NamedTerminal). not (is_some there)) nowhere.unnamed) refl refl refl refl refl refl refl refl
replied-cause known header reversal named UnavailableDevice named_is (inr cause) =
    let out = cause.1 in
    reply-passed known header reversal named named_is cause.0.names false false true _ _ cause.0.number cause.0.room (ap is_unavailable out.is_named ∙ out.out) refl refl
replied-cause known header reversal named UnavailableService named_is (names, inl number) = reply-passed known header reversal named named_is names true _ _ _ _ number refl refl refl refl
replied-cause known header reversal named UnavailableService named_is (names, inr room) = no-room (is_used_up known.kept header.poi named) refl
  where
    no-room : (used_up : Bool) → is_used_up known.kept header.poi named ≡ used_up → request_reply known header (requests.Reversal reversal) ≡ Some (failure_reply header UnavailableService)
    no-room true number = reply-passed known header reversal named named_is names true true _ _ _ number room refl refl refl
    no-room false number = reply-passed known header reversal named named_is names false true _ _ _ number room refl refl refl

pub each-cause-is-replied : EachCauseIsReplied
each-cause-is-replied known header reversal condition cause = replied-cause known header reversal (named_terminal known.core header.poi) condition refl cause

-- a failure has one condition
pub same-condition : (header : Header) (one other : Condition) → Some (failure_reply header one) ≡ Some (failure_reply header other) → one ≡ other
same-condition header one other same =
    let verdict : failure one ≡ failure other = cc in
    same_Some one other (ap (λ (verdict : Verdict). verdict.condition) verdict)

-- by what becomes of the reversal
cause-by : (known : Known) (header : Header) (reversal : ReversalAsk) (condition : Condition) → request_reply known header (requests.Reversal reversal) ≡ Some (failure_reply header condition)
    → BeginsOrIsReplied known header reversal (named_terminal known.core header.poi) → RefusesReversal known header reversal (named_terminal known.core header.poi) condition
cause-by known header reversal condition replied (inl begins) =
    let none = begins.no_reply in
    absurd cc
cause-by known header reversal condition replied (inr (inl waits)) =
    let none = waits.no_reply in
    absurd cc
cause-by known header reversal condition replied (inr (inr (inl again))) =
    let kept = again.replied in
    absurd cc
cause-by known header reversal condition replied (inr (inr (inr refused))) =
    subst (RefusesReversal known header reversal (named_terminal known.core header.poi)) (same-condition header refused.condition condition (sym refused.replied ∙ replied)) refused.cause

pub each-failure-has-its-cause : EachFailureHasItsCause
each-failure-has-its-cause known header reversal condition replied = cause-by known header reversal condition replied (each-reversal-is-replied known header reversal)
