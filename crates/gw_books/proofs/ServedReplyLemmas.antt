-- What tills are sent of ends of day, displays and device requests lies within its limits, and is true of the records.
use Rattle.std.proofs.Common.{◌≡◌, ◌≤◌, ◌<◌, ◌^◌, ◌∙◌, ℕ, suc, Bool, false, ◌&&◌, ◌==◌, List, [], ◌∷◌, length, decimal, refl, sym, ap, subst, arith}
use Rattle.std.specs.Prelude.{◌+◌, All, codes, IfSome, map, option_and_then, Option, Some, None, option_map, sum_by}
use Rattle.std.specs.Borrow.{Bor}
use Rattle.std.specs.Str.Parse.{AllDigits}
use Rattle.std.proofs.lemmas.Fmt.{length-decimal-le, decimal_nonempty, decimal_is_IsNumeral}
use Rattle.std.proofs.lemmas.Str.Parse.{digit_from_value}
use Rattle.std.proofs.lemmas.List.Elements.{All-cons, All-head, All-nil, All-tail}
use Rattle.std.proofs.lemmas.List.{length-map}
use Rattle.std.proofs.lemmas.List.Sums.{sum_by-cons}
use Rattle.std.proofs.lemmas.Option.{same_Some}
use Rattle.gw_base.specs.Ident.{IsIdent, IsPrintable}
use Rattle.gw_base.specs.declared.condition.Condition.{Condition}
use Rattle.gw_base.specs.declared.condition.Condition.TheVariants.{Aborted, UnavailableDevice}
use Rattle.gw_base.specs.declared.key.Key.{Key}
use Rattle.sale_values.specs.declared.header.Header.{Header}
use Rattle.sale_reply.specs.Limits.{IsHeaderWithinLimits, IsShownWithinLimits, IsVerdictWithinLimits}
use Rattle.sale_reply.specs.Reply.{device_request, print_request_body}
use Rattle.sale_reply.specs.declared.reply.SaleReply.TheVariants as replies
use Rattle.sale_reply.specs.declared.reply.Shown.{Shown}
use Rattle.sale_reply.specs.declared.reply.Verdict.{Verdict}
use Rattle.zvt_msg.specs.Message.{MessageValue, Intermediate}
use Rattle.zvt_msg.specs.PrintedLines.{printed_lines}
use Rattle.zvt_talk.specs.declared.meaning.Heard.{Heard}
use Rattle.zvt_talk.specs.declared.meaning.Heard.TheVariants as heard
use Rattle.jrn_record.specs.Limits.{IsSettled}
use Rattle.jrn_record.specs.declared.records.Record.{Record}
use Rattle.jrn_record.specs.declared.records.Settled.{Settled as TheSettled}
use Rattle.gw_ledger.specs.declared.entry.Closed.{Closed as TheClosed}
use Rattle.gw_ledger.specs.declared.entry.Found.TheVariants.{Closed}
use Rattle.gw_ledger.specs.Fold.{AreFolded}
use Rattle.gw_ledger.specs.Keys.{intent_key}
use Rattle.gw_ledger.specs.Slots.{entry_at}
use Rattle.xlate.specs.Codes.{CodeRow, abort_result_code, code_rows, condition_in_rows, condition_of_code}
use Rattle.xlate.specs.Reply.{header_of, totals_body}
use Rattle.gw_owes.specs.declared.terminal.Service.{Service}
use Rattle.gw_owes.specs.declared.terminal.Service.TheVariants.{Transaction, EndOfDay, Display}
use Rattle.gw_owes.specs.declared.terminal.Standing.{Standing}
use Rattle.gw_owes.specs.declared.terminal.Standing.TheVariants.{Unlinked, Registering, Enquiring, Ready, Serving, Aside}
use Rattle.gw_owes.specs.Core.{Core}
use Rattle.gw_owes.specs.DeviceRequests.{device_header, device_request_of, greatest_device_number, key_of_service}
use Rattle.gw_owes.specs.Displays.{is_customer_result, with_customer_verdict}
use Rattle.gw_owes.specs.Reconciliations.{closed_after, reply_to_settled}
use Rattle.gw_owes.specs.RecordLaws.{AreResultsWithinLimits, IsInOrder, IsServiceOnRecord}
use Rattle.gw_owes.specs.Replies.{display_reply, failure_reply, header_of_reply}
use Rattle.gw_owes.specs.Reply.{DisplayRequest, Finished, PrintRequest, ReplyValue}
use Rattle.gw_owes.specs.Row.{Known}
use Rattle.gw_owes.specs.Terminals.{reply_calls_to, reply_to_lost, reply_to_unfinished}
use Rattle.gw_owes.proofs.HeardLemmas.{of-both}
use Rattle.gw_owes.proofs.LimitLemmas.{keyed-within, own-key-is}
use Rattle.gw_owes.proofs.ReadLimitLemmas.{known-ident}
use Rattle.gw_owes.proofs.RecordLemmas.{LedgerLaws, open-parts, open_entry_of}
use Rattle.gw_books.specs.Past.{Occasion, SentCommand, waiting_keys}
use Rattle.gw_books.specs.SaidLaws.{finished_said}
use Rattle.gw_books.proofs.HandledLemmas.{IsMessageSmall}
use Rattle.gw_books.proofs.Holding.{AreCallsSound, IsRepliable, IsHeaderBeside, IsReplySound, IsReplyTrue, IsReplyWithin, IsServiceRepliable, deed_owed}
use Rattle.gw_books.proofs.ReplyLimitLemmas.{failure-within, results-within, settled-reply-within, some-holds, value-within}
use Rattle.gw_books.proofs.ReplyTruthLemmas.{IsIdle, alone-true, other-kind-true, reply-true-more, totals-true}
use Rattle.gw_books.proofs.StepTruthLemmas.{display-results-true, failure-true}

-- ---- calls

-- the reply to a till, where there are both, is sound where each such reply is
pub replies-sound : (records : List Record) (core : Core) (commands : List SentCommand) (occasion : Occasion) (asker : Option ℕ) (reply : Option ReplyValue)
    → ((own : ReplyValue) → reply ≡ Some own → IsReplySound records (waiting_keys core) occasion own) → AreCallsSound records core commands occasion (reply_calls_to asker reply)
replies-sound records core commands occasion None reply sound = tt
replies-sound records core commands occasion (Some till) None sound = tt
replies-sound records core commands occasion (Some till) (Some own) sound = (sound own refl, tt)

-- it is no deed
pub replies-no-deed : (asker : Option ℕ) (reply : Option ReplyValue) → deed_owed (reply_calls_to asker reply) ≡ false
replies-no-deed None reply = refl
replies-no-deed (Some till) None = refl
replies-no-deed (Some till) (Some own) = refl

-- ---- an end of day that isn't finished, and a display

-- the reason that a result code has is neither that a key is in progress nor that it isn't found
pub code-idle : (result_code : ℕ) (stop_sent : Bool) → IsIdle (condition_of_code result_code stop_sent)
code-idle result_code stop_sent = of-both IsIdle ((result_code == abort_result_code) && stop_sent) Aborted (condition_in_rows code_rows result_code) (refl, refl) (in-rows code_rows each)
  where
    EachIdle : List CodeRow → Type 0
    EachIdle [] = Unit {0}
    EachIdle (row ∷ rows) = IsIdle row.condition × EachIdle rows

    each : EachIdle code_rows
    each = ((refl, refl), ((refl, refl), ((refl, refl), ((refl, refl), ((refl, refl), ((refl, refl), ((refl, refl), tt)))))))

    in-rows : (rows : List CodeRow) → EachIdle rows → IsIdle (condition_in_rows rows result_code)
    in-rows [] idle = (refl, refl)
    in-rows (row ∷ rows) idle = of-both IsIdle (row.result_code == result_code) row.condition (condition_in_rows rows result_code) idle.0 (in-rows rows idle.1)

-- a Failure of what is no payment and no reversal
pub beside-sound : (records : List Record) (waiting : List Key) (occasion : Occasion) (header : Header) (condition : Condition) → IsHeaderBeside header → IsIdle condition → IsReplySound records waiting occasion (failure_reply header condition)
beside-sound records waiting occasion header condition beside idle = record {
  within = failure-within header condition beside.within;
  says = reply-true-more records waiting occasion (failure_reply header condition)
      (failure-true records occasion header condition (other-kind-true records occasion (header_of_reply header) condition idle beside.apart));
}

-- the results of a display
pub results-sound : (records : List Record) (waiting : List Key) (occasion : Occasion) (header : Header) (results : Option (List Shown)) (reply : ReplyValue) → IsHeaderBeside header → IfSome results AreResultsWithinLimits
    → display_reply header results ≡ Some reply → IsReplySound records waiting occasion reply
results-sound records waiting occasion header results reply beside are is = record {
  within = some-holds IsReplyWithin (display_reply header results) reply (results-within header results beside.within are) is;
  says = reply-true-more records waiting occasion reply (display-results-true records occasion header results reply beside.apart is);
}

-- the reply to what was served and isn't finished
unfinished-sound : (records : List Record) (waiting : List Key) (occasion : Occasion) (service : Service) (reply : ReplyValue) → IsServiceRepliable service → reply_to_unfinished service ≡ Some reply → IsReplySound records waiting occasion reply
unfinished-sound records waiting occasion (Transaction slot) reply repliable is = absurd cc
unfinished-sound records waiting occasion (EndOfDay header period) reply beside is =
    subst (IsReplySound records waiting occasion) (same_Some (failure_reply header UnavailableDevice) reply is) (beside-sound records waiting occasion header UnavailableDevice beside (refl, refl))
unfinished-sound records waiting occasion (Display header results) reply repliable is = results-sound records waiting occasion header results reply repliable.0 repliable.1 is

-- so it is of what the loss of a link owes
pub lost-sound : (records : List Record) (waiting : List Key) (occasion : Occasion) (standing : Standing) (reply : ReplyValue) → IsRepliable standing → reply_to_lost standing ≡ Some reply → IsReplySound records waiting occasion reply
lost-sound records waiting occasion (Unlinked due) reply repliable is = absurd cc
lost-sound records waiting occasion Registering reply repliable is = absurd cc
lost-sound records waiting occasion Enquiring reply repliable is = absurd cc
lost-sound records waiting occasion (Ready last) reply repliable is = absurd cc
lost-sound records waiting occasion (Serving service last) reply repliable is = unfinished-sound records waiting occasion service reply repliable is
lost-sound records waiting occasion (Aside before reported) reply repliable is = absurd cc

-- a verdict without a path leaves the results within their limits
verdict-each : (verdict : Verdict) (results : List Shown) → IsVerdictWithinLimits verdict → All IsShownWithinLimits results → All IsShownWithinLimits (with_customer_verdict verdict results)
verdict-each verdict [] within each = each
verdict-each verdict (shown ∷ others) within each =
    of-both (λ (results : List Shown). All IsShownWithinLimits results) (is_customer_result shown) (record shown { verdict = verdict } ∷ others) (shown ∷ with_customer_verdict verdict others)
    (All-cons IsShownWithinLimits (record shown { verdict = verdict }) others (record { device = first.device; qualify = first.qualify; verdict = within }) rest)
    (All-cons IsShownWithinLimits shown (with_customer_verdict verdict others) first (verdict-each verdict others within rest))
  where
    first : IsShownWithinLimits shown
    first = All-head IsShownWithinLimits shown others each

    rest : All IsShownWithinLimits others
    rest = All-tail IsShownWithinLimits shown others each

verdict-length : (verdict : Verdict) (results : List Shown) → length (with_customer_verdict verdict results) ≡ length results
verdict-length verdict [] = refl
verdict-length verdict (shown ∷ others) =
    of-both (λ (results : List Shown). length results ≡ length (shown ∷ others)) (is_customer_result shown) (record shown { verdict = verdict } ∷ others) (shown ∷ with_customer_verdict verdict others) refl
    (ap suc (verdict-length verdict others))

pub verdict-within : (verdict : Verdict) (results : Option (List Shown)) → IsVerdictWithinLimits verdict → IfSome results AreResultsWithinLimits → IfSome (option_map (with_customer_verdict verdict) results) AreResultsWithinLimits
verdict-within verdict None within are = tt
verdict-within verdict (Some results) within are =
    let few = are.0 in
    let same = verdict-length verdict results in
    (omega (arith, few, same), verdict-each verdict results within are.1)

-- ---- a reconciliation that is settled

pub settled-sound : (known : Known) (records : List Record) (waiting : List Key) (occasion : Occasion) (settled : TheSettled) (reply : ReplyValue) → IsInOrder known → IsSettled settled → length known.kept < known.setup.slots
    → reply_to_settled known.kept settled ≡ Some reply → IsReplySound records waiting occasion reply
settled-sound known records waiting occasion settled reply order is slot replied = record {
  within = settled-reply-within known settled reply order is slot replied;
  says = reply-true-more records waiting occasion reply (subst (IsReplyTrue records [] occasion) (same_Some own reply replied)
      (λ said there. alone-true records occasion (finished_said (header_of (Closed closed)) (totals_body closed)) said (totals-true records occasion closed) there));
}
  where
    closed : TheClosed
    closed = closed_after known.kept settled

    own : ReplyValue
    own = Finished (header_of (Closed closed)) (totals_body closed)

-- ---- device requests

-- digits are printable
digits-printable : (digits : List ℕ) → AllDigits 10 digits → All IsPrintable digits
digits-printable [] each = All-nil IsPrintable
digits-printable (digit ∷ digits) each =
    let range = digit_from_value digit each.0 in
    All-cons IsPrintable digit digits (omega (arith, range), omega (arith, range)) (digits-printable digits each.1)

-- the number of a device request has at most ten digits
device-number : (number : ℕ) → number ≤ greatest_device_number → IsIdent 10 (decimal number)
device-number number within =
    let small : number < 2 ^ 64 = omega (arith, within) in
    let some = decimal_nonempty number small in
    (omega (arith, some), length-decimal-le 10 number (omega arith) (omega (arith, within)) small, digits-printable (decimal number) (decimal_is_IsNumeral number small).0.1)

-- the key of what is served lies within the limits of a header
pub record IsKeyWithinLimits (key : Key) : Type 0 where
  pub sale : IsIdent 40 key.sale
  pub poi : IsIdent 40 key.poi
  pub service : IsIdent 10 key.service

device-heading : (category : List ℕ) (key : Key) (number : ℕ) → IsIdent 40 category → IsKeyWithinLimits key → number ≤ greatest_device_number → IsHeaderWithinLimits (device_header category key number)
device-heading category key number ident within least = record { category = ident; service = within.service; device = device-number number least; sale = within.sale; poi = within.poi }

-- a text as a reply holds it
abbrev lent : List ℕ → Bor (List ℕ)
lent text = record { ref_ptr = (0, 0); now = text }

lent-texts : (texts : List (List ℕ)) → map (λ line. line.now) (map lent texts) ≡ texts
lent-texts [] = refl
lent-texts (text ∷ texts) = ap (λ (rest : List (List ℕ)). text ∷ rest) (lent-texts texts)

lent-size : (texts : List (List ℕ)) → sum_by (λ line. length line.now) (map lent texts) ≡ sum_by (λ line. length line) texts
lent-size [] = refl
lent-size (text ∷ texts) =
    sum_by-cons (λ (line : Bor (List ℕ)). length line.now) (lent text) (map lent texts) ∙ ap (λ (n : ℕ). length text + n) (lent-size texts) ∙ sym (sum_by-cons (λ (line : List ℕ). length line) text texts)

-- the lines that a message prints
lines-within : (message : MessageValue) (number : ℕ) (key : Key) → IsMessageSmall message → IsKeyWithinLimits key → number ≤ greatest_device_number → IsReplyWithin (PrintRequest (device_header (codes "Print") key number) (printed_lines message))
lines-within message number key small within least =
    let lines : List (List ℕ) = printed_lines message in
    let header : Header = device_header (codes "Print") key number in
    let count : length (map lent lines) ≡ length lines = length-map lines lent in
    let few = small.few in
    let size = small.size in
    let sizes = lent-size lines in
    value-within (PrintRequest header lines) (replies.PrintRequest header (record { ref_ptr = (0, 0); now = map lent lines })) (ap (λ (texts : List (List ℕ)). device_request header (print_request_body texts)) (sym (lent-texts lines)))
    (device-heading (codes "Print") key number (known-ident 40 (codes "Print") refl) within least, omega (arith, count, few), omega (arith, sizes, size))

-- what a till is requested to show or to print says nothing of a request
pub device-sound : (records : List Record) (waiting : List Key) (occasion : Occasion) (meant : Heard) (message : MessageValue) (number : ℕ) (key : Key) (request : ReplyValue) → IsMessageSmall message
    → ((status : ℕ) → meant ≡ heard.Note status → message ≡ Intermediate status) → IsKeyWithinLimits key → number ≤ greatest_device_number → device_request_of meant message number key ≡ Some request
    → IsReplySound records waiting occasion request
device-sound records waiting occasion (heard.Begun stop) message number key request small note within least is = absurd cc
device-sound records waiting occasion (heard.Note intermediate_status) message number key request small note within least is =
    subst (IsReplySound records waiting occasion) (same_Some (DisplayRequest (device_header (codes "Display") key number) intermediate_status) request is) (record {
      within = value-within (DisplayRequest (device_header (codes "Display") key number) intermediate_status) (replies.DisplayRequest (device_header (codes "Display") key number) intermediate_status) refl
          (device-heading (codes "Display") key number (known-ident 40 (codes "Display") refl) within least, small.code intermediate_status (note intermediate_status refl));
      says = λ said there. absurd there;
    })
device-sound records waiting occasion heard.Line message number key request small note within least is =
    subst (IsReplySound records waiting occasion) (same_Some (PrintRequest (device_header (codes "Print") key number) (printed_lines message)) request is)
    (record { within = lines-within message number key small within least; says = λ said there. absurd there })
device-sound records waiting occasion heard.Block message number key request small note within least is =
    subst (IsReplySound records waiting occasion) (same_Some (PrintRequest (device_header (codes "Print") key number) (printed_lines message)) request is)
    (record { within = lines-within message number key small within least; says = λ said there. absurd there })
device-sound records waiting occasion heard.Seen message number key request small note within least is = absurd cc
device-sound records waiting occasion (heard.Approved figures) message number key request small note within least is = absurd cc
device-sound records waiting occasion heard.Done message number key request small note within least is = absurd cc
device-sound records waiting occasion (heard.Told trace figures result_code) message number key request small note within least is = absurd cc
device-sound records waiting occasion (heard.Declined result_code trace) message number key request small note within least is = absurd cc
device-sound records waiting occasion heard.Unclear message number key request small note within least is = absurd cc
device-sound records waiting occasion heard.Stray message number key request small note within least is = absurd cc

-- the key of what a terminal serves
pub served-key : (laws : LedgerLaws) (kept : List Record) (poi : List ℕ) (service : Service) (last : ℕ) (key : Key) → AreFolded kept → IsServiceOnRecord kept poi last service → key_of_service kept service ≡ Some key → IsKeyWithinLimits key
served-key laws kept poi (Transaction slot) last key folded has is =
    let parts = open-parts laws kept folded poi slot has.intent has.is_open in
    let entry : entry_at kept slot ≡ Some (open_entry_of slot has.intent) = sym (ap (option_and_then (entry_at kept)) parts.slot_is) ∙ has.is_open in
    let within = ((laws.within kept folded).0 slot (open_entry_of slot has.intent) entry).intent in
    let own : intent_key has.intent ≡ key = same_Some (intent_key has.intent) key (sym (ap (option_map intent_key) parts.intent_is) ∙ is) in
    subst IsKeyWithinLimits own (record { sale = within.sale; poi = within.poi; service = within.service })
served-key laws kept poi (EndOfDay header period) last key folded has is =
    let within = keyed-within header key has.heading is in
    subst IsKeyWithinLimits (same_Some (record { sale = header.sale; poi = header.poi; service = within.service }) key (sym (own-key-is header within) ∙ is))
    (record { sale = within.sale; poi = within.poi; service = within.service_within })
served-key laws kept poi (Display header results) last key folded has is = absurd cc
