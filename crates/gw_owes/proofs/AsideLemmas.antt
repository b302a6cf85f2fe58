-- Why a terminal is set aside, and that it stays so.
use Rattle.std.proofs.Common.{◌≡◌, ◌≤◌, ◌<◌, ◌⊎◌, ℕ, List, [], ◌∷◌, refl, sym, ◌∙◌, ap, subst, inl, inr, Bool, true, false}
use Rattle.std.proofs.lemmas.Bool.{false_from_ne_true, leb-false, lt-leb, ltb-false}
use Rattle.std.specs.Prelude.{nat_le, nat_lt, if◌then◌else◌, Option, Some, None, Result, Ok, Err}
use Rattle.gw_base.specs.declared.figures.Figures.{Figures}
use Rattle.sale_values.specs.declared.header.Header.{Header}
use Rattle.sale_reply.specs.declared.reply.Shown.{Shown}
use Rattle.sale_values.specs.declared.request.SaleRequest.{SaleRequest}
use Rattle.zvt_apdu.specs.Grammar.{ApduValue}
use Rattle.zvt_msg.specs.declared.fault.PtFault.{PtFault}
use Rattle.zvt_msg.specs.Message.{MessageValue, Ack, Nack, Intermediate, Line, Block, Status, Completion, Abort, Other}
use Rattle.zvt_msg.specs.MessageDecode.{decode_pt_message}
use Rattle.zvt_talk.specs.declared.meaning.Heard.{Heard}
use Rattle.zvt_talk.specs.declared.meaning.Heard.TheVariants as heard
use Rattle.zvt_talk.specs.Came.{is_taken}
use Rattle.jrn_record.specs.declared.records.How.TheVariants as hows
use Rattle.jrn_record.specs.declared.records.Record.{Record}
use Rattle.jrn_record.specs.declared.records.Record.TheVariants.{Settled}
use Rattle.gw_ledger.specs.declared.entry.Entry.{Entry as TheEntry}
use Rattle.gw_owes.specs.declared.terminal.Service.{Service}
use Rattle.gw_owes.specs.declared.terminal.Service.TheVariants.{Transaction, EndOfDay, Display}
use Rattle.gw_owes.specs.declared.terminal.Standing.{Standing}
use Rattle.gw_owes.specs.declared.terminal.Standing.TheVariants.{Unlinked, Registering, Enquiring, Ready, Serving, Aside}
use Rattle.gw_owes.specs.declared.terminal.Terminal.{Terminal}
use Rattle.gw_owes.specs.Calls.{Sending, OwedCall, CutPt, LinkPt, records_kept}
use Rattle.gw_owes.specs.Deadlines.{is_late, is_due, late_row, due_row}
use Rattle.gw_owes.specs.Greeting.{greeting, sending_calls, greet_decoded, oversized_row}
use Rattle.gw_owes.specs.Displays.{serving_display}
use Rattle.gw_owes.specs.Handling.{meaning_at, taking, registering, enquiring, serving, consequence, taken_row, handle_row}
use Rattle.gw_owes.specs.Items.{RoundItem, Crowded, Message, Asked, Unframed, Gone, Greet, Handle, Serve, Queue, NextWaiting, Oversized, LinkLost, Late, Overdue, Due}
use Rattle.gw_owes.specs.Links.{is_linked, LinkIsMade, LinkHasFailed, LinkIsLost, cutting}
use Rattle.gw_owes.specs.Reconciliations.{settled_of, reply_to_settled, serving_day}
use Rattle.gw_owes.specs.Reports.{Report, on_record, least_against, least_reported, standing_reported, outcome_reported, report_of_open, report_against}
use Rattle.gw_owes.specs.Row.{Known, Row, owing, owing_nothing, owing_where}
use Rattle.gw_owes.specs.Serving.{at_rest, staying, breaking, stops, approved_outcome, done_with, resolves, approved_row, serving_transaction}
use Rattle.gw_owes.specs.TerminalLaws.{commands_in, GoesOnTo, IsAsideAt, ReportsBelow, ApprovedNotAbove, IsSetAside, EachAsideHasCause, NoLinkEventSetsAside, EnquiredIsSetAside, KeepsSettled, AsideStaysAside, HasNoTrace, is_done_or_declined, HasStandingAfter, EachServedLeavesLast}
use Rattle.gw_owes.specs.TerminalRows.{terminal_of, terminal_row, is_link_lost}
use Rattle.gw_owes.specs.Terminals.{terminal_at, of_terminal, terminal_becomes, with_terminal, registers, unlinks}
use Rattle.gw_owes.proofs.HandlingLemmas.{by-where, each-terminal, each-linked, taken-cases, each-handled, handled-is, means-taken, reported-leads}
use Rattle.gw_owes.proofs.PaymentLawLemmas.{reply-keeps}
use Rattle.gw_owes.proofs.NextLemmas.{each-next, known_without}
use Rattle.gw_owes.proofs.PaymentLemmas.{each-served}
use Rattle.gw_owes.proofs.RowLemmas.{reply-commands}
use Rattle.gw_owes.proofs.SetLemmas.{new-is-there, same-some}

-- the standing isn't one that is set aside
abbrev NotAside : Standing → Type 0
NotAside standing = (before reported : ℕ) → standing ≡ Aside before reported → ⊥

-- the terminal of this number isn't set aside
abbrev NoneAside : ℕ → Row → Type 0
NoneAside number row = (before reported : ℕ) → IsAsideAt row.core number before reported → ⊥

-- a terminal that is set aside after a row is what this makes of it
aside-is : (known : Known) (number : ℕ) (old new : Terminal) (before reported : ℕ) → terminal_at known number ≡ Some old → IsAsideAt (with_terminal known.core number new) number before reported → new.standing ≡ Aside before reported
aside-is known number old new before reported found a =
    ap (λ (t : Terminal). t.standing) (same-some new a.terminal (sym (new-is-there known.core.terminals number old new found) ∙ a.found)) ∙ a.standing_is

becomes-none : (known : Known) (number : ℕ) (old new : Terminal) → terminal_at known number ≡ Some old → NotAside new.standing → (before reported : ℕ) → IsAsideAt (with_terminal known.core number new) number before reported → ⊥
becomes-none known number old new found none before reported a = none before reported (aside-is known number old new before reported found a)

-- ---- what follows from a message

-- by a standing and a meaning: a report below the least that the records allow, or an approval that is not above the one before
record ReportsSo (known : Known) (poi : List ℕ) (meant : Heard) (before reported : ℕ) : Type 0 where
  pub approved : Option Figures
  pub result_code : ℕ
  pub meant_is : meant ≡ heard.Told reported approved result_code
  pub before_is : before ≡ least_reported (on_record known.kept poi)
  pub below : reported < before

record ApprovesSo (meant : Heard) (before reported : ℕ) : Type 0 where
  pub figures : Figures
  pub meant_is : meant ≡ heard.Approved figures
  pub reported_is : reported ≡ figures.number
  pub not_above : reported ≤ before

abbrev AsideBy : Known → List ℕ → Heard → Standing → ℕ → ℕ → Type 0
AsideBy known poi meant standing before reported =
    ((standing ≡ Enquiring) × ReportsSo known poi meant before reported) ⊎ ((slot : ℕ) × (standing ≡ Serving (Transaction slot) before) × ApprovesSo meant before reported)

module _ (known : Known) (number : ℕ) (old taken : Terminal) (found : terminal_at known number ≡ Some old) (none : NotAside taken.standing) where
  stays-none : NoneAside number (staying known number taken)
  stays-none = becomes-none known number old taken found none

  breaks-none : NoneAside number (breaking known number taken)
  breaks-none = becomes-none known number old taken found none

  stops-none : NoneAside number (stops known number taken)
  stops-none = becomes-none known number old _ found none

  registering-none : (meant : Heard) → NoneAside number (registering known number taken meant)
  registering-none (heard.Begun stop) = stays-none
  registering-none (heard.Note intermediate_status) = stays-none
  registering-none heard.Line = stays-none
  registering-none heard.Block = stays-none
  registering-none heard.Seen = stays-none
  registering-none (heard.Approved figures) = stays-none
  registering-none heard.Done = becomes-none known number old _ found (λ before reported e. cc)
  registering-none (heard.Told reported approved result_code) = stays-none
  registering-none (heard.Declined result_code reported) = breaks-none
  registering-none heard.Unclear = breaks-none
  registering-none heard.Stray = stays-none

  rests-none : (last before reported : ℕ) → IsAsideAt (with_terminal known.core number (done_with taken (Ready last))) number before reported → ⊥
  rests-none last = becomes-none known number old (done_with taken (Ready last)) found (λ before reported e. cc)

  day-none : (last : ℕ) (header : Header) (meant : Heard) → NoneAside number (serving_day known number taken last header meant)
  day-none last header (heard.Begun true) = stops-none
  day-none last header (heard.Begun false) = stays-none
  day-none last header (heard.Note intermediate_status) = stays-none
  day-none last header heard.Line = stays-none
  day-none last header heard.Block = stays-none
  day-none last header heard.Seen = stays-none
  day-none last header (heard.Approved figures) = stays-none
  day-none last header heard.Done = rests-none last
  day-none last header (heard.Told reported approved result_code) = stays-none
  day-none last header (heard.Declined result_code reported) = rests-none last
  day-none last header heard.Unclear = breaks-none
  day-none last header heard.Stray = stays-none

  display-none : (last : ℕ) (header : Header) (results : Option (List Shown)) (meant : Heard) → NoneAside number (serving_display known number taken last header results meant)
  display-none last header results (heard.Begun stop) = stays-none
  display-none last header results (heard.Note intermediate_status) = stays-none
  display-none last header results heard.Line = stays-none
  display-none last header results heard.Block = stays-none
  display-none last header results heard.Seen = stays-none
  display-none last header results (heard.Approved figures) = stays-none
  display-none last header results heard.Done = rests-none last
  display-none last header results (heard.Told reported approved result_code) = stays-none
  display-none last header results (heard.Declined result_code reported) = rests-none last
  display-none last header results heard.Unclear = breaks-none
  display-none last header results heard.Stray = stays-none

  -- a report that sets aside
  reported-so : (last heard_of : ℕ) (before reported : ℕ) → standing_reported last heard_of ≡ Aside before reported → (before ≡ last) × (reported ≡ heard_of) × (heard_of < last)
  reported-so last heard_of before reported e = by-test (nat_le last heard_of) refl e
    where
      by-test : (test : Bool) → nat_le last heard_of ≡ test → (if test then Ready heard_of else Aside last heard_of) ≡ Aside before reported → (before ≡ last) × (reported ≡ heard_of) × (heard_of < last)
      by-test true is e = absurd (let n : Ready heard_of ≡ Aside before reported = e in cc)
      by-test false is e = ((let n : Aside last heard_of ≡ Aside before reported = e in cc), (let n : Aside last heard_of ≡ Aside before reported = e in cc), leb-false last heard_of is)

  -- so too while something is open
  open-so : (report : Report) (entry : TheEntry) (before reported : ℕ) → IsAsideAt (report_of_open known number taken report entry).core number before reported
      → (before ≡ entry.intent.before) × (reported ≡ report.trace) × (report.trace < entry.intent.before)
  open-so report entry before reported a = by-test (nat_le entry.intent.before report.trace) refl a
    where
      by-test : (least : Bool) → nat_le entry.intent.before report.trace ≡ least
          → IsAsideAt (if least then resolves known number taken (Ready report.trace) (outcome_reported entry report known.moment) else terminal_becomes known number (at_rest taken (Aside entry.intent.before report.trace)) []).core number before reported
          → (before ≡ entry.intent.before) × (reported ≡ report.trace) × (report.trace < entry.intent.before)
      by-test true is a = absurd (becomes-none known number old (done_with taken (Ready report.trace)) found (λ b r e. (let n : Ready report.trace ≡ Aside b r = e in cc)) before reported a)
      by-test false is a =
          let e : Aside entry.intent.before report.trace ≡ Aside before reported = aside-is known number old (at_rest taken (Aside entry.intent.before report.trace)) before reported found a in
          ((let n : Aside entry.intent.before report.trace ≡ Aside before reported = e in cc), (let n : Aside entry.intent.before report.trace ≡ Aside before reported = e in cc), leb-false entry.intent.before report.trace is)

  report-so : (opened : Option TheEntry) (last : ℕ) (report : Report) (before reported : ℕ) → IsAsideAt (report_against opened last known number taken report).core number before reported
      → (before ≡ least_against opened last) × (reported ≡ report.trace) × (report.trace < least_against opened last)
  report-so None last report before reported a = reported-so last report.trace before reported (aside-is known number old (at_rest taken (standing_reported last report.trace)) before reported found a)
  report-so (Some entry) last report before reported a = open-so report entry before reported a

  enquiring-so : (meant : Heard) (before reported : ℕ) → IsAsideAt (enquiring known number taken meant).core number before reported → ReportsSo known taken.pt.poi meant before reported
  enquiring-so (heard.Begun stop) before reported a = absurd (stays-none before reported a)
  enquiring-so (heard.Note intermediate_status) before reported a = absurd (stays-none before reported a)
  enquiring-so heard.Line before reported a = absurd (stays-none before reported a)
  enquiring-so heard.Block before reported a = absurd (stays-none before reported a)
  enquiring-so heard.Seen before reported a = absurd (stays-none before reported a)
  enquiring-so (heard.Approved figures) before reported a = absurd (stays-none before reported a)
  enquiring-so heard.Done before reported a = absurd (stays-none before reported a)
  enquiring-so (heard.Told trace approved result_code) before reported a =
      let so = report-so (on_record known.kept taken.pt.poi).opened (on_record known.kept taken.pt.poi).last (record { trace = trace; approved = approved; result_code = result_code }) before reported a in
      record {
        approved = approved;
        result_code = result_code;
        meant_is = ap (λ (n : ℕ). heard.Told n approved result_code) (sym so.1);
        before_is = so.0;
        below = subst (λ (n : ℕ). n < before) (sym so.1) (subst (λ (n : ℕ). trace < n) (sym so.0) so.2);
      }
  enquiring-so (heard.Declined result_code trace) before reported a = absurd (breaks-none before reported a)
  enquiring-so heard.Unclear before reported a = absurd (breaks-none before reported a)
  enquiring-so heard.Stray before reported a = absurd (stays-none before reported a)

  approved-so : (slot last : ℕ) (figures : Figures) (before reported : ℕ) → IsAsideAt (approved_row known number taken slot last figures).core number before reported
      → (before ≡ last) × (reported ≡ figures.number) × (figures.number ≤ last)
  approved-so slot last figures before reported a = by-test (nat_lt last figures.number) refl a
    where
      by-test : (above : Bool) → nat_lt last figures.number ≡ above
          → IsAsideAt (if above then resolves known number taken (Ready figures.number) (approved_outcome slot figures known.moment) else terminal_becomes known number (at_rest taken (Aside last figures.number)) []).core number before reported
          → (before ≡ last) × (reported ≡ figures.number) × (figures.number ≤ last)
      by-test true is a = absurd (becomes-none known number old (done_with taken (Ready figures.number)) found (λ b r e. (let n : Ready figures.number ≡ Aside b r = e in cc)) before reported a)
      by-test false is a =
          let e : Aside last figures.number ≡ Aside before reported = aside-is known number old (at_rest taken (Aside last figures.number)) before reported found a in
          ((let n : Aside last figures.number ≡ Aside before reported = e in cc), (let n : Aside last figures.number ≡ Aside before reported = e in cc), ltb-false last figures.number is)

  transaction-so : (slot last : ℕ) (meant : Heard) (before reported : ℕ) → IsAsideAt (serving_transaction known number taken slot last meant).core number before reported → (before ≡ last) × ApprovesSo meant before reported
  transaction-so slot last (heard.Begun true) before reported a = absurd (stops-none before reported a)
  transaction-so slot last (heard.Begun false) before reported a = absurd (stays-none before reported a)
  transaction-so slot last (heard.Note intermediate_status) before reported a = absurd (stays-none before reported a)
  transaction-so slot last heard.Line before reported a = absurd (stays-none before reported a)
  transaction-so slot last heard.Block before reported a = absurd (stays-none before reported a)
  transaction-so slot last heard.Seen before reported a = absurd (stays-none before reported a)
  transaction-so slot last (heard.Approved figures) before reported a =
      let so = approved-so slot last figures before reported a in
      (so.0, record { figures = figures; meant_is = refl; reported_is = so.1; not_above = subst (λ (n : ℕ). n ≤ before) (sym so.1) (subst (λ (n : ℕ). figures.number ≤ n) (sym so.0) so.2) })
  transaction-so slot last heard.Done before reported a = absurd (stays-none before reported a)
  transaction-so slot last (heard.Told heard_of approved result_code) before reported a = absurd (stays-none before reported a)
  transaction-so slot last (heard.Declined result_code trace) before reported a = absurd (becomes-none known number old _ found (λ b r e. cc) before reported a)
  transaction-so slot last heard.Unclear before reported a = absurd (breaks-none before reported a)
  transaction-so slot last heard.Stray before reported a = absurd (stays-none before reported a)

  consequence-so : (meant : Heard) (standing : Standing) (before reported : ℕ) → NoneAside number (owing_nothing known) → IsAsideAt (consequence known number taken meant standing).core number before reported
      → AsideBy known taken.pt.poi meant standing before reported
  consequence-so meant (Unlinked due) before reported was a = absurd (was before reported a)
  consequence-so meant Registering before reported was a = absurd (registering-none meant before reported a)
  consequence-so meant Enquiring before reported was a = inl (refl, enquiring-so meant before reported a)
  consequence-so meant (Ready last) before reported was a = absurd (stays-none before reported a)
  consequence-so meant (Serving (Transaction slot) last) before reported was a =
      let so = transaction-so slot last meant before reported a in
      inr (slot, ap (λ (n : ℕ). Serving (Transaction slot) n) (sym so.0), so.1)
  consequence-so meant (Serving (EndOfDay header period) last) before reported was a = absurd (day-none last header meant before reported a)
  consequence-so meant (Serving (Display header results) last) before reported was a = absurd (display-none last header results meant before reported a)
  consequence-so meant (Aside last heard_of) before reported was a = absurd (stays-none before reported a)

-- ---- each item

-- the terminal of this number isn't set aside before the item
abbrev WasNone : Known → ℕ → Type 0
WasNone known number = (before reported : ℕ) → IsAsideAt known.core number before reported → ⊥

was-not : (known : Known) (number : ℕ) (terminal : Terminal) → WasNone known number → terminal_at known number ≡ Some terminal → NotAside terminal.standing
was-not known number terminal was found before reported e = was before reported (record { terminal = terminal; found = found; standing_is = e })

as-cause : (known : Known) (terminal : Terminal) (message : MessageValue) (before reported : ℕ) → AsideBy known terminal.pt.poi (meaning_at terminal message) terminal.standing before reported
    → ReportsBelow known terminal message before reported ⊎ ApprovedNotAbove terminal message before reported
as-cause known terminal message before reported (inl (standing, so)) =
    inl (record { standing_is = standing; approved = so.approved; result_code = so.result_code; meant = so.meant_is; before_is = so.before_is; below = so.below })
as-cause known terminal message before reported (inr (slot, standing, so)) = inr (record { slot = slot; standing_is = standing; figures = so.figures; meant = so.meant_is; reported_is = so.reported_is; not_above = so.not_above })

handle-aside : (known : Known) (number : ℕ) (apdu : ApduValue) → WasNone known number → (before reported : ℕ) → IsAsideAt (handle_row known number apdu).core number before reported → IsSetAside known (Handle number apdu) number before reported
handle-aside known number apdu was before reported =
    each-handled (λ (row : Row). IsAsideAt row.core number before reported → IsSetAside known (Handle number apdu) number before reported) known number apdu (λ a. absurd (was before reported a))
    (λ terminal message found linked is taken a. record {
      apdu = apdu;
      item_is = refl;
      terminal = terminal;
      found = found;
      message = message;
      decoded = is;
      why = as-cause known terminal message before reported
          (consequence-so known number terminal (taking terminal message known.moment) found (was-not known number terminal was found) (meaning_at terminal message) terminal.standing before reported was a);
    })
    (λ terminal message found linked is taken at stays a. stays (record { terminal = a.terminal; found = a.found; standing_is = a.standing_is }))

greet-none : (known : Known) (number : ℕ) (decoded : Result MessageValue PtFault) → WasNone known number → NoneAside number (greet_decoded known number decoded)
greet-none known number (Ok message) was = each-linked (NoneAside number) known number (λ terminal. owing known (sending_calls number (greeting message))) was (λ terminal found linked. was)
greet-none known number (Err fault) was = each-linked (NoneAside number) known number (λ terminal. cutting known number) was (λ terminal found linked. was)

lost-none : (known : Known) (number : ℕ) → WasNone known number → NoneAside number (of_terminal known (unlinks known number) (terminal_at known number))
lost-none known number was = each-terminal (NoneAside number) known number (unlinks known number) was (λ terminal found. becomes-none known number terminal _ found (λ before reported e. cc))

made-none : (known : Known) (number : ℕ) → WasNone known number → NoneAside number (of_terminal known (registers known number) (terminal_at known number))
made-none known number was = each-terminal (NoneAside number) known number (registers known number) was (λ terminal found. becomes-none known number terminal _ found (λ before reported e. cc))

serve-none : (known : Known) (number till : ℕ) (header : Header) (request : SaleRequest) → WasNone known number → NoneAside number (terminal_row known (Serve number till header request))
serve-none known number till header request was =
    each-served (NoneAside number) known number till header request (record {
      none = was;
      begins = λ terminal last asking at. becomes-none known number terminal _ at.found (λ before reported e. cc);
      sent = λ terminal talk at may. becomes-none known number terminal _ at.found (was-not known number terminal was at.found);
      wished = λ terminal talk at may. becomes-none known number terminal _ at.found (was-not known number terminal was at.found);
      session = λ success before reported there. was before reported (record { terminal = there.terminal; found = there.found; standing_is = there.standing_is });
      settles = λ terminal at. was;
      day = λ terminal last at. becomes-none known number terminal _ at.found (λ before reported e. cc);
      displays = λ terminal last outputs command at. becomes-none known number terminal _ at.found (λ before reported e. cc);
    })

next-none : (known : Known) (number : ℕ) → WasNone known number → NoneAside number (terminal_row known (NextWaiting number))
next-none known number was =
    each-next (NoneAside number) known number (record {
      none = was;
      refused = λ terminal last wait condition first is before reported there. was before reported (record { terminal = there.terminal; found = there.found; standing_is = there.standing_is });
      begins = λ terminal last wait asking at. becomes-none (known_without known wait) number terminal _ at.first.found (λ before reported e. cc);
      day = λ terminal last wait at. becomes-none (known_without known wait) number terminal _ at.first.found (λ before reported e. cc);
      left = λ terminal last wait first before reported there. was before reported (record { terminal = there.terminal; found = there.found; standing_is = there.standing_is });
    })

late-none : (known : Known) (number : ℕ) → WasNone known number → NoneAside number (late_row known number)
late-none known number was = each-terminal (NoneAside number) known number (λ terminal. owing_where (is_late known.moment terminal.talk) known (cutting known number)) was
    (λ terminal found. by-where (NoneAside number) known (cutting known number) (is_late known.moment terminal.talk) was (λ late. was))

due-none : (known : Known) (number : ℕ) → WasNone known number → NoneAside number (due_row known number)
due-none known number was = each-terminal (NoneAside number) known number (λ terminal. owing_where (is_due known.moment terminal.standing) known (owing known (LinkPt number ∷ []))) was
    (λ terminal found. by-where (NoneAside number) known (owing known (LinkPt number ∷ [])) (is_due known.moment terminal.standing) was (λ due. was))

same-number : (one other : ℕ) → Some one ≡ Some other → one ≡ other
same-number one other e = cc

pub each-aside-has-cause : EachAsideHasCause
each-aside-has-cause known (Crowded till) number before reported about was a = absurd (was before reported a)
each-aside-has-cause known (Message till bytes) number before reported about was a = absurd (was before reported a)
each-aside-has-cause known (Asked till as_read) number before reported about was a = absurd (was before reported a)
each-aside-has-cause known (Unframed till) number before reported about was a = absurd (was before reported a)
each-aside-has-cause known (Gone till) number before reported about was a = absurd (was before reported a)
each-aside-has-cause known (Greet at apdu) number before reported about was a = absurd (greet-none known number (decode_pt_message apdu) was before reported (subst (λ (n : ℕ). IsAsideAt (terminal_row known (Greet n apdu)).core number before reported) (same-number at number about) a))
each-aside-has-cause known (Handle at apdu) number before reported about was a =
    subst (λ (n : ℕ). IsSetAside known (Handle n apdu) number before reported) (sym (same-number at number about))
    (handle-aside known number apdu was before reported (subst (λ (n : ℕ). IsAsideAt (terminal_row known (Handle n apdu)).core number before reported) (same-number at number about) a))
each-aside-has-cause known (Serve at till header request) number before reported about was a =
    absurd (serve-none known number till header request was before reported (subst (λ (n : ℕ). IsAsideAt (terminal_row known (Serve n till header request)).core number before reported) (same-number at number about) a))
each-aside-has-cause known (Queue at till header request) number before reported about was a = absurd (was before reported a)
each-aside-has-cause known (NextWaiting at) number before reported about was a =
    absurd (next-none known number was before reported (subst (λ (n : ℕ). IsAsideAt (terminal_row known (NextWaiting n)).core number before reported) (same-number at number about) a))
each-aside-has-cause known (Oversized at) number before reported about was a =
    absurd (each-linked (NoneAside number) known number (λ terminal. cutting known number) was (λ terminal found linked. was) before reported (subst (λ (n : ℕ). IsAsideAt (terminal_row known (Oversized n)).core number before reported) (same-number at number about) a))
each-aside-has-cause known (LinkLost at) number before reported about was a = absurd (lost-none known number was before reported (subst (λ (n : ℕ). IsAsideAt (terminal_row known (LinkLost n)).core number before reported) (same-number at number about) a))
each-aside-has-cause known (Late at) number before reported about was a = absurd (late-none known number was before reported (subst (λ (n : ℕ). IsAsideAt (terminal_row known (Late n)).core number before reported) (same-number at number about) a))
each-aside-has-cause known (Overdue key) number before reported about was a = absurd (was before reported a)
each-aside-has-cause known (Due at) number before reported about was a = absurd (due-none known number was before reported (subst (λ (n : ℕ). IsAsideAt (terminal_row known (Due n)).core number before reported) (same-number at number about) a))

pub no-link-event-sets-aside : NoLinkEventSetsAside
no-link-event-sets-aside known number LinkIsMade before reported was a = made-none known number was before reported a
no-link-event-sets-aside known number LinkHasFailed before reported was a = lost-none known number was before reported a
no-link-event-sets-aside known number LinkIsLost before reported was a = lost-none known number was before reported a

-- ---- an enquiry

pub enquired-is-set-aside : EnquiredIsSetAside
enquired-is-set-aside known number apdu terminal report reports below =
    reported-leads known number (Aside (least_reported (on_record known.kept terminal.pt.poi)) report.trace) [] apdu terminal report reports
    (by-opened (on_record known.kept terminal.pt.poi).opened below)
  where
    taken : Terminal
    taken = taking terminal reports.message known.moment

    last : ℕ
    last = (on_record known.kept terminal.pt.poi).last

    -- the standing is that of a report below the least
    goes : (least : ℕ) → GoesOnTo number (Aside least report.trace) [] (terminal_becomes known number (at_rest taken (Aside least report.trace)) [])
    goes least = record { terminal = _; found = new-is-there known.core.terminals number terminal _ reports.found; standing_is = refl; calls_are = refl }

    by-opened : (opened : Option TheEntry) → report.trace < least_against opened last → GoesOnTo number (Aside (least_against opened last) report.trace) [] (report_against opened last known number taken report)
    by-opened None below =
        subst (λ (b : Bool). GoesOnTo number (Aside last report.trace) [] (terminal_becomes known number (at_rest taken (if b then Ready report.trace else Aside last report.trace)) []))
        (sym (lt-leb last report.trace below)) (goes last)
    by-opened (Some entry) below =
        subst (λ (b : Bool). GoesOnTo number (Aside entry.intent.before report.trace) []
        (if b then resolves known number taken (Ready report.trace) (outcome_reported entry report known.moment) else terminal_becomes known number (at_rest taken (Aside entry.intent.before report.trace)) []))
        (sym (lt-leb entry.intent.before report.trace below)) (goes entry.intent.before)

-- ---- one that is set aside stays so

-- a greeting is no record and no command
greeting-keeps-none : (number : ℕ) (sending : Option Sending) → records_kept (sending_calls number sending) ≡ []
greeting-keeps-none number None = refl
greeting-keeps-none number (Some sending) = refl

greeting-asks-none : (number : ℕ) (message : MessageValue) → commands_in (sending_calls number (greeting message)) ≡ 0
greeting-asks-none number Ack = refl
greeting-asks-none number (Nack error_code) = refl
greeting-asks-none number (Intermediate intermediate_status) = refl
greeting-asks-none number (Line text) = refl
greeting-asks-none number (Block objects) = refl
greeting-asks-none number (Status fields) = refl
greeting-asks-none number Completion = refl
greeting-asks-none number (Abort result_code) = refl
greeting-asks-none number Other = refl

module _ (known : Known) (number before reported : ℕ) (was : IsAsideAt known.core number before reported) where
  -- the terminal that is set aside is the one of its number
  stands-aside : (terminal : Terminal) → terminal_at known number ≡ Some terminal → terminal.standing ≡ Aside before reported
  stands-aside terminal found = ap (λ (t : Terminal). t.standing) (same-some terminal was.terminal (sym found ∙ was.found)) ∙ was.standing_is

  -- it isn't ready, and serves nothing
  ready-apart : (terminal : Terminal) (last : ℕ) → terminal_at known number ≡ Some terminal → terminal.standing ≡ Ready last → ⊥
  ready-apart terminal last found standing = let e : Ready last ≡ Aside before reported = sym standing ∙ stands-aside terminal found in cc

  serves-apart : (terminal : Terminal) (service : Service) (last : ℕ) → terminal_at known number ≡ Some terminal → terminal.standing ≡ Serving service last → ⊥
  serves-apart terminal service last found standing = let e : Serving service last ≡ Aside before reported = sym standing ∙ stands-aside terminal found in cc

-- the terminal of this number is set aside after the row of an item: no record is kept but the Settled of a till's own reconciliation, and no command is sent
record IsStillAside (known : Known) (item : RoundItem) (number before reported : ℕ) (row : Row) : Type 0 where
  pub aside : IsAsideAt row.core number before reported
  pub kept : (records_kept row.calls ≡ []) ⊎ KeepsSettled known item number row.calls
  pub asked_none : commands_in row.calls ≡ 0

module _ (known : Known) (item : RoundItem) (number before reported : ℕ) (was : IsAsideAt known.core number before reported) where
  -- a row that changes nothing leaves it so
  still-aside : (calls : List OwedCall) → records_kept calls ≡ [] → commands_in calls ≡ 0 → IsStillAside known item number before reported (owing known calls)
  still-aside calls kept_none asked_none = record { aside = was; kept = inl kept_none; asked_none = asked_none }

  idle-aside : IsStillAside known item number before reported (owing_nothing known)
  idle-aside = still-aside [] refl refl

  cut-aside : (at : ℕ) → IsStillAside known item number before reported (cutting known at)
  cut-aside at = still-aside (CutPt at ∷ []) refl refl

  greet-stays : (at : ℕ) (decoded : Result MessageValue PtFault) → IsStillAside known item number before reported (greet_decoded known at decoded)
  greet-stays at (Ok message) =
      each-linked (IsStillAside known item number before reported) known at (λ terminal. owing known (sending_calls at (greeting message))) idle-aside
      (λ terminal found linked. still-aside (sending_calls at (greeting message)) (greeting-keeps-none at (greeting message)) (greeting-asks-none at message))
  greet-stays at (Err fault) = each-linked (IsStillAside known item number before reported) known at (λ terminal. cutting known at) idle-aside (λ terminal found linked. cut-aside at)

  oversized-stays : (at : ℕ) → IsStillAside known item number before reported (oversized_row known at)
  oversized-stays at = each-linked (IsStillAside known item number before reported) known at (λ terminal. cutting known at) idle-aside (λ terminal found linked. cut-aside at)

  late-stays : (at : ℕ) → IsStillAside known item number before reported (late_row known at)
  late-stays at =
      each-terminal (IsStillAside known item number before reported) known at (λ terminal. owing_where (is_late known.moment terminal.talk) known (cutting known at)) idle-aside
      (λ terminal found. by-where (IsStillAside known item number before reported) known (cutting known at) (is_late known.moment terminal.talk) idle-aside (λ late. cut-aside at))

  due-stays : (at : ℕ) → IsStillAside known item number before reported (due_row known at)
  due-stays at =
      each-terminal (IsStillAside known item number before reported) known at (λ terminal. owing_where (is_due known.moment terminal.standing) known (owing known (LinkPt at ∷ []))) idle-aside
      (λ terminal found. by-where (IsStillAside known item number before reported) known (owing known (LinkPt at ∷ [])) (is_due known.moment terminal.standing) idle-aside (λ due. still-aside (LinkPt at ∷ []) refl refl))

  -- a message changes nothing but what is awaited
  handle-stays : (apdu : ApduValue) → IsStillAside known item number before reported (handle_row known number apdu)
  handle-stays apdu =
      each-handled (IsStillAside known item number before reported) known number apdu idle-aside
      (λ terminal message found linked is taken.
      let stands = stands-aside known number before reported was terminal found in
      subst (λ (at : Standing). IsStillAside known item number before reported (consequence known number (taking terminal message known.moment) (meaning_at terminal message) at)) (sym stands)
      (record {
        aside = record { terminal = _; found = new-is-there known.core.terminals number terminal _ found; standing_is = stands };
        kept = inl refl;
        asked_none = refl;
      }))
      (λ terminal message found linked is taken at stays. absurd (serves-apart known number before reported was terminal at.service at.last found at.standing_is))

-- it begins nothing, and has nothing to stop; a reconciliation of a till's own is settled
serve-stays : (known : Known) (number till : ℕ) (header : Header) (request : SaleRequest) (before reported : ℕ) → IsAsideAt known.core number before reported
    → IsStillAside known (Serve number till header request) number before reported (terminal_row known (Serve number till header request))
serve-stays known number till header request before reported was =
    each-served (IsStillAside known (Serve number till header request) number before reported) known number till header request (record {
      none = idle-aside known _ number before reported was;
      begins = λ terminal last asking at. absurd (ready-apart known number before reported was terminal last at.found at.standing_is);
      sent = λ terminal talk at may. absurd (serves-apart known number before reported was terminal at.service at.last at.found at.standing_is);
      wished = λ terminal talk at may. absurd (serves-apart known number before reported was terminal at.service at.last at.found at.standing_is);
      session = λ success. record { aside = record { terminal = was.terminal; found = was.found; standing_is = was.standing_is }; kept = inl refl; asked_none = refl };
      settles = λ terminal at. record {
        aside = was;
        kept = inr (record {
          till = till;
          header = header;
          item_is = ap (Serve number till header) at.request_is;
          terminal = terminal;
          found = at.found;
          kept_one = ap (λ (records : List Record). Settled (settled_of hows.Sale header terminal.pt.currency known.moment) ∷ records) (reply-keeps (Some till) (reply_to_settled known.kept (settled_of hows.Sale header terminal.pt.currency known.moment)));
        });
        asked_none = reply-commands (Some till) (reply_to_settled known.kept (settled_of hows.Sale header terminal.pt.currency known.moment));
      };
      day = λ terminal last at. absurd (ready-apart known number before reported was terminal last at.found at.standing_is);
      displays = λ terminal last outputs command at. absurd (ready-apart known number before reported was terminal last at.found at.standing_is);
    })

-- nothing that waits is begun or refused
next-stays : (known : Known) (number before reported : ℕ) → IsAsideAt known.core number before reported → IsStillAside known (NextWaiting number) number before reported (terminal_row known (NextWaiting number))
next-stays known number before reported was =
    each-next (IsStillAside known (NextWaiting number) number before reported) known number (record {
      none = idle-aside known _ number before reported was;
      refused = λ terminal last wait condition first is. absurd (ready-apart known number before reported was terminal last first.found first.standing_is);
      begins = λ terminal last wait asking at. absurd (ready-apart known number before reported was terminal last at.first.found at.first.standing_is);
      day = λ terminal last wait at. absurd (ready-apart known number before reported was terminal last at.first.found at.first.standing_is);
      left = λ terminal last wait first. absurd (ready-apart known number before reported was terminal last first.found first.standing_is);
    })

-- so with each item
item-stays : (known : Known) (item : RoundItem) (number before reported : ℕ) → terminal_of item ≡ Some number → is_link_lost item ≡ false → IsAsideAt known.core number before reported
    → IsStillAside known item number before reported (terminal_row known item)
item-stays known (Crowded till) number before reported about no_loss was = idle-aside known _ number before reported was
item-stays known (Message till bytes) number before reported about no_loss was = idle-aside known _ number before reported was
item-stays known (Asked till as_read) number before reported about no_loss was = idle-aside known _ number before reported was
item-stays known (Unframed till) number before reported about no_loss was = idle-aside known _ number before reported was
item-stays known (Gone till) number before reported about no_loss was = idle-aside known _ number before reported was
item-stays known (Greet at apdu) number before reported about no_loss was = greet-stays known _ number before reported was at (decode_pt_message apdu)
item-stays known (Handle at apdu) number before reported about no_loss was =
    subst (λ (n : ℕ). IsStillAside known (Handle n apdu) number before reported (handle_row known n apdu)) (sym (same-number at number about)) (handle-stays known (Handle number apdu) number before reported was apdu)
item-stays known (Serve at till header request) number before reported about no_loss was =
    subst (λ (n : ℕ). IsStillAside known (Serve n till header request) number before reported (terminal_row known (Serve n till header request))) (sym (same-number at number about)) (serve-stays known number till header request before reported was)
item-stays known (Queue at till header request) number before reported about no_loss was = idle-aside known _ number before reported was
item-stays known (NextWaiting at) number before reported about no_loss was =
    subst (λ (n : ℕ). IsStillAside known (NextWaiting n) number before reported (terminal_row known (NextWaiting n))) (sym (same-number at number about)) (next-stays known number before reported was)
item-stays known (Oversized at) number before reported about no_loss was = oversized-stays known _ number before reported was at
item-stays known (LinkLost at) number before reported about no_loss was = absurd cc
item-stays known (Late at) number before reported about no_loss was = late-stays known _ number before reported was at
item-stays known (Overdue key) number before reported about no_loss was = idle-aside known _ number before reported was
item-stays known (Due at) number before reported about no_loss was = due-stays known _ number before reported was at

pub aside-stays-aside : AsideStaysAside
aside-stays-aside known item number before reported about no_loss was =
    let still = item-stays known item number before reported about no_loss was in
    record { aside = still.aside; kept = still.kept; asked_none = still.asked_none }

-- ---- what has no trace number

module _ (known : Known) (number : ℕ) (old taken : Terminal) (service : Service) (last : ℕ) (found : terminal_at known number ≡ Some old) (serves : taken.standing ≡ Serving service last) where
  goes-on : (calls : List OwedCall) → HasStandingAfter number (Serving service last) (terminal_becomes known number taken calls)
  goes-on calls = record { terminal = taken; found = new-is-there known.core.terminals number old taken found; standing_is = serves }

  stopped-goes-on : HasStandingAfter number (Serving service last) (stops known number taken)
  stopped-goes-on = record { terminal = _; found = new-is-there known.core.terminals number old _ found; standing_is = serves }

  rests : (calls : List OwedCall) → HasStandingAfter number (Ready last) (terminal_becomes known number (done_with taken (Ready last)) calls)
  rests calls = record { terminal = _; found = new-is-there known.core.terminals number old _ found; standing_is = refl }

  day-leaves : (header : Header) (meant : Heard) → HasStandingAfter number (if is_done_or_declined meant then Ready last else Serving service last) (serving_day known number taken last header meant)
  day-leaves header (heard.Begun true) = stopped-goes-on
  day-leaves header (heard.Begun false) = goes-on []
  day-leaves header (heard.Note intermediate_status) = goes-on []
  day-leaves header heard.Line = goes-on []
  day-leaves header heard.Block = goes-on []
  day-leaves header heard.Seen = goes-on []
  day-leaves header (heard.Approved figures) = goes-on []
  day-leaves header heard.Done = rests _
  day-leaves header (heard.Told trace approved result_code) = goes-on []
  day-leaves header (heard.Declined result_code trace) = rests _
  day-leaves header heard.Unclear = goes-on _
  day-leaves header heard.Stray = goes-on []

  display-leaves : (header : Header) (results : Option (List Shown)) (meant : Heard)
      → HasStandingAfter number (if is_done_or_declined meant then Ready last else Serving service last) (serving_display known number taken last header results meant)
  display-leaves header results (heard.Begun stop) = goes-on []
  display-leaves header results (heard.Note intermediate_status) = goes-on []
  display-leaves header results heard.Line = goes-on []
  display-leaves header results heard.Block = goes-on []
  display-leaves header results heard.Seen = goes-on []
  display-leaves header results (heard.Approved figures) = goes-on []
  display-leaves header results heard.Done = rests _
  display-leaves header results (heard.Told trace approved result_code) = goes-on []
  display-leaves header results (heard.Declined result_code trace) = rests _
  display-leaves header results heard.Unclear = goes-on _
  display-leaves header results heard.Stray = goes-on []

service-leaves : (known : Known) (number : ℕ) (old taken : Terminal) (service : Service) (last : ℕ) (meant : Heard) → terminal_at known number ≡ Some old → taken.standing ≡ Serving service last → HasNoTrace service
    → HasStandingAfter number (if is_done_or_declined meant then Ready last else Serving service last) (serving known number taken service last meant)
service-leaves known number old taken (Transaction slot) last meant found serves none = absurd none
service-leaves known number old taken (EndOfDay header period) last meant found serves none = day-leaves known number old taken (EndOfDay header period) last found serves header meant
service-leaves known number old taken (Display header results) last meant found serves none = display-leaves known number old taken (Display header results) last found serves header results meant

-- what is done or declined was taken
not-ended : (terminal : Terminal) (message : MessageValue) → is_taken message ≡ false → is_done_or_declined (meaning_at terminal message) ≡ false
not-ended terminal message not = false_from_ne_true (is_done_or_declined (meaning_at terminal message)) (λ ends. apart (means-taken terminal message (meaning_at terminal message) refl (λ stray. contradicts (ap is_done_or_declined (sym stray) ∙ ends))))
  where
    contradicts : false ≡ true → ⊥
    contradicts e = cc

    apart : is_taken message ≡ true → ⊥
    apart is = contradicts (sym not ∙ is)

pub each-served-leaves-last : EachServedLeavesLast
each-served-leaves-last known number apdu terminal service last message found serves none is =
    subst (HasStandingAfter number (if is_done_or_declined (meaning_at terminal message) then Ready last else Serving service last))
    (sym (handled-is known number apdu terminal message found (ap is_linked serves) is)) (by-taken (is_taken message) refl)
  where
    by-taken : (taken : Bool) → is_taken message ≡ taken
        → HasStandingAfter number (if is_done_or_declined (meaning_at terminal message) then Ready last else Serving service last) (owing_where taken known (taken_row known number (taking terminal message known.moment) (meaning_at terminal message) message))
    by-taken true is =
        taken-cases (HasStandingAfter number (if is_done_or_declined (meaning_at terminal message) then Ready last else Serving service last)) known number (taking terminal message known.moment) (meaning_at terminal message) message
        (subst (λ (at : Standing). HasStandingAfter number (if is_done_or_declined (meaning_at terminal message) then Ready last else Serving service last) (consequence known number (taking terminal message known.moment) (meaning_at terminal message) at)) (sym serves)
        (service-leaves known number terminal (taking terminal message known.moment) service last (meaning_at terminal message) found serves none))
        (λ at stays. record { terminal = stays.terminal; found = stays.found; standing_is = stays.standing_is })
    by-taken false is = record {
      terminal = terminal;
      found = found;
      standing_is = serves ∙ sym (ap (λ (ends : Bool). if ends then Ready last else Serving service last) (not-ended terminal message is));
    }
