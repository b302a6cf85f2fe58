-- What the ends that messages of terminals bring say of an honest book: approvals, declines, and the reports of last transactions.
use Rattle.std.proofs.Common.{◌≡◌, ◌⊎◌, ◌≤◌, ◌<◌, ◌∙◌, ℕ, Bool, true, false, ◌&&◌, ◌||◌, not, eqb, ltb, List, [], ◌∷◌, ◌++◌, inl, inr, refl, sym, ap, subst, arith}
use Rattle.std.specs.Prelude.{if◌then◌else◌, map, Option, Some, None, option_and_then}
use Rattle.std.specs.List.{list_all, list_any}
use Rattle.std.specs.Option.{option_to_list}
use Rattle.std.proofs.lemmas.Bool.{and_parts, eqb-true, false_from_ne_true, ltb-false, ltb-true, true≢false}
use Rattle.std.proofs.lemmas.Option.{same_Some}
use Rattle.gw_base.specs.declared.condition.Condition.TheVariants.{Aborted}
use Rattle.gw_base.specs.declared.figures.Figures.{Figures}
use Rattle.gw_base.specs.declared.key.Key.{Key}
use Rattle.zvt_msg.specs.Message.{MessageValue}
use Rattle.zvt_talk.specs.declared.meaning.Heard.{Heard}
use Rattle.zvt_talk.specs.declared.meaning.Heard.TheVariants as heard
use Rattle.jrn_record.specs.declared.records.Record.{Record}
use Rattle.gw_ledger.specs.declared.entry.Entry.{Entry as TheEntry}
use Rattle.gw_ledger.specs.Accounts.{last_number_of}
use Rattle.gw_ledger.specs.Fold.{open_entry}
use Rattle.gw_ledger.specs.Keys.{intent_key}
use Rattle.gw_owes.specs.declared.terminal.Standing.{Standing}
use Rattle.gw_owes.specs.declared.terminal.Standing.TheVariants.{Enquiring}
use Rattle.gw_owes.specs.declared.terminal.Terminal.{Terminal}
use Rattle.gw_owes.specs.Handling.{meaning_at}
use Rattle.gw_owes.specs.Reports.{Report, least_against, least_reported, on_record, outcome_as_last, outcome_reported}
use Rattle.gw_owes.specs.Row.{Known}
use Rattle.gw_owes.specs.Serving.{approved_outcome, refused_outcome}
use Rattle.gw_owes.specs.Terminals.{terminal_at}
use Rattle.gw_owes.proofs.RecordLemmas.{LedgerLaws, open-parts, open-without-outcome}
use Rattle.gw_books.specs.Books.{BookedEntry, Honest, comes_before, has_figures, is_caused, is_caused_by, is_entry_number, is_over, is_true, was_booked}
use Rattle.gw_books.specs.Past.{OfMessage, SentCommand, Ending, Approved, Declined, Reported, HeardEnd, Past, command_served, ending_at, ending_with, ends_by, served_in, Numbering, numbering_at}
use Rattle.gw_books.proofs.AgreeLemmas.{caused-numbering}
use Rattle.gw_books.proofs.BookLemmas.{HasLastEntry, HasNoEntry, after-cause, booked-is, booked-later, caused-is, earlier-lower, is-caused, numbered-within, of-sent, precedes, quiet-later, quiet-since-link, report-true, reported-booked, reported-highest}
use Rattle.gw_books.proofs.Holding.{AreKeyed, HasApprovedEntry, HasNoApproval, HoldsBetween, IsApprovalTrue, IsDeclineTrue, IsOutcomeTrue}
use Rattle.gw_books.proofs.ListLemmas.{In, all-in, any-in}
use Rattle.gw_books.proofs.Numbering.{AreLinkedBeforeHearing, HasEntryBefore, IsBookedNumber, IsForKey, IsLinkedSince, IsOfSent, IsOpenNumbered, IsQuiet, IsReadyNumber, IsStandingNumbered, NumberedBetween}
use Rattle.gw_books.proofs.RecordNumberLemmas.{open-numbered, open-numbering}
use Rattle.gw_base.specs.declared.setup.Pt.{Pt}

-- ---- what a message brings

-- the past with what a message of a terminal brings
abbrev pub past_with : Past → ℕ → MessageValue → Terminal → Past
past_with past number message terminal = record past { occasion = OfMessage number message; ends = ends_by past message terminal ++ past.ends }

-- this end of a dialogue, at the last hearing
abbrev pub end_heard : Past → Pt → Ending → HeardEnd
end_heard past pt ending = record { place = past.heard; numbering = numbering_at pt; ending = ending }

-- the end that a message brings is true
pub end-true : (past : Past) (book : List BookedEntry) (number : ℕ) (message : MessageValue) (terminal : Terminal) (ending : Ending) → Honest (past_with past number message terminal) book → ending_at past terminal message ≡ Some ending
    → is_true book (end_heard past terminal.pt ending) ending ≡ true
end-true past book number message terminal ending honest brings =
    let end : HeardEnd = end_heard past terminal.pt ending in
    let ends : ends_by past message terminal ≡ end ∷ [] = ap (λ (found : Option Ending). map (λ (one : Ending). end_heard past terminal.pt one) (option_to_list found)) brings in
    let all : list_all (λ (one : HeardEnd). is_true book one one.ending) (end ∷ past.ends) ≡ true =
    subst (λ (es : List HeardEnd). list_all (λ (one : HeardEnd). is_true book one one.ending) (es ++ past.ends) ≡ true) ends honest.true_ends in
    (and_parts (is_true book end ending) (list_all (λ (one : HeardEnd). is_true book one one.ending) past.ends) all).0

-- ---- approvals and declines

-- where not both are true and the one is, the other is false
not-so : (one other : Bool) → not (one && other) ≡ true → one ≡ true → other ≡ false
not-so true true is here = absurd cc
not-so true false is here = refl
not-so false other is here = absurd cc

-- where the one is true, and it isn't or the other is, the other is true
pub or-other : (one other : Bool) → (not one || other) ≡ true → one ≡ true → other ≡ true
or-other true other is here = is
or-other false other is here = absurd cc

-- an entry with these figures has their numbers and their amount
pub record HasNumbersOf (figures : Figures) (entry : BookedEntry) : Type 0 where
  pub approved : entry.approved ≡ true
  pub number : entry.number ≡ figures.number
  pub receipt : entry.receipt ≡ figures.receipt
  pub amount : entry.amount ≡ figures.amount

pub figures-are : (figures : Figures) (entry : BookedEntry) → has_figures figures entry ≡ true → HasNumbersOf figures entry
figures-are figures entry is =
    let approved = and_parts entry.approved (eqb entry.number figures.number && (eqb entry.receipt figures.receipt && eqb entry.amount figures.amount)) is in
    let number = and_parts (eqb entry.number figures.number) (eqb entry.receipt figures.receipt && eqb entry.amount figures.amount) approved.1 in
    let rest = and_parts (eqb entry.receipt figures.receipt) (eqb entry.amount figures.amount) number.1 in
    record {
      approved = approved.0;
      number = eqb-true entry.number figures.number number.0;
      receipt = eqb-true entry.receipt figures.receipt rest.0;
      amount = eqb-true entry.amount figures.amount rest.1;
    }

-- an approval that is true has its entry
pub approval-borne : (book : List BookedEntry) (now : ℕ) (command : SentCommand) (end : HeardEnd) (slot : ℕ) (figures : Figures) (moment : ℕ) → end.place ≤ now → is_true book end (Approved command.place figures) ≡ true
    → HasApprovedEntry book now command (approved_outcome slot figures moment)
approval-borne book now command end slot figures moment until is =
    let both = and_parts (is_over book end command.place) (list_any (λ (entry : BookedEntry). is_caused_by command.place entry && has_figures figures entry) book) is in
    let some = any-in (λ (entry : BookedEntry). is_caused_by command.place entry && has_figures figures entry) book both.1 in
    let entry : BookedEntry = some.0 in
    let parts = and_parts (is_caused_by command.place entry) (has_figures figures entry) some.2 in
    let numbers = figures-are figures entry parts.1 in
    let booked : was_booked end entry ≡ true =
    or-other (is_caused_by command.place entry) (was_booked end entry) (all-in (λ (one : BookedEntry). not (is_caused_by command.place one) || was_booked end one) book both.0 entry some.1) parts.0 in
    let placed : entry.place ≤ end.place = (booked-is end entry booked).1 in
    record {
      entry = entry;
      within = some.1;
      caused = caused-is command.place entry parts.0;
      placed = omega (arith, until, placed);
      approved = numbers.approved;
      number = numbers.number;
      receipt = numbers.receipt;
      amount = numbers.amount;
    }

-- a decline that is true has no approved entry
pub decline-borne : (book : List BookedEntry) (command : SentCommand) (end : HeardEnd) (trace : Option ℕ) → is_true book end (Declined command.place trace) ≡ true → HasNoApproval book command
decline-borne book command end trace is entry within caused =
    let none_is : Bool = list_all (λ (one : BookedEntry). not (is_caused_by command.place one && one.approved)) book in
    let numbers : Bool = list_all (is_entry_number book end) (option_to_list trace) in
    let over = and_parts (is_over book end command.place) (none_is && numbers) is in
    let none = and_parts none_is numbers over.1 in
    not-so (is_caused_by command.place entry) entry.approved (all-in (λ (one : BookedEntry). not (is_caused_by command.place one && one.approved)) book none.0 entry within) (is-caused command.place entry caused)

-- ---- reports

-- what a report says of its terminal, with the records as it is heard: the terminal is ready with its trace number, which isn't too low; the Outcome of what is open is borne out, and so is its number
pub record ReportFacts (book : List BookedEntry) (commands : List SentCommand) (kept : List Record) (numbering : Numbering) (place : ℕ) (report : Report) : Type 0 where
  pub ready : IsReadyNumber book commands numbering place report.trace
  pub not_below : least_reported (on_record kept numbering.poi) ≤ report.trace
  pub outcome : (entry : TheEntry) (moment : ℕ) → open_entry kept numbering.poi ≡ Some entry → IsOutcomeTrue commands book place (intent_key entry.intent) (outcome_reported entry report moment)
  pub number : (entry : TheEntry) (moment : ℕ) → open_entry kept numbering.poi ≡ Some entry → IsBookedNumber book numbering place (outcome_reported entry report moment).number

module _ (past : Past) (book : List BookedEntry) (honest : Honest past book) (kept : List Record) (keyed : AreKeyed kept past.place past.commands) (until : past.heard ≤ past.place) (numbering : Numbering) (linked : AreLinkedBeforeHearing past)
    (since : IsLinkedSince past.links past.commands numbering) (report : Report) (says : HasLastEntry book numbering past.heard report.trace report.approved ⊎ HasNoEntry book numbering past.heard report.trace) where
  -- all entries of the terminal's commands that were sent were booked at the hearing
  heard-quiet : IsQuiet book past.commands numbering past.heard
  heard-quiet entry within same sent =
      let before = quiet-since-link past book honest numbering since entry within same sent in
      let made = linked since.link since.made in
      omega (arith, before, made)

  -- no entry that was has a greater number
  heard-highest : (entry : BookedEntry) → In entry book → entry.numbering ≡ numbering → entry.place ≤ past.heard → entry.number ≤ report.trace
  heard-highest entry within same placed = reported-highest book numbering past.heard report.trace report.approved says entry within same placed

  -- nor is a number greater that is booked by now
  booked-not-above : (number : ℕ) → IsBookedNumber book numbering past.place number → number ≤ report.trace
  booked-not-above number (inl none) = omega (arith, none)
  booked-not-above number (inr has) =
      let highest = heard-highest has.entry has.within has.numbering_is (heard-quiet has.entry has.within has.numbering_is (of-sent past book honest has.entry has.within has.placed)) in
      let is = has.number_is in
      omega (arith, highest, is)

  reported-ready : IsReadyNumber book past.commands numbering past.place report.trace
  reported-ready = record {
    booked = booked-later past.heard past.place until book numbering report.trace (reported-booked book numbering past.heard report.trace report.approved says);
    greatest = λ entry within same sent approved. heard-highest entry within same (heard-quiet entry within same sent);
    quiet = quiet-later past.heard past.place until book past.commands numbering heard-quiet;
  }

  -- an entry of a command that was sent
  cause-numbering : (command : SentCommand) → In command past.commands → (entry : BookedEntry) → In entry book → entry.cause ≡ Some command.place → command.numbering ≡ entry.numbering
  cause-numbering command sent entry within caused =
      caused-numbering past entry command keyed.falling sent caused (all-in (λ (one : BookedEntry). is_caused past one one.cause) book honest.caused entry within)

  cause-sent : (command : SentCommand) → In command past.commands → (entry : BookedEntry) → In entry book → entry.cause ≡ Some command.place → IsOfSent past.commands entry
  cause-sent command sent entry within caused place is =
      record { command = command; sent = sent; place_is = same_Some command.place place (sym caused ∙ is); numbering_is = cause-numbering command sent entry within caused }

  -- ---- where a key is open

  module _ (key : Key) (before : ℕ) (opened : IsOpenNumbered book past.commands numbering past.place key before) where
    before-not-above : before ≤ report.trace
    before-not-above = by-base opened.base
      where
        by-base : (before ≡ 0) ⊎ HasEntryBefore book past.commands numbering past.place key before → before ≤ report.trace
        by-base (inl none) = omega (arith, none)
        by-base (inr has) = booked-not-above before (inr has.numbered)

    -- an entry of a command for the key is the terminal's, and was booked at the hearing
    own-numbering : (command : SentCommand) → In command past.commands → command.key ≡ Some key → (entry : BookedEntry) → In entry book → entry.cause ≡ Some command.place → entry.numbering ≡ numbering
    own-numbering command sent key_is entry within caused = sym (cause-numbering command sent entry within caused) ∙ opened.sent_to command sent key_is

    own-placed : (command : SentCommand) → In command past.commands → command.key ≡ Some key → (entry : BookedEntry) → In entry book → entry.cause ≡ Some command.place → entry.place ≤ past.heard
    own-placed command sent key_is entry within caused = heard-quiet entry within (own-numbering command sent key_is entry within caused) (cause-sent command sent entry within caused)

    -- with a trace number above the one before, what is reported is what is open
    approved-as-last : (slot moment : ℕ) (figures : Figures) → report.approved ≡ Some figures → before < report.trace → IsApprovalTrue past.commands book past.place key (approved_outcome slot figures moment)
    approved-as-last slot moment figures is rises = by-last says
      where
        borne : (entry : BookedEntry) → In entry book → entry.place ≤ past.heard → HasNumbersOf figures entry → IsForKey past.commands key entry → IsApprovalTrue past.commands book past.place key (approved_outcome slot figures moment)
        borne entry within placed numbers own = record {
          command = own.command;
          sent = own.sent;
          key_is = own.key_is;
          booked = record {
            entry = entry;
            within = within;
            caused = own.caused;
            placed = omega (arith, placed, until);
            approved = numbers.approved;
            number = numbers.number;
            receipt = numbers.receipt;
            amount = numbers.amount;
          };
        }

        by-last : HasLastEntry book numbering past.heard report.trace report.approved ⊎ HasNoEntry book numbering past.heard report.trace → IsApprovalTrue past.commands book past.place key (approved_outcome slot figures moment)
        by-last (inl last) =
            let numbers = figures-are figures last.entry (last.approved figures is) in
            let placed = last.placed in
            elim (opened.lower last.entry last.within last.numbering_is (of-sent past book honest last.entry last.within (omega (arith, placed, until))) numbers.approved) [
              | inl low ↦ let number = last.number_is in absurd (omega (arith, low, number, rises))
              | inr own ↦ borne last.entry last.within last.placed numbers own
            ]
        by-last (inr none) = let zero = none.trace_is in absurd (omega (arith, zero, rises))

    declined-as-last : report.approved ≡ None → before < report.trace → IsDeclineTrue past.commands book key
    declined-as-last none rises command sent key_is entry within caused = false_from_ne_true entry.approved (λ approved. by-last approved says)
      where
        placed : entry.place ≤ past.heard
        placed = own-placed command sent key_is entry within caused

        here : entry.numbering ≡ numbering
        here = own-numbering command sent key_is entry within caused

        -- the last entry isn't one of another command: it comes after that of the key's
        by-other : (last : HasLastEntry book numbering past.heard report.trace report.approved) → comes_before entry (HasLastEntry.entry last) ≡ true → ⊥
        by-other last first =
            let precedes_last = precedes entry last.entry (ap (λ (n : Numbering). n.poi) (here ∙ sym last.numbering_is)) first in
            let last_placed = last.placed in
            elim (opened.others last.entry last.within last.numbering_is (of-sent past book honest last.entry last.within (omega (arith, last_placed, until))) command sent key_is) [
              | inl early ↦
                  let after = after-cause past book honest entry within command.place caused in
                  let place = precedes_last.place in
                  absurd (omega (arith, early, after, place))
              | inr own ↦
                  let same : own.command ≡ command = keyed.once own.command command key own.sent sent own.key_is key_is in
                  precedes_last.causes command.place caused (own.caused ∙ ap (λ (one : SentCommand). Some one.place) same)
            ]

        by-last : entry.approved ≡ true → HasLastEntry book numbering past.heard report.trace report.approved ⊎ HasNoEntry book numbering past.heard report.trace → ⊥
        by-last approved (inl last) = elim (last.last entry within here placed) [
          | inl same ↦ true≢false (sym approved ∙ ap (λ (one : BookedEntry). one.approved) same ∙ last.declined none)
          | inr first ↦ by-other last first
        ]
        by-last approved (inr no_entry) = let later = no_entry.none entry within here in absurd (omega (arith, later, placed))

    as-last : (slot moment : ℕ) (approved : Option Figures) → report.approved ≡ approved → before < report.trace → IsOutcomeTrue past.commands book past.place key (outcome_as_last slot approved report.result_code moment)
    as-last slot moment (Some figures) is rises = approved-as-last slot moment figures is rises
    as-last slot moment None is rises = declined-as-last is rises

    as-last-number : (slot moment : ℕ) (approved : Option Figures) → report.approved ≡ approved → before < report.trace → IsBookedNumber book numbering past.place (outcome_as_last slot approved report.result_code moment).number
    as-last-number slot moment (Some figures) is rises = by-last says
      where
        by-last : HasLastEntry book numbering past.heard report.trace report.approved ⊎ HasNoEntry book numbering past.heard report.trace → IsBookedNumber book numbering past.place figures.number
        by-last (inl last) =
            let placed = last.placed in
            inr (record { entry = last.entry; within = last.within; numbering_is = last.numbering_is; placed = omega (arith, placed, until); number_is = (figures-are figures last.entry (last.approved figures is)).number })
        by-last (inr none) = let zero = none.trace_is in absurd (omega (arith, zero, rises))
    as-last-number slot moment None is rises = inl refl

    -- where it isn't above, no command for the key has an entry
    none-came : report.trace ≤ before → IsDeclineTrue past.commands book key
    none-came low command sent key_is entry within caused = absurd (by-base opened.base)
      where
        here : entry.numbering ≡ numbering
        here = own-numbering command sent key_is entry within caused

        highest : entry.number ≤ report.trace
        highest = heard-highest entry within here (own-placed command sent key_is entry within caused)

        by-base : (before ≡ 0) ⊎ HasEntryBefore book past.commands numbering past.place key before → ⊥
        by-base (inl none) = let least = numbered-within past book honest entry within in omega (arith, least, highest, low, none)
        by-base (inr has) =
            let base = has.numbered in
            let early = has.earlier command sent key_is in
            let after = after-cause past book honest entry within command.place caused in
            let lower = earlier-lower book honest.ordered base.entry entry base.within within (base.numbering_is ∙ sym here) (omega (arith, early, after)) in
            let is = base.number_is in
            omega (arith, lower, is, highest, low)

  -- the Outcome of what is open
  outcome-borne : (entry : TheEntry) (moment : ℕ) → IsOpenNumbered book past.commands numbering past.place (intent_key entry.intent) entry.intent.before
      → IsOutcomeTrue past.commands book past.place (intent_key entry.intent) (outcome_reported entry report moment)
  outcome-borne entry moment opened = by-test (ltb entry.intent.before report.trace) refl
    where
      by-test : (b : Bool) → ltb entry.intent.before report.trace ≡ b
          → IsOutcomeTrue past.commands book past.place (intent_key entry.intent) (if b then outcome_as_last entry.slot report.approved report.result_code moment else refused_outcome entry.slot Aborted moment)
      by-test true rises = as-last (intent_key entry.intent) entry.intent.before opened entry.slot moment report.approved refl (ltb-true entry.intent.before report.trace rises)
      by-test false stays = none-came (intent_key entry.intent) entry.intent.before opened (ltb-false entry.intent.before report.trace stays)

  number-booked : (entry : TheEntry) (moment : ℕ) → IsOpenNumbered book past.commands numbering past.place (intent_key entry.intent) entry.intent.before → IsBookedNumber book numbering past.place (outcome_reported entry report moment).number
  number-booked entry moment opened = by-test (ltb entry.intent.before report.trace) refl
    where
      by-test : (b : Bool) → ltb entry.intent.before report.trace ≡ b
          → IsBookedNumber book numbering past.place (if b then outcome_as_last entry.slot report.approved report.result_code moment else refused_outcome entry.slot Aborted moment).number
      by-test true rises = as-last-number (intent_key entry.intent) entry.intent.before opened entry.slot moment report.approved refl (ltb-true entry.intent.before report.trace rises)
      by-test false stays = inl refl

  -- all of it, by what is open
  facts-of : ((entry : TheEntry) → open_entry kept numbering.poi ≡ Some entry → IsOpenNumbered book past.commands numbering past.place (intent_key entry.intent) entry.intent.before) → IsBookedNumber book numbering past.place (last_number_of kept numbering.poi)
      → ReportFacts book past.commands kept numbering past.place report
  facts-of opened last = record {
    ready = reported-ready;
    not_below = by-open (open_entry kept numbering.poi) refl;
    outcome = λ entry moment is. outcome-borne entry moment (opened entry is);
    number = λ entry moment is. number-booked entry moment (opened entry is);
  }
    where
      by-open : (found : Option TheEntry) → open_entry kept numbering.poi ≡ found → least_against found (last_number_of kept numbering.poi) ≤ report.trace
      by-open None is = booked-not-above (last_number_of kept numbering.poi) last
      by-open (Some entry) is = before-not-above (intent_key entry.intent) entry.intent.before (opened entry is)

-- a report at an enquiry
pub report-borne : (laws : LedgerLaws) (known : Known) (past : Past) (book : List BookedEntry) → HoldsBetween known past book → NumberedBetween known past book → AreLinkedBeforeHearing past
    → (number : ℕ) (old : Terminal) (message : MessageValue) → terminal_at known number ≡ Some old → old.standing ≡ Enquiring → Honest (past_with past number message old) book
    → (trace : ℕ) (approved : Option Figures) (result_code : ℕ) → meaning_at old message ≡ heard.Told trace approved result_code
    → ReportFacts book past.commands known.kept (numbering_at old.pt) past.place (record { trace = trace; approved = approved; result_code = result_code })
report-borne laws known past book holds numbered linked number old message here enquiring honest trace approved result_code means =
    facts-of (past_with past number message old) book honest known.kept holds.commands holds.heard (numbering_at old.pt) linked since (record { trace = trace; approved = approved; result_code = result_code }) says opened (numbered.records.last (numbering_at old.pt))
  where
    since : IsLinkedSince past.links past.commands (numbering_at old.pt)
    since = subst (λ (standing : Standing). IsStandingNumbered past.links past.commands past.place book (numbering_at old.pt) standing) enquiring (numbered.standings number old here)

    brings : ending_at past old message ≡ Some (Reported trace approved)
    brings = ap (λ (meant : Heard). ending_with (option_and_then (command_served past old.pt.poi) (served_in old.standing)) meant) means

    says : HasLastEntry book (numbering_at old.pt) past.heard trace approved ⊎ HasNoEntry book (numbering_at old.pt) past.heard trace
    says = report-true (past_with past number message old) book (end_heard past old.pt (Reported trace approved)) trace approved honest (end-true past book number message old (Reported trace approved) honest brings)

    opened : (entry : TheEntry) → open_entry known.kept old.pt.poi ≡ Some entry → IsOpenNumbered book past.commands (numbering_at old.pt) past.place (intent_key entry.intent) entry.intent.before
    opened entry is =
        let parts = open-parts laws known.kept holds.in_order.folded old.pt.poi entry.slot entry.intent (open-without-outcome laws known.kept holds.in_order.folded old.pt.poi entry is) in
        subst (λ (n : Numbering). IsOpenNumbered book past.commands n past.place (intent_key entry.intent) entry.intent.before) (open-numbering laws known.kept holds.in_order.folded old.pt entry.slot entry.intent parts.slot_is parts.intent_is)
        (open-numbered laws known.kept holds.in_order.folded book past.commands past.place numbered.records.intents old.pt.poi entry.slot entry.intent parts.slot_is parts.intent_is)
