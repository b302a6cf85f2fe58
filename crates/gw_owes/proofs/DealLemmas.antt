-- The dialogue of a payment or a reversal is that of its Intent's deal.
use Rattle.std.proofs.Common.{◌≡◌, ℕ, zero, suc, List, [], ◌∷◌, ◌++◌, refl, sym, ◌∙◌, ap, subst, Bool, true, false}
use Rattle.std.specs.Prelude.{ℤ, ◌+ℤ◌, pos, map, nat_le, nat_lt, slice_get, Option, Some, None, option_and_then, if◌then◌else◌}
use Rattle.std.specs.Option.{option_map}
use Rattle.gw_base.specs.declared.figures.Figures.{Figures}
use Rattle.gw_base.specs.declared.setup.Pt.{Pt}
use Rattle.sale_reply.specs.declared.reply.Shown.{Shown}
use Rattle.sale_values.specs.declared.header.Header.{Header}
use Rattle.zvt_msg.specs.Message.{MessageValue}
use Rattle.zvt_talk.specs.declared.dialogue_kind.DialogueKind.{DialogueKind}
use Rattle.zvt_talk.specs.declared.meaning.Heard.{Heard}
use Rattle.zvt_talk.specs.declared.meaning.Heard.TheVariants as heard
use Rattle.zvt_talk.specs.Came.{is_taken}
use Rattle.zvt_talk.specs.Talk.{TalkFacts}
use Rattle.zvt_talk.specs.TalkSteps.{next_phase, next_talk, talk_after_stop_wished}
use Rattle.jrn_record.specs.declared.records.Deal.{Deal}
use Rattle.jrn_record.specs.declared.records.Deal.TheVariants as deals
use Rattle.jrn_record.specs.declared.records.Intent.{Intent as TheIntent}
use Rattle.jrn_record.specs.declared.records.Record.{Record}
use Rattle.jrn_record.specs.declared.records.Record.TheVariants.{Intent}
use Rattle.gw_ledger.specs.declared.entry.Entry.{Entry as TheEntry}
use Rattle.gw_ledger.specs.Slots.{as_intent}
use Rattle.xlate.specs.Ask.{ask_for}
use Rattle.gw_owes.specs.declared.terminal.Service.{Service}
use Rattle.gw_owes.specs.declared.terminal.Service.TheVariants.{Transaction, EndOfDay, Display}
use Rattle.gw_owes.specs.declared.terminal.Standing.{Standing}
use Rattle.gw_owes.specs.declared.terminal.Standing.TheVariants.{Unlinked, Registering, Enquiring, Ready, Serving, Aside}
use Rattle.gw_owes.specs.declared.terminal.Terminal.{Terminal}
use Rattle.gw_owes.specs.Calls.{OwedCall, records_kept}
use Rattle.gw_owes.specs.Core.{Core, new_terminal}
use Rattle.gw_owes.specs.DealLaws.{kind_of_deal, RunsItsDeal, ServesItsDeal, HasItsDeal, AllHaveDeals, NewCoreHasDeals, EachRowKeepsDeals, EachLinkKeepsDeals}
use Rattle.gw_owes.specs.Deadlines.{late_row, due_row}
use Rattle.gw_owes.specs.Displays.{serving_display}
use Rattle.gw_owes.specs.Greeting.{greet_row, oversized_row}
use Rattle.gw_owes.specs.Handling.{taken_as, meaning_at, taking, registering, enquiring, serving, consequence}
use Rattle.gw_owes.specs.Items.{Crowded, Message, Asked, Unframed, Gone, Greet, Handle, Serve, Queue, NextWaiting, Oversized, LinkLost, Late, Overdue, Due}
use Rattle.gw_owes.specs.Links.{LinkIsMade, LinkHasFailed, LinkIsLost}
use Rattle.gw_owes.specs.Reconciliations.{serving_day}
use Rattle.gw_owes.specs.Reports.{Report, on_record, standing_reported, outcome_reported, report_of_open, report_against}
use Rattle.gw_owes.specs.Row.{Known, Row, owing_nothing}
use Rattle.gw_owes.specs.Serving.{at_rest, done_with, approved_outcome, resolves, approved_row, serving_transaction}
use Rattle.gw_owes.specs.Terminals.{with_terminal, terminal_becomes, talk_of_command, link_lost, registers, unlinks}
use Rattle.gw_owes.proofs.DialogueLemmas.{with-new}
use Rattle.gw_owes.proofs.HandlingLemmas.{each-terminal, each-handled}
use Rattle.gw_owes.proofs.NextLemmas.{each-next, known_without}
use Rattle.gw_owes.proofs.PaymentLemmas.{each-served}
use Rattle.gw_owes.proofs.RecordLemmas.{last-there, intent-stays}
use Rattle.gw_owes.proofs.SetLemmas.{same-some}
use Rattle.gw_owes.proofs.TerminalLemmas.{greeting-changes-nothing, late-same, due-same, oversized-same}

-- ---- with more records

deal-stays : (kept more : List Record) (slot : ℕ) (talk : Option TalkFacts) → RunsItsDeal kept slot talk → RunsItsDeal (kept ++ more) slot talk
deal-stays kept more slot talk runs = record { intent = runs.intent; intent_is = intent-stays kept more slot runs.intent runs.intent_is; kind_is = runs.kind_is }

service-stays : (kept more : List Record) (service : Service) (talk : Option TalkFacts) → ServesItsDeal kept service talk → ServesItsDeal (kept ++ more) service talk
service-stays kept more (Transaction slot) talk serves = deal-stays kept more slot talk serves
service-stays kept more (EndOfDay header period) talk serves = tt
service-stays kept more (Display header results) talk serves = tt

standing-stays : (kept more : List Record) (standing : Standing) (talk : Option TalkFacts) → HasItsDeal kept standing talk → HasItsDeal (kept ++ more) standing talk
standing-stays kept more (Unlinked due) talk has = tt
standing-stays kept more Registering talk has = tt
standing-stays kept more Enquiring talk has = tt
standing-stays kept more (Ready last) talk has = tt
standing-stays kept more (Serving service last) talk has = service-stays kept more service talk has
standing-stays kept more (Aside before reported) talk has = tt

all-stay : (kept more : List Record) (core : Core) → AllHaveDeals kept core → AllHaveDeals (kept ++ more) core
all-stay kept more core all number terminal found = standing-stays kept more terminal.standing terminal.talk (all number terminal found)

-- ---- what a terminal becomes

-- what a row leaves, with the records that it keeps
record KeepsDeals (known : Known) (row : Row) : Type 0 where
  all : AllHaveDeals (known.kept ++ records_kept row.calls) row.core

-- nothing owed leaves it so
nothing-deals : (known : Known) → AllHaveDeals known.kept known.core → KeepsDeals known (owing_nothing known)
nothing-deals known all = record { all = all-stay known.kept [] known.core all }

becomes-with : (known : Known) (number : ℕ) (new : Terminal) (more : List Record) → AllHaveDeals known.kept known.core → HasItsDeal (known.kept ++ more) new.standing new.talk → AllHaveDeals (known.kept ++ more) (with_terminal known.core number new)
becomes-with known number new more all has =
    with-new (λ (t : Terminal). HasItsDeal (known.kept ++ more) t.standing t.talk) known.core.terminals number new (λ other terminal apart found. standing-stays known.kept more terminal.standing terminal.talk (all other terminal found)) has

becomes-deals : (known : Known) (number : ℕ) (new : Terminal) (calls : List OwedCall) → AllHaveDeals known.kept known.core → HasItsDeal known.kept new.standing new.talk → KeepsDeals known (terminal_becomes known number new calls)
becomes-deals known number new calls all has = record { all = becomes-with known number new (records_kept calls) all (standing-stays known.kept (records_kept calls) new.standing new.talk has) }

-- ---- what follows from a message

reported-rests : (kept : List Record) (above : Bool) (last before reported : ℕ) → HasItsDeal kept (if above then Ready last else Aside before reported) None
reported-rests kept true last before reported = tt
reported-rests kept false last before reported = tt

open-deals : (known : Known) (number : ℕ) (terminal : Terminal) (report : Report) (entry : TheEntry) → AllHaveDeals known.kept known.core → KeepsDeals known (report_of_open known number terminal report entry)
open-deals known number terminal report entry all = by-number (nat_le entry.intent.before report.trace)
  where
    by-number : (least : Bool) → KeepsDeals known (if least then resolves known number terminal (Ready report.trace) (outcome_reported entry report known.moment) else terminal_becomes known number (at_rest terminal (Aside entry.intent.before report.trace)) [])
    by-number true = becomes-deals known number (done_with terminal (Ready report.trace)) _ all tt
    by-number false = becomes-deals known number (at_rest terminal (Aside entry.intent.before report.trace)) [] all tt

report-deals : (known : Known) (number : ℕ) (terminal : Terminal) (opened : Option TheEntry) (last : ℕ) (report : Report) → AllHaveDeals known.kept known.core → KeepsDeals known (report_against opened last known number terminal report)
report-deals known number terminal None last report all = becomes-deals known number (at_rest terminal (standing_reported last report.trace)) [] all (reported-rests known.kept (nat_le last report.trace) report.trace last report.trace)
report-deals known number terminal (Some entry) last report all = open-deals known number terminal report entry all

approved-deals : (known : Known) (number : ℕ) (terminal : Terminal) (slot last : ℕ) (figures : Figures) → AllHaveDeals known.kept known.core → KeepsDeals known (approved_row known number terminal slot last figures)
approved-deals known number terminal slot last figures all = by-number (nat_lt last figures.number)
  where
    by-number : (above : Bool) → KeepsDeals known (if above then resolves known number terminal (Ready figures.number) (approved_outcome slot figures known.moment) else terminal_becomes known number (at_rest terminal (Aside last figures.number)) [])
    by-number true = becomes-deals known number (done_with terminal (Ready figures.number)) _ all tt
    by-number false = becomes-deals known number (at_rest terminal (Aside last figures.number)) [] all tt

registering-deals : (known : Known) (number : ℕ) (terminal : Terminal) (meant : Heard) → AllHaveDeals known.kept known.core → HasItsDeal known.kept terminal.standing terminal.talk → KeepsDeals known (registering known number terminal meant)
registering-deals known number terminal (heard.Begun stop) all has = becomes-deals known number terminal _ all has
registering-deals known number terminal (heard.Note intermediate_status) all has = becomes-deals known number terminal _ all has
registering-deals known number terminal heard.Line all has = becomes-deals known number terminal _ all has
registering-deals known number terminal heard.Block all has = becomes-deals known number terminal _ all has
registering-deals known number terminal heard.Seen all has = becomes-deals known number terminal _ all has
registering-deals known number terminal (heard.Approved figures) all has = becomes-deals known number terminal _ all has
registering-deals known number terminal heard.Done all has = becomes-deals known number _ _ all tt
registering-deals known number terminal (heard.Told reported approved result_code) all has = becomes-deals known number terminal _ all has
registering-deals known number terminal (heard.Declined result_code reported) all has = becomes-deals known number terminal _ all has
registering-deals known number terminal heard.Unclear all has = becomes-deals known number terminal _ all has
registering-deals known number terminal heard.Stray all has = becomes-deals known number terminal _ all has

enquiring-deals : (known : Known) (number : ℕ) (terminal : Terminal) (meant : Heard) → AllHaveDeals known.kept known.core → HasItsDeal known.kept terminal.standing terminal.talk → KeepsDeals known (enquiring known number terminal meant)
enquiring-deals known number terminal (heard.Begun stop) all has = becomes-deals known number terminal _ all has
enquiring-deals known number terminal (heard.Note intermediate_status) all has = becomes-deals known number terminal _ all has
enquiring-deals known number terminal heard.Line all has = becomes-deals known number terminal _ all has
enquiring-deals known number terminal heard.Block all has = becomes-deals known number terminal _ all has
enquiring-deals known number terminal heard.Seen all has = becomes-deals known number terminal _ all has
enquiring-deals known number terminal (heard.Approved figures) all has = becomes-deals known number terminal _ all has
enquiring-deals known number terminal heard.Done all has = becomes-deals known number terminal _ all has
enquiring-deals known number terminal (heard.Told reported approved result_code) all has =
    report-deals known number terminal (on_record known.kept terminal.pt.poi).opened (on_record known.kept terminal.pt.poi).last (record { trace = reported; approved = approved; result_code = result_code }) all
enquiring-deals known number terminal (heard.Declined result_code reported) all has = becomes-deals known number terminal _ all has
enquiring-deals known number terminal heard.Unclear all has = becomes-deals known number terminal _ all has
enquiring-deals known number terminal heard.Stray all has = becomes-deals known number terminal _ all has

transaction-deals : (known : Known) (number : ℕ) (terminal : Terminal) (slot last : ℕ) (meant : Heard) → AllHaveDeals known.kept known.core → HasItsDeal known.kept terminal.standing terminal.talk → KeepsDeals known (serving_transaction known number terminal slot last meant)
transaction-deals known number terminal slot last (heard.Begun true) all has = becomes-deals known number _ _ all has
transaction-deals known number terminal slot last (heard.Begun false) all has = becomes-deals known number terminal _ all has
transaction-deals known number terminal slot last (heard.Note intermediate_status) all has = becomes-deals known number terminal _ all has
transaction-deals known number terminal slot last heard.Line all has = becomes-deals known number terminal _ all has
transaction-deals known number terminal slot last heard.Block all has = becomes-deals known number terminal _ all has
transaction-deals known number terminal slot last heard.Seen all has = becomes-deals known number terminal _ all has
transaction-deals known number terminal slot last (heard.Approved figures) all has = approved-deals known number terminal slot last figures all
transaction-deals known number terminal slot last heard.Done all has = becomes-deals known number terminal _ all has
transaction-deals known number terminal slot last (heard.Told reported approved result_code) all has = becomes-deals known number terminal _ all has
transaction-deals known number terminal slot last (heard.Declined result_code reported) all has = becomes-deals known number _ _ all tt
transaction-deals known number terminal slot last heard.Unclear all has = becomes-deals known number terminal _ all has
transaction-deals known number terminal slot last heard.Stray all has = becomes-deals known number terminal _ all has

day-deals : (known : Known) (number : ℕ) (terminal : Terminal) (last : ℕ) (header : Header) (meant : Heard) → AllHaveDeals known.kept known.core → HasItsDeal known.kept terminal.standing terminal.talk → KeepsDeals known (serving_day known number terminal last header meant)
day-deals known number terminal last header (heard.Begun true) all has = becomes-deals known number _ _ all has
day-deals known number terminal last header (heard.Begun false) all has = becomes-deals known number terminal _ all has
day-deals known number terminal last header (heard.Note intermediate_status) all has = becomes-deals known number terminal _ all has
day-deals known number terminal last header heard.Line all has = becomes-deals known number terminal _ all has
day-deals known number terminal last header heard.Block all has = becomes-deals known number terminal _ all has
day-deals known number terminal last header heard.Seen all has = becomes-deals known number terminal _ all has
day-deals known number terminal last header (heard.Approved figures) all has = becomes-deals known number terminal _ all has
day-deals known number terminal last header heard.Done all has = becomes-deals known number _ _ all tt
day-deals known number terminal last header (heard.Told reported approved result_code) all has = becomes-deals known number terminal _ all has
day-deals known number terminal last header (heard.Declined result_code reported) all has = becomes-deals known number _ _ all tt
day-deals known number terminal last header heard.Unclear all has = becomes-deals known number terminal _ all has
day-deals known number terminal last header heard.Stray all has = becomes-deals known number terminal _ all has

display-deals : (known : Known) (number : ℕ) (terminal : Terminal) (last : ℕ) (header : Header) (results : Option (List Shown)) (meant : Heard) → AllHaveDeals known.kept known.core → HasItsDeal known.kept terminal.standing terminal.talk → KeepsDeals known (serving_display known number terminal last header results meant)
display-deals known number terminal last header results (heard.Begun stop) all has = becomes-deals known number terminal _ all has
display-deals known number terminal last header results (heard.Note intermediate_status) all has = becomes-deals known number terminal _ all has
display-deals known number terminal last header results heard.Line all has = becomes-deals known number terminal _ all has
display-deals known number terminal last header results heard.Block all has = becomes-deals known number terminal _ all has
display-deals known number terminal last header results heard.Seen all has = becomes-deals known number terminal _ all has
display-deals known number terminal last header results (heard.Approved figures) all has = becomes-deals known number terminal _ all has
display-deals known number terminal last header results heard.Done all has = becomes-deals known number _ _ all tt
display-deals known number terminal last header results (heard.Told reported approved result_code) all has = becomes-deals known number terminal _ all has
display-deals known number terminal last header results (heard.Declined result_code reported) all has = becomes-deals known number _ _ all tt
display-deals known number terminal last header results heard.Unclear all has = becomes-deals known number terminal _ all has
display-deals known number terminal last header results heard.Stray all has = becomes-deals known number terminal _ all has

serving-deals : (known : Known) (number : ℕ) (terminal : Terminal) (service : Service) (last : ℕ) (meant : Heard) → AllHaveDeals known.kept known.core → HasItsDeal known.kept terminal.standing terminal.talk
    → KeepsDeals known (serving known number terminal service last meant)
serving-deals known number terminal (Transaction slot) last meant all has = transaction-deals known number terminal slot last meant all has
serving-deals known number terminal (EndOfDay header period) last meant all has = day-deals known number terminal last header meant all has
serving-deals known number terminal (Display header results) last meant all has = display-deals known number terminal last header results meant all has

consequence-deals : (known : Known) (number : ℕ) (terminal : Terminal) (meant : Heard) (standing : Standing) → AllHaveDeals known.kept known.core → HasItsDeal known.kept terminal.standing terminal.talk
    → KeepsDeals known (consequence known number terminal meant standing)
consequence-deals known number terminal meant (Unlinked due) all has = nothing-deals known all
consequence-deals known number terminal meant Registering all has = registering-deals known number terminal meant all has
consequence-deals known number terminal meant Enquiring all has = enquiring-deals known number terminal meant all has
consequence-deals known number terminal meant (Ready last) all has = becomes-deals known number terminal _ all has
consequence-deals known number terminal meant (Serving service last) all has = serving-deals known number terminal service last meant all has
consequence-deals known number terminal meant (Aside before reported) all has = becomes-deals known number terminal _ all has

-- ---- a talk goes on in its dialogue

kind-next : (talk : TalkFacts) (message : MessageValue) (now : ℤ) → (next_talk talk message now).dialogue_kind ≡ talk.dialogue_kind
kind-next talk message now = by-test (is_taken message)
  where
    by-test : (test : Bool) → (if test then record talk { phase = next_phase talk.dialogue_kind talk.phase message; deadline = now +ℤ pos talk.command_time } else talk).dialogue_kind ≡ talk.dialogue_kind
    by-test true = refl
    by-test false = refl

-- what changes no dialogue changes no deal
same-deal : (kept : List Record) (standing : Standing) (talk : Option TalkFacts) (change : TalkFacts → TalkFacts) → ((facts : TalkFacts) → (change facts).dialogue_kind ≡ facts.dialogue_kind) → HasItsDeal kept standing talk
    → HasItsDeal kept standing (option_map change talk)
same-deal kept (Unlinked due) talk change same has = tt
same-deal kept Registering talk change same has = tt
same-deal kept Enquiring talk change same has = tt
same-deal kept (Ready last) talk change same has = tt
same-deal kept (Serving (Transaction slot) last) talk change same has = record { intent = has.intent; intent_is = has.intent_is; kind_is = same-kind talk ∙ has.kind_is }
  where
    same-kind : (runs : Option TalkFacts) → option_map (λ (facts : TalkFacts). facts.dialogue_kind) (option_map change runs) ≡ option_map (λ (facts : TalkFacts). facts.dialogue_kind) runs
    same-kind None = refl
    same-kind (Some facts) = ap (λ (k : DialogueKind). Some k) (same facts)
same-deal kept (Serving (EndOfDay header period) last) talk change same has = tt
same-deal kept (Serving (Display header results) last) talk change same has = tt
same-deal kept (Aside before reported) talk change same has = tt

taking-deal : (kept : List Record) (terminal : Terminal) (message : MessageValue) (moment : ℕ) → HasItsDeal kept terminal.standing terminal.talk → HasItsDeal kept terminal.standing (taking terminal message moment).talk
taking-deal kept terminal message moment has =
    same-deal kept terminal.standing terminal.talk (λ talk. next_talk talk (taken_as terminal.awaited message) (pos moment)) (λ facts. kind-next facts (taken_as terminal.awaited message) (pos moment)) has

wishing-deal : (kept : List Record) (standing : Standing) (runs : Option TalkFacts) (talk : TalkFacts) → runs ≡ Some talk → HasItsDeal kept standing runs → HasItsDeal kept standing (Some (talk_after_stop_wished talk))
wishing-deal kept standing runs talk is has =
    subst (λ (t : Option TalkFacts). HasItsDeal kept standing (option_map talk_after_stop_wished t)) is (same-deal kept standing runs talk_after_stop_wished (λ facts. refl) has)

-- ---- the rows

-- the command for an Intent begins the dialogue of its deal
asked-kind : (what : Deal) (intent : TheIntent) (original : Option TheEntry) (password : List ℕ) (pt : Pt) (moment : ℕ)
    → option_map (λ (facts : TalkFacts). facts.dialogue_kind) (talk_of_command pt (ask_for what intent original password) moment) ≡ Some (kind_of_deal what)
asked-kind deals.Payment intent original password pt moment = refl
asked-kind deals.Reversal intent original password pt moment = refl

same-keeps : (known : Known) (row : Row) → AllHaveDeals known.kept known.core → row.core ≡ known.core → AllHaveDeals (known.kept ++ records_kept row.calls) row.core
same-keeps known row all same = subst (λ (core : Core). AllHaveDeals (known.kept ++ records_kept row.calls) core) (sym same) (all-stay known.kept (records_kept row.calls) known.core all)

lost-keeps : (known : Known) (number : ℕ) (more : List Record) → AllHaveDeals known.kept known.core → AllHaveDeals (known.kept ++ more) (link_lost known number).core
lost-keeps known number more all =
    each-terminal (λ (row : Row). AllHaveDeals (known.kept ++ more) row.core) known number (unlinks known number) (all-stay known.kept more known.core all) (λ terminal found. becomes-with known number _ more all tt)

pub rows-keep-deals : EachRowKeepsDeals
rows-keep-deals known (Crowded till) all = all-stay known.kept [] known.core all
rows-keep-deals known (Message till bytes) all = all-stay known.kept [] known.core all
rows-keep-deals known (Asked till as_read) all = all-stay known.kept [] known.core all
rows-keep-deals known (Unframed till) all = all-stay known.kept [] known.core all
rows-keep-deals known (Gone till) all = all-stay known.kept [] known.core all
rows-keep-deals known (Greet number apdu) all = same-keeps known (greet_row known number apdu) all (greeting-changes-nothing known number apdu)
rows-keep-deals known (Handle number apdu) all =
    KeepsDeals.all (each-handled (KeepsDeals known) known number apdu (nothing-deals known all)
    (λ terminal message found linked is taken.
    consequence-deals known number (taking terminal message known.moment) (meaning_at terminal message) terminal.standing all (taking-deal known.kept terminal message known.moment (all number terminal found)))
    (λ terminal message found linked is taken at stays. record { all = stays.all }))
rows-keep-deals known (Serve number till header request) all =
    KeepsDeals.all (each-served (KeepsDeals known) known number till header request
    (record {
      none = nothing-deals known all;
      begins = λ terminal last asking at. record {
        all = becomes-with known number _ (Intent asking.intent ∷ []) all
            (record {
              intent = asking.intent;
              intent_is = ap (option_and_then as_intent) (last-there known.kept (Intent asking.intent));
              kind_is = asked-kind asking.intent.what asking.intent asking.original terminal.pt.password terminal.pt known.moment;
            });
      };
      sent = λ terminal talk at may. becomes-deals known number _ _ all (wishing-deal known.kept terminal.standing terminal.talk talk at.talk_is (all number terminal at.found));
      wished = λ terminal talk at may. becomes-deals known number _ _ all (wishing-deal known.kept terminal.standing terminal.talk talk at.talk_is (all number terminal at.found));
      session = λ success. record { all = all-stay known.kept [] known.core all };
      settles = λ terminal at. record { all = all-stay known.kept _ known.core all };
      day = λ terminal last at. becomes-deals known number _ _ all tt;
      displays = λ terminal last outputs command at. becomes-deals known number _ _ all tt;
    }))
rows-keep-deals known (Queue number till header request) all = all-stay known.kept [] known.core all
rows-keep-deals known (NextWaiting number) all =
    KeepsDeals.all (each-next (KeepsDeals known) known number
    (record {
      none = nothing-deals known all;
      refused = λ terminal last wait condition first is. record { all = all-stay known.kept [] known.core all };
      begins = λ terminal last wait asking at. record {
        all = becomes-with (known_without known wait) number _ (Intent asking.intent ∷ []) all
            (record {
              intent = asking.intent;
              intent_is = ap (option_and_then as_intent) (last-there known.kept (Intent asking.intent));
              kind_is = asked-kind asking.intent.what asking.intent asking.original terminal.pt.password terminal.pt known.moment;
            });
      };
      day = λ terminal last wait at. record { all = becomes-with (known_without known wait) number _ [] all tt };
      left = λ terminal last wait first. record { all = all-stay known.kept [] known.core all };
    }))
rows-keep-deals known (Oversized number) all = same-keeps known (oversized_row known number) all (oversized-same known number)
rows-keep-deals known (LinkLost number) all = lost-keeps known number (records_kept (link_lost known number).calls) all
rows-keep-deals known (Late number) all = same-keeps known (late_row known number) all (late-same known number)
rows-keep-deals known (Overdue key) all = all-stay known.kept [] known.core all
rows-keep-deals known (Due number) all = same-keeps known (due_row known number) all (due-same known number)

-- ---- links, and as a run begins

link-becomes : (known : Known) (number : ℕ) (new : Terminal) → AllHaveDeals known.kept known.core → HasItsDeal known.kept new.standing new.talk → AllHaveDeals known.kept (with_terminal known.core number new)
link-becomes known number new all has =
    with-new (λ (t : Terminal). HasItsDeal known.kept t.standing t.talk) known.core.terminals number new (λ other terminal apart found. all other terminal found) has

pub links-keep-deals : EachLinkKeepsDeals
links-keep-deals known number LinkIsMade all = each-terminal (λ (row : Row). AllHaveDeals known.kept row.core) known number (registers known number) all (λ terminal found. link-becomes known number _ all tt)
links-keep-deals known number LinkHasFailed all = each-terminal (λ (row : Row). AllHaveDeals known.kept row.core) known number (unlinks known number) all (λ terminal found. link-becomes known number _ all tt)
links-keep-deals known number LinkIsLost all = each-terminal (λ (row : Row). AllHaveDeals known.kept row.core) known number (unlinks known number) all (λ terminal found. link-becomes known number _ all tt)

pub new-has-deals : NewCoreHasDeals
new-has-deals setup kept number terminal found = in-list setup.terminals number found
  where
    in-list : (pts : List Pt) (number : ℕ) → slice_get (map new_terminal pts) number ≡ Some terminal → HasItsDeal kept terminal.standing terminal.talk
    in-list [] number f = absurd cc
    in-list (pt ∷ pts) zero f = subst (λ (t : Terminal). HasItsDeal kept t.standing t.talk) (same-some (new_terminal pt) terminal f) tt
    in-list (pt ∷ pts) (suc number) f = in-list pts number f
