-- The premises of the laws of reversals and Aborts hold in closed examples, which are computed.
use Rattle.std.proofs.Common.{◌≡◌, ◌∙◌, inl, inr, ℕ, true, false, List, refl, sym, ap, subst, arith, Option, Some, None}
use Rattle.std.specs.Fmt.{digits}
use Rattle.std.specs.Prelude.{codes}
use Rattle.gw_owes.specs.PaymentExample.{till_header}
use Rattle.std.proofs.lemmas.Option.{same_Some}
use Rattle.gw_base.specs.Transaction.{transaction_text}
use Rattle.gw_base.specs.declared.condition.Condition.TheVariants.{Cancel}
use Rattle.jrn_record.specs.declared.records.Outcome.{Outcome as TheOutcome}
use Rattle.jrn_record.specs.declared.records.Record.{Record}
use Rattle.gw_ledger.specs.History.{history}
use Rattle.gw_ledger.specs.Accounts.{is_settled}
use Rattle.gw_ledger.specs.Slots.{is_reversed}
use Rattle.gw_ledger.specs.declared.entry.Entry.{Entry as TheEntry}
use Rattle.gw_ledger.specs.declared.entry.Found.TheVariants.{Entry}
use Rattle.zvt_msg.specs.MessageDecode.{decode_pt_message}
use Rattle.zvt_msg.specs.Message.{Completion, Abort}
use Rattle.zvt_talk.specs.declared.phase.Phase.{Phase}
use Rattle.zvt_talk.specs.declared.phase.Phase.TheVariants.{Asked, Begun}
use Rattle.zvt_talk.specs.TalkSteps.{no_statuses}
use Rattle.gw_owes.specs.declared.terminal.Service.TheVariants.{Transaction}
use Rattle.gw_owes.specs.declared.terminal.Standing.{Standing}
use Rattle.gw_owes.specs.declared.terminal.Standing.TheVariants.{Ready, Serving, Unlinked}
use Rattle.gw_owes.specs.Core.{new_terminal}
use Rattle.gw_owes.specs.Diagnosis.{NamedTerminal}
use Rattle.gw_owes.specs.Dialogues.{AwaitedServing}
use Rattle.gw_owes.specs.PaymentExample.{approved_with_amount, declined_for, intent_after}
use Rattle.gw_owes.specs.PaymentLaws.{IsReversible}
use Rattle.gw_owes.specs.Payments.{asked_for}
use Rattle.owes_examples.specs.ReversalExample.{declined_records, ended_records, payment_records, paid_text, reversal_ask_of, reversal_intent_kept, reversed_with_amount, settled_records}
use Rattle.gw_owes.specs.KeptReplies.{found_for}
use Rattle.gw_owes.specs.ReversalLaws.{HasNumberAndRoom, IsNewAtTerminal, IsNewOfTill, NamesReversible, ServesAnother}
use Rattle.owes_examples.specs.ReversalPremises.{ExampleReversalAccepted, ExampleIrreversible, ExampleReversalCauses, ExampleReversalMeans, ExampleReversalWaits, ExampleMayStop, MayStopIn, header_to_reverse, known_ready, known_in_slots, original_entry, ready_with_paid, reversal_entry, reversing_records, reversing_talk, whole_reversal, with_line, with_waiting}
use Rattle.gw_owes.specs.Reversals.{original_of}
use Rattle.gw_owes.specs.Row.{Known}
use Rattle.gw_owes.specs.Sessions.{is_logged_out}
use Rattle.gw_owes.specs.Steps.{is_used_up, lacks_room}
use Rattle.gw_owes.specs.TerminalExample.{one_pt}
use Rattle.gw_owes.specs.Waits.{is_pending_key}

-- ---- one that may begin

none-reversed : is_reversed payment_records 0 ≡ false
unfolding history
none-reversed = refl

none-settled : is_settled payment_records 0 ≡ false
unfolding history
none-settled = refl

may-reverse : IsReversible payment_records whole_reversal original_entry (approved_with_amount 1099)
may-reverse = record {
  what = refl;
  result = refl;
  approved = refl;
  whole = λ amount asked. absurd cc;
  not_reversed = none-reversed;
  not_settled = none-settled;
}

pub reversal-accepted : ExampleReversalAccepted
unfolding history transaction_text digits
reversal-accepted = record {
  there = refl;
  named = refl;
  found = refl;
  unknown = refl;
  not_pending = refl;
  logged_in = refl;
  original = refl;
  reversible = may-reverse;
  number_left = refl;
  room = refl;
  steps = refl;
  begins = refl;
  item = record { items_are = refl; no_reply = refl };
  served = record {
    original = original_entry;
    named = refl;
    approval = approved_with_amount 1099;
    reversible = may-reverse;
    intent = reversal_intent_kept;
    says = record { what = refl; original_is = refl; amount = refl; currency = refl; key = λ key own. same_Some _ key own; transaction = refl; stamp = refl; before = refl; moment_is = refl };
    goes_on = record { terminal = asked_for (known_ready payment_records) 1 ready_with_paid 123 reversal_intent_kept (Some original_entry); found = refl; standing_is = refl; calls_are = refl };
    for_till = refl;
    none_more = refl;
  };
}

-- ---- why others may not

-- its Outcome is this one
only-outcome : (kept : List Record) (text : List ℕ) (amount : Option ℕ) (entry : TheEntry) (outcome approval : TheOutcome) → entry.result ≡ Some outcome → IsReversible kept (reversal_ask_of text amount) entry approval → outcome ≡ approval
only-outcome kept text amount entry outcome approval is reversible = same_Some outcome approval (sym is ∙ reversible.result)

part : (approval : TheOutcome) → IsReversible payment_records (reversal_ask_of paid_text (Some 1)) original_entry approval → ⊥
part approval reversible =
    let whole : 1 ≡ approval.amount = reversible.whole 1 refl in
    let is : 1099 ≡ approval.amount = ap (λ (o : TheOutcome). o.amount) (only-outcome payment_records paid_text (Some 1) original_entry (approved_with_amount 1099) approval refl reversible) in
    omega arith

abbrev declined_entry : TheEntry
declined_entry = record { slot = 0; intent = intent_after 0; result = Some (declined_for Cancel) }

declined : (approval : TheOutcome) → IsReversible declined_records (reversal_ask_of (codes "000000-0000-0") None) declined_entry approval → ⊥
declined approval reversible =
    let approved = reversible.approved in
    let is = ap (λ (o : TheOutcome). o.approved) (same_Some (declined_for Cancel) approval reversible.result) in
    absurd cc

reversed-once : is_reversed (ended_records (reversed_with_amount 1099)) 0 ≡ true
unfolding history
reversed-once = refl

reversed : (approval : TheOutcome) → IsReversible (ended_records (reversed_with_amount 1099)) whole_reversal original_entry approval → ⊥
reversed approval reversible =
    let is = reversed-once in
    let not = reversible.not_reversed in
    absurd cc

abbrev reversal_made : TheEntry
reversal_made = record { slot = 2; intent = reversal_intent_kept; result = Some (reversed_with_amount 1099) }

reversal : (approval : TheOutcome) → IsReversible (ended_records (reversed_with_amount 1099)) (reversal_ask_of (codes "000124-0018-2") None) reversal_made approval → ⊥
reversal approval reversible =
    let what = reversible.what in
    absurd cc

settled-there : is_settled settled_records 0 ≡ true
unfolding history
settled-there = refl

settled : (approval : TheOutcome) → IsReversible settled_records whole_reversal original_entry approval → ⊥
settled approval reversible =
    let is = settled-there in
    let not = reversible.not_settled in
    absurd cc

pub irreversible : ExampleIrreversible
unfolding history transaction_text digits
irreversible = record {
  named_none = refl;
  part = record { unknown = refl; names = record { original = original_entry; named = refl; irreversible = part } };
  declined = record { unknown = refl; names = record { original = declined_entry; named = refl; irreversible = declined } };
  reversed = record { unknown = refl; names = record { original = original_entry; named = refl; irreversible = reversed } };
  reversal = record { unknown = refl; names = record { original = reversal_made; named = refl; irreversible = reversal } };
  settled_one = record { unknown = refl; names = record { original = original_entry; named = refl; irreversible = settled } };
}

-- ---- what ends one that is served

pub reversal-means : ExampleReversalMeans
unfolding history decode_pt_message
reversal-means = record {
  entry = record { found = refl; what = refl };
  above = omega arith;
  approved = record { found = refl; standing_is = refl; message = Completion; decoded = refl; means = refl };
  declined = record { found = refl; standing_is = refl; message = Abort (Some 0xB4); decoded = refl; means = refl };
  reported = record { reports = record { found = refl; standing_is = refl; message = Completion; decoded = refl; means = refl }; opened = refl };
  reported_decline = record { reports = record { found = refl; standing_is = refl; message = Completion; decoded = refl; means = refl }; opened = refl };
  unperformed = record { reports = record { found = refl; standing_is = refl; message = Completion; decoded = refl; means = refl }; opened = refl };
  before = refl;
}

-- ---- each cause of a refusal

none-reversed-yet : is_reversed reversing_records 0 ≡ false
unfolding history
none-reversed-yet = refl

none-settled-yet : is_settled reversing_records 0 ≡ false
unfolding history
none-settled-yet = refl

may-reverse-yet : IsReversible reversing_records whole_reversal original_entry (approved_with_amount 1099)
may-reverse-yet = record {
  what = refl;
  result = refl;
  approved = refl;
  whole = λ amount asked. absurd cc;
  not_reversed = none-reversed-yet;
  not_settled = none-settled-yet;
}

-- the terminal with this standing
abbrev terminal-in : Standing → NamedTerminal
terminal-in standing = record { number = 0; terminal = record (new_terminal one_pt) { standing = standing } }

-- the key isn't that of an end of day that is served there; none waits
abbrev ServesNoDay : Standing → Type 0
ServesNoDay standing = is_pending_key (known_in_slots 0 payment_records standing).core header_to_reverse (Some (terminal-in standing)) ≡ false

-- the key is new there
is-new : (slots : ℕ) (standing : Standing) → ServesNoDay standing → IsNewAtTerminal (known_in_slots slots payment_records standing) header_to_reverse (Some (terminal-in standing))
unfolding history
is-new slots standing none = record { unknown = refl; not_pending = none; terminal = terminal-in standing; is_named = refl }

-- and the SaleID isn't logged out
from-till : (slots : ℕ) (standing : Standing) → ServesNoDay standing → IsNewOfTill (known_in_slots slots payment_records standing) header_to_reverse (Some (terminal-in standing))
unfolding history
from-till slots standing none = record { new = is-new slots standing none; logged_in = refl }

-- and the text names the payment
names-payment : (slots : ℕ) (standing : Standing) → ServesNoDay standing → NamesReversible (known_in_slots slots payment_records standing) header_to_reverse whole_reversal (Some (terminal-in standing))
unfolding history transaction_text digits
names-payment slots standing none = record { new = from-till slots standing none; original = original_entry; original_is = refl; approval = approved_with_amount 1099; reversible = may-reverse }

-- while the terminal serves another reversal, one with the ServiceID 3 passes its steps up to the last
passes-yet : (known : Known) → known.kept ≡ reversing_records → is_pending_key known.core (till_header (codes "Reversal") (codes "3")) (Some (terminal-in (Serving (Transaction 2) 123))) ≡ false
    → is_logged_out known.core (codes "S1") (codes "T1") ≡ false → lacks_room known.setup.slots reversing_records known.core ≡ false
    → HasNumberAndRoom known (till_header (codes "Reversal") (codes "3")) whole_reversal (Some (terminal-in (Serving (Transaction 2) 123)))
unfolding history transaction_text digits
passes-yet known kept not_pending logged_in room = record {
  names = record {
    new = record {
      new = record { unknown = ap (λ (k : List Record). found_for k (till_header (codes "Reversal") (codes "3"))) kept; not_pending = not_pending; terminal = terminal-in (Serving (Transaction 2) 123); is_named = refl };
      logged_in = logged_in;
    };
    original = original_entry;
    original_is = ap (λ (k : List Record). original_of k (codes "T1") whole_reversal) kept;
    approval = approved_with_amount 1099;
    reversible = subst (λ (k : List Record). IsReversible k whole_reversal original_entry (approved_with_amount 1099)) (sym kept) may-reverse-yet;
  };
  number = ap (λ (k : List Record). is_used_up k (codes "T1") (Some (terminal-in (Serving (Transaction 2) 123)))) kept;
  room = ap (λ (k : List Record). lacks_room known.setup.slots k known.core) kept ∙ room;
}

serves-yet : ServesAnother (Some (terminal-in (Serving (Transaction 2) 123)))
serves-yet = record { terminal = terminal-in (Serving (Transaction 2) 123); is_named = refl; service = Transaction 2; last = 123; serves = refl }

pub causes : ExampleReversalCauses
unfolding history transaction_text digits
causes = record {
  in_progress = inl (record { found = Entry reversal_entry; on_record = refl; same = refl; is_open = refl });
  other_content = inl (record { found = Entry reversal_entry; on_record = refl; other = refl });
  waits_again = inr (record { unknown = refl; again = refl });
  waits_otherwise = inr (inl (record { unknown = refl; pending = refl; other = refl }));
  key_of_day = inr (inl (record { unknown = refl; pending = refl; other = refl }));
  unconfigured = inl (record { unknown = refl; not_pending = refl; unnamed = refl });
  logged_out = (record { unknown = refl; not_pending = refl; terminal = terminal-in (Ready 123); is_named = refl }, refl);
  named_none = (from-till 1000000 (Ready 123) refl, refl);
  irreversible = inr (inr (from-till 1000000 (Ready 123) refl, record { original = original_entry; named = refl; irreversible = part }));
  used_up = (names-payment 1000000 (Ready 999999) refl, inl refl);
  no_room = (names-payment 3 (Ready 123) refl, inr refl);
  unlinked = inr (record { names = names-payment 4 (Unlinked None) refl; number = refl; room = refl }, record { terminal = terminal-in (Unlinked None); is_named = refl; out = refl });
  busy = (passes-yet (known_in_slots 1000000 reversing_records (Serving (Transaction 2) 123)) refl refl refl refl, (serves-yet, refl));
  full = (
    passes-yet (with_line 1 (with_waiting (known_in_slots 1000000 reversing_records (Serving (Transaction 2) 123)) (till_header (codes "Reversal") (codes "4")) whole_reversal)) refl refl refl refl,
    (serves-yet, refl),
  );
}

pub reversal-waits : ExampleReversalWaits
unfolding history transaction_text digits
reversal-waits = record {
  passes = passes-yet (with_line 1 (known_in_slots 1000000 reversing_records (Serving (Transaction 2) 123))) refl refl refl refl;
  serving = serves-yet;
  not_full = refl;
  waits = refl;
  no_reply = refl;
}

-- ---- dialogues that are to stop

may-stop : (stop_phase : Phase) (awaited : ℕ) → AwaitedServing stop_phase awaited → MayStopIn stop_phase awaited
unfolding history
may-stop stop_phase awaited is = record {
  named = refl;
  serves = record { found = refl; serves = refl; talk_is = refl };
  standing_is = refl;
  dialogue = record { facts = reversing_talk stop_phase; talk_is = refl; kind_is = refl; awaited_is = is };
}

pub dialogues-may-stop : ExampleMayStop
unfolding history decode_pt_message
dialogues-may-stop = record {
  open_key = refl;
  asked = may-stop (Asked false) 1 (omega arith);
  wished = may-stop (Asked true) 1 (omega arith);
  begun = may-stop (Begun false no_statuses) 0 tt;
  stopped = may-stop (Begun true no_statuses) 1 tt;
  acknowledged = refl;
  refused = refl;
  cancelled = record { found = refl; standing_is = refl; message = Abort (Some 0x6C); decoded = refl; means = refl };
  aborted = record { found = refl; standing_is = refl; message = Abort (Some 0x6C); decoded = refl; means = refl };
}
