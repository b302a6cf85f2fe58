-- The examples of the records beside what is remembered are computed, and their premises hold.
use Rattle.std.proofs.Common.{◌≡◌, ◌≢◌, ◌+◌, ◌≤◌, ℕ, zero, suc, true, false, List, [], ◌∷◌, length, refl, sym, ap, subst, arith, Some, lit≤}
use Rattle.std.specs.Fmt.{digits}
use Rattle.std.specs.Prelude.{None, All, codes, pos, slice_get}
use Rattle.std.proofs.lemmas.Int.{ints}
use Rattle.std.proofs.lemmas.List.Elements.{All-from_recursion, All-nil, All-cons}
use Rattle.std.proofs.lemmas.Option.{same_Some}
use Rattle.gw_base.specs.Bcd.{IsBcd, IsBcdByte}
use Rattle.gw_base.specs.Moment.{IsMoment}
use Rattle.gw_base.specs.Setup.{IsPt, IsSetup}
use Rattle.gw_base.specs.Transaction.{transaction_text}
use Rattle.gw_base.specs.declared.setup.Pt.{Pt}
use Rattle.jrn_record.specs.declared.records.Record.{Record}
use Rattle.sale_reply.specs.Limits.{IsHeaderWithinLimits}
use Rattle.jrn_record.specs.declared.records.Record.TheVariants.{Intent, Outcome, Settled}
use Rattle.zvt_msg.specs.declared.command.Command.TheVariants.{Stop}
use Rattle.zvt_msg.specs.MessageDecode.{decode_pt_message}
use Rattle.gw_ledger.specs.Accounts.{last_number_of}
use Rattle.gw_ledger.specs.Example.{day}
use Rattle.gw_ledger.specs.History.{history}
use Rattle.gw_ledger.specs.Sums.{open_count_of}
use Rattle.gw_ledger.specs.Keys.{settled_key}
use Rattle.gw_ledger.specs.Premises.{ExampleOutcome, ExamplePayment, ExampleReconciliation, day_opened, day_settled, fourth, fourth_approval, second_reversal}
use Rattle.gw_owes.specs.declared.terminal.Standing.TheVariants.{Ready}
use Rattle.gw_owes.specs.declared.terminal.Terminal.{Terminal}
use Rattle.gw_owes.specs.Calls.{Ask, OwedCall, SendPt, records_kept}
use Rattle.gw_owes.specs.Core.{new_terminal}
use Rattle.gw_owes.specs.Items.{RoundItem, Asked}
use Rattle.gw_owes.specs.Links.{LinkIsLost}
use Rattle.gw_owes.specs.ReadAs.{Request}
use Rattle.owes_examples.specs.RecordExample.{ExampleIntentKept, ExampleKeyStaysOpen, ExampleOutcomeKept, ExampleRequestBegins, ExampleReversalKept, ExampleSettledKept, ExampleStopKeepsNothing, day_ended, fourth_asked, fourth_begins, fourth_stops, paying_terminal, ready_known, second_reverses, sends, serving_known, settling_known, settling_terminal}
use Rattle.gw_owes.specs.RecordLaws.{EachCutKeepsInOrder, EachLinkKeepsInOrder, EachRowBringsReadItems, EachRowKeepsInOrder, HasNoneOpen, IsInOrder, IsReadItem, IsTerminalInOrder, KeepsInOrder, IsReadFromTill}
use Rattle.gw_owes.specs.Rows.{row_of}
use Rattle.owes_examples.specs.StepExample.{abort_header, abort_of_service, day_pt, period_header, reversal_header, reversal_of_text}
use Rattle.gw_owes.specs.TerminalExample.{setup_with}
use Rattle.gw_owes.specs.TerminalLaws.{owes_cut}
use Rattle.gw_owes.specs.TerminalRows.{terminal_row}
use Rattle.owes_examples.proofs.AskedTextLemmas.{ident-tested}

-- the laws, and what the ledger's own examples say of the day
pub record RecordFacts : Type 0 where
  pub rows : EachRowKeepsInOrder
  pub cuts : EachCutKeepsInOrder
  pub links : EachLinkKeepsInOrder
  pub items : EachRowBringsReadItems
  pub ready : ExamplePayment
  pub opened : ExampleOutcome
  pub reconciled : ExampleReconciliation
  pub read : IsReadFromTill fourth_asked
  pub reversed : IsReadFromTill (Request (reversal_header (codes "4")) (reversal_of_text (codes "000124-0017-2") None))
  pub aborted : IsReadFromTill (Request abort_header (abort_of_service (codes "4")))

-- ---- what is known is in order

bcd-bytes : IsBcd (0x12 ∷ 0x34 ∷ 0x56 ∷ [])
bcd-bytes = All-from_recursion IsBcdByte (0x12 ∷ 0x34 ∷ 0x56 ∷ []) ((omega arith, omega arith), ((omega arith, omega arith), ((omega arith, omega arith), tt)))

pt-within : IsPt day_pt
pt-within = record {
  poi = ident-tested 40 (codes "A") refl;
  password = (refl, bcd-bytes);
  config = omega arith;
  none = omega arith;
  answer = (omega arith, omega arith);
  command = (omega arith, omega arith);
}

pub setup-within : IsSetup (setup_with (day_pt ∷ []))
setup-within = record {
  name = ident-tested 40 (codes "GATEWAY") refl;
  line = omega arith;
  wait = (omega arith, omega arith);
  slots = (omega arith, omega arith);
  count = omega arith;
  each = All-cons IsPt day_pt [] pt-within (All-nil IsPt);
  distinct = (All-nil (λ (other : Pt). day_pt.poi ≢ other.poi), tt);
}

pub first-moment : IsMoment (pos 0)
first-moment = (omega (arith, ints), omega (arith, ints))

-- what holds of the one terminal holds of each
pub one-terminal : (P : Terminal → Type 0) (one : Terminal) → P one → (number : ℕ) (terminal : Terminal) → slice_get (one ∷ []) number ≡ Some terminal → P terminal
one-terminal P one holds zero terminal found = subst P (same_Some one terminal found) holds
one-terminal P one holds (suc number) terminal found = absurd cc

day-room : length day + (open_count_of day + 0) ≤ 1000000
unfolding history
day-room = lit≤ tt

opened-room : length day_opened + (open_count_of day_opened + 0) ≤ 1000000
unfolding history
opened-room = lit≤ tt

settling-room : length day + (open_count_of day + 1) ≤ 1000000
unfolding history
settling-room = lit≤ tt

period-within : IsHeaderWithinLimits (period_header (codes "4"))
period-within = record {
  category = ident-tested 40 (codes "Reconciliation") refl;
  service = ident-tested 10 (codes "4") refl;
  device = tt;
  sale = ident-tested 40 (codes "S") refl;
  poi = ident-tested 40 (codes "A") refl;
}

opened-number : last_number_of day_opened (codes "A") ≤ 125
unfolding history
opened-number = lit≤ tt

module _ (facts : RecordFacts) where
  rests : HasNoneOpen day (codes "A") 125
  rests = record { none_open = facts.ready.none_open; not_below = facts.ready.not_below; within = omega arith }

  ready-in-order : IsInOrder ready_known
  ready-in-order = record {
    folded = facts.ready.folded;
    room = day-room;
    of_setup = record { within = setup-within; settings = refl };
    moment = first-moment;
    numbered = lit≤ tt;
    terminals = one-terminal (IsTerminalInOrder day) (record (new_terminal day_pt) { standing = Ready 125 })
        (record { records = rests; read = tt });
  }

  paying-in-order : IsTerminalInOrder day_opened paying_terminal
  paying-in-order = record {
    records = record { intent = fourth; is_open = facts.opened.entry; before = refl; not_below = opened-number };
    read = record { amount = omega arith; trace = omega arith; receipt = omega arith };
  }

  serving-in-order : IsInOrder serving_known
  serving-in-order = record {
    folded = facts.opened.folded;
    room = opened-room;
    of_setup = record { within = setup-within; settings = refl };
    moment = first-moment;
    numbered = lit≤ tt;
    terminals = one-terminal (IsTerminalInOrder day_opened) paying_terminal paying-in-order;
  }

  settling-in-order : IsInOrder settling_known
  settling-in-order = record {
    folded = facts.reconciled.folded;
    room = settling-room;
    of_setup = record { within = setup-within; settings = refl };
    moment = first-moment;
    numbered = lit≤ tt;
    terminals = one-terminal (IsTerminalInOrder day) settling_terminal (record {
      records = record { rests = rests; heading = period-within; names = refl; period_is = refl; key = settled_key day_settled; key_is = refl; unknown = facts.reconciled.unknown };
      read = tt;
    });
  }

  -- each request names the terminal
  one-pt : (pt : Pt) → slice_get (day_pt ∷ []) 0 ≡ Some pt → pt.poi ≡ codes "A"
  one-pt pt found = ap (λ (p : Pt). p.poi) (sym (same_Some day_pt pt found))

  begins-read : IsReadItem ready_known.setup fourth_begins
  begins-read = record { read = facts.read; names = one-pt }

  reverses-read : IsReadItem ready_known.setup second_reverses
  reverses-read = record { read = facts.reversed; names = one-pt }

  stops-read : IsReadItem serving_known.setup fourth_stops
  stops-read = record { read = facts.aborted; names = one-pt }

-- ---- what is kept

begun-items : (row_of (record { number = 3; heard = [] } ∷ []) ready_known (Asked 3 fourth_asked)).items ≡ fourth_begins ∷ []
unfolding history
begun-items = refl

intent-kept : records_kept (terminal_row ready_known fourth_begins).calls ≡ Intent fourth ∷ []
unfolding history
intent-kept = refl

intent-uncut : owes_cut (terminal_row ready_known fourth_begins).calls ≡ false
unfolding history
intent-uncut = refl

outcome-kept : records_kept (terminal_row serving_known (sends 0x06 0x0F)).calls ≡ Outcome fourth_approval ∷ []
unfolding history decode_pt_message
outcome-kept = refl

outcome-uncut : owes_cut (terminal_row serving_known (sends 0x06 0x0F)).calls ≡ false
unfolding history decode_pt_message
outcome-uncut = refl

unclear-cut : owes_cut (terminal_row serving_known (sends 0x06 0x1E)).calls ≡ true
unfolding history decode_pt_message
unclear-cut = refl

settled-kept : records_kept (terminal_row settling_known (sends 0x06 0x0F)).calls ≡ Settled day_ended ∷ []
unfolding history decode_pt_message
settled-kept = refl

settled-uncut : owes_cut (terminal_row settling_known (sends 0x06 0x0F)).calls ≡ false
unfolding history decode_pt_message
settled-uncut = refl

reversal-kept : records_kept (terminal_row ready_known second_reverses).calls ≡ Intent second_reversal ∷ []
unfolding history transaction_text digits
reversal-kept = refl

reversal-uncut : owes_cut (terminal_row ready_known second_reverses).calls ≡ false
unfolding history transaction_text digits
reversal-uncut = refl

stop-sent : (terminal_row serving_known fourth_stops).calls ≡ SendPt 0 (Ask Stop) ∷ []
unfolding history
stop-sent = refl

-- ---- the examples

pub request-begins : RecordFacts → ExampleRequestBegins
request-begins facts = record {
  in_order = ready-in-order facts;
  read = facts.read;
  items = begun-items;
  items_read = subst (λ (items : List RoundItem). All (IsReadItem ready_known.setup) items) begun-items (facts.items (record { number = 3; heard = [] } ∷ []) ready_known (Asked 3 fourth_asked) (ready-in-order facts) facts.read);
}

pub intent-is-kept : RecordFacts → ExampleIntentKept
intent-is-kept facts = record {
  in_order = ready-in-order facts;
  read = begins-read facts;
  uncut = intent-uncut;
  kept = intent-kept;
  keeps = subst (λ (kept : List Record). KeepsInOrder ready_known kept (terminal_row ready_known fourth_begins).core) intent-kept (facts.rows ready_known fourth_begins (λ n e. absurd cc) (ready-in-order facts) (begins-read facts) intent-uncut);
}

pub outcome-is-kept : RecordFacts → ExampleOutcomeKept
outcome-is-kept facts = record {
  in_order = serving-in-order facts;
  uncut = outcome-uncut;
  kept = outcome-kept;
  keeps = subst (λ (kept : List Record). KeepsInOrder serving_known kept (terminal_row serving_known (sends 0x06 0x0F)).core) outcome-kept
      (facts.rows serving_known (sends 0x06 0x0F) (λ n e. absurd cc) (serving-in-order facts) tt outcome-uncut);
}

pub key-stays-open : RecordFacts → ExampleKeyStaysOpen
key-stays-open facts =
    let left = facts.cuts serving_known (sends 0x06 0x1E) 0 refl (serving-in-order facts) unclear-cut in
    record {
      in_order = serving-in-order facts;
      cut = unclear-cut;
      none_kept = left.none_kept;
      others = left.others;
      lost = (facts.links (record serving_known { core = (terminal_row serving_known (sends 0x06 0x1E)).core }) 0 LinkIsLost).terminals left.others;
    }

pub reversal-is-kept : RecordFacts → ExampleReversalKept
reversal-is-kept facts = record {
  in_order = ready-in-order facts;
  read = reverses-read facts;
  uncut = reversal-uncut;
  kept = reversal-kept;
  keeps = subst (λ (kept : List Record). KeepsInOrder ready_known kept (terminal_row ready_known second_reverses).core) reversal-kept
      (facts.rows ready_known second_reverses (λ n e. absurd cc) (ready-in-order facts) (reverses-read facts) reversal-uncut);
}

pub stop-keeps-nothing : RecordFacts → ExampleStopKeepsNothing
stop-keeps-nothing facts = record {
  in_order = serving-in-order facts;
  read = stops-read facts;
  calls = stop-sent;
  keeps = subst (λ (calls : List OwedCall). KeepsInOrder serving_known (records_kept calls) (terminal_row serving_known fourth_stops).core) stop-sent
      (facts.rows serving_known fourth_stops (λ n e. absurd cc) (serving-in-order facts) (stops-read facts) (ap owes_cut stop-sent));
}

pub settled-is-kept : RecordFacts → ExampleSettledKept
settled-is-kept facts = record {
  in_order = settling-in-order facts;
  uncut = settled-uncut;
  kept = settled-kept;
  keeps = subst (λ (kept : List Record). KeepsInOrder settling_known kept (terminal_row settling_known (sends 0x06 0x0F)).core) settled-kept
      (facts.rows settling_known (sends 0x06 0x0F) (λ n e. absurd cc) (settling-in-order facts) tt settled-uncut);
}
