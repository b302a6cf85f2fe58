-- The examples of requests that wait are computed.
use Rattle.std.proofs.Common.{◌≡◌, ◌+◌, ◌≤◌, inl, lit≤, List, [], ◌∷◌, ◌++◌, length, refl, sym, ap, subst, arith}
use Rattle.std.specs.Fmt.{digits}
use Rattle.std.specs.Prelude.{Some, None, codes}
use Rattle.std.proofs.lemmas.List.{append-nil}
use Rattle.std.proofs.lemmas.Option.{same_Some}
use Rattle.gw_base.specs.Setup.{IsSetup}
use Rattle.gw_base.specs.Transaction.{transaction_text}
use Rattle.gw_base.specs.declared.setup.Pt.{Pt}
use Rattle.sale_reply.specs.Limits.{IsHeaderWithinLimits}
use Rattle.zvt_apdu.specs.DecodeStream.{decode_apdus, decode_apdus_within}
use Rattle.zvt_bmp.specs.Decode.{decode_field_value, decode_status, decode_status_field, decode_status_within}
use Rattle.zvt_msg.specs.MessageDecode.{decode_pt_message}
use Rattle.jrn_record.specs.declared.records.Record.{Record}
use Rattle.jrn_record.specs.declared.records.Record.TheVariants.{Intent}
use Rattle.gw_ledger.specs.Example.{day}
use Rattle.gw_ledger.specs.History.{history}
use Rattle.gw_ledger.specs.Premises.{ExamplePayment, fourth}
use Rattle.gw_ledger.specs.Sums.{open_count_of}
use Rattle.gw_owes.specs.Calls.{OwedCall, records_kept}
use Rattle.gw_owes.specs.Core.{Core}
use Rattle.gw_owes.specs.Items.{NextWaiting}
use Rattle.gw_owes.specs.PaymentExample.{two_tills}
use Rattle.gw_owes.specs.RecordLaws.{IsInOrder, IsReadItem, IsTerminalInOrder}
use Rattle.gw_owes.specs.Rows.{row_of}
use Rattle.gw_owes.specs.StepExample.{asked_at, euros, payment_header}
use Rattle.owes_examples.specs.StepExample.{asking_header, day_pt, reference_to}
use Rattle.gw_owes.specs.Steps.{Waits, refused_again, step_result}
use Rattle.owes_examples.specs.WaitingExample.{ExampleBusyQueue, ExampleDeadlineOrder, ExampleLogoutMeanwhile, ExampleOtherAborts, ExampleQueue, ExampleQueueRoom, ExampleRefusedInOneGo, ExampleReversalRefused, ExampleTillTakesItsOwn, ExampleDeadline, ExampleWaitingAgain, ExampleWaitingPremises, fourth_queues, fourth_wait, known_ready_again, known_with_fourth, known_with_line, ready_again, showing_terminal}
use Rattle.gw_owes.specs.WaitingLaws.{AreWaitsInOrder, EachFirstIsNext, EachRowKeepsWaits, EachTakesItsOwn, EachThatMayJoins, StatusOfWaitingIsInProgress, WaitingKeyIsReplied}
use Rattle.owes_examples.proofs.AskedTextLemmas.{fourth-read, ident-tested}
use Rattle.owes_examples.proofs.RecordExampleLemmas.{first-moment, one-terminal, setup-within}

pub queue : ExampleQueue
unfolding decode_apdus decode_apdus_within decode_pt_message decode_status decode_status_within decode_status_field decode_field_value history
queue = record {
  joined = record { calls_are = refl; standing_is = refl; services_are = refl };
  aborted = record { calls_are = refl; standing_is = refl; services_are = refl };
  next = record { calls_are = refl; standing_is = refl; services_are = refl };
}

pub busy-queue : ExampleBusyQueue
unfolding history
busy-queue = record {
  none_may = record { calls_are = refl; standing_is = refl; services_are = refl };
  one_may = record { calls_are = refl; standing_is = refl; services_are = refl };
  three_may = record { calls_are = refl; standing_is = refl; services_are = refl };
}

pub queue-room : ExampleQueueRoom
unfolding history
queue-room = record {
  lacks = record { calls_are = refl; standing_is = refl; services_are = refl };
  left = record { calls_are = refl; standing_is = refl; services_are = refl };
}

pub waiting-again : ExampleWaitingAgain
unfolding history
waiting-again = record {
  again = record { calls_are = refl; standing_is = refl; services_are = refl };
  other_amount = record { calls_are = refl; standing_is = refl; services_are = refl };
  status = record { calls_are = refl; standing_is = refl; services_are = refl };
  other_category = record { calls_are = refl; standing_is = refl; services_are = refl };
}

pub deadline-passed : ExampleDeadline
unfolding decode_apdus decode_apdus_within decode_pt_message decode_status decode_status_within decode_status_field decode_field_value history
deadline-passed = record {
  early = record { calls_are = refl; standing_is = refl; services_are = refl };
  overdue = record { calls_are = refl; standing_is = refl; services_are = refl };
  goes_on = record { calls_are = refl; standing_is = refl; services_are = refl };
}

pub deadline-order : ExampleDeadlineOrder
unfolding decode_apdus decode_apdus_within decode_pt_message decode_status decode_status_within decode_status_field decode_field_value history
deadline-order = record {
  same = record { calls_are = refl; standing_is = refl; services_are = refl };
  earlier = record { calls_are = refl; standing_is = refl; services_are = refl };
  all = record { calls_are = refl; standing_is = refl; services_are = refl };
}

pub till-takes-its-own : ExampleTillTakesItsOwn
unfolding decode_apdus decode_apdus_within decode_pt_message decode_status decode_status_within decode_status_field decode_field_value history
till-takes-its-own = record {
  gone = record { calls_are = refl; standing_is = refl; services_are = refl };
  ends = record { calls_are = refl; standing_is = refl; services_are = refl };
  another = record { calls_are = refl; standing_is = refl; services_are = refl };
  other_stays = record { calls_are = refl; standing_is = refl; services_are = refl };
}

pub other-aborts : ExampleOtherAborts
unfolding history
other-aborts = record {
  aborted = record { calls_are = refl; standing_is = refl; services_are = refl };
}

pub logout-meanwhile : ExampleLogoutMeanwhile
unfolding decode_apdus decode_apdus_within decode_pt_message decode_status decode_status_within decode_status_field decode_field_value history
logout-meanwhile = record {
  begun = record { calls_are = refl; standing_is = refl; services_are = refl };
}

pub refused-in-one-go : ExampleRefusedInOneGo
unfolding decode_apdus decode_apdus_within decode_pt_message decode_status decode_status_within decode_status_field decode_field_value history
refused-in-one-go = record {
  one_go = record { calls_are = refl; standing_is = refl; services_are = refl };
}

pub reversal-refused : ExampleReversalRefused
unfolding history transaction_text digits
reversal-refused = record {
  none_there = record { calls_are = refl; items_are = refl; none_wait = refl };
  was_reversed = record { calls_are = refl; items_are = refl; none_wait = refl };
  other_amount = record { calls_are = refl; items_are = refl; none_wait = refl };
  begun = refl;
}

-- ---- premises

-- the laws, and what the ledger's own examples say of the day
pub record WaitingFacts : Type 0 where
  pub joins : EachThatMayJoins
  pub again : WaitingKeyIsReplied
  pub status : StatusOfWaitingIsInProgress
  pub taken : EachTakesItsOwn
  pub first : EachFirstIsNext
  pub keeps : EachRowKeepsWaits
  pub ready : ExamplePayment

showing-within : IsHeaderWithinLimits (asked_at (codes "Display") (codes "A") (codes "8"))
showing-within = record {
  category = ident-tested 40 (codes "Display") refl;
  service = ident-tested 10 (codes "8") refl;
  device = tt;
  sale = ident-tested 40 (codes "S") refl;
  poi = ident-tested 40 (codes "A") refl;
}

line-within : IsSetup known_with_line.setup
line-within = record {
  name = setup-within.name;
  line = omega arith;
  wait = setup-within.wait;
  slots = setup-within.slots;
  count = setup-within.count;
  each = setup-within.each;
  distinct = setup-within.distinct;
}

line-room : length day + (open_count_of day + 0) ≤ 1000000
unfolding history
line-room = lit≤ tt

none-waiting : AreWaitsInOrder known_with_line
none-waiting = record {
  each = λ at wait found. absurd cc;
  once = λ one other first second here there same. absurd cc;
  few = λ number. omega arith;
}

-- the terminal's settings name it
fourth-queued : IsReadItem known_with_line.setup fourth_queues
fourth-queued = record { read = fourth-read; names = λ other pt found. ap (λ (p : Pt). p.poi) (sym (same_Some day_pt pt found)) }

may-wait-now : step_result known_with_line (payment_header (codes "4")) (euros 100) (Some (record { number = 0; terminal = showing_terminal })) ≡ Waits
unfolding history
may-wait-now = refl

joined-core : (row_of two_tills known_with_line fourth_queues).core ≡ known_with_fourth.core
unfolding history
joined-core = refl

joined-calls : (row_of two_tills known_with_line fourth_queues).calls ≡ []
unfolding history
joined-calls = refl

passes-now : refused_again known_ready_again (payment_header (codes "4")) (euros 100) (Some (record { number = 0; terminal = ready_again })) ≡ None
unfolding history
passes-now = refl

begun-now : records_kept (row_of two_tills known_ready_again (NextWaiting 0)).calls ≡ Intent fourth ∷ []
unfolding history
begun-now = refl

module _ (facts : WaitingFacts) where
  line-in-order : IsInOrder known_with_line
  line-in-order = record {
    folded = facts.ready.folded;
    room = line-room;
    of_setup = record { within = line-within; settings = refl };
    moment = first-moment;
    numbered = lit≤ tt;
    terminals = one-terminal (IsTerminalInOrder day) showing_terminal (record {
      records = record { rests = record { none_open = facts.ready.none_open; not_below = facts.ready.not_below; within = omega arith }; heading = showing-within; results_within = tt };
      read = tt;
    });
  }

  one-waiting : AreWaitsInOrder known_with_fourth
  one-waiting =
      subst (λ (kept : List Record). AreWaitsInOrder (record known_with_fourth { kept = kept })) (append-nil day)
      (subst (λ (calls : List OwedCall). AreWaitsInOrder (record known_with_fourth { kept = day ++ records_kept calls })) joined-calls
      (subst (λ (core : Core). AreWaitsInOrder (record known_with_fourth { core = core; kept = day ++ records_kept (row_of two_tills known_with_line fourth_queues).calls })) joined-core
      (facts.keeps two_tills known_with_line fourth_queues line-in-order none-waiting fourth-queued)))

  pub waiting-premises : ExampleWaitingPremises
  waiting-premises = record {
    in_order = line-in-order;
    none_wait = none-waiting;
    read = fourth-queued;
    named = refl;
    waits = may-wait-now;
    joins = facts.joins two_tills known_with_line 3 (payment_header (codes "4")) (euros 100) (record { number = 0; terminal = showing_terminal }) fourth-queued refl may-wait-now;
    one_waits = one-waiting;
    may = (refl, inl refl);
    found = refl;
    again = facts.again known_with_fourth (payment_header (codes "4")) (euros 100) fourth_wait one-waiting (refl, inl refl) refl;
    status = facts.status known_with_fourth asking_header (reference_to (codes "4")) fourth_wait one-waiting refl;
    taken = facts.taken two_tills known_with_fourth fourth_wait one-waiting refl;
    overdue = refl;
    early = refl;
    first = facts.first two_tills known_ready_again 0 ready_again fourth_wait refl refl refl;
    passes = passes-now;
    begun = begun-now;
  }
