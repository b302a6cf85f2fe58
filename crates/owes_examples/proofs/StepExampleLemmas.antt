-- The examples of the steps of a request are computed.
use Rattle.std.proofs.Common.{refl}
use Rattle.std.specs.Fmt.{digits}
use Rattle.gw_base.specs.Transaction.{transaction_text}
use Rattle.gw_ledger.specs.History.{history}
use Rattle.owes_examples.specs.StepExample.{ExamplePaymentAgain, ExampleOtherContent, ExampleOpenAgain, ExampleDeclinedAgain, ExampleReversalAgain, ExampleReconciliationAgain, ExampleStatus, ExampleLastStatus, ExampleAbort, ExampleNewKey, ExampleUsedUp, ExampleRoom, ExampleUnavailable, ExampleBeginning, ExampleNewReconciliation, ExampleDayServed}

pub payment-again : ExamplePaymentAgain
unfolding history
payment-again = record {
  same = refl;
  normal = refl;
  later = refl;
  unlinked = refl;
  used_up = refl;
  without_room = refl;
  not_configured = refl;
}

pub other-content : ExampleOtherContent
unfolding history transaction_text digits
other-content = record {
  amount = refl;
  currency = refl;
  payment_type = refl;
  as_reversal = refl;
  as_reconciliation = refl;
}

pub open-again : ExampleOpenAgain
unfolding history
open-again = record {
  same = refl;
  unlinked = refl;
  other_amount = refl;
}

pub declined-again : ExampleDeclinedAgain
unfolding history
declined-again = record {
  same = refl;
  other_amount = refl;
}

pub reversal-again : ExampleReversalAgain
unfolding history transaction_text digits
reversal-again = record {
  same = refl;
  no_amount = refl;
  other_amount = refl;
  other_original = refl;
  as_payment = refl;
}

pub reconciliation-again : ExampleReconciliationAgain
unfolding history
reconciliation-again = record {
  same = refl;
  other_type = refl;
  as_payment = refl;
}

pub status : ExampleStatus
unfolding history
status = record {
  finished = refl;
  unlinked = refl;
  by_reference = refl;
  open_key = refl;
  unknown = refl;
  other_poi = refl;
  other_till = refl;
}

pub last-status : ExampleLastStatus
unfolding history
last-status = record {
  finished = refl;
  open_key = refl;
  after_reconciliation = refl;
  other_till = refl;
  other_poi = refl;
}

pub abort : ExampleAbort
unfolding history
abort = record {
  open_key = refl;
  finished = refl;
  unknown = refl;
}

pub new-key : ExampleNewKey
unfolding history
new-key = record {
  not_configured = refl;
  not_configured_first = refl;
  payment_type = refl;
  payment_type_first = refl;
  currency = refl;
  currency_first = refl;
  other_till = refl;
}

pub used-up : ExampleUsedUp
unfolding history
used-up = record {
  on_record = refl;
  one_below = refl;
  of_another = refl;
  ready = refl;
  serving = refl;
}

pub room : ExampleRoom
unfolding history
room = record {
  one_free = refl;
  two_free = refl;
  two_free_one_open = refl;
  three_free_one_open = refl;
  two_free_one_served = refl;
  three_free_one_served = refl;
  three_free_both = refl;
  four_free_both = refl;
}

pub unavailable : ExampleUnavailable
unfolding history
unavailable = record {
  new = refl;
  unlinked = refl;
  registering = refl;
  enquiring = refl;
  aside = refl;
}

pub begins : ExampleBeginning
unfolding history
begins = record {
  no_reply = refl;
  begun = refl;
  after_decline = refl;
  serving = refl;
  serving_begins_none = refl;
  unlinked_begins_none = refl;
  open_begins_none = refl;
  finished_begins_none = refl;
}

pub new-reconciliation : ExampleNewReconciliation
unfolding history
new-reconciliation = record {
  synchronisation = refl;
  previous = refl;
  not_configured_first = refl;
  own = record { no_reply = refl; items_are = refl };
  own_unlinked = record { no_reply = refl; items_are = refl };
  own_aside = record { no_reply = refl; items_are = refl };
  own_serving = record { no_reply = refl; items_are = refl };
  own_used_up = record { no_reply = refl; items_are = refl };
  own_two_free = record { no_reply = refl; items_are = refl };
  own_one_free = refl;
  end_of_day = record { no_reply = refl; items_are = refl };
  end_of_day_used_up = record { no_reply = refl; items_are = refl };
  end_of_day_unlinked = refl;
  end_of_day_aside = refl;
  end_of_day_serving = refl;
  end_of_day_one_free = refl;
}

pub day-served : ExampleDayServed
unfolding history
day-served = record {
  again = refl;
  again_without_room = refl;
  again_begins_none = refl;
  own_type = refl;
  unserved_type = refl;
  as_payment = refl;
  as_reversal = refl;
  other_till = refl;
  other_service = refl;
  own_beside = record { no_reply = refl; items_are = refl };
  on_record = refl;
  status = refl;
  status_by_reference = refl;
  status_of_another = refl;
  last_status = refl;
  abort = refl;
  abort_begins = refl;
  abort_of_another = refl;
  abort_of_another_begins = refl;
}
