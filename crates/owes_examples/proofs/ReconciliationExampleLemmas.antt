-- The examples of reconciliations are computed.
use Rattle.gw_ledger.specs.History.{history}
use Rattle.zvt_apdu.specs.DecodeStream.{decode_apdus, decode_apdus_within}
use Rattle.zvt_bmp.specs.Decode.{decode_field_value, decode_status_field, decode_status_within, decode_status}
use Rattle.zvt_msg.specs.MessageDecode.{decode_pt_message}
use Rattle.std.specs.Fmt.{digits}
use Rattle.gw_base.specs.Transaction.{transaction_text}
use Rattle.std.proofs.Common.{refl, arith}
use Rattle.std.proofs.lemmas.Int.{ints}
use Rattle.std.specs.Prelude.{codes}
use Rattle.jrn_record.specs.declared.records.Record.TheVariants.{Settled}
use Rattle.gw_ledger.proofs.ExampleLemmas.{ident}
use Rattle.gw_ledger.specs.Example.{day}
use Rattle.gw_ledger.specs.Fold.{AreFolded}
use Rattle.gw_ledger.specs.Premises.{ExampleReconciliation, day_closed, day_settled}
use Rattle.gw_owes.proofs.RecordLemmas.{folded-more}
use Rattle.owes_examples.specs.DayExample.{ExampleBetween, ExampleDayAgain, ExampleDayPremises, ExampleDays, ExampleSales, ExampleSettledDay, ExampleSettledPayment}

pub sales : ExampleSales
unfolding history
sales = record {
  ready = record { calls_are = refl; standing_is = refl };
  unlinked = record { calls_are = refl; standing_is = refl };
  registering = record { calls_are = refl; standing_is = refl };
  aside = record { calls_are = refl; standing_is = refl };
  serving = record { calls_are = refl; standing_is = refl };
  twice = record { calls_are = refl; standing_is = refl };
  again = record { calls_are = refl; standing_is = refl };
  synchronisation = record { calls_are = refl; standing_is = refl };
  previous = record { calls_are = refl; standing_is = refl };
}

pub days : ExampleDays
unfolding decode_apdus decode_apdus_within decode_pt_message history
days = record {
  begins = record { calls_are = refl; standing_is = refl };
  command = refl;
  done = record { calls_are = refl; standing_is = refl };
  declined = record { calls_are = refl; standing_is = refl };
  unclear = record { calls_are = refl; standing_is = refl };
  lost = record { calls_are = refl; standing_is = refl };
  unlinked = record { calls_are = refl; standing_is = refl };
  busy = record { calls_are = refl; standing_is = refl };
}

pub day-again : ExampleDayAgain
unfolding decode_apdus decode_apdus_within decode_pt_message history
day-again = record {
  in_progress = record { calls_are = refl; standing_is = refl };
  other_type = record { calls_are = refl; standing_is = refl };
  payment = record { calls_are = refl; standing_is = refl };
  status = record { calls_are = refl; standing_is = refl };
  again = record { calls_are = refl; standing_is = refl };
  later = record { calls_are = refl; standing_is = refl };
  other_after = record { calls_are = refl; standing_is = refl };
}

pub settled-payment : ExampleSettledPayment
unfolding decode_apdus decode_apdus_within decode_pt_message history transaction_text digits
settled-payment = record {
  by_day = record { calls_are = refl; standing_is = refl };
  by_till = record { calls_are = refl; standing_is = refl };
  named = record { original = _; original_is = refl; slot_is = refl; what = refl; poi = refl };
  ended = refl;
  after = record { at = 2; settled = _; found = refl; poi_is = refl; after = omega arith };
}

pub between : ExampleBetween
unfolding decode_apdus decode_apdus_within decode_pt_message decode_status decode_status_within decode_status_field decode_field_value history transaction_text digits
between = record {
  beside = record { calls_are = refl; standing_is = refl };
  again = record { calls_are = refl; standing_is = refl };
  across = record { calls_are = refl; standing_is = refl };
  counted = record { calls_are = refl; standing_is = refl };
  reversible = record { calls_are = refl; standing_is = refl };
}

pub day-premises : ExampleDayPremises
unfolding decode_apdus decode_apdus_within decode_pt_message history
day-premises = record {
  there = refl;
  named = refl;
  found = refl;
  may = record { unknown = refl; not_pending = refl; logged_in = refl; room = refl };
  serves = record { named = _; named_is = refl; header = _; period = _; last = _; standing_is = refl; key_is = refl; unknown = refl; no_wait = refl };
  done = record { terminal = _; means = record { found = refl; standing_is = refl; message = _; decoded = refl; means = refl } };
  declined = record { terminal = _; means = record { found = refl; standing_is = refl; message = _; decoded = refl; means = refl } };
  unclear = record { terminal = _; means = record { found = refl; standing_is = refl; message = _; decoded = refl; means = refl } };
  keeps = refl;
}

-- the records of the day, and with its Settled
folded-day : ExampleReconciliation → AreFolded day_closed
folded-day may = folded-more day (Settled day_settled) may.folded (record { sale = ident 40 (codes "S") refl; poi = ident 40 (codes "A") refl; service = ident 10 (codes "4") refl; moment = (omega (arith, ints), omega (arith, ints)) }) may.may_come

pub settled-day : ExampleReconciliation → ExampleSettledDay
unfolding history
settled-day may = record { kept_is = refl; folded = folded-day may; own = refl; again = refl }
