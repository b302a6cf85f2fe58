-- The examples of Displays are computed.
use Rattle.std.proofs.Common.{refl}
use Rattle.std.specs.Str.{chars}
use Rattle.gw_ledger.specs.History.{history}
use Rattle.zvt_apdu.specs.DecodeStream.{decode_apdus, decode_apdus_within}
use Rattle.zvt_msg.specs.MessageDecode.{decode_pt_message}
use Rattle.owes_examples.specs.DisplayExample.{ExampleDisplayEnds, ExampleDisplayPremises, ExampleResults, ExampleShownLines}

pub display-results : ExampleResults
display-results = record {
  is_shown = refl;
  not_shown = refl;
  no_customer = refl;
  first = refl;
}

pub shown-lines : ExampleShownLines
unfolding chars
shown-lines = record {
  eight = refl;
  forty = refl;
  umlaut = refl;
  empty = refl;
  no_texts = refl;
}

pub display-ends : ExampleDisplayEnds
unfolding decode_apdus decode_apdus_within decode_pt_message history chars
display-ends = record {
  begins = record { calls_are = refl; standing_is = refl };
  done = record { calls_are = refl; standing_is = refl };
  declined = record { calls_are = refl; standing_is = refl };
  unclear = record { calls_are = refl; standing_is = refl };
  lost = record { calls_are = refl; standing_is = refl };
  busy = record { calls_are = refl; standing_is = refl };
  silent = record { calls_are = refl; standing_is = refl };
}

pub display-premises : ExampleDisplayPremises
unfolding decode_apdus decode_apdus_within decode_pt_message history chars
display-premises = record {
  there = refl;
  named = refl;
  found = refl;
  customer = refl;
  acknowledged = record { terminal = _; means = record { found = refl; standing_is = refl; message = _; decoded = refl; means = refl } };
  refused = record { terminal = _; means = record { found = refl; standing_is = refl; message = _; decoded = refl; means = refl } };
}
