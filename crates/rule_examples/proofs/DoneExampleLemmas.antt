-- The examples of a registration that is done, with the whole premises of the laws on it.
use Rattle.std.proofs.Common.{ℕ, List, [], ◌∷◌, ◌++◌, refl, true, inl, inr}
use Rattle.std.specs.Prelude.{slice_get, Option, Some, None}
use Rattle.gw_site.specs.Outside.{heard_on, outside_of}
use Rattle.gw_site.specs.declared.turn.Turn.TheVariants.{HeardPt, SentPt}
use Rattle.zvt_apdu.specs.DecodeStream.{decode_apdus, decode_apdus_within}
use Rattle.zvt_apdu.proofs.DecodeStreamLemmas.{split_is}
use Rattle.zvt_msg.specs.Message.{Ack, Completion}
use Rattle.zvt_msg.specs.MessageDecode.{decode_pt_message}
use Rattle.gw_owes.specs.Core.{new_terminal}
use Rattle.gw_owes.specs.TerminalExample.{ack, enquiry_sent}
use Rattle.gw_owes.specs.declared.terminal.Standing.TheVariants.{Registering}
use Rattle.gw_owes.specs.declared.terminal.Terminal.{Terminal}
use Rattle.gw_rules.specs.DialogueLaws.{EndsAlong, IsDone}
use Rattle.gw_rules.specs.DoneExample.{rest_chunk, both_apdus, first_byte_course, enquiring_moves}
use Rattle.rule_examples.specs.DoneExample.{first_byte_log, first_byte_view, ExampleDone}
use Rattle.gw_rules.specs.RowExample.{example_pt}
use Rattle.gw_rules.specs.View.{Make}
use Rattle.gw_rules.proofs.ChunkExampleLemmas.{sent-lasts}
use Rattle.gw_rules.proofs.TerminalLogLemmas.{after_start, from-start}
use Rattle.gw_rules.proofs.TestedLemmas.{course-tested}
use Rattle.gw_rules.proofs.TextLemmas.{bytes-tested}

-- ---- along a course

abbrev found : Option Terminal → Terminal
found None = new_terminal example_pt
found (Some terminal) = terminal

abbrev heard_before : List ℕ
heard_before = heard_on (outside_of first_byte_log).links 0

done-ends : EndsAlong IsDone first_byte_log first_byte_view enquiring_moves 0 (found (slice_get first_byte_view.scene.core.terminals 0)) Registering
unfolding decode_apdus decode_apdus_within decode_pt_message
done-ends = record {
  chunk = rest_chunk;
  new = both_apdus;
  left = [];
  before = record { course = first_byte_course; log_is = refl; lawful = from-start (after_start first_byte_course) refl; view_is = refl };
  lawful = course-tested first_byte_view (Make (HeardPt 0 rest_chunk) ∷ enquiring_moves) refl;
  round = (refl, (refl, tt));
  lasts = (sent-lasts ack, (sent-lasts enquiry_sent, tt));
  found = refl;
  standing_is = refl;
  said = record {
    before = (decode_apdus heard_before).apdus;
    rest = (decode_apdus heard_before).rest;
    spelled = split_is heard_before (bytes-tested heard_before refl);
    all = split_is (heard_before ++ rest_chunk) (bytes-tested (heard_before ++ rest_chunk) refl);
  };
  ends = (Ack, refl, inr (refl, (Completion, refl, inl refl)));
  may_poll = record { running = refl; calls = refl; items = refl };
}

pub done : ExampleDone
unfolding done-ends
done = record {
  terminal = found (slice_get first_byte_view.scene.core.terminals 0);
  ends = done-ends;
  chunk_is = refl;
  new_are = refl;
  enquired = (SentPt 0 ack true ∷ [], [], refl);
}
