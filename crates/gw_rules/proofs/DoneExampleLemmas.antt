-- The examples of a registration that is done, with the whole premises of the laws on it.
use Rattle.std.proofs.Common.{List, [], ◌∷◌, ◌++◌, refl, true}
use Rattle.std.specs.Prelude.{pos}
use Rattle.gw_site.specs.declared.turn.Turn.TheVariants.{Polled, HeardPt, SentPt, Stopped}
use Rattle.zvt_apdu.specs.DecodeStream.{decode_apdus, decode_apdus_within}
use Rattle.zvt_msg.specs.MessageDecode.{decode_pt_message}
use Rattle.gw_owes.specs.TerminalExample.{ack, enquiry_sent}
use Rattle.gw_rules.specs.DoneExample.{first_byte, rest_chunk, enquiring_turns, ExampleDoneAtOnce, first_byte_course, enquiring_moves}
use Rattle.gw_rules.specs.SilenceLaws.{linked_turns}
use Rattle.gw_rules.specs.RowExample.{terminal_setup}
use Rattle.gw_rules.specs.TerminalLogExample.{before_link}
use Rattle.gw_rules.specs.View.{Move, Make}
use Rattle.gw_rules.proofs.ChunkExampleLemmas.{sent-lasts, first-silent, rest-completes, both-are-done}
use Rattle.gw_rules.proofs.PrefixLemmas.{lawful-along}
use Rattle.gw_rules.proofs.TerminalLogLemmas.{before-link-quiet, after_start, from-start}

-- the whole course
abbrev whole_course : List Move
whole_course = first_byte_course ++ Make (HeardPt 0 rest_chunk) ∷ (enquiring_moves ++ Make (Polled (pos 3)) ∷ Make Stopped ∷ [])

pub done-at-once : ExampleDoneAtOnce
unfolding decode_apdus decode_apdus_within decode_pt_message
done-at-once = record {
  lawful = lawful-along (linked_turns [] terminal_setup before_link 0 (first_byte ++ HeardPt 0 rest_chunk ∷ (enquiring_turns ++ Polled (pos 3) ∷ Stopped ∷ []))) whole_course refl (from-start (after_start whole_course) refl);
  quiet = before-link-quiet;
  settings_are = refl;
  silent = first-silent;
  round = (refl, (refl, tt));
  lasts = (sent-lasts ack, (sent-lasts enquiry_sent, tt));
  said = rest-completes;
  ends = both-are-done;
  enquired = (SentPt 0 ack true ∷ [], [], refl);
}
