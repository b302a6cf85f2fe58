-- The examples of a terminal's way to ready, and of a lawful log that isn't the script's.
use Rattle.std.proofs.Common.{◌≡◌, ◌++◌, List, Bool, true, false, [], ◌∷◌, refl, ap, inr}
use Rattle.std.specs.Prelude.{pos, slice_get, Option, Some, None, Ok}
use Rattle.std.specs.Str.{is_utf8, chars}
use Rattle.std.specs.Fmt.{digits}
use lib.Utf8.{encode}
use Rattle.hex.specs.Hex.{decode_pairs, encode_with}
use Rattle.gw_site.specs.Sorts.{has_failed}
use Rattle.gw_site.specs.declared.turn.Turn.{Turn}
use Rattle.gw_site.specs.declared.turn.Turn.TheVariants.{Start, Polled, Stopped, Linked, LinkFailed, SentPt}
use Rattle.zvt_apdu.specs.DecodeStream.{decode_apdus, decode_apdus_within}
use Rattle.zvt_bmp.specs.Decode.{decode_field_value, decode_status_field, decode_status_within, decode_status}
use Rattle.zvt_msg.specs.MessageDecode.{decode_pt_message}
use Rattle.gw_ledger.specs.History.{history}
use Rattle.gw_owes.specs.TerminalExample.{ack, approved_status, completion, enquiry_sent}
use Rattle.gw_script.specs.site.ByLines.{GoesByLines}
use Rattle.gw_script.specs.site.ScriptLine.{FromPt, Tick, At, Poll, Script, nothing_given}
use Rattle.gw_rules.specs.Example.{first_turns}
use Rattle.gw_rules.specs.Lawful.{IsCourse}
use Rattle.gw_rules.specs.RowExample.{register_bytes}
use Rattle.gw_rules.specs.TerminalLogExample.{items_begin}
use Rattle.gw_rules.specs.View.{Move, Make, after, at_first}
use Rattle.gw_rules.proofs.CourseLemmas.{makes}
use Rattle.gw_rules.proofs.PrefixLemmas.{lawful-along}
use Rattle.gw_rules.proofs.StageLemmas.{no-true}
use Rattle.gw_rules.proofs.TestedLemmas.{passes_course, course-tested}
use Rattle.gw_run.specs.Example.{links_pt, links_setup}
use Rattle.gw_run.specs.ReadyExample.{ready_script, ready_script_course, ready_script_log, ReadyIsOfScript, ReadyHasText, failed_link_log, FailedIsNotOfScript}
use Rattle.gw_run.specs.ScriptLog.{IsLogOf}
use Rattle.gw_script.specs.site.Decode.{script_of}
use Rattle.gw_run.proofs.ByLinesLemmas.{log-by-lines}
use Rattle.gw_run.proofs.ExampleActLemmas.{before_last, onward}
use Rattle.gw_run.proofs.ExampleLemmas.{links-formed}
use Rattle.gw_run.proofs.OneLogLemmas.{one-log}

-- a course of the terminal from the start on
from-links : (moves : List Move) → passes_course (after at_first (Make (Start links_setup))) moves ≡ true → IsCourse at_first (Make (Start links_setup) ∷ moves)
from-links moves e = ((refl, links-formed), course-tested (after at_first (Make (Start links_setup))) moves e)

-- ---- the way to ready

-- the script that was read
abbrev ready_read : Script
ready_read = record {
  given = record nothing_given { terminals = links_pt ∷ [] };
  lines = Poll Tick ∷ Poll (FromPt 0 (ack ++ completion)) ∷ At (pos 1) ∷ Poll (FromPt 0 (ack ++ approved_status ++ completion)) ∷ [];
}

ready-served : script_of ready_script ≡ Ok ready_read
unfolding is_utf8 chars encode decode_pairs
ready-served = refl

ready-goes : GoesByLines ready_read.lines ready_script_log
ready-goes = record {
  setup = links_setup;
  calls = first_turns;
  later = _;
  are_calls = (tt, (tt, (tt, tt)));
  log_is = refl;
  goes_on = inr (record {
    calls = Linked 0 ∷ SentPt 0 register_bytes true ∷ [];
    later = _;
    not_skipped = λ none. none;
    are_calls = (tt, (refl, tt));
    turns_are = refl;
    goes_on = inr (record {
      calls = SentPt 0 ack true ∷ SentPt 0 enquiry_sent true ∷ [];
      later = _;
      not_skipped = λ e. (let h : true ≡ false = e in cc);
      are_calls = (refl, (refl, tt));
      turns_are = refl;
      goes_on = inr (record { calls = SentPt 0 ack true ∷ SentPt 0 ack true ∷ []; later = _; not_skipped = λ e. (let h : true ≡ false = e in cc); are_calls = (refl, (refl, tt)); turns_are = refl; goes_on = refl });
    });
  });
}

ready-lawful : IsCourse at_first ready_script_course
unfolding decode_apdus decode_apdus_within decode_pt_message decode_status decode_status_within decode_status_field decode_field_value history
ready-lawful = from-links (onward ready_script_course) refl

ready-log : IsLogOf ready_script ready_script_log
ready-log = (log-by-lines ready_script ready_read ready_script_log ready-served tt).1
    (lawful-along ready_script_log ready_script_course refl ready-lawful, (_, refl, (refl, (refl, (refl, (refl, (refl, (refl, (refl, (refl, (refl, (refl, (refl, (refl, (refl, (refl, (refl, (refl, tt))))))))))))))))), ready-goes)

pub ready-of-script : ReadyIsOfScript
unfolding decode_apdus decode_apdus_within decode_pt_message decode_status decode_status_within decode_status_field decode_field_value history
ready-of-script = record { is_log = ready-log; standing = record { along = record { turns = refl; lawful = ready-lawful }; standing_is = refl } }

pub ready-has-text : ReadyHasText
unfolding digits encode_with
ready-has-text = refl

-- ---- another log

-- the moves after the start
abbrev failed_moves : List Move
failed_moves = makes first_turns ++ Make (Polled (pos 0)) ∷ (items_begin 2 ++ Make (LinkFailed 0) ∷ Make (Polled (pos 1)) ∷ Make Stopped ∷ [])

-- the turn in which the two logs differ says that a call has failed, or not
abbrev fails : Option Turn → Bool
fails None = false
fails (Some turn) = has_failed turn

pub failed-not-of-script : FailedIsNotOfScript
failed-not-of-script = record {
  lawful = lawful-along failed_link_log (Make (Start links_setup) ∷ failed_moves) refl (from-links failed_moves refl);
  stopped = (before_last failed_link_log, refl);
  other = λ is. no-true (ap (λ log. fails (slice_get log 5)) (one-log ready_script ready_script_log failed_link_log ready-log is));
}
