-- The example log of a recovery.
use Rattle.std.proofs.Common.{[], ◌++◌, refl, inl, inr}
use Rattle.std.specs.Prelude.{slice_get, Some}
use Rattle.gw_base.specs.declared.figures.Figures.{Figures}
use Rattle.zvt_apdu.specs.DecodeStream.{decode_apdus, decode_apdus_within}
use Rattle.zvt_apdu.proofs.DecodeStreamLemmas.{split_is}
use Rattle.zvt_bmp.specs.Decode.{decode_field_value, decode_status_field, decode_status_within, decode_status}
use Rattle.zvt_msg.specs.Message.{Ack, Completion}
use Rattle.zvt_msg.specs.MessageDecode.{decode_pt_message}
use Rattle.gw_ledger.specs.History.{history}
use Rattle.gw_owes.specs.TerminalExample.{ack, completion}
use Rattle.gw_owes.specs.declared.terminal.Standing.TheVariants.{Enquiring, Ready}
use Rattle.gw_owes.specs.declared.terminal.Terminal.{Terminal}
use Rattle.gw_rules.specs.DialogueLaws.{EndsAlong, HasStanding, IsReport, view_along}
use Rattle.gw_rules.specs.Lawful.{turns_of}
use Rattle.gw_rules.specs.PaymentLogExample.{payment_request}
use Rattle.gw_rules.specs.RecoveryLogExample.{open_status_request, open_log, open_course, open_view, report_bytes, resolving_moves}
use Rattle.rule_examples.specs.RecoveryLogExample.{OpenIsReported}
use Rattle.rule_examples.proofs.PaymentLogLemmas.{found}
use Rattle.gw_rules.proofs.RestLemmas.{lasts-tested}
use Rattle.gw_rules.proofs.TextLemmas.{bytes-tested}
use Rattle.gw_rules.proofs.RecoveryLogLemmas.{open-lawful, resolving-lawful}

-- ---- the terminal reports

abbrev open_terminal : Terminal
open_terminal = found (slice_get open_view.scene.core.terminals 0)

abbrev reported : Figures
reported = record { number = 123; receipt = 17; amount = 1099 }

open-ends : EndsAlong (IsReport 123) open_log open_view resolving_moves 0 open_terminal Enquiring
unfolding decode_apdus decode_apdus_within decode_pt_message decode_status decode_status_within decode_status_field decode_field_value history payment_request open_status_request
open-ends = record {
  chunk = report_bytes;
  new = (decode_apdus report_bytes).apdus;
  left = [];
  before = record { course = open_course; log_is = refl; lawful = open-lawful; view_is = refl };
  lawful = resolving-lawful;
  round = (refl, (refl, (refl, (refl, (refl, (refl, tt))))));
  lasts = lasts-tested 0 (turns_of resolving_moves) refl;
  found = refl;
  standing_is = refl;
  said = record {
    before = (decode_apdus (ack ++ completion)).apdus;
    rest = [];
    spelled = split_is (ack ++ completion) (bytes-tested (ack ++ completion) refl);
    all = split_is ((ack ++ completion) ++ report_bytes) (bytes-tested ((ack ++ completion) ++ report_bytes) refl);
  };
  ends = (Ack, refl, inr (refl, (_, refl, inr (refl, (Completion, refl, inl (Some reported, 0, refl))))));
  may_poll = record { running = refl; calls = refl; items = refl };
}

open-ready : HasStanding (view_along open_view 0 report_bytes resolving_moves).scene.core 0 (Ready 123)
unfolding decode_apdus decode_apdus_within decode_pt_message decode_status decode_status_within decode_status_field decode_field_value history payment_request open_status_request
open-ready = (found (slice_get (view_along open_view 0 report_bytes resolving_moves).scene.core.terminals 0), refl, refl)

pub open-is-reported : OpenIsReported
unfolding open-ends history payment_request open_status_request
open-is-reported = record {
  terminal = open_terminal;
  ends = open-ends;
  chunk_is = refl;
  opened = refl;
  least = refl;
  ready = open-ready;
}
