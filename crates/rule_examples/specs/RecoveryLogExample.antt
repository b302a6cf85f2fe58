-- The example of what is open as a terminal reports after a recovery.
use Rattle.std.specs.Prelude.{◌≡◌, Some, None}
use Rattle.gw_owes.specs.Reports.{on_record, least_reported}
use Rattle.gw_owes.specs.declared.terminal.Standing.TheVariants.{Enquiring, Ready}
use Rattle.gw_owes.specs.declared.terminal.Terminal.{Terminal}
use Rattle.gw_rules.specs.DialogueLaws.{EndsAlong, HasStanding, IsReport, view_along}
use Rattle.gw_rules.specs.PaymentLogExample.{logged_intent}
use Rattle.gw_rules.specs.RecoveryLogExample.{open_log, open_view, report_bytes, resolving_moves}

-- ---- the terminal reports

-- As the terminal reports, the payment is open, with the number 0 before it, which is the least that may be reported. What it says ends the enquiry with the report of the number 123, and with that the terminal is ready.
pub record OpenIsReported : Type 0 where
  pub terminal : Terminal
  pub ends : EndsAlong (IsReport 123) open_log open_view resolving_moves 0 terminal Enquiring
  pub chunk_is : ends.chunk ≡ report_bytes
  pub opened : (on_record open_view.scene.kept terminal.pt.poi).opened ≡ Some (record { slot = 0; intent = logged_intent; result = None })
  pub least : least_reported (on_record open_view.scene.kept terminal.pt.poi) ≡ 0
  pub ready : HasStanding (view_along open_view 0 ends.chunk resolving_moves).scene.core 0 (Ready 123)
