-- The closed lists of names that replies choose from.
use Rattle.std.specs.Prelude.{ℕ, List, codes, Option, Some, None, nat_le, if◌then◌else◌}
use Rattle.gw_base.specs.declared.condition.Condition.{Condition}
use Rattle.sale_reply.specs.declared.reply.GlobalStatus.{GlobalStatus}
use Rattle.sale_reply.specs.declared.reply.GlobalStatus.TheVariants.{Ready, Busy, Maintenance, Unreachable}
use Rattle.sale_reply.specs.declared.reply.ReplyResult.{ReplyResult}
use Rattle.sale_reply.specs.declared.reply.ReplyResult.TheVariants.{Success, Partial, Failure}

-- the text of `Result`
abbrev pub result_name : ReplyResult → List ℕ
result_name Success = codes "Success"
result_name Partial = codes "Partial"
result_name Failure = codes "Failure"

-- the text of `GlobalStatus`
abbrev pub status_name : GlobalStatus → List ℕ
status_name Ready = codes "OK"
status_name Busy = codes "Busy"
status_name Maintenance = codes "Maintenance"
status_name Unreachable = codes "Unreachable"

-- no condition is a success
abbrev pub result_of : Option Condition → ReplyResult
result_of None = Success
result_of (Some condition) = Failure

-- a payment is whole where at least the requested amount is paid
abbrev pub paid_result : ℕ → ℕ → ReplyResult
paid_result requested paid = if nat_le requested paid then Success else Partial
