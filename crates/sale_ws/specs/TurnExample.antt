-- Closed examples of the result of a turn: what it may be, and what it may not be, after a turn that met so little.
use Rattle.std.specs.Prelude.{[], Bool, true, false, None, Result, Ok, Err}
use Rattle.sale_ws.specs.Gateway.{Heard, Brought, ReadFailed, NotAsked}
use Rattle.sale_ws.specs.Turn.{Delivery, Results}
use Rattle.sale_ws.specs.declared.bridge.Bridged.{Bridged}
use Rattle.sale_ws.specs.declared.bridge.Bridged.TheVariants.{Went}
use Rattle.sale_ws.specs.declared.fault.BridgeFault.{BridgeFault}
use Rattle.sale_ws.specs.declared.fault.BridgeFault.TheVariants.{Gate, Length, Socket}
use Rattle.sale_ws.specs.declared.wire.Got.{Got}
use Rattle.sale_ws.specs.declared.wire.Got.TheVariants.{Message, Control, Nothing}
use Rattle.sale_ws.specs.declared.wire.WireFault.{WireFault}
use Rattle.sale_ws.specs.declared.wire.WireFault.TheVariants.{Failed}

-- the read of the gateway's connection brought this, and nothing was sent to the socket
abbrev pub only_heard : Heard → Delivery
only_heard heard = record { heard = heard; sent = []; rest = []; sending = Ok tt }

-- what the socket's read gave, and what that of the gateway's connection brought, lead to this result, where no bytes wait before or after
abbrev pub ResultsIn : Result Got WireFault → Heard → Bool → Result Bridged BridgeFault → Type 0
ResultsIn got heard is_idle result = Results {W = Unit {0}} [] [] is_idle (record { got = got; read = tt; delivery = only_heard heard }) result

-- a turn that found nothing goes on; a read that failed and an empty message are said to be so, and neither may be passed over, nor is the gateway's connection read after one; a failed read of that connection is said to be so, and may not be passed over
pub record TurnExample : Type 0 where
  pub idle : ResultsIn (Ok Nothing) (Brought None) true (Ok Went)
  pub failed : ResultsIn (Err Failed) NotAsked false (Err Socket)
  pub failed_passed_over : ¬ (ResultsIn (Err Failed) NotAsked false (Ok Went))
  pub read_after_failed : ¬ (ResultsIn (Err Failed) (Brought None) false (Err Socket))
  pub empty : ResultsIn (Ok (Message [])) NotAsked false (Err (Length 0))
  pub empty_passed_over : ¬ (ResultsIn (Ok (Message [])) NotAsked false (Ok Went))
  pub read_after_empty : ¬ (ResultsIn (Ok (Message [])) (Brought None) false (Err (Length 0)))
  pub unheard : ResultsIn (Ok Control) ReadFailed false (Err Gate)
  pub unheard_passed_over : ¬ (ResultsIn (Ok Control) ReadFailed false (Ok Went))
