-- A payment of the drill, as it is drawn and as the drill's definition has it.
use Rattle.std.specs.Prelude.{◌≤◌, option_map}
use Rattle.gw_script.specs.site.Drill.{DrillPayment}
use Rattle.gw_script.specs.site.Hazards.{Armed}
use Rattle.sim_script.specs.Values.{image_value}
use Rattle.sim_script.specs.declared.drill.DrawnPayment.{DrawnPayment}
use Rattle.sim_script.specs.declared.drill.DrawnPower.{DrawnPower}

-- Inner: when the power fails
abbrev pub power_value : DrawnPower → Armed
power_value power = record { calls = power.calls; kind = image_value power.kind }

-- Inner: the payment
abbrev pub payment_value : DrawnPayment → DrillPayment
payment_value payment = record { number = payment.number; amount = payment.amount; pt = payment.pt; play = payment.play; power = option_map power_value payment.power }

-- Inner: the payment is one of a drill
pub record IsDrawn (payment : DrawnPayment) : Type 0 where
  pub first : 1 ≤ payment.number
  pub last : payment.number ≤ 10000
  pub amount : payment.amount ≤ 100000
