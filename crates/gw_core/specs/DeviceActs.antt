-- The act that sends a till a device request.
use Rattle.std.specs.Prelude.{◌≡◌, ℕ, [], ◌∷◌, Option, Some, None}
use Rattle.gw_owes.specs.Calls.{SendTill}
use Rattle.gw_owes.specs.Reply.{ReplyValue}
use Rattle.gw_core.specs.IsRow.{AreCallsThen}
use Rattle.gw_core.specs.declared.act.Act.{Act}

-- Inner: the act sends this till the device request, or there is neither
abbrev pub IsDeviceActFor : ℕ → Option ReplyValue → Option Act → Type 0
IsDeviceActFor till None None = Unit {0}
IsDeviceActFor till None (Some wanted) = ⊥
IsDeviceActFor till (Some request) None = ⊥
IsDeviceActFor till (Some request) (Some wanted) = AreCallsThen [] wanted (SendTill till request ∷ [])

-- Inner: so it is of the till that asked, where there is one
abbrev pub IsDeviceAct : Option ℕ → Option ReplyValue → Option Act → Type 0
IsDeviceAct None request wanted = wanted ≡ None
IsDeviceAct (Some till) request wanted = IsDeviceActFor till request wanted
