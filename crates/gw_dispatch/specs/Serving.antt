-- What is held as a till's bytes are served.
use Rattle.std.specs.Prelude.{◌≡◌, ℕ, ℤ, List, [], ◌++◌, Result, Ok, Err}
use Rattle.gw_base.specs.declared.setup.Setup.{Setup}
use Rattle.gw_site.specs.Outside.{Outside}
use Rattle.sale_frame.specs.Decode.{decode_frames}
use Rattle.gw_owes.specs.Events.{decoded_items}
use Rattle.gw_owes.specs.Items.{RoundItem}
use Rattle.gw_owes.specs.Terminals.{core_without}
use Rattle.gw_rules.specs.Lawful.{IsIdle}
use Rattle.gw_rules.specs.Stage.{Broken}
use Rattle.gw_rules.specs.View.{View}
use Rattle.gw_dispatch.specs.MidRound.{HeldRound}
use Rattle.gw_dispatch.specs.Tills.{bytes_held}
use Rattle.gw_dispatch.specs.declared.fault.TurnFault.{TurnFault}
use Rattle.gw_dispatch.specs.declared.fault.TurnFault.TheVariants.{Disk, Memory}
use Rattle.gw_dispatch.specs.declared.run_state.RunState.{RunState}
use Rattle.gw_dispatch.specs.declared.tills.Till.{Till}

-- Inner: what is held once this till is forgotten
abbrev pub held_without : RunState → ℕ → RunState
held_without state till = record state { core = core_without state.core till }

-- Inner: the items of the bytes that a till's reader holds
abbrev pub items_of : ℕ → List Till → List RoundItem
items_of till tills = decoded_items till (decode_frames (bytes_held till tills))

-- after a fault: a call on the disk has failed; or memory was refused, in a round in which no call is owed
abbrev pub AfterFault : TurnFault → View → Type 0
AfterFault Disk v = v.scene.stage ≡ Broken
AfterFault Memory v = IsIdle v

-- Inner: after some of the payloads that the reader of this till holds: those that it still holds come next
abbrev pub AfterTill : {T : Type 0} → Result T TurnFault → Setup → RunState → List Till → ℕ → ℤ → (Outside → Type 0) → ℕ → List RoundItem → View → Type 0
AfterTill (Ok given) setup state tills polls now Also till items v = HeldRound setup state tills polls now Also [] (items_of till tills ++ items) v
AfterTill (Err fault) setup state tills polls now Also till items v = AfterFault fault v
