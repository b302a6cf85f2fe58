-- Inner: what a poll brings.
use Rattle.std.specs.Prelude.{◌≡◌, ℕ, true, List, Option, Some, None}
use Rattle.std.specs.Option.{option_to_list}
use Rattle.gw_site.specs.Outside.{Outside}
use Rattle.gw_site.specs.Turns.{IsPromised, IsWithinBuf, event_turns}
use Rattle.gw_script.specs.site.ScriptLine.{Event, PlayedLine, At, Poll, Fail, Power, ForgetPower}
use Rattle.gw_script.specs.site.Playing.{applies, brings}
use Rattle.sim_site.specs.Sought.{met_due}
use Rattle.sim_site.specs.declared.brought.Brought.{Brought}

-- the event is brought: with its turn, with its bytes in the buffer, and as promised where it isn't skipped
pub record HasEventTurn (brought : Brought) (event : Event) (buf : List ℕ) : Type 0 where
  pub turn : option_to_list brought.turn ≡ brings event
  pub what : event_turns brought.what buf ≡ brings event
  pub count : IsWithinBuf brought.what
  pub promise : (o : Outside) → applies o event ≡ true → IsPromised o brought.what

-- where a poll ends at the line with an event, that isn't skipped
abbrev pub EndsUnskipped : Outside → Option PlayedLine → Type 0
EndsUnskipped o None = Unit {0}
EndsUnskipped o (Some (At now)) = Unit {0}
EndsUnskipped o (Some (Poll event)) = applies o event ≡ true
EndsUnskipped o (Some (Fail failing)) = Unit {0}
EndsUnskipped o (Some (Power calls kind)) = Unit {0}
EndsUnskipped o (Some ForgetPower) = Unit {0}

-- what is due is brought: with its turn, with its bytes in the buffer, and as promised where it isn't skipped
pub record HasDueTurn (brought : Brought) (line : Option PlayedLine) (buf : List ℕ) : Type 0 where
  pub turn : option_to_list brought.turn ≡ met_due line
  pub what : event_turns brought.what buf ≡ met_due line
  pub count : IsWithinBuf brought.what
  pub promise : (o : Outside) → EndsUnskipped o line → IsPromised o brought.what
