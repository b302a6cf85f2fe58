-- What a socket gives and takes: messages, each a list of bytes.
use Rattle.std.specs.Prelude.{◌≡◌, ℕ, ◌≤◌, List, [], ◌∷◌, ◌++◌, drop, Option, Some, Result, Ok, Err}
use Rattle.gw_site.specs.Failures.{Rose}
use Rattle.sale_ws.specs.declared.wire.Got.{Got}
use Rattle.sale_ws.specs.declared.wire.Got.TheVariants.{End}
use Rattle.sale_ws.specs.declared.wire.WireFault.{WireFault}
use Rattle.sale_ws.specs.declared.wire.WireFault.TheVariants.{Failed}

-- what a proof may see of a socket: what its reads will give; the messages sent; and how often a call has failed
pub record ObservedWire : Type 0 where
  pub left : Option (List Got)
  pub sent : Option (List (List ℕ))
  pub faults : ℕ

-- the first of what is left; the end, once all was given
abbrev pub next_got : List Got → Got
next_got [] = End
next_got (got ∷ left) = got

-- a read gives the first of what is left and leaves the rest; a failed one leaves all
abbrev pub TakesGot : Option (List Got) → Option (List Got) → Result Got WireFault → Type 0
TakesGot old new (Ok got) = (left : List Got) → old ≡ Some left → (got ≡ next_got left) × (new ≡ Some (drop 1 left))
TakesGot old new (Err fault) = new ≡ old

-- these messages were sent, in order, and no other
abbrev pub AddsMessages : Option (List (List ℕ)) → Option (List (List ℕ)) → List (List ℕ) → Type 0
AddsMessages old new messages = (sent : List (List ℕ)) → old ≡ Some sent → new ≡ Some (sent ++ messages)

-- a send adds its message; a failed one adds none
abbrev pub message_sent : List ℕ → Result (Unit {0}) WireFault → List (List ℕ)
message_sent message (Ok done) = message ∷ []
message_sent message (Err fault) = []

-- the count of failures never falls, and a failure other than for memory is returned only where it rose
pub record HasWireCause {T : Type 0} (before now : ℕ) (result : Result T WireFault) : Type 0 where
  pub later : before ≤ now
  pub failed : result ≡ Err Failed → Rose before now
