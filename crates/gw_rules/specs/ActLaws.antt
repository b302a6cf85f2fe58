-- Laws of acts.
use Rattle.std.specs.Prelude.{◌≡◌, ◌⊎◌, ℕ, List}
use Rattle.gw_base.specs.declared.setup.Setup.{Setup}
use Rattle.gw_site.specs.Steps.{SiteCall, ReadCall, log_of_parts, turns_of_steps}
use Rattle.gw_rules.specs.Acts.{Act, IsDueCall, IsOwedCall, Look, moves_of, taken_of}
use Rattle.gw_rules.specs.Lawful.{turns_of}
use Rattle.gw_rules.specs.View.{View}

-- the turns of acts are those of the steps that are taken, one after the other
abbrev pub TurnsAreOfSteps : Type 0
TurnsAreOfSteps = (acts : List Act) → turns_of (moves_of acts) ≡ log_of_parts (turns_of_steps (taken_of acts))

-- one call at most is owed
abbrev pub OneCallIsOwed : Type 0
OneCallIsOwed = (v : View) (call other : SiteCall) → IsOwedCall v call → IsOwedCall v other → call ≡ other

-- the call reads a part of the file
abbrev pub ReadsFile : SiteCall → Type 0
ReadsFile call = (offset : ℕ) × (size : ℕ) × (call ≡ ReadCall offset size)

-- of two calls that are due at the same moment one reads the file, or they are the same
abbrev pub OneCallIsDue : Type 0
OneCallIsDue = (own : Setup) (v : View) (look : Look) (call other : SiteCall) → IsDueCall own v look call → IsDueCall own v look other → (call ≡ other) ⊎ (ReadsFile call ⊎ ReadsFile other)
