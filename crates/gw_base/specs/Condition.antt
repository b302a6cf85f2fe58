-- The error conditions of nexo Sale to POI that this profile uses.
use Rattle.std.specs.Prelude.{ℕ, List, codes}
use Rattle.gw_base.specs.declared.condition.Condition.{Condition}
use Rattle.gw_base.specs.declared.condition.Condition.TheVariants.{Aborted, Busy, Cancel, InProgress, InsertedCard, InvalidCard, LoggedOut, MessageFormat, NotAllowed, NotFound, Refusal, UnavailableDevice, UnavailableService}

-- the text of `ErrorCondition` in a message
abbrev pub name_of : Condition → List ℕ
name_of Aborted = codes "Aborted"
name_of Busy = codes "Busy"
name_of Cancel = codes "Cancel"
name_of InProgress = codes "InProgress"
name_of InsertedCard = codes "InsertedCard"
name_of InvalidCard = codes "InvalidCard"
name_of LoggedOut = codes "LoggedOut"
name_of MessageFormat = codes "MessageFormat"
name_of NotAllowed = codes "NotAllowed"
name_of NotFound = codes "NotFound"
name_of Refusal = codes "Refusal"
name_of UnavailableDevice = codes "UnavailableDevice"
name_of UnavailableService = codes "UnavailableService"
