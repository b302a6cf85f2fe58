-- Inner: what one read of a connection brings, and does to the connections.
use Rattle.std.specs.Prelude.{◌≡◌, ℕ, ◌<◌, ◌≤◌, Bool, false, not, ◌==◌, List, filter, Contains, slice_set}
use Rattle.gw_site.specs.declared.site.What.{What}
use Rattle.gw_site.specs.declared.site.What.TheVariants.{TillOpened, TillBytes, TillClosed, PtBytes, PtClosed, Nothing, Stopped}
use Rattle.net_site.specs.Holding.{TillNumbers, IsLinked, without_till}
use Rattle.net_site.specs.declared.connection.Received.{Received}
use Rattle.net_site.specs.declared.connection.Received.TheVariants.{Bytes, End, NotYet}
use Rattle.net_site.specs.declared.tills.Connection.{Connection}

-- a count is 1 to 4,096
abbrev pub HasCount : Received → Type 0
HasCount (Bytes count) = (0 < count) × (count ≤ 4096)
HasCount End = Unit {0}
HasCount NotYet = Unit {0}

-- the connections without that of this till
abbrev pub connections_without : List Connection → ℕ → List Connection
connections_without connections till = filter (λ (connection : Connection). not (connection.till == till)) connections

-- what the connection of a till brings, and does to the tills
abbrev pub TillHears : TillNumbers → TillNumbers → What → Type 0
TillHears old new (TillOpened till) = ⊥
TillHears old new (TillBytes till count) = Contains old.connected till × (new ≡ old)
TillHears old new (TillClosed till) = Contains old.connected till × (new ≡ without_till old till)
TillHears old new (PtBytes pt count) = ⊥
TillHears old new (PtClosed pt) = ⊥
TillHears old new Nothing = new ≡ old
TillHears old new Stopped = ⊥

-- what the connection of a terminal brings, and does to the links
abbrev pub LinkHears : List Bool → List Bool → What → Type 0
LinkHears old new (TillOpened till) = ⊥
LinkHears old new (TillBytes till count) = ⊥
LinkHears old new (TillClosed till) = ⊥
LinkHears old new (PtBytes pt count) = IsLinked old pt × (new ≡ old)
LinkHears old new (PtClosed pt) = IsLinked old pt × (new ≡ slice_set old pt false)
LinkHears old new Nothing = new ≡ old
LinkHears old new Stopped = ⊥
