-- Inner: the connections that a site holds are those of its log.
use Rattle.std.specs.Prelude.{◌≡◌}
use Rattle.gw_site.specs.Outside.{Outside, is_connected, outside_after}
use Rattle.gw_site.specs.declared.site.What.{What}
use Rattle.gw_site.specs.declared.site.What.TheVariants.{TillOpened, TillBytes, TillClosed, PtBytes, PtClosed, Nothing, Stopped}
use Rattle.gw_site.specs.declared.turn.Turn.TheVariants.{CutPt, CutTill, Opened}
use Rattle.sim_site.specs.Numbers.{least_till, numbers_value}
use Rattle.sim_site.specs.declared.connections.Connections.{Connections}

-- these are the connections of this outside
pub record HasConnections (o : Outside) (connections : Connections) : Type 0 where
  pub tills : is_connected o.tills ≡ numbers_value connections.tills
  pub next : o.next_till ≡ least_till connections.opened
  pub links : is_connected o.links ≡ numbers_value connections.links

-- the connections have become those after what a poll brings
abbrev pub IsFollowed : Connections → Connections → What → Type 0
IsFollowed old new (TillOpened till) = (o : Outside) → HasConnections o old → HasConnections (outside_after o (Opened till)) new
IsFollowed old new (TillBytes till count) = new ≡ old
IsFollowed old new (TillClosed till) = (o : Outside) → HasConnections o old → HasConnections (outside_after o (CutTill till)) new
IsFollowed old new (PtBytes pt count) = new ≡ old
IsFollowed old new (PtClosed pt) = (o : Outside) → HasConnections o old → HasConnections (outside_after o (CutPt pt)) new
IsFollowed old new Nothing = new ≡ old
IsFollowed old new Stopped = new ≡ old
