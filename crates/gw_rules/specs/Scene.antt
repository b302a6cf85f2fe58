-- What the gateway has before it: the outside, how far the run is, what it remembers, and its records.
use Rattle.std.specs.Prelude.{ℕ, List, [], ◌++◌, Option, Some, None, option_to_list}
use Rattle.gw_base.specs.declared.setup.Setup.{Setup}
use Rattle.gw_site.specs.Outside.{Outside}
use Rattle.jrn_record.specs.declared.records.Record.{Record}
use Rattle.gw_owes.specs.Core.{Core}
use Rattle.gw_owes.specs.Items.{RoundItem}
use Rattle.gw_owes.specs.Row.{Known, Row, becoming}
use Rattle.gw_owes.specs.Rows.{row_of}
use Rattle.gw_owes.specs.Terminals.{link_made, link_lost}
use Rattle.gw_rules.specs.Stage.{Stage}

-- what a log has led to, but for what is owed
pub record Scene : Type 0 where
  pub outside : Outside
  -- of the run; none where there is no run
  pub setup : Option Setup
  pub stage : Stage
  -- how many polls the run has made
  pub polls : ℕ
  -- what is remembered
  pub core : Core
  -- the records of the stable file's open slots, oldest first
  pub kept : List Record
  -- the record whose gate was written and not synced; it outlives a start without a power failure
  pub flight : Option Record

-- the records of the file as it is
abbrev pub records_of : Scene → List Record
records_of scene = scene.kept ++ option_to_list scene.flight

-- what is known in a run with this setup
abbrev pub known_in : Scene → Setup → Known
known_in scene setup = record { setup = setup; core = scene.core; kept = scene.kept; moment = scene.outside.moment }

-- what is owed by what is known; where there is no run, nothing
abbrev pub row_in : Scene → (Known → Row) → Option Setup → Row
row_in scene row None = becoming scene.core []
row_in scene row (Some setup) = row (known_in scene setup)

-- what an item owes as it begins in this scene
abbrev pub row_at : Scene → RoundItem → Row
row_at scene item = row_in scene (λ known. row_of scene.outside.tills known item) scene.setup

-- what a link that is made leaves and owes in this scene
abbrev pub link_made_at : Scene → ℕ → Row
link_made_at scene pt = row_in scene (λ known. link_made known pt) scene.setup

-- what a link that is lost leaves and owes in this scene
abbrev pub link_lost_at : Scene → ℕ → Row
link_lost_at scene pt = row_in scene (λ known. link_lost known pt) scene.setup
