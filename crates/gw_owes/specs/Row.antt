-- What a row goes by, and what it says.
use Rattle.std.specs.Prelude.{ℕ, Bool, true, false, List, []}
use Rattle.gw_base.specs.declared.setup.Setup.{Setup}
use Rattle.jrn_record.specs.declared.records.Record.{Record}
use Rattle.gw_owes.specs.Calls.{OwedCall}
use Rattle.gw_owes.specs.Core.{Core}
use Rattle.gw_owes.specs.Items.{RoundItem}

-- what the gateway knows as an item begins: the setup of its run, what it remembers, the records that it keeps, oldest first, and the moment
pub record Known : Type 0 where
  pub setup : Setup
  pub core : Core
  pub kept : List Record
  pub moment : ℕ

-- what an item owes: what is remembered from here on, the calls, and the items that come next, before those that were to come
pub record Row : Type 0 where
  pub core : Core
  pub calls : List OwedCall
  pub items : List RoundItem

-- these calls alone
abbrev pub owing : Known → List OwedCall → Row
owing known calls = record { core = known.core; calls = calls; items = [] }

-- nothing
abbrev pub owing_nothing : Known → Row
owing_nothing known = owing known []

-- this is remembered, and these calls are owed
abbrev pub becoming : Core → List OwedCall → Row
becoming core calls = record { core = core; calls = calls; items = [] }

-- this row where it holds, and else nothing
abbrev pub owing_where : Bool → Known → Row → Row
owing_where true known row = row
owing_where false known row = owing_nothing known
