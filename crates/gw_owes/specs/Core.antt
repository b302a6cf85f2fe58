-- What the gateway remembers of a run, beside its records.
use Rattle.std.specs.Prelude.{ℕ, ℤ, List, [], None, map}
use Rattle.gw_base.specs.declared.key.Key.{Key}
use Rattle.gw_base.specs.declared.setup.Pt.{Pt}
use Rattle.gw_base.specs.declared.setup.Setup.{Setup}
use Rattle.sale_values.specs.declared.header.Header.{Header}
use Rattle.sale_values.specs.declared.request.SaleRequest.{SaleRequest}
use Rattle.gw_owes.specs.declared.terminal.LoggedOut.{LoggedOut}
use Rattle.gw_owes.specs.declared.terminal.Standing.TheVariants.{Unlinked}
use Rattle.gw_owes.specs.declared.terminal.Terminal.{Terminal}

-- a request of a till that waits for the terminal of this number, with its key and the moment from which on its till gets a Failure
pub record Wait : Type 0 where
  pub key : Key
  pub pt : ℕ
  pub till : ℕ
  pub deadline : ℤ
  pub header : Header
  pub request : SaleRequest

-- what is remembered: nothing of it outlasts the run
pub record Core : Type 0 where
  -- in the setup's order
  pub terminals : List Terminal
  -- in the order of their acceptance
  pub waits : List Wait
  -- which SaleIDs are logged out, and where: in the order of their logouts
  pub logged_out : List LoggedOut
  -- how many device requests were owed, by which the next one is numbered; after the greatest number comes 0
  pub device_requests : ℕ

-- nothing is remembered
abbrev pub no_core : Core
no_core = record { terminals = []; waits = []; logged_out = []; device_requests = 0 }

-- a terminal as a run begins: it isn't linked, and is due at once
abbrev pub new_terminal : Pt → Terminal
new_terminal pt = record { pt = pt; standing = Unlinked None; talk = None; awaited = 0; asker = None }

-- what is remembered as a run begins
abbrev pub new_core : Setup → Core
new_core setup = record no_core { terminals = map new_terminal setup.terminals }
