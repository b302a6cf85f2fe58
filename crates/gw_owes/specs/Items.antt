-- What a round has to handle.
use Rattle.std.specs.Prelude.{ℕ, List}
use Rattle.gw_base.specs.declared.key.Key.{Key}
use Rattle.sale_values.specs.declared.header.Header.{Header}
use Rattle.sale_values.specs.declared.request.SaleRequest.{SaleRequest}
use Rattle.zvt_apdu.specs.Grammar.{ApduValue}
use Rattle.gw_owes.specs.ReadAs.{ReadAs}

-- one thing that a round has to handle; tills and terminals go by their numbers
pub data RoundItem : Type 0 where
  -- a till that has opened while as many are there as may be
  Crowded : ℕ → RoundItem
  -- a whole message of a till, not read yet
  Message : ℕ → List ℕ → RoundItem
  -- a whole message of a till, by what it is read as
  Asked : ℕ → ReadAs → RoundItem
  -- bytes of a till that begin no frame
  Unframed : ℕ → RoundItem
  -- a till that has closed its connection
  Gone : ℕ → RoundItem
  -- an APDU of a terminal is acknowledged or refused, or its connection cut
  Greet : ℕ → ApduValue → RoundItem
  -- the dialogue of a terminal takes the APDU
  Handle : ℕ → ApduValue → RoundItem
  -- a terminal begins to serve a request of a till, or is to stop what it serves
  Serve : ℕ → ℕ → Header → SaleRequest → RoundItem
  -- a request of a till joins those that wait for a terminal, or one of them is taken out by a till's Abort
  Queue : ℕ → ℕ → Header → SaleRequest → RoundItem
  -- the first request that waits for a terminal is begun or refused
  NextWaiting : ℕ → RoundItem
  -- bytes of a terminal that begin an APDU above the limit
  Oversized : ℕ → RoundItem
  -- the connection of a terminal is lost
  LinkLost : ℕ → RoundItem
  -- a terminal may have been silent for too long
  Late : ℕ → RoundItem
  -- a request may have waited for too long
  Overdue : Key → RoundItem
  -- a terminal may be due to be linked
  Due : ℕ → RoundItem
