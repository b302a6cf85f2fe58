-- Inner: what is held as the requests are refused that have waited for too long.
use Rattle.std.specs.Prelude.{ℕ, ℤ, Bool, true, false, List, [], ◌∷◌, ◌++◌}
use Rattle.gw_base.specs.declared.key.Key.{Key}
use Rattle.gw_base.specs.declared.setup.Setup.{Setup}
use Rattle.gw_site.specs.Outside.{Outside}
use Rattle.jrn_record.specs.declared.records.Record.{Record}
use Rattle.gw_owes.specs.Core.{Core}
use Rattle.gw_owes.specs.Items.{RoundItem, Crowded, Message, Asked, Unframed, Gone, Greet, Handle, Serve, Queue, NextWaiting, Oversized, LinkLost, Late, Overdue, Due}
use Rattle.gw_rules.specs.View.{View}
use Rattle.gw_dispatch.specs.MidRound.{MidRound, overdue_items}
use Rattle.gw_dispatch.specs.declared.tills.Till.{Till}

-- the keys under which these items look for a request that has waited for too long
abbrev pub overdue_keys : List RoundItem → List Key
overdue_keys [] = []
overdue_keys (Crowded till ∷ items) = overdue_keys items
overdue_keys (Message till bytes ∷ items) = overdue_keys items
overdue_keys (Asked till as_read ∷ items) = overdue_keys items
overdue_keys (Unframed till ∷ items) = overdue_keys items
overdue_keys (Gone till ∷ items) = overdue_keys items
overdue_keys (Greet number apdu ∷ items) = overdue_keys items
overdue_keys (Handle number apdu ∷ items) = overdue_keys items
overdue_keys (Serve number till header request ∷ items) = overdue_keys items
overdue_keys (Queue number till header request ∷ items) = overdue_keys items
overdue_keys (NextWaiting number ∷ items) = overdue_keys items
overdue_keys (Oversized number ∷ items) = overdue_keys items
overdue_keys (LinkLost number ∷ items) = overdue_keys items
overdue_keys (Late number ∷ items) = overdue_keys items
overdue_keys (Overdue key ∷ items) = key ∷ overdue_keys items
overdue_keys (Due number ∷ items) = overdue_keys items

-- the items of some keys come first
abbrev pub MayBeOverdue : Setup → Core → List Record → List Till → ℕ → ℤ → (Outside → Type 0) → List RoundItem → View → Type 0
MayBeOverdue setup core kept tills polls now Also items v = (keys : List Key) × MidRound setup core kept tills polls now Also [] (overdue_items keys ++ items) v

-- after one request was refused those of some keys may still come; where none is, none does
abbrev pub AfterOverdue : Bool → Setup → Core → List Record → List Till → ℕ → ℤ → (Outside → Type 0) → List RoundItem → View → Type 0
AfterOverdue true setup core kept tills polls now Also items v = MayBeOverdue setup core kept tills polls now Also items v
AfterOverdue false setup core kept tills polls now Also items v = MidRound setup core kept tills polls now Also [] items v
