-- The requests that wait as the code keeps them, in the words of what is owed.
use Rattle.std.specs.Prelude.{◌≡◌, ◌⊎◌, ◌<◌, ◌≤◌, ℕ, Bool, false, ◌==◌, not, List, [], ◌∷◌, length, map, filter, Option, Some, None, option_map}
use Rattle.gw_base.specs.declared.condition.Condition.TheVariants.{Aborted}
use Rattle.gw_ledger.specs.Keys.{same_key}
use Rattle.gw_links.specs.Waiting.{Waiting}
use Rattle.gw_links.specs.declared.item.Item.{Item}
use Rattle.gw_owes.specs.Core.{Wait}
use Rattle.gw_owes.specs.Events.{waits_by_deadline}
use Rattle.gw_owes.specs.Row.{Known, Row}
use Rattle.gw_owes.specs.WaitingRows.{is_overdue, of_waiting, taken_out}
use Rattle.gw_owes.specs.Waits.{first_waiting}

-- a request of the lines, in the words of what is owed
abbrev pub as_wait : Item → Wait
as_wait item = record { key = item.key; pt = item.terminal; till = item.till; deadline = item.deadline; header = item.header; request = item.request }

-- these, in the order of their acceptance
abbrev pub waits_in : List Waiting → List Wait
waits_in lines = map (λ (waiting : Waiting). as_wait waiting.item) lines

-- those of this till, in their order
abbrev pub waits_of : ℕ → List Wait → List Wait
waits_of till waits = filter (λ (wait : Wait). wait.till == till) waits

-- Inner: this is one of them
abbrev pub IsOneOf : Waiting → List Waiting → Type 0
IsOneOf one [] = ⊥
IsOneOf one (first ∷ rest) = (one ≡ first) ⊎ IsOneOf one rest

-- Inner: no two of those that wait have one id or one key; two have one seat exactly where they are of one till; and there are no more than may wait
pub record AreLinesApart (lines : List Waiting) : Type 0 where
  pub ids : (one other : Waiting) → IsOneOf one lines → IsOneOf other lines → other.id ≡ one.id → other ≡ one
  pub keys : (one other : Waiting) → IsOneOf one lines → IsOneOf other lines → other.item.key ≡ one.item.key → other.id ≡ one.id
  pub tills : (one other : Waiting) → IsOneOf one lines → IsOneOf other lines → other.item.till ≡ one.item.till → other.item.seat ≡ one.item.seat
  pub seats : (one other : Waiting) → IsOneOf one lines → IsOneOf other lines → other.item.seat ≡ one.item.seat → other.item.till ≡ one.item.till
  pub places : (one : Waiting) → IsOneOf one lines → (one.item.seat < 64) × (one.item.terminal < 32)
  pub few : length lines ≤ 256

-- Inner: the first of these is of this till
abbrev pub is_first_of : ℕ → List Waiting → Bool
is_first_of till [] = false
is_first_of till (first ∷ rest) = first.item.till == till

-- Inner: at this seat a request of this till may wait: those of the till do, and no others
pub record IsSeatFor (till : ℕ) (lines : List Waiting) (seat : ℕ) : Type 0 where
  pub within : seat < 64
  pub tills : (one : Waiting) → IsOneOf one lines → one.item.till ≡ till → one.item.seat ≡ seat
  pub seats : (one : Waiting) → IsOneOf one lines → one.item.seat ≡ seat → one.item.till ≡ till

-- Inner: all but those with the key of the one that was found, where one was
abbrev pub without_found : Option Wait → List Wait → List Wait
without_found None waits = waits
without_found (Some found) waits = filter (λ (wait : Wait). not (same_key found.key wait.key)) waits

-- Inner: the one that was sought is taken out, where it is there
pub record TakesSought (found : Option Wait) (taken : Option Item) (old new : List Wait) : Type 0 where
  pub is : found ≡ option_map as_wait taken
  pub others : new ≡ without_found found old

-- the first request, by deadline and then by acceptance, that has waited for too long
abbrev pub first_overdue : ℕ → List Wait → Option Wait
first_overdue moment waits = first_waiting (filter (is_overdue moment) (waits_by_deadline waits))

-- what it leaves and owes, where there is one
abbrev pub first_overdue_row : Known → Row
first_overdue_row known = of_waiting known (taken_out known Aborted) (first_overdue known.moment known.core.waits)
