-- Inner: what is made of the bytes that a reader holds.
use Rattle.std.specs.Prelude.{◌≡◌, ℕ, ◌+◌, ℤ, ◌≤◌, List, ◌++◌}
use Rattle.gw_base.specs.Moment.{moment_of}
use Rattle.jrn_record.specs.declared.records.Record.{Record}
use Rattle.sale_frame.specs.Grammar.{IsPayload, frame, IsIncompleteFrame, BeginsWithBadLength}
use Rattle.gw_owes.specs.Core.{Core}
use Rattle.gw_owes.specs.Waits.{memory_reserved}
use Rattle.gw_core.specs.ReplyOf.{IsAskedRow, IsGivenToBegin, IsGivenWithinLimits}
use Rattle.gw_core.specs.declared.gateway.Gateway.{Gateway}
use Rattle.gw_core.specs.declared.till.Given.{Given}
use Rattle.gw_dispatch.specs.Tills.{IsThere}
use Rattle.gw_dispatch.specs.declared.serving.Next.{Next}
use Rattle.gw_dispatch.specs.declared.serving.Next.TheVariants.{Incomplete, Message, Unframed}
use Rattle.gw_dispatch.specs.declared.tills.Till.{Till}

-- the first message was taken from the bytes held, and this is given to it: what is owed to it, or the request that begins at a terminal or waits
pub record TakesMessage (gateway : Gateway) (kept : List Record) (core : Core) (moment : ℕ) (given : Given) (old new : List ℕ) : Type 0 where
  pub message : List ℕ
  pub payload : IsPayload message
  pub taken : old ≡ frame message ++ new
  pub row : (till : ℕ) → IsAskedRow gateway kept core moment till message given
  pub begins : IsGivenToBegin gateway kept core moment given
  pub within : IsGivenWithinLimits given

-- what the first of the bytes held are
abbrev pub IsNextOf : Gateway → List Record → Core → ℤ → Next → List ℕ → List ℕ → Type 0
IsNextOf gateway kept core now Incomplete old new = IsIncompleteFrame old × (new ≡ old)
IsNextOf gateway kept core now (Message given) old new = TakesMessage gateway kept core (moment_of now) given old new
IsNextOf gateway kept core now Unframed old new = BeginsWithBadLength old × (new ≡ old)

-- the till is there, where its first bytes are more than the beginning of a frame
abbrev pub IsThereWith : Next → ℕ → List Till → Type 0
IsThereWith Incomplete number tills = Unit {0}
IsThereWith (Message given) number tills = IsThere number tills
IsThereWith Unframed number tills = IsThere number tills

-- once a message was taken there is memory for a record that it begins or that is to wait, beside that for what is served or waits; else there is as much as before
abbrev pub HasSpareAfter : Next → Core → ℕ → ℕ → Type 0
HasSpareAfter Incomplete core old new = new ≡ old
HasSpareAfter (Message given) core old new = memory_reserved core + 1 ≤ new
HasSpareAfter Unframed core old new = new ≡ old
