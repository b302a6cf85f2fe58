-- Laws of lawful logs on tills: each is sent something only while it is there.
use Rattle.std.specs.Prelude.{◌≡◌, ◌⊎◌, ℕ, Bool, true, false, List, [], ◌∷◌, ◌++◌, slice_get, Some}
use Rattle.gw_site.specs.Outside.{Connection, is_connected, outside_of}
use Rattle.gw_site.specs.declared.turn.Turn.{Turn}
use Rattle.gw_site.specs.declared.turn.Turn.TheVariants.{SentTill}
use Rattle.sale_values.specs.declared.header.Header.{Header}
use Rattle.sale_values.specs.declared.request.SaleRequest.{SaleRequest}
use Rattle.gw_owes.specs.AskerLaws.{tills_sent}
use Rattle.gw_owes.specs.Items.{RoundItem, Gone, Serve, Queue}
use Rattle.gw_owes.specs.declared.terminal.Terminal.{Terminal}
use Rattle.gw_rules.specs.Lawful.{IsLawful, Stands}
use Rattle.gw_rules.specs.View.{View}

-- ---- who is there

-- the till is there after this log
abbrev pub is_there_after : List Turn → ℕ → Bool
is_there_after log till = is_connected (outside_of log).tills till

-- each of these tills is among those that are there
abbrev pub AreThere : List Connection → List ℕ → Type 0
AreThere tills [] = Unit {0}
AreThere tills (till ∷ more) = (is_connected tills till ≡ true) × AreThere tills more

-- ---- what is sent

-- a till is sent something, or that fails, only while it is there
pub record UsesTill (log : List Turn) (till : ℕ) : Type 0 where
  pub sent : (bytes : List ℕ) → IsLawful (log ++ SentTill till bytes true ∷ []) → is_there_after log till ≡ true
  pub unsent : (bytes : List ℕ) → IsLawful (log ++ SentTill till bytes false ∷ []) → is_there_after log till ≡ true

-- after each log
abbrev pub EachUsesTills : Type 0
EachUsesTills = (log : List Turn) (till : ℕ) → UsesTill log till

-- after a lawful log, each till that is owed anything at once is there
abbrev pub OwedIsThere : Type 0
OwedIsThere = (log : List Turn) (v : View) → Stands log v → AreThere (outside_of log).tills (tills_sent v.calls)

-- ---- whose a terminal is

-- the till has closed its connection, which is handled next
abbrev pub IsLeaving : View → ℕ → Type 0
IsLeaving v till = (rest : List RoundItem) × (v.items ≡ Gone till ∷ rest)

-- after a lawful log, the till of what a terminal serves is there, or has just closed its connection
abbrev pub EachServedIsThere : Type 0
EachServedIsThere =
    (log : List Turn) (v : View) → Stands log v → (number till : ℕ) (terminal : Terminal) → slice_get v.scene.core.terminals number ≡ Some terminal → terminal.asker ≡ Some till
    → (is_there_after log till ≡ true) ⊎ IsLeaving v till

-- so is the till whose request joins those that wait, or takes one of them out, next
abbrev pub EachQueueingIsThere : Type 0
EachQueueingIsThere =
    (log : List Turn) (v : View) → Stands log v → (number till : ℕ) (header : Header) (request : SaleRequest) (rest : List RoundItem) → v.items ≡ Queue number till header request ∷ rest
    → is_there_after log till ≡ true

-- and so is the till whose request a terminal is to begin to serve next
abbrev pub EachBeginningIsThere : Type 0
EachBeginningIsThere =
    (log : List Turn) (v : View) → Stands log v → (number till : ℕ) (header : Header) (request : SaleRequest) (rest : List RoundItem) → v.items ≡ Serve number till header request ∷ rest
    → is_there_after log till ≡ true
