-- The requests that wait, in the order of their acceptance, and the three orders in which they are asked for.
use Rattle.std.specs.Prelude.{ℕ, ℤ, Bool, not, ◌==◌, int_lt, if◌then◌else◌, List, [], ◌∷◌, Option, Some, None, filter}
use Rattle.std.specs.Ordering.{is_eq}
use Rattle.gw_base.specs.Key.{key_cmp}
use Rattle.gw_base.specs.declared.key.Key.{Key}
use Rattle.gw_links.specs.declared.item.Item.{Item}

-- a waiting request, and the id under which it waits
pub record Waiting : Type 0 where
  pub id : ℕ
  pub item : Item

-- the request that waits under an id
abbrev pub item_of : List Waiting → ℕ → Option Item
item_of [] id = None
item_of (waiting ∷ rest) id = if waiting.id == id then Some waiting.item else item_of rest id

-- all but the one under this id, in their order
abbrev pub without_request : ℕ → List Waiting → List Waiting
without_request id lines = filter (λ waiting. not (waiting.id == id)) lines

-- those of the till at a seat, in the order of acceptance
abbrev pub of_seat : ℕ → List Waiting → List Waiting
of_seat seat lines = filter (λ waiting. waiting.item.seat == seat) lines

-- those at a terminal, in the order of acceptance
abbrev pub at_terminal : ℕ → List Waiting → List Waiting
at_terminal terminal lines = filter (λ waiting. waiting.item.terminal == terminal) lines

-- Inner: those from the first on whose deadline is later than this moment
abbrev pub later_than : ℤ → List Waiting → List Waiting
later_than moment [] = []
later_than moment (waiting ∷ rest) =
    if int_lt moment waiting.item.deadline then waiting ∷ rest else later_than moment rest

-- one has an earlier deadline than another
abbrev pub is_due_sooner : Waiting → Waiting → Bool
is_due_sooner one other = int_lt one.item.deadline other.item.deadline

-- one more placed before the first whose deadline is later than its own
abbrev pub place : Waiting → List Waiting → List Waiting
place new [] = new ∷ []
place new (waiting ∷ rest) =
    if int_lt new.item.deadline waiting.item.deadline then new ∷ waiting ∷ rest else waiting ∷ place new rest

-- these placed one after another among others
abbrev pub place_all : List Waiting → List Waiting → List Waiting
place_all sorted [] = sorted
place_all sorted (waiting ∷ rest) = place_all (place waiting sorted) rest

-- by deadline, and of one deadline in the order of acceptance
abbrev pub by_deadline : List Waiting → List Waiting
by_deadline lines = place_all [] lines

-- those whose deadline is at or before this moment
abbrev pub due_at : ℤ → List Waiting → List Waiting
due_at moment lines = filter (λ waiting. not (int_lt moment waiting.item.deadline)) lines

-- those that have this key, in their order
abbrev pub with_key : Key → List Waiting → List Waiting
with_key key lines = filter (λ waiting. is_eq (key_cmp waiting.item.key key)) lines

-- the id of the first
abbrev pub first_id : List Waiting → Option ℕ
first_id [] = None
first_id (waiting ∷ rest) = Some waiting.id
