-- How the lines lie in memory: requests in a slab, each with the links of three lists, and the ends of each list in tables.
use Rattle.std.specs.Prelude.{◌≡◌, ◌≢◌, ℕ, zero, suc, ◌^◌, ◌<◌, ◌==◌, if◌then◌else◌, List, [], ◌∷◌, ◌++◌, length, Option, Some, None, option_map, option_to_list, IsSome, slice_index_or}
use Rattle.slab.specs.Slab.{Slab, get, entries}
use Rattle.gw_links.specs.Waiting.{Waiting, of_seat, at_terminal, by_deadline}
use Rattle.gw_links.specs.inner.Chain.{Every, IsApart, IsChain}
use Rattle.gw_links.specs.declared.item.Item.{Item}
use Rattle.gw_links.specs.declared.link.Link.{Link}
use Rattle.gw_links.specs.declared.link.Links.{Links}
use Rattle.gw_links.specs.declared.link.Node.{Node}
use Rattle.gw_links.specs.declared.link.Order.{Order}
use Rattle.gw_links.specs.declared.link.Order.TheVariants.{Till, Terminal, Deadline}

-- the link of a list that is empty
abbrev pub no_link : Link
no_link = record { prev = None; next = None }

-- the link on one of the three lists
abbrev pub link_of : Order → Links → Link
link_of Till links = links.till
link_of Terminal links = links.terminal
link_of Deadline links = links.deadline

-- the links with another on one of the three lists
abbrev pub with_link : Order → Links → Link → Links
with_link Till links link = record links { till = link }
with_link Terminal links link = record links { terminal = link }
with_link Deadline links link = record links { deadline = link }

-- the link of a slot
abbrev pub slot_link : Order → Option Node → Link
slot_link order None = no_link
slot_link order (Some node) = link_of order node.links

-- the place after a place of a list with these ends
abbrev pub next_in : Order → Slab Node → Link → Option ℕ → Option ℕ
next_in order nodes ends None = ends.next
next_in order nodes ends (Some id) = (slot_link order (get nodes id)).next

-- the place before it
abbrev pub prev_in : Order → Slab Node → Link → Option ℕ → Option ℕ
prev_in order nodes ends None = ends.prev
prev_in order nodes ends (Some id) = (slot_link order (get nodes id)).prev

-- a request with its number of acceptance
abbrev pub noted : Node → Item × ℕ
noted node = (node.item, node.accepted)

-- the request under an id, with its number of acceptance
abbrev pub held : Slab Node → ℕ → Option (Item × ℕ)
held nodes id = option_map noted (get nodes id)

-- the requests stay, and so do the links on the other two lists
pub record SameElsewhere (order : Order) (old new : Slab Node) : Type 0 where
  pub requests : (id : ℕ) → held new id ≡ held old id
  pub links : (other : Order) → other ≢ order → (id : ℕ)
      → slot_link other (get new id) ≡ slot_link other (get old id)

-- a place that isn't the end is the id of a request
abbrev pub IsPlace : Slab Node → Option ℕ → Type 0
IsPlace nodes None = Unit {0}
IsPlace nodes (Some id) = IsSome (get nodes id)

-- the first of these entries with this number of acceptance
abbrev pub numbered_nodes : ℕ → List (ℕ × Node) → Option Waiting
numbered_nodes number [] = None
numbered_nodes number (entry ∷ rest) =
    if entry.1.accepted == number then Some (record { id = entry.0; item = entry.1.item }) else numbered_nodes number rest

-- those that a function of the numbers below a bound gives, in the order of the numbers
abbrev pub present : (ℕ → Option Waiting) → ℕ → List Waiting
present found zero = []
present found (suc number) = present found number ++ option_to_list (found number)

-- the requests in the order of acceptance
unfoldable pub accepted_in : Slab Node → ℕ → List Waiting
accepted_in nodes count = present (λ number. numbered_nodes number (entries nodes)) count

-- the slab holds this request under its id, and its seat and terminal are those of a list
pub record IsHeldAt (nodes : Slab Node) (waiting : Waiting) : Type 0 where
  pub number : ℕ
  pub holds : held nodes waiting.id ≡ Some (waiting.item, number)
  pub seat : waiting.item.seat < 64
  pub terminal : waiting.item.terminal < 32

-- the ends of one list of a table
abbrev pub ends_at : List Link → ℕ → Link
ends_at table at = slice_index_or table at no_link

-- the list with these ends links these requests
abbrev pub Links_up : Order → Slab Node → Link → List Waiting → Type 0
Links_up order nodes ends lines = IsChain (next_in order nodes ends) (prev_in order nodes ends) None lines

-- numbers of acceptance are below the count, and no two requests have one
pub record AreNodesNumbered (nodes : Slab Node) (count : ℕ) : Type 0 where
  pub below : (id : ℕ) (item : Item) (number : ℕ) → held nodes id ≡ Some (item, number) → number < count
  pub apart : (one other : ℕ) (a b : Item) (number : ℕ) → held nodes one ≡ Some (a, number)
      → held nodes other ≡ Some (b, number) → one ≡ other

-- the slab holds these requests, and each list links those that belong to it, in its order
pub record IsSoundTable (nodes : Slab Node) (tills terminals : List Link) (deadlines : Link) (count : ℕ) (lines : List Waiting) : Type 0 where
  pub bounded : count < 2 ^ 64
  pub seats : length tills ≡ 64
  pub places : length terminals ≡ 32
  pub numbers : AreNodesNumbered nodes count
  pub requests : Every (IsHeldAt nodes) lines
  pub apart : IsApart lines
  pub by_seat : (seat : ℕ) → seat < 64 → Links_up Till nodes (ends_at tills seat) (of_seat seat lines)
  pub by_terminal : (terminal : ℕ) → terminal < 32
      → Links_up Terminal nodes (ends_at terminals terminal) (at_terminal terminal lines)
  pub in_time : Links_up Deadline nodes deadlines (by_deadline lines)
