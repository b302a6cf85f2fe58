-- Closed examples of the orders: five requests of two tills at two terminals, two pairs of them with equal deadlines.
use Rattle.std.specs.Prelude.{◌≡◌, ℕ, ℤ, pos, negsuc, List, [], ◌∷◌, length, Some, None, map, refl, codes}
use Rattle.sale_values.specs.declared.header.Header.{Header}
use Rattle.sale_values.specs.declared.names.Class.TheVariants as classes
use Rattle.sale_values.specs.declared.names.Kind.TheVariants as kinds
use Rattle.sale_values.specs.declared.request.SaleRequest.TheVariants.{Diagnosis}
use Rattle.gw_links.specs.Waiting.{Waiting, item_of, without_request, of_seat, at_terminal, later_than, by_deadline, due_at, first_id}

-- the header of a Diagnosis
abbrev header : Header
header = record { class = classes.Service; category = codes "Diagnosis"; kind = kinds.Request; service = Some (codes "1"); device = None; sale = codes "S"; poi = codes "T" }

-- a request under an id, of the till at a seat, at a terminal, with a deadline
abbrev waits : ℕ → ℕ → ℕ → ℤ → Waiting
waits id seat terminal deadline = record {
  id = id;
  item = record {
    key = record { sale = codes "S"; poi = codes "T"; service = codes "1" };
    till = seat;
    seat = seat;
    terminal = terminal;
    deadline = deadline;
    header = header;
    request = Diagnosis;
  };
}

-- in the order of acceptance
abbrev five : List Waiting
five =
    waits 4 0 1 (pos 70) ∷ waits 2 63 1 (pos 60) ∷ waits 7 0 31 (pos 70) ∷ waits 1 0 1 (pos 60)
    ∷ waits 3 63 31 (negsuc 0) ∷ []

-- the ids of these requests, in their order
abbrev ids : List Waiting → List ℕ
ids lines = map (λ waiting. waiting.id) lines

-- those of a till, and none at a seat that has none
example_seats : (ids (of_seat 0 five) ≡ 4 ∷ 7 ∷ 1 ∷ []) × (ids (of_seat 63 five) ≡ 2 ∷ 3 ∷ []) × (of_seat 1 five ≡ [])
    × (first_id (of_seat 63 five) ≡ Some 2) × (first_id (of_seat 1 five) ≡ None)
example_seats = (refl, refl, refl, refl, refl)

-- those at a terminal, and how many they are
example_terminals : (ids (at_terminal 1 five) ≡ 4 ∷ 2 ∷ 1 ∷ []) × (ids (at_terminal 31 five) ≡ 7 ∷ 3 ∷ [])
    × (at_terminal 0 five ≡ []) × (length (at_terminal 1 five) ≡ 3) × (length (at_terminal 31 five) ≡ 2)
    × (length (at_terminal 0 five) ≡ 0)
example_terminals = (refl, refl, refl, refl, refl, refl)

-- by deadline, and of one deadline in the order of acceptance; one more with deadline 60 comes before those with 70
example_deadlines : (ids (by_deadline five) ≡ 3 ∷ 2 ∷ 1 ∷ 4 ∷ 7 ∷ [])
    × (first_id (later_than (pos 60) (by_deadline five)) ≡ Some 4) × (later_than (pos 70) (by_deadline five) ≡ [])
example_deadlines = (refl, refl, refl)

-- due at a moment are those whose deadline it is, too
example_due : (ids (due_at (pos 60) (by_deadline five)) ≡ 3 ∷ 2 ∷ 1 ∷ []) × (ids (due_at (pos 59) (by_deadline five)) ≡ 3 ∷ [])
    × (due_at (negsuc 1) (by_deadline five) ≡ [])
example_due = (refl, refl, refl)

-- one is taken out, and the others keep their orders
example_taken : (ids (without_request 2 five) ≡ 4 ∷ 7 ∷ 1 ∷ 3 ∷ [])
    × (ids (by_deadline (without_request 2 five)) ≡ 3 ∷ 1 ∷ 4 ∷ 7 ∷ [])
    × (ids (at_terminal 1 (without_request 2 five)) ≡ 4 ∷ 1 ∷ []) × (ids (of_seat 63 (without_request 2 five)) ≡ 3 ∷ [])
    × (item_of (without_request 2 five) 2 ≡ None) × (item_of five 2 ≡ Some (waits 2 63 1 (pos 60)).item)
    × (without_request 5 five ≡ five)
example_taken = (refl, refl, refl, refl, refl, refl, refl)
