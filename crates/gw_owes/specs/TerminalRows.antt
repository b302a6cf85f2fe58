-- What each item of a terminal owes.
use Rattle.std.specs.Prelude.{ℕ, Bool, true, false, Option, Some, None}
use Rattle.gw_owes.specs.Items.{RoundItem, Crowded, Message, Asked, Unframed, Gone, Greet, Handle, Serve, Queue, NextWaiting, Oversized, LinkLost, Late, Overdue, Due}
use Rattle.gw_owes.specs.Row.{Known, Row, owing_nothing}
use Rattle.gw_owes.specs.Links.{LinkIsLost, link_row}
use Rattle.gw_owes.specs.Greeting.{greet_row, oversized_row}
use Rattle.gw_owes.specs.Handling.{handle_row}
use Rattle.gw_owes.specs.Payments.{serve_row}
use Rattle.gw_owes.specs.WaitingRows.{next_waiting_row}
use Rattle.gw_owes.specs.Deadlines.{late_row, due_row}

-- the terminal that the item is about; a till's item, and one of a request that waits, is about none
abbrev pub terminal_of : RoundItem → Option ℕ
terminal_of (Crowded till) = None
terminal_of (Message till bytes) = None
terminal_of (Asked till as_read) = None
terminal_of (Unframed till) = None
terminal_of (Gone till) = None
terminal_of (Greet number apdu) = Some number
terminal_of (Handle number apdu) = Some number
terminal_of (Serve number till header request) = Some number
terminal_of (Queue number till header request) = None
terminal_of (NextWaiting number) = Some number
terminal_of (Oversized number) = Some number
terminal_of (LinkLost number) = Some number
terminal_of (Late number) = Some number
terminal_of (Overdue key) = None
terminal_of (Due number) = Some number

-- the item says that the terminal's link is lost
abbrev pub is_link_lost : RoundItem → Bool
is_link_lost (Crowded till) = false
is_link_lost (Message till bytes) = false
is_link_lost (Asked till as_read) = false
is_link_lost (Unframed till) = false
is_link_lost (Gone till) = false
is_link_lost (Greet number apdu) = false
is_link_lost (Handle number apdu) = false
is_link_lost (Serve number till header request) = false
is_link_lost (Queue number till header request) = false
is_link_lost (NextWaiting number) = false
is_link_lost (Oversized number) = false
is_link_lost (LinkLost number) = true
is_link_lost (Late number) = false
is_link_lost (Overdue key) = false
is_link_lost (Due number) = false

-- What an item of a terminal leaves and owes as it begins; other items owe nothing here.
abbrev pub terminal_row : Known → RoundItem → Row
terminal_row known (Crowded till) = owing_nothing known
terminal_row known (Message till bytes) = owing_nothing known
terminal_row known (Asked till as_read) = owing_nothing known
terminal_row known (Unframed till) = owing_nothing known
terminal_row known (Gone till) = owing_nothing known
terminal_row known (Greet number apdu) = greet_row known number apdu
terminal_row known (Handle number apdu) = handle_row known number apdu
terminal_row known (Serve number till header request) = serve_row known number till header request
terminal_row known (Queue number till header request) = owing_nothing known
terminal_row known (NextWaiting number) = next_waiting_row known number
terminal_row known (Oversized number) = oversized_row known number
terminal_row known (LinkLost number) = link_row known number LinkIsLost
terminal_row known (Late number) = late_row known number
terminal_row known (Overdue key) = owing_nothing known
terminal_row known (Due number) = due_row known number
