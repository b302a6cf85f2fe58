-- What each item owes: one row for each kind of item.
use Rattle.std.specs.Prelude.{ℕ, List, [], ◌∷◌, Some}
use Rattle.gw_site.specs.Outside.{Connection, is_connected}
use Rattle.gw_owes.specs.Calls.{CutTill}
use Rattle.gw_owes.specs.ReadAs.{ReadAs}
use Rattle.gw_owes.specs.Items.{RoundItem, Crowded, Message, Asked, Unframed, Gone, Greet, Handle, Serve, Queue, NextWaiting, Oversized, LinkLost, Late, Overdue, Due}
use Rattle.gw_owes.specs.Row.{Known, Row, owing, owing_nothing, owing_where, becoming}
use Rattle.gw_owes.specs.Requests.{reply_to, begun_by}
use Rattle.gw_owes.specs.TerminalRows.{terminal_row}
use Rattle.gw_owes.specs.WaitingRows.{queue_row, overdue_row}
use Rattle.gw_owes.specs.Terminals.{reply_calls_to, core_without}

-- what a message of a till that is there owes, by what it is read as: its reply, or else what it begins
abbrev pub asked_row : Known → ℕ → ReadAs → Row
asked_row known till as_read = record { core = known.core; calls = reply_calls_to (Some till) (reply_to known as_read); items = begun_by known till as_read }

-- what a till that has closed its connection owes
abbrev pub gone_row : Known → ℕ → Row
gone_row known till = becoming (core_without known.core till) []

-- What an item owes as it begins, with these tills there. A till that is gone is owed nothing. A message of one that is there is read first, and owes nothing itself.
abbrev pub row_of : List Connection → Known → RoundItem → Row
row_of tills known (Crowded till) = owing known (CutTill till ∷ [])
row_of tills known (Message till bytes) = owing_nothing known
row_of tills known (Asked till as_read) = owing_where (is_connected tills till) known (asked_row known till as_read)
row_of tills known (Unframed till) = owing_where (is_connected tills till) known (owing known (CutTill till ∷ []))
row_of tills known (Gone till) = gone_row known till
row_of tills known (Greet number apdu) = terminal_row known (Greet number apdu)
row_of tills known (Handle number apdu) = terminal_row known (Handle number apdu)
row_of tills known (Serve number till header request) = terminal_row known (Serve number till header request)
row_of tills known (Queue number till header request) = queue_row known number till header request
row_of tills known (NextWaiting number) = terminal_row known (NextWaiting number)
row_of tills known (Oversized number) = terminal_row known (Oversized number)
row_of tills known (LinkLost number) = terminal_row known (LinkLost number)
row_of tills known (Late number) = terminal_row known (Late number)
row_of tills known (Overdue key) = overdue_row known key
row_of tills known (Due number) = terminal_row known (Due number)
