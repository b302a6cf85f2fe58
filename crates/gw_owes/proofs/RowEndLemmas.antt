-- The row of each item owes calls on the disk, and then one other call at most.
use Rattle.std.proofs.Common.{ℕ, [], ◌∷◌, refl}
use Rattle.std.specs.Prelude.{Some}
use Rattle.gw_base.specs.declared.key.Key.{Key}
use Rattle.gw_site.specs.Outside.{is_connected}
use Rattle.sale_values.specs.declared.header.Header.{Header}
use Rattle.sale_values.specs.declared.request.SaleRequest.{SaleRequest}
use Rattle.gw_owes.specs.Calls.{CutTill}
use Rattle.gw_owes.specs.Items.{Crowded, Message, Asked, Unframed, Gone, Greet, Handle, Serve, Queue, NextWaiting, Oversized, LinkLost, Late, Overdue, Due}
use Rattle.gw_owes.specs.Row.{Known, owing}
use Rattle.gw_owes.specs.Requests.{reply_to}
use Rattle.gw_owes.specs.Rows.{asked_row}
use Rattle.gw_owes.specs.WaitingRows.{overdue_row, queue_row}
use Rattle.gw_owes.specs.Laws.{EachRowEndsInOne, EndsInOne}
use Rattle.gw_owes.proofs.NextLemmas.{each-overdue, each-queued}
use Rattle.gw_owes.proofs.RowLemmas.{reply-ends, where-ends}
use Rattle.gw_owes.proofs.TerminalLemmas.{terminal-rows-end}

queue-ends : (known : Known) (number till : ℕ) (header : Header) (request : SaleRequest) → EndsInOne (queue_row known number till header request)
queue-ends known number till header request = each-queued EndsInOne known number till header request (record { none = refl; joins = λ terminal key at. refl; taken = λ wait at. refl })

overdue-ends : (known : Known) (key : Key) → EndsInOne (overdue_row known key)
overdue-ends known key = each-overdue EndsInOne known key (record { none = refl; taken = λ wait waits overdue. refl })

pub rows-end : EachRowEndsInOne
rows-end tills known (Crowded till) = refl
rows-end tills known (Message till bytes) = refl
rows-end tills known (Asked till as_read) = where-ends (is_connected tills till) known (asked_row known till as_read) (reply-ends (Some till) (reply_to known as_read))
rows-end tills known (Unframed till) = where-ends (is_connected tills till) known (owing known (CutTill till ∷ [])) refl
rows-end tills known (Gone till) = refl
rows-end tills known (Greet number apdu) = terminal-rows-end known (Greet number apdu)
rows-end tills known (Handle number apdu) = terminal-rows-end known (Handle number apdu)
rows-end tills known (Serve number till header request) = terminal-rows-end known (Serve number till header request)
rows-end tills known (Queue number till header request) = queue-ends known number till header request
rows-end tills known (NextWaiting number) = terminal-rows-end known (NextWaiting number)
rows-end tills known (Oversized number) = terminal-rows-end known (Oversized number)
rows-end tills known (LinkLost number) = terminal-rows-end known (LinkLost number)
rows-end tills known (Late number) = terminal-rows-end known (Late number)
rows-end tills known (Overdue key) = overdue-ends known key
rows-end tills known (Due number) = terminal-rows-end known (Due number)
