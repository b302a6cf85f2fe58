-- Each item, and each event of a link, keeps what is known in order.
use Rattle.std.proofs.Common.{◌≡◌, ◌≢◌, ◌∙◌, ◌≤◌, ℕ, zero, suc, Bool, true, false, List, [], ◌∷◌, length, refl, sym, ap, subst, arith}
use Rattle.std.specs.Prelude.{All, map, slice_get, Option, Some, None, pos, Result, Ok, Err, unwrap_or}
use Rattle.std.proofs.lemmas.List.Elements.{All-nil}
use Rattle.std.proofs.lemmas.Option.{same_Some}
use Rattle.gw_base.specs.declared.setup.Pt.{Pt}
use Rattle.gw_base.specs.declared.setup.Setup.{Setup}
use Rattle.gw_site.specs.Outside.{is_connected}
use Rattle.zvt_apdu.specs.Grammar.{ApduValue}
use Rattle.zvt_msg.specs.declared.fault.PtFault.{PtFault}
use Rattle.zvt_msg.specs.Message.{MessageValue, Ack, Nack, Intermediate, Line, Block, Status, Completion, Abort, Other}
use Rattle.zvt_msg.specs.MessageDecode.{decode_pt_message}
use Rattle.zvt_msg.specs.Numbers.{NumbersFitFields}
use Rattle.zvt_talk.specs.Came.{is_taken}
use Rattle.gw_owes.specs.declared.terminal.Standing.TheVariants.{Registering}
use Rattle.gw_owes.specs.declared.terminal.Terminal.{Terminal}
use Rattle.gw_owes.specs.Calls.{CutTill, LinkPt}
use Rattle.gw_owes.specs.Core.{new_terminal}
use Rattle.gw_owes.specs.Days.{days_served}
use Rattle.gw_owes.specs.Deadlines.{due_row, is_due, is_late, late_row}
use Rattle.gw_owes.specs.DeviceRequests.{greatest_device_number}
use Rattle.gw_owes.specs.Greeting.{greet_decoded, greeting, outside_row, sending_calls}
use Rattle.gw_owes.specs.Handling.{handle_decoded, handle_message, meaning_at, taken_as, taken_row, taking}
use Rattle.gw_owes.specs.Items.{RoundItem, Crowded, Message, Asked, Unframed, Gone, Greet, Handle, Serve, Queue, NextWaiting, Oversized, LinkLost, Late, Overdue, Due}
use Rattle.gw_owes.specs.Links.{cutting, is_linked, LinkIsMade, LinkHasFailed, LinkIsLost, of_linked}
use Rattle.gw_owes.specs.Payments.{serve_row}
use Rattle.gw_owes.specs.RecordLaws.{CutKeepsInOrder, EachCutKeepsInOrder, EachLinkKeepsInOrder, EachRowBringsReadItems, EachRowKeepsInOrder, IsInOrder, IsReadItem, IsTerminalInOrder, NewCoreIsInOrder, LinkKeepsInOrder}
use Rattle.gw_owes.specs.Row.{Known, Row, owing, owing_where}
use Rattle.gw_owes.specs.Rows.{asked_row}
use Rattle.gw_owes.specs.TerminalLaws.{owes_cut}
use Rattle.gw_owes.specs.TerminalRows.{terminal_of, terminal_row}
use Rattle.gw_owes.specs.WaitingRows.{next_waiting_row}
use Rattle.gw_owes.specs.Terminals.{after_command, link_lost, link_made, of_terminal, registers, registration, reply_to_lost, terminal_at, unlinked_terminal, unlinks}
use Rattle.gw_owes.proofs.BeginLemmas.{begun-read, serve-keeps, serve-never-cuts}
use Rattle.gw_owes.proofs.DayLemmas.{days-no-more}
use Rattle.gw_owes.proofs.HandlingLemmas.{taken-cases}
use Rattle.gw_owes.proofs.HeardLemmas.{meant-fits, taken-read}
use Rattle.gw_owes.proofs.KeepingLemmas.{KeepNothing, RowKeeps, command-read, cutting-keeps, device-keeps, in-order-keeps, no-calls, nothing-keeps, no-more-reserved, others-with, replies-keep-nothing, same-room}
use Rattle.gw_owes.proofs.NextLemmas.{each-overdue, each-queued}
use Rattle.gw_owes.proofs.NextOrderLemmas.{next-never-cuts, next-read}
use Rattle.gw_owes.proofs.RecordLemmas.{LedgerLaws}
use Rattle.gw_owes.proofs.ServingLemmas.{consequence-keeps}

-- what is known of the messages of terminals: a message that was read has numbers that fit their fields
abbrev pub MessagesFit : Type 0
MessagesFit = (apdu : ApduValue) (message : MessageValue) → decode_pt_message apdu ≡ Ok message → NumbersFitFields message

-- ---- links

missing : (known : Known) (number other : ℕ) (terminal : Terminal) → terminal_at known number ≡ None → terminal_at known other ≡ Some terminal → other ≢ number
missing known number other terminal none found = λ e. let k : Some terminal ≡ None = sym found ∙ ap (terminal_at known) e ∙ none in cc

lost-in-order : (known : Known) (number : ℕ) → LinkKeepsInOrder known number (link_lost known number).core
lost-in-order known number = by-found (terminal_at known number) refl
  where
    by-found : (found : Option Terminal) → terminal_at known number ≡ found → LinkKeepsInOrder known number (of_terminal known (unlinks known number) found).core
    by-found None none = record { terminals = λ others other terminal found. others other terminal (missing known number other terminal none found) found; days = omega arith; waits = refl; device_requests = refl }
    by-found (Some terminal) is = record {
      terminals = λ others. others-with known.kept known.core number (unlinked_terminal terminal known.moment) others (record { records = tt; read = tt });
      days = days-no-more known.core.terminals number terminal (unlinked_terminal terminal known.moment) is (omega arith);
      waits = refl;
      device_requests = refl;
    }

made-in-order : (known : Known) (number : ℕ) → LinkKeepsInOrder known number (link_made known number).core
made-in-order known number = by-found (terminal_at known number) refl
  where
    by-found : (found : Option Terminal) → terminal_at known number ≡ found → LinkKeepsInOrder known number (of_terminal known (registers known number) found).core
    by-found None none = record { terminals = λ others other terminal found. others other terminal (missing known number other terminal none found) found; days = omega arith; waits = refl; device_requests = refl }
    by-found (Some terminal) is =
        let new : Terminal = after_command (record terminal { awaited = 0 }) (registration terminal.pt) Registering known.moment in
        record {
          terminals = λ others. others-with known.kept known.core number new others (record { records = tt; read = command-read terminal.pt (registration terminal.pt) known.moment });
          days = days-no-more known.core.terminals number terminal new is (omega arith);
          waits = refl;
          device_requests = refl;
        }

-- each event of a link
pub links-in-order : EachLinkKeepsInOrder
links-in-order known number LinkIsMade = made-in-order known number
links-in-order known number LinkHasFailed = lost-in-order known number
links-in-order known number LinkIsLost = lost-in-order known number

-- ---- the rows of a terminal

module _ (known : Known) (order : IsInOrder known) (number : ℕ) where
  where-keeps : (row : Row) (holds : Bool) → RowKeeps known number row → RowKeeps known number (owing_where holds known row)
  where-keeps row true keeps = keeps
  where-keeps row false keeps = nothing-keeps known order number

  terminal-keeps : (row : Terminal → Row) → ((terminal : Terminal) → terminal_at known number ≡ Some terminal → RowKeeps known number (row terminal)) → RowKeeps known number (of_terminal known row (terminal_at known number))
  terminal-keeps row each = by-found (terminal_at known number) refl
    where
      by-found : (found : Option Terminal) → terminal_at known number ≡ found → RowKeeps known number (of_terminal known row found)
      by-found None none = nothing-keeps known order number
      by-found (Some terminal) is = each terminal is

  linked-keeps : (row : Terminal → Row) → ((terminal : Terminal) → terminal_at known number ≡ Some terminal → RowKeeps known number (row terminal)) → RowKeeps known number (of_linked known number row)
  linked-keeps row each = terminal-keeps (λ terminal. owing_where (is_linked terminal.standing) known (row terminal)) (λ terminal found. where-keeps (row terminal) (is_linked terminal.standing) (each terminal found))

  greeting-keeps-nothing : (message : MessageValue) → KeepNothing (sending_calls number (greeting message))
  greeting-keeps-nothing Ack = no-calls
  greeting-keeps-nothing (Nack error_code) = no-calls
  greeting-keeps-nothing (Intermediate intermediate_status) = record { no_records = refl; no_cut = refl }
  greeting-keeps-nothing (Line text) = record { no_records = refl; no_cut = refl }
  greeting-keeps-nothing (Block objects) = record { no_records = refl; no_cut = refl }
  greeting-keeps-nothing (Status fields) = record { no_records = refl; no_cut = refl }
  greeting-keeps-nothing Completion = record { no_records = refl; no_cut = refl }
  greeting-keeps-nothing (Abort result_code) = record { no_records = refl; no_cut = refl }
  greeting-keeps-nothing Other = record { no_records = refl; no_cut = refl }

  outside-keeps : RowKeeps known number (outside_row known number)
  outside-keeps = linked-keeps (λ terminal. cutting known number) (λ terminal found. cutting-keeps known order number)

  greet-keeps : (decoded : Result MessageValue PtFault) → RowKeeps known number (greet_decoded known number decoded)
  greet-keeps (Ok message) =
      linked-keeps (λ terminal. owing known (sending_calls number (greeting message))) (λ terminal found. in-order-keeps known order number (owing known (sending_calls number (greeting message))) (greeting-keeps-nothing message) order.room order.numbered order.terminals refl)
  greet-keeps (Err fault) = outside-keeps

  late-keeps : RowKeeps known number (late_row known number)
  late-keeps = terminal-keeps (λ terminal. owing_where (is_late known.moment terminal.talk) known (cutting known number))
      (λ terminal found. where-keeps (cutting known number) (is_late known.moment terminal.talk) (cutting-keeps known order number))

  due-keeps : RowKeeps known number (due_row known number)
  due-keeps = terminal-keeps (λ terminal. owing_where (is_due known.moment terminal.standing) known (owing known (LinkPt number ∷ [])))
      (λ terminal found. where-keeps (owing known (LinkPt number ∷ [])) (is_due known.moment terminal.standing)
      (in-order-keeps known order number (owing known (LinkPt number ∷ [])) (record { no_records = refl; no_cut = refl }) order.room order.numbered order.terminals refl))

  lost-keeps : RowKeeps known number (link_lost known number)
  lost-keeps =
      let left = lost-in-order known number in
      in-order-keeps known order number (link_lost known number) nothing (same-room known order (link_lost known number).core (no-more-reserved known.core (link_lost known number).core left.days (let waits = ap length left.waits in omega (arith, waits)))) (subst (λ (n : ℕ). n ≤ greatest_device_number) (sym left.device_requests) order.numbered)
      (left.terminals (λ other terminal apart found. order.terminals other terminal found)) no_items
    where
      nothing : KeepNothing (link_lost known number).calls
      nothing = by-found (terminal_at known number)
        where
          by-found : (found : Option Terminal) → KeepNothing (of_terminal known (unlinks known number) found).calls
          by-found None = no-calls
          by-found (Some terminal) = replies-keep-nothing terminal.asker (reply_to_lost terminal.standing)

      no_items : (link_lost known number).items ≡ []
      no_items = by-found (terminal_at known number)
        where
          by-found : (found : Option Terminal) → (of_terminal known (unlinks known number) found).items ≡ []
          by-found None = refl
          by-found (Some terminal) = refl

  handle-keeps : LedgerLaws → (decoded : Result MessageValue PtFault) → ((message : MessageValue) → decoded ≡ Ok message → NumbersFitFields message) → RowKeeps known number (handle_decoded known number decoded)
  handle-keeps laws (Err fault) fits = nothing-keeps known order number
  handle-keeps laws (Ok message) fits = linked-keeps (λ terminal. handle_message known number terminal message) message-keeps
    where
      message-keeps : (terminal : Terminal) → terminal_at known number ≡ Some terminal → RowKeeps known number (handle_message known number terminal message)
      message-keeps terminal found =
          let was = order.terminals number terminal found in
          let meant = meaning_at terminal message in
          let now = taking terminal message known.moment in
          where-keeps (taken_row known number now meant message) (is_taken message)
          (taken-cases (RowKeeps known number) known number now meant message
          (consequence-keeps laws known order number terminal now found refl refl (record { records = was.records; read = taken-read terminal.talk terminal.awaited message (pos known.moment) was.read (fits message refl) })
          meant terminal.standing refl was.records (meant-fits terminal.talk (taken_as terminal.awaited message) was.read))
          (λ at stays. device-keeps known order number now at.till at.request stays))

-- the number of an item's terminal; 0 where it is about none
abbrev number_in : RoundItem → ℕ
number_in item = unwrap_or (terminal_of item) 0

-- the row of each item but the beginning of one that has waited
row-keeps : (laws : LedgerLaws) (messages : MessagesFit) (known : Known) (order : IsInOrder known) (item : RoundItem) → ((number : ℕ) → item ≢ NextWaiting number) → IsReadItem known.setup item → RowKeeps known (number_in item) (terminal_row known item)
row-keeps laws messages known order (Crowded till) other read = nothing-keeps known order 0
row-keeps laws messages known order (Message till bytes) other read = nothing-keeps known order 0
row-keeps laws messages known order (Asked till as_read) other read = nothing-keeps known order 0
row-keeps laws messages known order (Unframed till) other read = nothing-keeps known order 0
row-keeps laws messages known order (Gone till) other read = nothing-keeps known order 0
row-keeps laws messages known order (Greet number apdu) other read = greet-keeps known order number (decode_pt_message apdu)
row-keeps laws messages known order (Handle number apdu) other read = handle-keeps known order number laws (decode_pt_message apdu) (messages apdu)
row-keeps laws messages known order (Serve number till header request) other read = serve-keeps laws known order number till header request read
row-keeps laws messages known order (Queue number till header request) other read = nothing-keeps known order 0
row-keeps laws messages known order (NextWaiting number) other read = absurd (other number refl)
row-keeps laws messages known order (Oversized number) other read = outside-keeps known order number
row-keeps laws messages known order (LinkLost number) other read = lost-keeps known order number
row-keeps laws messages known order (Late number) other read = late-keeps known order number
row-keeps laws messages known order (Overdue key) other read = nothing-keeps known order 0
row-keeps laws messages known order (Due number) other read = due-keeps known order number

pub rows-in-order : LedgerLaws → MessagesFit → EachRowKeepsInOrder
rows-in-order laws messages known item other order read uncut = (row-keeps laws messages known order item other read).uncut uncut

-- ---- cuts

-- what a row leaves that cuts the connection of the terminal of this number
abbrev LeavesOthers : Known → Option ℕ → Row → Type 0
LeavesOthers known None row = Unit {0}
LeavesOthers known (Some number) row = CutKeepsInOrder known number row

cut-leaves : (laws : LedgerLaws) (messages : MessagesFit) (known : Known) (order : IsInOrder known) (item : RoundItem) → owes_cut (terminal_row known item).calls ≡ true → LeavesOthers known (terminal_of item) (terminal_row known item)
cut-leaves laws messages known order (Crowded till) cut = tt
cut-leaves laws messages known order (Message till bytes) cut = tt
cut-leaves laws messages known order (Asked till as_read) cut = tt
cut-leaves laws messages known order (Unframed till) cut = tt
cut-leaves laws messages known order (Gone till) cut = tt
cut-leaves laws messages known order (Greet number apdu) cut = (greet-keeps known order number (decode_pt_message apdu)).cut cut
cut-leaves laws messages known order (Handle number apdu) cut = (handle-keeps known order number laws (decode_pt_message apdu) (messages apdu)).cut cut
cut-leaves laws messages known order (Serve number till header request) cut = let never : owes_cut (serve_row known number till header request).calls ≡ false = serve-never-cuts known number till header request in absurd cc
cut-leaves laws messages known order (Queue number till header request) cut = tt
cut-leaves laws messages known order (NextWaiting number) cut = let never : owes_cut (next_waiting_row known number).calls ≡ false = next-never-cuts known number in absurd cc
cut-leaves laws messages known order (Oversized number) cut = (outside-keeps known order number).cut cut
cut-leaves laws messages known order (LinkLost number) cut = (lost-keeps known order number).cut cut
cut-leaves laws messages known order (Late number) cut = (late-keeps known order number).cut cut
cut-leaves laws messages known order (Overdue key) cut = tt
cut-leaves laws messages known order (Due number) cut = (due-keeps known order number).cut cut

pub cuts-in-order : LedgerLaws → MessagesFit → EachCutKeepsInOrder
cuts-in-order laws messages known item number is order cut = subst (λ (n : Option ℕ). LeavesOthers known n (terminal_row known item)) is (cut-leaves laws messages known order item cut)

-- ---- items

-- no items were read, all of them
no-items-read : (setup : Setup) (items : List RoundItem) → items ≡ [] → All (IsReadItem setup) items
no-items-read setup items none = subst (λ (all : List RoundItem). All (IsReadItem setup) all) (sym none) (All-nil (IsReadItem setup))

pub items-read : LedgerLaws → MessagesFit → EachRowBringsReadItems
items-read laws messages tills known (Crowded till) order read = All-nil (IsReadItem known.setup)
items-read laws messages tills known (Message till bytes) order read = All-nil (IsReadItem known.setup)
items-read laws messages tills known (Asked till as_read) order read = by-there (is_connected tills till)
  where
    by-there : (there : Bool) → All (IsReadItem known.setup) (owing_where there known (asked_row known till as_read)).items
    by-there true = begun-read known till as_read order.of_setup read
    by-there false = All-nil (IsReadItem known.setup)
items-read laws messages tills known (Unframed till) order read = by-there (is_connected tills till)
  where
    by-there : (there : Bool) → All (IsReadItem known.setup) (owing_where there known (owing known (CutTill till ∷ []))).items
    by-there true = All-nil (IsReadItem known.setup)
    by-there false = All-nil (IsReadItem known.setup)
items-read laws messages tills known (Gone till) order read = All-nil (IsReadItem known.setup)
items-read laws messages tills known (Greet number apdu) order read = no-items-read known.setup _ (row-keeps laws messages known order (Greet number apdu) (λ n e. absurd cc) read).no_items
items-read laws messages tills known (Handle number apdu) order read = no-items-read known.setup _ (row-keeps laws messages known order (Handle number apdu) (λ n e. absurd cc) read).no_items
items-read laws messages tills known (Serve number till header request) order read = no-items-read known.setup _ (row-keeps laws messages known order (Serve number till header request) (λ n e. absurd cc) read).no_items
items-read laws messages tills known (Queue number till header request) order read =
    no-items-read known.setup _ (each-queued (λ (row : Row). row.items ≡ []) known number till header request (record { none = refl; joins = λ terminal key at. refl; taken = λ wait at. refl }))
items-read laws messages tills known (NextWaiting number) order read = next-read known number
items-read laws messages tills known (Oversized number) order read = no-items-read known.setup _ (row-keeps laws messages known order (Oversized number) (λ n e. absurd cc) read).no_items
items-read laws messages tills known (LinkLost number) order read = no-items-read known.setup _ (row-keeps laws messages known order (LinkLost number) (λ n e. absurd cc) read).no_items
items-read laws messages tills known (Late number) order read = no-items-read known.setup _ (row-keeps laws messages known order (Late number) (λ n e. absurd cc) read).no_items
items-read laws messages tills known (Overdue key) order read = no-items-read known.setup _ (each-overdue (λ (row : Row). row.items ≡ []) known key (record { none = refl; taken = λ wait found overdue. refl }))
items-read laws messages tills known (Due number) order read = no-items-read known.setup _ (row-keeps laws messages known order (Due number) (λ n e. absurd cc) read).no_items

-- ---- as a run begins

pub new-in-order : NewCoreIsInOrder
new-in-order setup kept = (λ number terminal found. in-list setup.terminals number terminal found, (let none = no-days setup.terminals in omega (arith, none)))
  where
    in-list : (pts : List Pt) (number : ℕ) (terminal : Terminal) → slice_get (map new_terminal pts) number ≡ Some terminal → IsTerminalInOrder kept terminal
    in-list [] number terminal f = absurd cc
    in-list (pt ∷ pts) zero terminal f = subst (IsTerminalInOrder kept) (same_Some (new_terminal pt) terminal f) (record { records = tt; read = tt })
    in-list (pt ∷ pts) (suc number) terminal f = in-list pts number terminal f

    no-days : (pts : List Pt) → days_served (map new_terminal pts) ≡ 0
    no-days [] = refl
    no-days (pt ∷ pts) = let rest = no-days pts in omega (arith, rest)
