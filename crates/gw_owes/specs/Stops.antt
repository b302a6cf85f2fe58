-- The stop of what a terminal serves: it is wished by a till's Abort, and `06 B0` is sent once.
use Rattle.std.specs.Prelude.{ℕ, ◌==◌, is_some, not, Bool, false, ◌&&◌, ◌||◌, if◌then◌else◌, List, [], ◌∷◌, Option, Some, None}
use Rattle.gw_base.specs.declared.key.Key.{Key}
use Rattle.sale_values.specs.declared.header.Header.{Header}
use Rattle.sale_values.specs.declared.request.Reference.{Reference}
use Rattle.sale_values.specs.declared.request.SaleRequest.TheVariants as requests
use Rattle.sale_values.specs.Key.{key_of}
use Rattle.zvt_talk.specs.Talk.{TalkFacts}
use Rattle.zvt_talk.specs.TalkSteps.{may_send_stop, talk_after_stop_wished}
use Rattle.jrn_record.specs.declared.records.Record.{Record}
use Rattle.gw_ledger.specs.declared.entry.Entry.{Entry as TheEntry}
use Rattle.gw_ledger.specs.declared.entry.Found.{Found}
use Rattle.gw_ledger.specs.declared.entry.Found.TheVariants.{Entry, Closed}
use Rattle.gw_ledger.specs.Fold.{found_of}
use Rattle.gw_owes.specs.declared.terminal.Service.{Service}
use Rattle.gw_owes.specs.declared.terminal.Service.TheVariants.{Transaction, EndOfDay, Display}
use Rattle.gw_owes.specs.declared.terminal.Standing.{Standing}
use Rattle.gw_owes.specs.declared.terminal.Standing.TheVariants.{Unlinked, Registering, Enquiring, Ready, Serving, Aside}
use Rattle.gw_owes.specs.declared.terminal.Terminal.{Terminal}
use Rattle.gw_owes.specs.Days.{serves_day}
use Rattle.gw_owes.specs.Diagnosis.{NamedTerminal, named_terminal}
use Rattle.gw_owes.specs.Items.{RoundItem, Serve}
use Rattle.gw_owes.specs.Row.{Known, Row, owing_nothing, owing_where}
use Rattle.gw_owes.specs.Serving.{staying, stops}
use Rattle.gw_owes.specs.Terminals.{terminal_at, of_terminal}

-- ---- what is served

-- the service is the payment or the reversal of this entry; an end of day and a display never are
abbrev pub is_service_of : TheEntry → Service → Bool
is_service_of entry (Transaction slot) = entry.slot == slot
is_service_of entry (EndOfDay header period) = false
is_service_of entry (Display header results) = false

-- a terminal of this standing serves the entry
abbrev pub serves_entry : TheEntry → Standing → Bool
serves_entry entry (Unlinked due) = false
serves_entry entry Registering = false
serves_entry entry Enquiring = false
serves_entry entry (Ready last) = false
serves_entry entry (Serving service last) = is_service_of entry service
serves_entry entry (Aside before reported) = false

-- it serves what the records have, which is open
abbrev pub serves_found : Standing → Found → Bool
serves_found standing (Entry entry) = not (is_some entry.result) && serves_entry entry standing
serves_found standing (Closed closed) = false

-- it serves what was found under a key, where anything was
abbrev pub serves_any : Standing → Option Found → Bool
serves_any standing None = false
serves_any standing (Some found) = serves_found standing found

-- the terminal serves the payment or the reversal of this key, which is open, or the end of day of this key
abbrev pub serves_key : List Record → Key → Terminal → Bool
serves_key kept key terminal = serves_any terminal.standing (found_of kept key) || serves_day key terminal.standing

-- ---- what an Abort begins

-- the terminal that is named is to stop what it serves, where that has the key
abbrev pub stop_items_at : Known → ℕ → Header → Reference → Option NamedTerminal → List RoundItem
stop_items_at known till header reference None = []
stop_items_at known till header reference (Some named) =
    if serves_key known.kept (key_of header reference) named.terminal then Serve named.number till header (requests.Abort reference) ∷ [] else []

-- what a till's Abort begins: a stop at the terminal of the key that it names, where that is served there
abbrev pub stop_items : Known → ℕ → Header → Reference → List RoundItem
stop_items known till header reference = stop_items_at known till header reference (named_terminal known.core (key_of header reference).poi)

-- ---- the row

-- the terminal, whose dialogue this is, once a stop is wished
abbrev pub wishing : Terminal → TalkFacts → Terminal
wishing terminal talk = record terminal { talk = Some (talk_after_stop_wished talk) }

-- A stop is wished in the dialogue. It is sent now where that is begun, and no stop was sent in it; where its command isn't acknowledged yet it is sent as soon as that is.
abbrev pub wishes_stop : Known → ℕ → Terminal → Option TalkFacts → Row
wishes_stop known number terminal None = owing_nothing known
wishes_stop known number terminal (Some talk) =
    if may_send_stop talk.phase then stops known number (wishing terminal talk) else staying known number (wishing terminal talk)

-- a terminal is to stop what it serves, where that has this key
abbrev pub stops_key : Known → ℕ → Key → Terminal → Row
stops_key known number key terminal = owing_where (serves_key known.kept key terminal) known (wishes_stop known number terminal terminal.talk)

-- what an Abort leaves and owes at the terminal of this number
abbrev pub stop_row : Known → ℕ → Header → Reference → Row
stop_row known number header reference = of_terminal known (stops_key known number (key_of header reference)) (terminal_at known number)
