-- What is owed after each turn.
use Rattle.std.specs.Prelude.{ℕ, ◌+◌, true, false, List, [], ◌∷◌, ◌++◌, Option, Some, None}
use Rattle.gw_base.specs.declared.setup.Setup.{Setup}
use Rattle.gw_site.specs.Outside.{outside_after, nothing_yet, heard_on}
use Rattle.gw_site.specs.declared.turn.Turn.{Turn}
use Rattle.gw_site.specs.declared.turn.Turn.TheVariants.{Start, OpenFailed, Polled, Opened, HeardTill, Closed, HeardPt, Lost, Stopped, Linked, LinkFailed, SentTill, SentPt, CutTill, CutPt, Wrote, Synced, DiskFailed, Crash}
use Rattle.jrn_record.specs.declared.records.Record.{Record}
use Rattle.gw_owes.specs.Calls.{OwedCall, SendTill, SendPt, LinkPt, WriteBody, WriteGate, WriteFirstGate, Sync, CutTill as OwedCutTill, CutPt as OwedCutPt}
use Rattle.gw_owes.specs.Core.{Core, no_core, new_core}
use Rattle.gw_owes.specs.Events.{till_opened_items, till_bytes_items, pt_bytes_items, items_due}
use Rattle.gw_owes.specs.Items.{RoundItem, Crowded, Message, Asked, Unframed, Gone, Greet, Handle, Serve, Queue, NextWaiting, Oversized, LinkLost, Late, Overdue, Due}
use Rattle.gw_owes.specs.ReadAs.{ReadAs}
use Rattle.gw_owes.specs.Row.{Row}
use Rattle.gw_owes.specs.Terminals.{core_without}
use Rattle.gw_rules.specs.Opening.{Opens, opening, kept_of}
use Rattle.gw_rules.specs.Scene.{Scene, records_of, row_at, link_made_at, link_lost_at}
use Rattle.gw_rules.specs.Stage.{Stage, Resting, Opening, AtPoll, Handling, Over, Broken, busy, stage_synced, stage_wrote}

-- the scene, the calls that are owed now, in order, and the items that come after them
pub record View : Type 0 where
  pub scene : Scene
  pub calls : List OwedCall
  pub items : List RoundItem

-- ---- scenes

-- a run begins, none does, or the power has failed
abbrev pub between_runs : Scene → Turn → Option Setup → Stage → Core → List Record → Option Record → Scene
between_runs scene turn setup stage core kept flight = record {
  outside = outside_after scene.outside turn;
  setup = setup;
  stage = stage;
  polls = 0;
  core = core;
  kept = kept;
  flight = flight;
}

-- the turn moves the outside, and the run is this far
abbrev pub moved : Scene → Turn → Stage → Scene
moved scene turn stage = record scene { outside = outside_after scene.outside turn; stage = stage }

-- a call was made
abbrev pub called : Scene → Turn → Scene
called scene turn = moved scene turn (busy scene.stage)

-- the connection of a till was cut, which is gone from here on
abbrev pub till_cut : Scene → ℕ → Scene
till_cut scene till = record (called scene (CutTill till)) { core = core_without scene.core till }

-- one poll more
abbrev pub polled : Scene → Turn → Scene
polled scene turn = record (moved scene turn AtPoll) { polls = scene.polls + 1 }

-- the event of the poll has come
abbrev pub at_event : Scene → Turn → Scene
at_event scene turn = moved scene turn Handling

-- ---- views

-- nothing is owed
abbrev pub idle : Scene → View
idle scene = record { scene = scene; calls = []; items = [] }

-- these items, and then what may be due
abbrev pub handling : Scene → List RoundItem → View
handling scene items = record { scene = scene; calls = []; items = items ++ items_due scene.core }

-- the calls after the first
abbrev pub later : List OwedCall → List OwedCall
later [] = []
later (call ∷ calls) = calls

-- the first call owed was made, with this turn
abbrev pub made : View → Turn → View
made v turn = record v { scene = called v.scene turn; calls = later v.calls }

-- A send has failed: the cut of its connection is owed at once. No other call is, since a send is the last of what is owed at once.
abbrev pub unsent : View → Turn → OwedCall → View
unsent v turn cut = record v { scene = called v.scene turn; calls = cut ∷ [] }

-- a turn moves the scene, and what a row says of it is remembered and owed, before these calls
abbrev pub by_row : View → Scene → Row → List OwedCall → View
by_row v scene row calls = record { scene = record scene { core = row.core }; calls = row.calls ++ calls; items = row.items ++ v.items }

-- the record whose gate is written and not synced, after the write that is owed first
abbrev pub flight_after : List OwedCall → Option Record → Option Record
flight_after [] flight = flight
flight_after (SendTill till reply ∷ calls) flight = flight
flight_after (SendPt pt sending ∷ calls) flight = flight
flight_after (OwedCutTill till ∷ calls) flight = flight
flight_after (OwedCutPt pt ∷ calls) flight = flight
flight_after (LinkPt pt ∷ calls) flight = flight
flight_after (WriteBody slot the_record ∷ calls) flight = flight
flight_after (WriteGate slot the_record ∷ calls) flight = Some the_record
flight_after (WriteFirstGate ∷ calls) flight = flight
flight_after (Sync ∷ calls) flight = flight

-- a write was made
abbrev pub wrote : View → Turn → View
wrote v turn = record v {
  scene = record (moved v.scene turn (stage_wrote v.scene.stage)) { flight = flight_after v.calls v.scene.flight };
  calls = later v.calls;
}

-- a sync was made: the record whose gate was written is kept from here on
abbrev pub synced : View → Turn → View
synced v turn = record v {
  scene = record (moved v.scene turn (stage_synced v.scene.stage)) { kept = records_of v.scene; flight = None };
  calls = later v.calls;
}

-- a run begins: it remembers nothing of those before, and opens the journal
abbrev pub started : Scene → Setup → Opens → View
started scene setup opens = record {
  scene = between_runs scene (Start setup) (Some setup) (Opening opens.refused) (new_core setup) scene.kept scene.flight;
  calls = opens.calls;
  items = [];
}

-- no run begins, since the site could not be opened
abbrev pub not_opened : Scene → Scene
not_opened scene = between_runs scene OpenFailed None Resting no_core scene.kept scene.flight

-- the power has failed, and left this file
abbrev pub crashed : Scene → List ℕ → Scene
crashed scene file = between_runs scene (Crash file) None Resting no_core (kept_of scene file) None

-- the view after one more turn, by the view before it; where the turn isn't allowed this says nothing
abbrev pub after_turn : View → Turn → View
after_turn v (Start setup) = started v.scene setup (opening setup v.scene.outside.file (records_of v.scene))
after_turn v OpenFailed = idle (not_opened v.scene)
after_turn v (Polled now) = handling (polled v.scene (Polled now)) []
after_turn v (Opened till) = handling (at_event v.scene (Opened till)) (till_opened_items till v.scene.outside.tills)
after_turn v (HeardTill till bytes) = handling (at_event v.scene (HeardTill till bytes)) (till_bytes_items till (heard_on v.scene.outside.tills till) bytes)
after_turn v (Closed till) = handling (at_event v.scene (Closed till)) (Gone till ∷ [])
after_turn v (HeardPt pt bytes) = handling (at_event v.scene (HeardPt pt bytes)) (pt_bytes_items pt (heard_on v.scene.outside.links pt) bytes)
after_turn v (Lost pt) = handling (at_event v.scene (Lost pt)) (LinkLost pt ∷ [])
after_turn v Stopped = idle (moved v.scene Stopped Over)
after_turn v (Linked pt) = by_row v (called v.scene (Linked pt)) (link_made_at v.scene pt) (later v.calls)
after_turn v (LinkFailed pt) = by_row v (called v.scene (LinkFailed pt)) (link_lost_at v.scene pt) []
after_turn v (SentTill till bytes true) = made v (SentTill till bytes true)
after_turn v (SentTill till bytes false) = unsent v (SentTill till bytes false) (OwedCutTill till)
after_turn v (SentPt pt bytes true) = made v (SentPt pt bytes true)
after_turn v (SentPt pt bytes false) = unsent v (SentPt pt bytes false) (OwedCutPt pt)
after_turn v (CutTill till) = record v { scene = till_cut v.scene till; calls = later v.calls }
after_turn v (CutPt pt) = by_row v (called v.scene (CutPt pt)) (link_lost_at v.scene pt) (later v.calls)
after_turn v (Wrote offset bytes) = wrote v (Wrote offset bytes)
after_turn v Synced = synced v Synced
after_turn v DiskFailed = idle (moved v.scene DiskFailed Broken)
after_turn v (Crash file) = idle (crashed v.scene file)

-- ---- moves

-- a move of a course
pub data Move : Type 0 where
  -- the first item begins
  Begin : Move
  -- the first item is a message of a till that is there, and is read as this
  Read : ReadAs → Move
  -- a turn is made
  Make : Turn → Move

-- an item that begins or is read after a poll says that the poll brought nothing
abbrev pub at_item : Scene → Scene
at_item scene = record scene { stage = busy scene.stage }

-- an item has begun that owes this row, before these items
abbrev pub begun : Scene → Row → List RoundItem → View
begun scene row items = record { scene = record scene { stage = busy scene.stage; core = row.core }; calls = row.calls; items = row.items ++ items }

-- the first item begins
abbrev pub begin : Scene → List RoundItem → View
begin scene [] = idle (at_item scene)
begin scene (item ∷ items) = begun scene (row_at scene item) items

-- the items, where the first is a message and was read as this
abbrev pub read_first : ReadAs → List RoundItem → List RoundItem
read_first as_read [] = []
read_first as_read (Crowded till ∷ items) = Crowded till ∷ items
read_first as_read (Message till bytes ∷ items) = Asked till as_read ∷ items
read_first as_read (Asked till other ∷ items) = Asked till other ∷ items
read_first as_read (Unframed till ∷ items) = Unframed till ∷ items
read_first as_read (Gone till ∷ items) = Gone till ∷ items
read_first as_read (Greet pt apdu ∷ items) = Greet pt apdu ∷ items
read_first as_read (Handle pt apdu ∷ items) = Handle pt apdu ∷ items
read_first as_read (Serve pt till header request ∷ items) = Serve pt till header request ∷ items
read_first as_read (Queue pt till header request ∷ items) = Queue pt till header request ∷ items
read_first as_read (NextWaiting pt ∷ items) = NextWaiting pt ∷ items
read_first as_read (Oversized pt ∷ items) = Oversized pt ∷ items
read_first as_read (LinkLost pt ∷ items) = LinkLost pt ∷ items
read_first as_read (Late pt ∷ items) = Late pt ∷ items
read_first as_read (Overdue key ∷ items) = Overdue key ∷ items
read_first as_read (Due pt ∷ items) = Due pt ∷ items

-- the view after one more move
abbrev pub after : View → Move → View
after v Begin = begin v.scene v.items
after v (Read as_read) = record { scene = at_item v.scene; calls = []; items = read_first as_read v.items }
after v (Make turn) = after_turn v turn

-- the view after more moves
abbrev pub view_from : View → List Move → View
view_from v [] = v
view_from v (move ∷ moves) = view_from (after v move) moves

-- before the first turn
abbrev pub at_first : View
at_first = idle (record { outside = nothing_yet; setup = None; stage = Resting; polls = 0; core = no_core; kept = []; flight = None })
