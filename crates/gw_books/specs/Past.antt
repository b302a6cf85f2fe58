-- What has happened along a course: a second fold beside the view. A place is a number of turns: the turn at place p is the one after the first p. Each list has the newest first.
use Rattle.std.specs.Prelude.{ℕ, ◌+◌, Bool, nat_lt, not, bytes_eq, if◌then◌else◌, List, [], ◌∷◌, ◌++◌, map, filter, find, length, slice_get, Option, Some, None, unwrap_or, Result, Ok, Err}
use Rattle.std.specs.List.{flat_map}
use Rattle.std.specs.Option.{option_and_then, option_map, option_to_list}
use Rattle.gw_base.specs.declared.figures.Figures.{Figures}
use Rattle.gw_base.specs.declared.key.Key.{Key}
use Rattle.gw_base.specs.declared.setup.Pt.{Pt}
use Rattle.gw_site.specs.declared.turn.Turn.{Turn}
use Rattle.gw_site.specs.declared.turn.Turn.TheVariants.{Start, OpenFailed, Polled, Opened, HeardTill, Closed, HeardPt, Lost, Stopped, Linked, LinkFailed, SentTill, SentPt, CutTill, CutPt, Wrote, Synced, DiskFailed, Crash}
use Rattle.sale_values.specs.declared.header.Header.{Header}
use Rattle.sale_values.specs.declared.request.SaleRequest.{SaleRequest}
use Rattle.zvt_apdu.specs.DecodeStream.{decode_apdus}
use Rattle.zvt_msg.specs.declared.fault.PtFault.{PtFault}
use Rattle.zvt_msg.specs.Message.{MessageValue}
use Rattle.zvt_msg.specs.MessageDecode.{decode_pt_message}
use Rattle.zvt_talk.specs.declared.meaning.Heard.{Heard}
use Rattle.zvt_talk.specs.declared.meaning.Heard.TheVariants as heard
use Rattle.jrn_record.specs.declared.records.Intent.{Intent as TheIntent}
use Rattle.jrn_record.specs.declared.records.Record.{Record}
use Rattle.gw_ledger.specs.declared.entry.Entry.{Entry}
use Rattle.gw_ledger.specs.Fold.{open_entry}
use Rattle.gw_ledger.specs.Keys.{intent_key}
use Rattle.gw_owes.specs.declared.terminal.Service.{Service}
use Rattle.gw_owes.specs.declared.terminal.Service.TheVariants.{Transaction, EndOfDay, Display}
use Rattle.gw_owes.specs.declared.terminal.Standing.{Standing}
use Rattle.gw_owes.specs.declared.terminal.Standing.TheVariants.{Unlinked, Registering, Enquiring, Ready, Serving, Aside}
use Rattle.gw_owes.specs.declared.terminal.Terminal.{Terminal}
use Rattle.gw_owes.specs.Days.{day_served}
use Rattle.gw_owes.specs.Core.{Wait, Core}
use Rattle.gw_owes.specs.Handling.{meaning_at}
use Rattle.gw_owes.specs.Items.{RoundItem, Crowded, Message, Asked, Unframed, Gone, Greet, Handle, Serve, Queue, NextWaiting, Oversized, LinkLost, Late, Overdue, Due}
use Rattle.gw_owes.specs.KeptReplies.{own_key}
use Rattle.gw_owes.specs.ReadAs.{ReadAs, Request, Silent, NoMessage, NoJson}
use Rattle.gw_owes.specs.Waits.{waiting_with, queue_of, first_waiting}
use Rattle.gw_rules.specs.Scene.{Scene}
use Rattle.gw_rules.specs.Stage.{is_round}
use Rattle.gw_rules.specs.View.{View, Move, Begin, Read, Make, after, at_first}
use Rattle.gw_books.specs.Kinds.{BookedKind, kind_of_command}

-- ---- what is remembered

-- what the item that began last is about: what calls are made for
pub data Occasion : Type 0 where
  -- a request of a till
  OfRequest : Header → SaleRequest → Occasion
  -- a message of the terminal of this number
  OfMessage : ℕ → MessageValue → Occasion
  -- nothing that was said within the grammars
  OfNothing : Occasion

-- trace numbers rise along the entries of one numbering; each POIID has one
pub record Numbering : Type 0 where
  pub poi : List ℕ

-- both are the same numbering
abbrev pub is_numbering : Numbering → Numbering → Bool
is_numbering one other = bytes_eq one.poi other.poi

-- that of a terminal with these settings
abbrev pub numbering_at : Pt → Numbering
numbering_at pt = record { poi = pt.poi }

-- and that of an Intent
abbrev pub numbering_of : TheIntent → Numbering
numbering_of intent = record { poi = intent.poi }

-- a command that may charge a card, or reverse a charge, was sent, or the beginning of one: `06 01` or `06 30`
pub record SentCommand : Type 0 where
  pub place : ℕ
  pub numbering : Numbering
  pub kind : BookedKind
  -- all of it was sent
  pub whole : Bool
  -- the key of its POIID's open Intent
  pub key : Option Key

-- a terminal was linked, with so many records kept
pub record MadeLink : Type 0 where
  pub place : ℕ
  pub numbering : Numbering
  pub records : ℕ

-- how a dialogue has ended
pub data Ending : Type 0 where
  -- the command at this place is approved with these figures
  Approved : ℕ → Figures → Ending
  -- the command at this place is declined, with this trace number in the last status
  Declined : ℕ → Option ℕ → Ending
  -- an enquiry reports the last trace number, and the figures where that is approved
  Reported : ℕ → Option Figures → Ending

-- the end of a dialogue, heard at this place
pub record HeardEnd : Type 0 where
  pub place : ℕ
  pub numbering : Numbering
  pub ending : Ending

-- a till was sent bytes
pub record SentReply : Type 0 where
  pub place : ℕ
  pub bytes : List ℕ
  pub occasion : Occasion
  pub kept : List Record
  -- the keys that wait, and those of ends of day that are served
  pub waiting : List Key

-- the site was polled, while these links lasted
pub record MadePoll : Type 0 where
  pub place : ℕ
  pub links : List MadeLink
  pub kept : List Record

-- what has happened
pub record Past : Type 0 where
  -- how many turns there were
  pub place : ℕ
  pub occasion : Occasion
  -- where a terminal was heard last
  pub heard : ℕ
  pub commands : List SentCommand
  pub links : List MadeLink
  -- those that last
  pub lasting : List MadeLink
  pub ends : List HeardEnd
  pub replies : List SentReply
  pub polls : List MadePoll
  -- for what each write after the opening was made, and each command that may charge a card was sent
  pub deeds : List Occasion

-- nothing has happened
abbrev pub no_past : Past
no_past = record { place = 0; occasion = OfNothing; heard = 0; commands = []; links = []; lasting = []; ends = []; replies = []; polls = []; deeds = [] }

-- ---- an item begins

-- what a till's message is about
abbrev pub occasion_read : ReadAs → Occasion
occasion_read (Request header request) = OfRequest header request
occasion_read Silent = OfNothing
occasion_read (NoMessage fault) = OfNothing
occasion_read (NoJson fault) = OfNothing

-- what an APDU of a terminal is about
abbrev pub occasion_decoded : ℕ → Result MessageValue PtFault → Occasion
occasion_decoded number (Ok message) = OfMessage number message
occasion_decoded number (Err fault) = OfNothing

-- what is about a request that waits, where there is one
abbrev pub occasion_waiting : Option Wait → Occasion
occasion_waiting None = OfNothing
occasion_waiting (Some wait) = OfRequest wait.header wait.request

-- what an item is about; that of a request that has waited is about this request
abbrev pub occasion_of : Core → RoundItem → Occasion
occasion_of core (Crowded till) = OfNothing
occasion_of core (Message till bytes) = OfNothing
occasion_of core (Asked till as_read) = occasion_read as_read
occasion_of core (Unframed till) = OfNothing
occasion_of core (Gone till) = OfNothing
occasion_of core (Greet number apdu) = OfNothing
occasion_of core (Handle number apdu) = occasion_decoded number (decode_pt_message apdu)
occasion_of core (Serve number till header request) = OfRequest header request
occasion_of core (Queue number till header request) = OfRequest header request
occasion_of core (NextWaiting number) = occasion_waiting (first_waiting (queue_of number core.waits))
occasion_of core (Oversized number) = OfNothing
occasion_of core (LinkLost number) = OfNothing
occasion_of core (Late number) = OfNothing
occasion_of core (Overdue key) = occasion_waiting (waiting_with key core.waits)
occasion_of core (Due number) = OfNothing

-- what the first item is about
abbrev pub first_occasion : Core → List RoundItem → Occasion
first_occasion core [] = OfNothing
first_occasion core (item ∷ items) = occasion_of core item

-- ---- a dialogue ends

-- what a terminal of this standing serves
abbrev pub served_in : Standing → Option Service
served_in (Unlinked due) = None
served_in Registering = None
served_in Enquiring = None
served_in (Ready last) = None
served_in (Serving service last) = Some service
served_in (Aside before reported) = None

-- where a payment or a reversal is served, the place of the last command to its POIID
abbrev pub command_served : Past → List ℕ → Service → Option ℕ
command_served past poi (Transaction slot) = option_map (λ (command : SentCommand). command.place) (find (λ (command : SentCommand). bytes_eq command.numbering.poi poi) past.commands)
command_served past poi (EndOfDay header period) = None
command_served past poi (Display header outputs) = None

-- how a dialogue ends with what a message means in it, by the command of the payment or the reversal that it serves
abbrev pub ending_with : Option ℕ → Heard → Option Ending
ending_with command (heard.Begun stop) = None
ending_with command (heard.Note intermediate_status) = None
ending_with command heard.Line = None
ending_with command heard.Block = None
ending_with command heard.Seen = None
ending_with command (heard.Approved figures) = option_map (λ place. Approved place figures) command
ending_with command heard.Done = None
ending_with command (heard.Told trace figures result_code) = Some (Reported trace figures)
ending_with command (heard.Declined result_code trace) = option_map (λ place. Declined place trace) command
ending_with command heard.Unclear = None
ending_with command heard.Stray = None

-- how the dialogue of a terminal ends with a message
abbrev pub ending_at : Past → Terminal → MessageValue → Option Ending
ending_at past terminal message = ending_with (option_and_then (command_served past terminal.pt.poi) (served_in terminal.standing)) (meaning_at terminal message)

-- the end that a message of a terminal brings, where it brings one
abbrev pub ends_by : Past → MessageValue → Terminal → List HeardEnd
ends_by past message terminal = map (λ ending. record { place = past.heard; numbering = numbering_at terminal.pt; ending = ending }) (option_to_list (ending_at past terminal message))

-- the end that an item brings as it begins
abbrev pub ends_of : Scene → Past → Occasion → List HeardEnd
ends_of scene past (OfRequest header request) = []
ends_of scene past (OfMessage number message) = flat_map (ends_by past message) (option_to_list (slice_get scene.core.terminals number))
ends_of scene past OfNothing = []

-- ---- turns

-- the numbering of the terminal of this number
abbrev pub numbering_of_number : Scene → ℕ → Numbering
numbering_of_number scene number = unwrap_or (option_map (λ (terminal : Terminal). numbering_at terminal.pt) (slice_get scene.core.terminals number)) (record { poi = [] })

-- its POIID
abbrev pub poi_of_number : Scene → ℕ → List ℕ
poi_of_number scene number = (numbering_of_number scene number).poi

-- there is no run: no link lasts
abbrev pub past_between_runs : Past → Past
past_between_runs past = record past { lasting = []; occasion = OfNothing }

-- the site is polled: a round begins
abbrev pub with_poll : Scene → Past → Past
with_poll scene past = record past { occasion = OfNothing; polls = record { place = past.place; links = past.lasting; kept = scene.kept } ∷ past.polls }

-- the terminal with this numbering is linked
abbrev pub with_made_link : Scene → Numbering → Past → Past
with_made_link scene numbering past =
    let link : MadeLink = record { place = past.place; numbering = numbering; records = length scene.kept } in
    record past { links = link ∷ past.links; lasting = link ∷ past.lasting }

-- the link of the terminal with this POIID lasts no longer
abbrev pub without_link : List ℕ → Past → Past
without_link poi past = record past { lasting = filter (λ (link : MadeLink). not (bytes_eq link.numbering.poi poi)) past.lasting }

-- the key of the Intent that is open at this POIID
abbrev pub open_key : List Record → List ℕ → Option Key
open_key kept poi = option_map (λ (entry : Entry). intent_key entry.intent) (open_entry kept poi)

-- the file is written; while the journal is opened that is no deed
abbrev pub with_write : Scene → Past → Past
with_write scene past = if is_round scene.stage then record past { deeds = past.occasion ∷ past.deeds } else past

-- the terminal with this numbering is sent a command of this kind
abbrev pub with_sent_command : Scene → Numbering → List ℕ → Past → BookedKind → Past
with_sent_command scene numbering bytes past kind =
    let command : SentCommand = record { place = past.place; numbering = numbering; kind = kind; whole = nat_lt 0 (length (decode_apdus bytes).apdus); key = open_key scene.kept numbering.poi } in
    record past { commands = command ∷ past.commands; deeds = past.occasion ∷ past.deeds }

-- it is sent bytes that begin as a command of this kind, or as none that may charge a card
abbrev pub with_sent_bytes : Scene → Numbering → List ℕ → Past → Option BookedKind → Past
with_sent_bytes scene numbering bytes past None = past
with_sent_bytes scene numbering bytes past (Some kind) = with_sent_command scene numbering bytes past kind

-- the key of the end of day that a terminal serves
abbrev pub day_key_of : Terminal → Option Key
day_key_of terminal = option_and_then own_key (day_served terminal.standing)

-- the keys that wait, and those of ends of day that are served
abbrev pub waiting_keys : Core → List Key
waiting_keys core = map (λ (wait : Wait). wait.key) core.waits ++ flat_map (λ (terminal : Terminal). option_to_list (day_key_of terminal)) core.terminals

-- a till is sent bytes
abbrev pub with_reply : Scene → List ℕ → Past → Past
with_reply scene bytes past =
    let reply : SentReply = record { place = past.place; bytes = bytes; occasion = past.occasion; kept = scene.kept; waiting = waiting_keys scene.core } in
    record past { replies = reply ∷ past.replies }

-- a turn is made, in the scene before it
abbrev pub with_turn : Scene → Past → Turn → Past
with_turn scene past (Start setup) = past_between_runs past
with_turn scene past OpenFailed = past_between_runs past
with_turn scene past (Polled now) = with_poll scene past
with_turn scene past (Opened till) = past
with_turn scene past (HeardTill till bytes) = past
with_turn scene past (Closed till) = past
with_turn scene past (HeardPt pt bytes) = record past { heard = past.place }
with_turn scene past (Lost pt) = without_link (poi_of_number scene pt) past
with_turn scene past Stopped = past
with_turn scene past (Linked pt) = with_made_link scene (numbering_of_number scene pt) past
with_turn scene past (LinkFailed pt) = past
with_turn scene past (SentTill till bytes sent) = with_reply scene bytes past
with_turn scene past (SentPt pt bytes sent) = with_sent_bytes scene (numbering_of_number scene pt) bytes past (kind_of_command bytes)
with_turn scene past (CutTill till) = past
with_turn scene past (CutPt pt) = without_link (poi_of_number scene pt) past
with_turn scene past (Wrote offset bytes) = with_write scene past
with_turn scene past Synced = past
with_turn scene past DiskFailed = past
with_turn scene past (Crash file) = past_between_runs past

-- ---- a course

-- the past after one more move, by the view before it
abbrev pub past_after : View → Past → Move → Past
past_after v past Begin = record past { occasion = first_occasion v.scene.core v.items; ends = ends_of v.scene past (first_occasion v.scene.core v.items) ++ past.ends }
past_after v past (Read as_read) = past
past_after v past (Make turn) = record (with_turn v.scene past turn) { place = past.place + 1 }

-- the past after more moves
abbrev pub past_from : View → Past → List Move → Past
past_from v past [] = past
past_from v past (move ∷ moves) = past_from (after v move) (past_after v past move) moves

-- the past of a course
abbrev pub past_of : List Move → Past
past_of moves = past_from at_first no_past moves
