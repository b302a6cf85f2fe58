-- What the core wants done, beside what a row says.
use Rattle.std.specs.Prelude.{◌≡◌, ℕ, Bool, true, false, IsTrue, List, [], ◌∷◌, ◌++◌, ◌≤◌, length, slice_get, sum_by, Option, Some, None}
use Rattle.gw_base.specs.Setup.{IsPt}
use Rattle.gw_base.specs.declared.setup.Setup.{Setup}
use Rattle.jrn_record.specs.Limits.{IsRecord}
use Rattle.jrn_record.specs.declared.records.Record.{Record}
use Rattle.gw_ledger.specs.Fold.{fits}
use Rattle.sale_reply.specs.Limits.{IsHeaderWithinLimits, IsWithinLimits}
use Rattle.zvt_msg.specs.CommandGrammar.{HasCommandDigits}
use Rattle.zvt_msg.specs.Message.{MessageValue, Line, Block}
use Rattle.zvt_msg.specs.PrintedLines.{printed_lines}
use Rattle.gw_owes.specs.declared.terminal.Terminal.{Terminal}
use Rattle.gw_owes.specs.Calls.{Ask, Acknowledge, Refuse, OwedCall, SendTill, SendPt, CutPt, LinkPt, keep_calls}
use Rattle.gw_owes.specs.Core.{Core as CoreValue}
use Rattle.gw_owes.specs.Deadlines.{due_row, late_row}
use Rattle.gw_owes.specs.Items.{RoundItem, NextWaiting}
use Rattle.gw_owes.specs.Links.{LinkEvent, LinkIsMade, LinkIsLost}
use Rattle.gw_owes.specs.RecordLaws.{IsInOrder}
use Rattle.gw_owes.specs.Reply.{ReplyValue, PrintRequest}
use Rattle.gw_owes.specs.Row.{Known, Row}
use Rattle.gw_owes.specs.Terminals.{with_terminal}
use Rattle.gw_owes.specs.WaitingLaws.{AreWaitsInOrder}
use Rattle.gw_core.specs.declared.act.Act.{Act}
use Rattle.gw_core.specs.declared.act.Act.TheVariants as act
use Rattle.gw_core.specs.declared.act.Acts.{Acts}
use Rattle.gw_core.specs.declared.act.Printed.{Printed}
use Rattle.gw_core.specs.declared.act.Printed.TheVariants as printed
use Rattle.gw_core.specs.declared.terminals.Timer.{Timer}
use Rattle.gw_core.specs.declared.terminals.Timer.TheVariants as timers
use Rattle.gw_core.specs.ReplyOf.{IsSameReply}

-- ---- what is wanted, and what is owed

-- the calls that keep a record in this slot, where there is one
abbrev pub keeping_calls : ℕ → Option Record → List OwedCall
keeping_calls slot None = []
keeping_calls slot (Some the_record) = keep_calls slot the_record

-- the message that is printed
abbrev pub message_printed : Printed → MessageValue
message_printed (printed.Line text) = Line text.now
message_printed (printed.Block objects) = Block objects.now

-- the lines that are printed
abbrev pub lines_printed : Printed → List (List ℕ)
lines_printed lines = printed_lines (message_printed lines)

-- the calls are these, and then that of the act: a till is sent a reply with the tree of the one that is owed
abbrev pub AreCallsThen : List OwedCall → Act → List OwedCall → Type 0
AreCallsThen before (act.SendPt pt command) calls = calls ≡ before ++ SendPt pt (Ask command) ∷ []
AreCallsThen before (act.Ack pt) calls = calls ≡ before ++ SendPt pt Acknowledge ∷ []
AreCallsThen before (act.Refuse pt) calls = calls ≡ before ++ SendPt pt Refuse ∷ []
AreCallsThen before (act.CutPt pt) calls = calls ≡ before ++ CutPt pt ∷ []
AreCallsThen before (act.Link pt) calls = calls ≡ before ++ LinkPt pt ∷ []
AreCallsThen before (act.Print till header lines) calls = calls ≡ before ++ SendTill till (PrintRequest header (lines_printed lines)) ∷ []
AreCallsThen before (act.SendTill till given) calls = (reply : ReplyValue) × IsSameReply given reply × (calls ≡ before ++ SendTill till reply ∷ [])

-- the calls are these, and then that of the act, where there is one
abbrev pub AreCallsWith : List OwedCall → Option Act → List OwedCall → Type 0
AreCallsWith before None calls = calls ≡ before
AreCallsWith before (Some wanted) calls = AreCallsThen before wanted calls

-- the calls keep the record in this slot, where there is one, and then are that of the act, where there is one
abbrev pub IsActs : ℕ → Acts → List OwedCall → Type 0
IsActs slot acts calls = AreCallsWith (keeping_calls slot acts.keep) acts.act calls

-- nothing is kept, and this is wanted
abbrev pub alone : Option Act → Acts
alone wanted = record { keep = None; act = wanted }

-- what a gateway of this setup knows that remembers this, at this moment, and keeps these records
abbrev pub known_with : Setup → List Record → CoreValue → ℕ → Known
known_with setup kept core moment = record { setup = setup; core = core; kept = kept; moment = moment }

-- after these records: what is remembered has become what the row says, its calls are wanted, and nothing further is to be handled for it
pub record IsRow (kept : List Record) (row : Row) (core : CoreValue) (acts : Acts) : Type 0 where
  pub core_is : core ≡ row.core
  pub calls_are : IsActs (length kept) acts row.calls
  pub items_are : row.items ≡ []

-- after these records: what is remembered has become what the row says, its calls are wanted, and this is to be handled next
pub record IsRowThen (kept : List Record) (row : Row) (core : CoreValue) (acts : Acts) (items : List RoundItem) : Type 0 where
  pub core_is : core ≡ row.core
  pub calls_are : IsActs (length kept) acts row.calls
  pub items_are : row.items ≡ items

-- the next request that waits for this terminal is to be looked at, or none is
abbrev pub next_items : ℕ → Bool → List RoundItem
next_items number true = NextWaiting number ∷ []
next_items number false = []

-- with some setup, what is known is in order, and so are the requests that wait
pub record KnowsWaits (kept : List Record) (core : CoreValue) (moment : ℕ) : Type 0 where
  pub setup : Setup
  pub in_order : IsInOrder (known_with setup kept core moment)
  pub waits : AreWaitsInOrder (known_with setup kept core moment)

-- Inner: the terminal of this number becomes this one, and the next device request has this number
abbrev pub with_numbered : CoreValue → ℕ → Terminal → ℕ → CoreValue
with_numbered core number terminal next = record (with_terminal core number terminal) { device_requests = next }

-- what became of a link: it is made, or it isn't there
abbrev pub link_event_of : Bool → LinkEvent
link_event_of true = LinkIsMade
link_event_of false = LinkIsLost

-- the row of what may be due at a moment
abbrev pub timer_row : Known → Timer → Row
timer_row known (timers.Silence pt) = late_row known pt
timer_row known (timers.Link pt) = due_row known pt

-- the terminal that it is of
abbrev pub pt_of_timer : Timer → ℕ
pt_of_timer (timers.Silence pt) = pt
pt_of_timer (timers.Link pt) = pt

-- ---- what makes it possible

-- the act is about this terminal, or sends a till something
abbrev pub IsAbout : ℕ → Act → Type 0
IsAbout number (act.SendPt pt command) = pt ≡ number
IsAbout number (act.Ack pt) = pt ≡ number
IsAbout number (act.Refuse pt) = pt ≡ number
IsAbout number (act.CutPt pt) = pt ≡ number
IsAbout number (act.Link pt) = pt ≡ number
IsAbout number (act.SendTill till given) = Unit {0}
IsAbout number (act.Print till header lines) = Unit {0}

-- they are few enough that a device request can print them
abbrev pub AreFewLines : List (List ℕ) → Type 0
AreFewLines lines = (length lines ≤ 400) × (sum_by (λ line. length line) lines ≤ 12000)

-- what the message prints can be printed
abbrev pub HasFewLines : MessageValue → Type 0
HasFewLines message = AreFewLines (printed_lines message)

-- a command, a reply or a device request that is to be sent can be written
abbrev pub IsWritable : Act → Type 0
IsWritable (act.SendPt pt command) = HasCommandDigits command
IsWritable (act.Ack pt) = Unit {0}
IsWritable (act.Refuse pt) = Unit {0}
IsWritable (act.CutPt pt) = Unit {0}
IsWritable (act.Link pt) = Unit {0}
IsWritable (act.SendTill till given) = IsWithinLimits given
IsWritable (act.Print till header lines) = IsHeaderWithinLimits header × AreFewLines (lines_printed lines)

-- what is wanted is wanted of this terminal or of a till, and can be written
pub record IsWantedAt (pt : ℕ) (wanted : Act) : Type 0 where
  pub about : IsAbout pt wanted
  pub writable : IsWritable wanted

-- the record lies within its limits, and may come after these
pub record MayBeKept (kept : List Record) (the_record : Record) : Type 0 where
  pub within : IsRecord the_record
  pub fitting : IsTrue (fits kept the_record)

-- the settings of each terminal lie within their limits
abbrev pub HaveSettings : List Terminal → Type 0
HaveSettings terminals = (number : ℕ) (terminal : Terminal) → slice_get terminals number ≡ Some terminal → IsPt terminal.pt
