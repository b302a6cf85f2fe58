-- Closed examples: payments that are approved, declined and cut off, with the books that are honest for them and agree.
use Rattle.std.specs.Prelude.{◌≡◌, pos, true, List, [], ◌∷◌, ◌++◌}
use Rattle.gw_base.specs.declared.condition.Condition.TheVariants.{InProgress}
use Rattle.gw_site.specs.declared.turn.Turn.TheVariants.{Polled, HeardTill, Lost, SentTill}
use Rattle.sale_frame.specs.Grammar.{frame}
use Rattle.jrn_record.specs.declared.records.Record.TheVariants.{Intent}
use Rattle.gw_owes.specs.Reply.{ReplyValue, reply_value_bytes}
use Rattle.gw_owes.specs.Replies.{failure_reply}
use Rattle.gw_rules.specs.Lawful.{turns_of}
use Rattle.gw_rules.specs.TerminalLogExample.{items_begin}
use Rattle.gw_rules.specs.View.{Move, Begin, Read, Make}
use Rattle.gw_books.specs.Books.{BookedEntry}
use Rattle.gw_books.specs.Example.{IsHonestAndAgrees, payment_text, paying_header, payment_read, paying_intent, asked_course, payment_occasion, polled_linked, asked_past, paid_course, paid_past, paid_entry, refused_course, refused_past}
use Rattle.gw_books.specs.Headline.{HasPast}
use Rattle.gw_books.specs.Past.{SentReply, Past, past_of}

-- ---- a payment begins

-- this has happened along the course until the command is sent
abbrev pub AskedHasPast : Type 0
AskedHasPast = past_of asked_course ≡ asked_past

-- ---- an approved payment

-- the log is lawful, and this has happened along it
abbrev pub PaidHasPast : Type 0
PaidHasPast = HasPast (turns_of paid_course) paid_past

-- the book with this entry is honest and agrees
abbrev pub PaidAgrees : Type 0
PaidAgrees = IsHonestAndAgrees paid_past (paid_entry ∷ [])

-- ---- a declined payment

-- the log is lawful, and this has happened along it
abbrev pub RefusedHasPast : Type 0
RefusedHasPast = HasPast (turns_of refused_course) refused_past

-- the book without an entry is honest and agrees
abbrev pub RefusedAgrees : Type 0
RefusedAgrees = IsHonestAndAgrees refused_past []

-- ---- a payment that is cut off

-- the reply to a key that is open
abbrev pub progress_reply : ReplyValue
progress_reply = failure_reply paying_header InProgress

-- the link is lost before the payment's end; the till asks again, and its key is open
abbrev pub lost_moves : List Move
lost_moves = Make (Polled (pos 5)) ∷ Make (Lost 0) ∷ (items_begin 3 ++ Make (Polled (pos 6)) ∷ Make (HeardTill 1 (frame payment_text)) ∷ Read payment_read ∷ Begin ∷ Make (SentTill 1 (reply_value_bytes progress_reply) true) ∷ items_begin 2)

-- the whole course, with one poll more
abbrev pub lost_course : List Move
lost_course = asked_course ++ lost_moves ++ Make (Polled (pos 7)) ∷ []

-- the reply, at place 27
abbrev pub sent_progress : SentReply
sent_progress = record { place = 27; bytes = reply_value_bytes progress_reply; occasion = payment_occasion; kept = Intent paying_intent ∷ []; waiting = [] }

-- what has happened along it: no link lasts, and the payment has no end
abbrev pub lost_past : Past
lost_past = record asked_past {
  place = 29;
  lasting = [];
  replies = sent_progress ∷ [];
  polls = record { place = 28; links = []; kept = Intent paying_intent ∷ [] } ∷ record { place = 25; links = []; kept = Intent paying_intent ∷ [] } ∷ polled_linked 23 (Intent paying_intent ∷ []) ∷ asked_past.polls;
}

-- the log is lawful, and this has happened along it
abbrev pub LostHasPast : Type 0
LostHasPast = HasPast (turns_of lost_course) lost_past

-- an entry that comes after the log's end
abbrev pub later_entry : BookedEntry
later_entry = record paid_entry { place = 100 }

-- the payment may still be booked or not: either book is honest and agrees
pub record LostAgrees : Type 0 where
  pub unbooked : IsHonestAndAgrees lost_past []
  pub booked : IsHonestAndAgrees lost_past (later_entry ∷ [])
