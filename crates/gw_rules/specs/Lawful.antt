-- Which logs are lawful: each turn is the outcome of what is owed, an event that the site may bring, a start, or a power failure.
use Rattle.std.specs.Prelude.{◌≡◌, ◌⊎◌, ◌≤◌, ℕ, Bool, true, false, not, List, [], ◌∷◌, length, Option, Some, None}
use Rattle.gw_base.specs.Setup.{IsSetup}
use Rattle.gw_bytes.specs.Bytes.{AreBytes, IsPrefix}
use Rattle.gw_site.specs.Outside.{is_connected}
use Rattle.gw_site.specs.Image.{Image}
use Rattle.gw_site.specs.Turns.{IsCount}
use Rattle.gw_site.specs.declared.turn.Turn.{Turn}
use Rattle.gw_site.specs.declared.turn.Turn.TheVariants.{Start, OpenFailed, Polled, Opened, HeardTill, Closed, HeardPt, Lost, Stopped, Linked, LinkFailed, SentTill, SentPt, CutTill, CutPt, Wrote, Synced, DiskFailed, Crash}
use Rattle.gw_owes.specs.Calls.{Sending, sending_bytes, OwedCall, SendTill, SendPt, LinkPt, Sync, write_turn, CutTill as OwedCutTill, CutPt as OwedCutPt}
use Rattle.gw_owes.specs.Items.{RoundItem, Crowded, Message, Asked, Unframed, Gone, Greet, Handle, Serve, Queue, NextWaiting, Oversized, LinkLost, Late, Overdue, Due}
use Rattle.gw_owes.specs.ReadAs.{ReadAs, IsReadAs}
use Rattle.gw_owes.specs.Reply.{ReplyValue, reply_value_bytes}
use Rattle.gw_rules.specs.Scene.{Scene}
use Rattle.gw_rules.specs.Stage.{AtPoll, is_round, is_running, is_looking, is_broken}
use Rattle.gw_rules.specs.View.{View, Move, Begin, Read, Make, after, view_from, at_first}

-- ---- turns

-- what is heard at once: 1 to 4,096 bytes
pub record IsChunk (chunk : List ℕ) : Type 0 where
  pub count : IsCount (length chunk)
  pub bytes : AreBytes chunk

-- no call on the disk has failed since the last power failure
abbrev pub IsClear : View → Type 0
IsClear v = is_broken v.scene.stage ≡ false

-- the first of these calls
abbrev pub first_call : List OwedCall → Option OwedCall
first_call [] = None
first_call (call ∷ calls) = Some call

-- the first call that is owed
abbrev pub IsNext : View → OwedCall → Type 0
IsNext v call = first_call v.calls ≡ Some call

-- the run goes on and nothing is owed: the site may be polled
pub record MayPoll (v : View) : Type 0 where
  pub running : is_running v.scene.stage ≡ true
  pub calls : v.calls ≡ []
  pub items : v.items ≡ []

-- an event of a connection that is open, right after a poll
pub record ComesOf (v : View) (connected : Bool) : Type 0 where
  pub polled : v.scene.stage ≡ AtPoll
  pub connected_is : connected ≡ true

-- the turn may come next
abbrev pub AllowedTurn : View → Turn → Type 0
AllowedTurn v (Start setup) = IsClear v × IsSetup setup
AllowedTurn v OpenFailed = IsClear v
AllowedTurn v (Polled now) = MayPoll v
AllowedTurn v (Opened till) = (v.scene.stage ≡ AtPoll) × (v.scene.outside.next_till ≤ till)
AllowedTurn v (HeardTill till bytes) = ComesOf v (is_connected v.scene.outside.tills till) × IsChunk bytes
AllowedTurn v (Closed till) = ComesOf v (is_connected v.scene.outside.tills till)
AllowedTurn v (HeardPt pt bytes) = ComesOf v (is_connected v.scene.outside.links pt) × IsChunk bytes
AllowedTurn v (Lost pt) = ComesOf v (is_connected v.scene.outside.links pt)
AllowedTurn v Stopped = v.scene.stage ≡ AtPoll
AllowedTurn v (Linked pt) = IsNext v (LinkPt pt)
AllowedTurn v (LinkFailed pt) = IsNext v (LinkPt pt)
AllowedTurn v (SentTill till bytes true) = (reply : ReplyValue) × IsNext v (SendTill till reply) × (bytes ≡ reply_value_bytes reply)
AllowedTurn v (SentTill till bytes false) = (reply : ReplyValue) × IsNext v (SendTill till reply) × IsPrefix bytes (reply_value_bytes reply)
AllowedTurn v (SentPt pt bytes true) = (sending : Sending) × IsNext v (SendPt pt sending) × (bytes ≡ sending_bytes sending)
AllowedTurn v (SentPt pt bytes false) = (sending : Sending) × IsNext v (SendPt pt sending) × IsPrefix bytes (sending_bytes sending)
AllowedTurn v (CutTill till) = IsNext v (OwedCutTill till)
AllowedTurn v (CutPt pt) = IsNext v (OwedCutPt pt)
AllowedTurn v (Wrote offset bytes) = (call : OwedCall) × IsNext v call × (write_turn call ≡ Some (Wrote offset bytes))
AllowedTurn v Synced = IsNext v Sync
AllowedTurn v DiskFailed = IsNext v Sync ⊎ (is_looking v.scene.stage ≡ true)
AllowedTurn v (Crash file) = Image v.scene.outside file × AreBytes file

-- ---- items

-- the first item may begin: there is one, and it is no message of a till that is there, since that is read first
abbrev pub may_begin : Scene → List RoundItem → Bool
may_begin scene [] = false
may_begin scene (Crowded till ∷ items) = true
may_begin scene (Message till bytes ∷ items) = not (is_connected scene.outside.tills till)
may_begin scene (Asked till as_read ∷ items) = true
may_begin scene (Unframed till ∷ items) = true
may_begin scene (Gone till ∷ items) = true
may_begin scene (Greet pt apdu ∷ items) = true
may_begin scene (Handle pt apdu ∷ items) = true
may_begin scene (Serve pt till header request ∷ items) = true
may_begin scene (Queue pt till header request ∷ items) = true
may_begin scene (NextWaiting pt ∷ items) = true
may_begin scene (Oversized pt ∷ items) = true
may_begin scene (LinkLost pt ∷ items) = true
may_begin scene (Late pt ∷ items) = true
may_begin scene (Overdue key ∷ items) = true
may_begin scene (Due pt ∷ items) = true

-- the bytes of the first item, where it is a message
abbrev pub first_message : List RoundItem → Option (List ℕ)
first_message [] = None
first_message (Crowded till ∷ items) = None
first_message (Message till bytes ∷ items) = Some bytes
first_message (Asked till as_read ∷ items) = None
first_message (Unframed till ∷ items) = None
first_message (Gone till ∷ items) = None
first_message (Greet pt apdu ∷ items) = None
first_message (Handle pt apdu ∷ items) = None
first_message (Serve pt till header request ∷ items) = None
first_message (Queue pt till header request ∷ items) = None
first_message (NextWaiting pt ∷ items) = None
first_message (Oversized pt ∷ items) = None
first_message (LinkLost pt ∷ items) = None
first_message (Late pt ∷ items) = None
first_message (Overdue key ∷ items) = None
first_message (Due pt ∷ items) = None

-- a round goes on, and no call is owed
pub record IsIdle (v : View) : Type 0 where
  pub round : is_round v.scene.stage ≡ true
  pub calls : v.calls ≡ []

-- the first item begins
pub record Begins (v : View) : Type 0 where
  pub idle : IsIdle v
  pub first : may_begin v.scene v.items ≡ true

-- the first item is a message of a till that is there, and is read as this
pub record IsRead (v : View) (as_read : ReadAs) : Type 0 where
  pub idle : IsIdle v
  pub waits : may_begin v.scene v.items ≡ false
  pub bytes : List ℕ
  pub message : first_message v.items ≡ Some bytes
  pub reads : IsReadAs bytes as_read

-- ---- courses

-- the move may come next
abbrev pub Allowed : View → Move → Type 0
Allowed v Begin = Begins v
Allowed v (Read as_read) = IsRead v as_read
Allowed v (Make turn) = AllowedTurn v turn

-- each move of the course is allowed where it comes
abbrev pub IsCourse : View → List Move → Type 0
IsCourse v [] = Unit {0}
IsCourse v (move ∷ moves) = Allowed v move × IsCourse (after v move) moves

-- the turns that a course makes
abbrev pub turns_of : List Move → List Turn
turns_of [] = []
turns_of (Begin ∷ moves) = turns_of moves
turns_of (Read as_read ∷ moves) = turns_of moves
turns_of (Make turn ∷ moves) = turn ∷ turns_of moves

-- the log is that of a course, and this is the view at its end
pub record Stands (log : List Turn) (v : View) : Type 0 where
  pub course : List Move
  pub log_is : turns_of course ≡ log
  pub lawful : IsCourse at_first course
  pub view_is : view_from at_first course ≡ v

-- the log is lawful: a course leads along it
abbrev pub IsLawful : List Turn → Type 0
IsLawful log = (v : View) × Stands log v
