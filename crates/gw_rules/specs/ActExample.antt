-- Example acts: which calls are due as a run begins, and which aren't.
use Rattle.std.specs.Prelude.{◌≡◌, pos, false, List, [], ◌∷◌}
use Rattle.gw_site.specs.Steps.{SiteCall, OpenCall, PollCall, SendPtCall, LengthCall, ReadCall, WriteCall, SyncCall, Made}
use Rattle.gw_site.specs.declared.turn.Turn.{Turn}
use Rattle.gw_site.specs.declared.turn.Turn.TheVariants.{Start, Polled, Synced}
use Rattle.jrn_log.specs.JournalTurns.{first_gate_write}
use Rattle.gw_owes.specs.Calls.{SendPt, Acknowledge}
use Rattle.gw_rules.specs.Acts.{Act, ToTake, AreDueTo, IsDueCall, Unopened, Unmeasured, Measured, Looked, look_after_call}
use Rattle.gw_rules.specs.Example.{example_setup, opening_view}
use Rattle.gw_rules.specs.Stage.{Looking, Handling}
use Rattle.gw_rules.specs.View.{View, at_first}

-- ---- a run that begins

-- the gateway makes this call, which has these turns
abbrev pub makes_call : SiteCall → List Turn → Act
makes_call call turns = ToTake (record { step = Made call; turns = turns })

-- the site is opened, and a run begins
abbrev pub opened_acts : List Act
opened_acts = makes_call (OpenCall example_setup) (Start example_setup ∷ []) ∷ []

-- the journal is opened on an empty file, and the site is polled: the file is synced, its length is asked, which leaves no turn, and it gets its first gate
abbrev pub opening_acts : List Act
opening_acts =
    makes_call SyncCall (Synced ∷ []) ∷ makes_call LengthCall [] ∷ makes_call (WriteCall 0 (0 ∷ [])) (first_gate_write ∷ []) ∷ makes_call SyncCall (Synced ∷ []) ∷ makes_call PollCall (Polled (pos 0) ∷ []) ∷ []

-- each of these acts is due, up to where no more need be looked at
pub record OpeningIsDue : Type 0 where
  pub opened : AreDueTo example_setup Unopened Unmeasured false at_first opened_acts
  pub opening : AreDueTo example_setup Unmeasured Looked false opening_view opening_acts

-- where a sync is owed a poll isn't due, nor is the file's length asked before it
pub record NothingBeforeSync : Type 0 where
  pub sync : IsDueCall example_setup opening_view Unmeasured SyncCall
  pub poll : ¬ IsDueCall example_setup opening_view Unmeasured PollCall
  pub length : ¬ IsDueCall example_setup opening_view Unmeasured LengthCall

-- ---- a file that has slots to read

-- the journal is opened on a file of two bytes, which was synced
abbrev pub longer_view : View
longer_view = record { scene = record opening_view.scene { stage = Looking false; outside = record opening_view.scene.outside { file = 0 ∷ 0 ∷ []; stable = 0 ∷ 0 ∷ [] } }; calls = []; items = [] }

-- its length is asked before anything else, and then it is read before the first poll
pub record LongerIsRead : Type 0 where
  pub length : IsDueCall example_setup longer_view Unmeasured LengthCall
  pub poll_before_length : ¬ IsDueCall example_setup longer_view Unmeasured PollCall
  pub look : look_after_call example_setup longer_view Unmeasured LengthCall ≡ Measured
  pub reading : IsDueCall example_setup longer_view Measured (ReadCall 0 2)
  pub poll_before_read : ¬ IsDueCall example_setup longer_view Measured PollCall
  pub poll : IsDueCall example_setup longer_view Looked PollCall

-- ---- a send

-- the message of a terminal is to be acknowledged
abbrev pub acknowledging_view : View
acknowledging_view = record { scene = record opening_view.scene { stage = Handling }; calls = SendPt 1 Acknowledge ∷ []; items = [] }

-- it is sent `80 00 00`, and neither other bytes nor is another terminal sent anything
pub record OwedBytesAreSent : Type 0 where
  pub owed : IsDueCall example_setup acknowledging_view Looked (SendPtCall 1 (0x80 ∷ 0 ∷ 0 ∷ []))
  pub other_bytes : ¬ IsDueCall example_setup acknowledging_view Looked (SendPtCall 1 (0x84 ∷ 0x83 ∷ 0 ∷ []))
  pub other_terminal : ¬ IsDueCall example_setup acknowledging_view Looked (SendPtCall 2 (0x80 ∷ 0 ∷ 0 ∷ []))
