-- What is awaited on a link is of the stops that were sent on it, and of the command of the dialogue that runs; without a stop each refusal is that command's own.
use Rattle.std.specs.Prelude.{◌≡◌, ◌≢◌, ◌≤◌, ℕ, ◌+◌, Bool, false, List, [], ◌∷◌, slice_get, Option, Some, None}
use Rattle.std.specs.Option.{option_map}
use Rattle.gw_base.specs.declared.setup.Pt.{Pt}
use Rattle.gw_base.specs.declared.setup.Setup.{Setup}
use Rattle.zvt_msg.specs.Message.{MessageValue, Nack}
use Rattle.zvt_talk.specs.declared.meaning.Heard.{Heard}
use Rattle.zvt_talk.specs.declared.meaning.Heard.TheVariants as heard
use Rattle.zvt_talk.specs.declared.phase.Phase.{Phase}
use Rattle.zvt_talk.specs.declared.phase.Phase.TheVariants.{Asked, Begun, Ended}
use Rattle.zvt_talk.specs.Talk.{TalkFacts}
use Rattle.jrn_record.specs.declared.records.Record.{Record}
use Rattle.gw_ledger.specs.Sums.{one_if}
use Rattle.gw_owes.specs.declared.terminal.Terminal.{Terminal}
use Rattle.gw_owes.specs.AbortLaws.{is_stop}
use Rattle.gw_owes.specs.Awaited.{most_awaited}
use Rattle.gw_owes.specs.Core.{Core}
use Rattle.gw_owes.specs.Items.{RoundItem}
use Rattle.gw_owes.specs.Row.{Known}
use Rattle.gw_owes.specs.Terminals.{terminal_at}
use Rattle.gw_owes.specs.Links.{LinkEvent, link_row}
use Rattle.gw_owes.specs.Handling.{taken_as, meaning_at}
use Rattle.gw_owes.specs.TerminalLaws.{owes_cut}
use Rattle.gw_owes.specs.TerminalRows.{terminal_of, terminal_row}
use Rattle.gw_owes.specs.Transcript.{Carried, Commanded, Took, Wished, FollowsTranscript, transcript_after, transcript_anew, StepAt, core_along, transcript_along, known_new}
use Rattle.gw_owes.specs.TranscriptExample.{steps_to_serving, steps_to_late, core_after_steps, transcript_after_steps}

-- ---- what may be awaited

-- how many stops were sent on the link
abbrev pub stops_in : List Carried → ℕ
stops_in [] = 0
stops_in (Commanded command moment ∷ earlier) = stops_in earlier + one_if (is_stop command)
stops_in (Took message moment least ∷ earlier) = stops_in earlier
stops_in (Wished ∷ earlier) = stops_in earlier

-- 1 while the command of the dialogue isn't acknowledged
abbrev pub unacknowledged_in : Phase → ℕ
unacknowledged_in (Asked stop_wished) = 1
unacknowledged_in (Begun stop_sent statuses) = 0
unacknowledged_in (Ended stop_sent) = 0

-- the same of the dialogue that runs; without one it is 0
abbrev pub unacknowledged : Option TalkFacts → ℕ
unacknowledged None = 0
unacknowledged (Some talk) = unacknowledged_in talk.phase

-- so many Acks and Nacks are awaited, where so many stops were sent and so many commands aren't acknowledged: no more than both; and no more than one beside those of the stops even where it is the greatest count, which doesn't fall
pub record AwaitsWithin (stops own awaited : ℕ) : Type 0 where
  pub both : awaited ≢ most_awaited → awaited ≤ stops + own
  pub one_beside : awaited ≤ stops + 1

-- of the terminal of this number no more Acks and Nacks are awaited than stops were sent on its link, and 1 while the command of its dialogue isn't acknowledged
abbrev pub AwaitsNoMore : ℕ → List Carried → Core → Type 0
AwaitsNoMore number transcript core = (terminal : Terminal) → slice_get core.terminals number ≡ Some terminal → AwaitsWithin (stops_in transcript) (unacknowledged terminal.talk) terminal.awaited

-- ---- the laws

-- an item of a terminal that cuts no connection leaves it so
abbrev pub EachRowAwaitsNoMore : Type 0
EachRowAwaitsNoMore =
    (known : Known) (item : RoundItem) (number : ℕ) (transcript : List Carried) → terminal_of item ≡ Some number → FollowsTranscript number transcript known.core
    → AwaitsNoMore number transcript known.core → owes_cut (terminal_row known item).calls ≡ false → AwaitsNoMore number (transcript_after known item transcript) (terminal_row known item).core

-- an event of its link makes it so, whatever was before
abbrev pub EachLinkAwaitsNoMore : Type 0
EachLinkAwaitsNoMore =
    (known : Known) (number : ℕ) (event : LinkEvent) (terminal : Terminal) → terminal_at known number ≡ Some terminal → AwaitsNoMore number (transcript_anew known number event) (link_row known number event).core

-- so it is after every list of steps from where a run begins, whatever brings them
abbrev pub EachStepAwaitsNoMore : Type 0
EachStepAwaitsNoMore =
    (setup : Setup) (kept : List Record) (steps : List StepAt) (number : ℕ) (pt : Pt) → slice_get setup.terminals number ≡ Some pt
    → AwaitsNoMore number (transcript_along number (known_new setup kept) [] steps) (core_along (known_new setup kept) steps)

-- The dialogue is handed each message as it came. So a refusal of its command, with any code but 0, is its own: it declines what was asked.
pub record IsHandedItsOwn (terminal : Terminal) : Type 0 where
  pub as_came : (message : MessageValue) → taken_as terminal.awaited message ≡ message
  pub declines : (talk : TalkFacts) (stop_wished : Bool) (error_code : ℕ) → terminal.talk ≡ Some talk → talk.phase ≡ Asked stop_wished → 1 ≤ error_code → meaning_at terminal (Nack error_code) ≡ heard.Declined error_code None

-- after each such list of steps it is so where no stop was sent on the terminal's link
abbrev pub EachUnstoppedIsHandedItsOwn : Type 0
EachUnstoppedIsHandedItsOwn =
    (setup : Setup) (kept : List Record) (steps : List StepAt) (number : ℕ) (pt : Pt) (terminal : Terminal) → slice_get setup.terminals number ≡ Some pt
    → stops_in (transcript_along number (known_new setup kept) [] steps) ≡ 0 → slice_get (core_along (known_new setup kept) steps).terminals number ≡ Some terminal → IsHandedItsOwn terminal

-- ---- the example

-- what a refusal with the code 6C means to the terminal after these steps
abbrev pub refusal_after_steps : List StepAt → Option Heard
refusal_after_steps steps = option_map (λ (terminal : Terminal). meaning_at terminal (Nack 0x6C)) (slice_get (core_after_steps steps).terminals 0)

-- how many Acks and Nacks are awaited then
abbrev pub awaited_after_steps : List StepAt → Option ℕ
awaited_after_steps steps = option_map (λ (terminal : Terminal). terminal.awaited) (slice_get (core_after_steps steps).terminals 0)

-- A payment is begun on a link without a stop: its Ack or Nack alone is awaited, and a refusal declines it. Another is begun while that of a stop is awaited too: two, of the stop and of the command, and a refusal is unclear.
pub record ExampleAwaitedOfStops : Type 0 where
  pub unstopped : stops_in (transcript_after_steps steps_to_serving) ≡ 0
  pub unstopped_awaits : awaited_after_steps steps_to_serving ≡ Some 1
  pub declined : refusal_after_steps steps_to_serving ≡ Some (heard.Declined 0x6C None)
  pub stopped : stops_in (transcript_after_steps steps_to_late) ≡ 1
  pub stopped_awaits : awaited_after_steps steps_to_late ≡ Some 2
  pub unclear : refusal_after_steps steps_to_late ≡ Some heard.Unclear
