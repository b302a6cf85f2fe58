-- What a terminal becomes, and what the core remembers then.
use Rattle.std.proofs.Common.{◌≡◌, ◌<◌, ◌≤◌, ℕ, ℤ, zero, suc, pos, negsuc, List, [], ◌∷◌, refl, sym, ◌∙◌, ap, subst, Bool, true, false, arith}
use Rattle.std.proofs.lemmas.Int.{ints}
use Rattle.std.proofs.Math.Nat.{min-eq_left}
use Rattle.std.specs.Prelude.{set, slice_get, length, get_or, unwrap_or, option_and_then, IfSome, Option, Some, None}
use Rattle.std.specs.Option.{option_map}
use Rattle.std.proofs.lemmas.Option.{slice_get_read}
use Rattle.gw_base.specs.Moment.{IsMoment, last_moment, moment_of}
use Rattle.gw_base.specs.declared.setup.Pt.{Pt}
use Rattle.zvt_msg.specs.Message.{MessageValue}
use Rattle.zvt_msg.specs.declared.command.Command.{Command}
use Rattle.zvt_msg.specs.declared.command.Command.TheVariants.{Register, Authorise, Enquire, Reverse, EndOfDay, Stop, Show}
use Rattle.zvt_talk.specs.declared.meaning.Heard.{Heard}
use Rattle.zvt_talk.specs.Came.{is_taken}
use Rattle.zvt_talk.specs.Dialogue.{Dialogue, dialogue_of}
use Rattle.zvt_talk.specs.Talk.{TalkFacts, talk_after}
use Rattle.zvt_talk.specs.TalkSteps.{next_talk}
use Rattle.jrn_record.specs.declared.records.Record.{Record}
use Rattle.gw_owes.specs.declared.terminal.Terminal.{Terminal}
use Rattle.gw_owes.specs.Row.{Known, Row, owing_nothing, owing_where}
use Rattle.gw_owes.specs.Terminals.{talk_of_command, with_terminal}
use Rattle.gw_owes.specs.Links.{is_linked}
use Rattle.gw_owes.specs.DeviceRequests.{device_request_in, device_row, next_device_number, requests_device}
use Rattle.gw_owes.specs.Handling.{awaited_after, taken_as, meaning_at, taking, taken_row, consequence, handle_message, handled_row}
use Rattle.gw_owes.specs.Reply.{ReplyValue}
use Rattle.gw_owes.specs.Core.{Core as CoreValue}
use Rattle.gw_owes.specs.RecordLaws.{AreRecordsOf}
use Rattle.gw_core.specs.declared.act.Act.{Act}
use Rattle.gw_core.specs.declared.act.Acts.{Acts}
use Rattle.gw_core.specs.DeviceActs.{IsDeviceAct}
use Rattle.gw_core.specs.IsRow.{IsRow, alone, with_numbered}

-- a moment that lies in the range of moments is its number of seconds
pub moment-is : (now : ℤ) → IsMoment now → now ≡ pos (moment_of now)
moment-is (pos seconds) within =
    let at : seconds ≤ last_moment = omega (arith, ints, within.1) in
    ap pos (sym (min-eq_left at))
moment-is (negsuc seconds) within = absurd (omega (arith, ints, within.0))

-- each command but a stop begins its dialogue
pub dialogue-begins : (pt : Pt) (command : Command) (now : ℤ) (talk : TalkFacts) → (command ≡ Stop → ⊥) → IsMoment now
    → IfSome (dialogue_of command pt.none pt.answer pt.command now) (λ (dialogue : Dialogue). talk ≡ talk_after dialogue []) → Some talk ≡ talk_of_command pt command (moment_of now)
dialogue-begins pt command now talk not_stop within begun =
    by-command command not_stop (subst (λ (n : ℤ). IfSome (dialogue_of command pt.none pt.answer pt.command n) (λ (dialogue : Dialogue). talk ≡ talk_after dialogue [])) (moment-is now within) begun)
  where
    by-command : (command : Command) → (command ≡ Stop → ⊥) → IfSome (dialogue_of command pt.none pt.answer pt.command (pos (moment_of now))) (λ (dialogue : Dialogue). talk ≡ talk_after dialogue [])
        → Some talk ≡ talk_of_command pt command (moment_of now)
    by-command (Register password config currency) not_stop begun = ap Some begun
    by-command (Authorise amount currency) not_stop begun = ap Some begun
    by-command (Enquire password) not_stop begun = ap Some begun
    by-command (Reverse password receipt) not_stop begun = ap Some begun
    by-command (EndOfDay password) not_stop begun = ap Some begun
    by-command Stop not_stop begun = absurd (not_stop refl)
    by-command (Show lines) not_stop begun = ap Some begun

-- its dialogue has taken the message that it was handed
pub taken : (terminal : Terminal) (message handed : MessageValue) (moment : ℕ) (talk : Option TalkFacts) (awaited : ℕ) → handed ≡ taken_as terminal.awaited message
    → talk ≡ option_map (λ t. next_talk t handed (pos moment)) terminal.talk → awaited ≡ awaited_after message terminal.awaited
    → ◌≡◌ {A = Terminal} (record { pt = terminal.pt; standing = terminal.standing; talk = talk; awaited = awaited; asker = terminal.asker }) (taking terminal message moment)
taken terminal message handed moment talk awaited handed_is talk_is awaited_is = rw (talk_is, handed_is, awaited_is) refl

-- ---- what it has taken changes neither its standing nor its settings

-- the records have what its standing says
pub taken-on-record : (kept : List Record) (terminal after : Terminal) (message : MessageValue) (moment : ℕ) → AreRecordsOf kept terminal.pt.poi terminal.standing → after ≡ taking terminal message moment
    → AreRecordsOf kept after.pt.poi after.standing
taken-on-record kept terminal after message moment has is = subst (λ (t : Terminal). AreRecordsOf kept t.pt.poi t.standing) (sym is) has

-- ---- the row

set-same : (all : List Terminal) (at : ℕ) (one : Terminal) → slice_get all at ≡ Some one → set all at one ≡ all
set-same [] at one found = refl
set-same (first ∷ rest) zero one found = ap (λ t. t ∷ rest) (some-same one first (sym found))
  where
    some-same : (one other : Terminal) → Some one ≡ Some other → one ≡ other
    some-same one other same = cc
set-same (first ∷ rest) (suc at) one found = ap (λ l. first ∷ l) (set-same rest at one found)

-- nothing is owed, and the terminal stays as it is
pub unchanged : (known : Known) (pt : ℕ) (terminal : Terminal) → slice_get known.core.terminals pt ≡ Some terminal → IsRow known.kept (owing_nothing known) (with_terminal known.core pt terminal) (alone None)
unchanged known pt terminal found = record {
  core_is = ap (λ (terminals : List Terminal). record known.core { terminals = terminals }) (set-same known.core.terminals pt terminal found);
  calls_are = refl;
  items_are = refl;
}

pub unlinked-stays : (known : Known) (pt : ℕ) (terminal : Terminal) (row : Row) (linked : Bool) → linked ≡ is_linked terminal.standing → linked ≡ false → slice_get known.core.terminals pt ≡ Some terminal
    → IsRow known.kept (owing_where (is_linked terminal.standing) known row) (with_terminal known.core pt terminal) (alone None)
unlinked-stays known pt terminal row linked is not found =
    subst (λ b. IsRow known.kept (owing_where b known row) (with_terminal known.core pt terminal) (alone None)) (sym not ∙ is) (unchanged known pt terminal found)

pub foreign-stays : (known : Known) (pt : ℕ) (terminal : Terminal) (message : MessageValue) (is : Bool) → is ≡ is_taken message → is ≡ false → slice_get known.core.terminals pt ≡ Some terminal
    → IsRow known.kept (owing_where (is_linked terminal.standing) known (handle_message known pt terminal message)) (with_terminal known.core pt terminal) (alone None)
foreign-stays known pt terminal message is taken_is not found = by-linked (is_linked terminal.standing)
  where
    none : IsRow known.kept (handle_message known pt terminal message) (with_terminal known.core pt terminal) (alone None)
    none = subst
        (λ b. IsRow known.kept (owing_where b known (taken_row known pt (taking terminal message known.moment) (meaning_at terminal message) message)) (with_terminal known.core pt terminal) (alone None))
        (sym not ∙ taken_is) (unchanged known pt terminal found)

    by-linked : (b : Bool) → IsRow known.kept (owing_where b known (handle_message known pt terminal message)) (with_terminal known.core pt terminal) (alone None)
    by-linked true = none
    by-linked false = unchanged known pt terminal found

-- the next device request has the number that it had
pub same-number : (kept : List Record) (row : Row) (core : CoreValue) (pt number : ℕ) (terminal : Terminal) (acts : Acts) → core.device_requests ≡ number → IsRow kept row (with_terminal core pt terminal) acts
    → IsRow kept row (with_numbered core pt terminal number) acts
same-number kept row core pt number terminal acts is has = subst (λ (n : ℕ). IsRow kept row (with_numbered core pt terminal n) acts) is has

-- the row of a message that is taken
handled-as : (known : Known) (pt : ℕ) (terminal after : Terminal) (message : MessageValue) (meant : Heard) (row : Row) → is_linked terminal.standing ≡ true → is_taken message ≡ true
    → after ≡ taking terminal message known.moment → meant ≡ meaning_at terminal message → taken_row known pt after meant message ≡ row
    → owing_where (is_linked terminal.standing) known (handle_message known pt terminal message) ≡ row
handled-as known pt terminal after message meant row linked is_so after_is meant_is row_is =
    ap (λ b. owing_where b known (handle_message known pt terminal message)) linked
    ∙ ap (λ b. owing_where b known (taken_row known pt (taking terminal message known.moment) (meaning_at terminal message) message)) is_so
    ∙ ap (λ m. taken_row known pt (taking terminal message known.moment) m message) (sym meant_is)
    ∙ ap (λ (t : Terminal). taken_row known pt t meant message) (sym after_is)
    ∙ row_is

-- where it becomes no device request, what follows from it is by the standing
pub followed : (known : Known) (pt : ℕ) (terminal after final : Terminal) (message : MessageValue) (meant : Heard) (acts : Acts) → is_linked terminal.standing ≡ true → is_taken message ≡ true
    → after ≡ taking terminal message known.moment → meant ≡ meaning_at terminal message → IsDeviceAct after.asker (device_request_in known after.standing meant message) None
    → IsRow known.kept (consequence known pt after meant after.standing) (with_terminal known.core pt final) acts
    → IsRow known.kept (owing_where (is_linked terminal.standing) known (handle_message known pt terminal message)) (with_terminal known.core pt final) acts
followed known pt terminal after final message meant acts linked is_so after_is meant_is none follows =
    let row_is = handled-as known pt terminal after message meant (consequence known pt after meant after.standing) linked is_so after_is meant_is
    (ap (λ (row : Option Row). unwrap_or row (consequence known pt after meant after.standing)) (by-asker after.asker (device_request_in known after.standing meant message) none)) in
    subst (λ (row : Row). IsRow known.kept row (with_terminal known.core pt final) acts) (sym row_is) follows
  where
    by-asker : (asker : Option ℕ) (request : Option ReplyValue) → IsDeviceAct asker request None → option_and_then (λ till. option_map (requests_device known pt after till) request) asker ≡ None
    by-asker None request none = refl
    by-asker (Some till) None none = refl
    by-asker (Some till) (Some request) none = absurd none

-- and where it becomes one, the till is sent that
pub requested : (known : Known) (pt : ℕ) (terminal after : Terminal) (message : MessageValue) (meant : Heard) (wanted : Act) (next : ℕ) → is_linked terminal.standing ≡ true → is_taken message ≡ true
    → after ≡ taking terminal message known.moment → meant ≡ meaning_at terminal message → IsDeviceAct after.asker (device_request_in known after.standing meant message) (Some wanted)
    → next ≡ next_device_number known.core.device_requests
    → IsRow known.kept (owing_where (is_linked terminal.standing) known (handle_message known pt terminal message)) (with_numbered known.core pt after next) (alone (Some wanted))
requested known pt terminal after message meant wanted next linked is_so after_is meant_is sends next_is =
    by-asker after.asker (device_request_in known after.standing meant message) sends
    (handled-as known pt terminal after message meant (unwrap_or (device_row known pt after meant message) (consequence known pt after meant after.standing)) linked is_so after_is meant_is refl)
  where
    by-asker : (asker : Option ℕ) (request : Option ReplyValue) → IsDeviceAct asker request (Some wanted)
        → owing_where (is_linked terminal.standing) known (handle_message known pt terminal message)
        ≡ unwrap_or (option_and_then (λ till. option_map (requests_device known pt after till) request) asker) (consequence known pt after meant after.standing)
        → IsRow known.kept (owing_where (is_linked terminal.standing) known (handle_message known pt terminal message)) (with_numbered known.core pt after next) (alone (Some wanted))
    by-asker None request sends row_is = absurd cc
    by-asker (Some till) None sends row_is = absurd sends
    by-asker (Some till) (Some request) sends row_is =
        subst (λ (row : Row). IsRow known.kept row (with_numbered known.core pt after next) (alone (Some wanted))) (sym row_is)
        (record { core_is = ap (with_numbered known.core pt after) next_is; calls_are = sends; items_are = refl })

-- the core's row, by its terminal's
pub pt-row : (known : Known) (pt : ℕ) (terminal : Terminal) (message : MessageValue) (core : CoreValue) (acts : Acts) → pt < length known.core.terminals → terminal ≡ get_or known.core.terminals pt terminal
    → (slice_get known.core.terminals pt ≡ Some terminal
    → IsRow known.kept (owing_where (is_linked terminal.standing) known (handle_message known pt terminal message)) core acts)
    → IsRow known.kept (handled_row known pt message) core acts
pt-row known pt terminal message core acts inside is becomes =
    let found = slice_get_read known.core.terminals (length known.core.terminals) pt terminal refl inside is in
    let row_is : handled_row known pt message ≡ owing_where (is_linked terminal.standing) known (handle_message known pt terminal message) = rw found refl in
    subst (λ (row : Row). IsRow known.kept row core acts) (sym row_is) (becomes found)
