-- Examples of the laws of a registration that is done, with their whole premises: the first byte of the Ack comes alone, and then the rest of it with the Completion.
use Rattle.std.specs.Prelude.{◌≡◌, ℕ, pos, true, List, [], ◌∷◌, ◌++◌, slice_get, Some}
use Rattle.gw_site.specs.Outside.{outside_of}
use Rattle.gw_site.specs.Sorts.{IsQuiet, AreOfRound}
use Rattle.gw_site.specs.declared.turn.Turn.{Turn}
use Rattle.gw_site.specs.declared.turn.Turn.TheVariants.{Start, Polled, HeardPt, SentPt, Stopped}
use Rattle.zvt_apdu.specs.Grammar.{ApduValue}
use Rattle.gw_owes.specs.TerminalExample.{ack, completion, enquiry_sent}
use Rattle.gw_rules.specs.ChunkLaws.{registering_terminal}
use Rattle.gw_rules.specs.DialogueLaws.{EndsWith, IsDone, IsEnquiredIn}
use Rattle.gw_rules.specs.Lawful.{IsLawful}
use Rattle.gw_rules.specs.LinkLaws.{EndsNone, HasSaid}
use Rattle.gw_rules.specs.RowExample.{example_pt, terminal_setup, register_bytes}
use Rattle.gw_rules.specs.SilenceLaws.{SaysNothingIn, linked_turns}
use Rattle.gw_rules.specs.TerminalLogExample.{before_link, linked_course, items_begin}
use Rattle.gw_rules.specs.View.{Move, Begin, Make}

-- ---- a lawful log

-- the turns after the terminal is linked: the registration is sent, and the first byte of its Ack comes
abbrev pub first_byte : List Turn
first_byte = SentPt 0 register_bytes true ∷ Polled (pos 1) ∷ HeardPt 0 (0x80 ∷ []) ∷ Polled (pos 2) ∷ []

-- the rest of the Ack, and the Completion
abbrev pub rest_chunk : List ℕ
rest_chunk = 0x00 ∷ 0x00 ∷ completion

-- the APDUs that these bytes complete
abbrev pub both_apdus : List ApduValue
both_apdus = record { class = 0x80; instr = 0x00; body = [] } ∷ record { class = 0x06; instr = 0x0F; body = [] } ∷ []

-- what follows in their round: the Completion is acknowledged, and the enquiry sent
abbrev pub enquiring_turns : List Turn
enquiring_turns = SentPt 0 ack true ∷ SentPt 0 enquiry_sent true ∷ []

-- the premise of the law of logs on such a registration holds, and so does what the law says
pub record ExampleDoneAtOnce : Type 0 where
  pub lawful : IsLawful (linked_turns [] terminal_setup before_link 0 (first_byte ++ HeardPt 0 rest_chunk ∷ (enquiring_turns ++ Polled (pos 3) ∷ Stopped ∷ [])))
  pub quiet : IsQuiet before_link
  pub settings_are : slice_get terminal_setup.terminals 0 ≡ Some example_pt
  pub silent : SaysNothingIn (outside_of (linked_turns [] terminal_setup before_link 0 [])) 0 first_byte
  pub round : AreOfRound enquiring_turns
  pub lasts : EndsNone 0 enquiring_turns
  pub said : HasSaid (outside_of (linked_turns [] terminal_setup before_link 0 first_byte)) 0 rest_chunk both_apdus []
  pub ends : EndsWith IsDone (registering_terminal example_pt (outside_of (Start terminal_setup ∷ before_link)).moment) (outside_of (linked_turns [] terminal_setup before_link 0 first_byte)).moment both_apdus
  pub enquired : IsEnquiredIn example_pt 0 enquiring_turns

-- ---- a lawful course

-- its course
abbrev pub first_byte_course : List Move
first_byte_course = linked_course ++ Make (Polled (pos 1)) ∷ Make (HeardPt 0 (0x80 ∷ [])) ∷ (items_begin 2 ++ Make (Polled (pos 2)) ∷ [])

-- the moves after the rest: three items of the Ack, the first two of the Completion, each of which owes a call, and then what is left
abbrev pub enquiring_moves : List Move
enquiring_moves = items_begin 4 ++ Make (SentPt 0 ack true) ∷ Begin ∷ Make (SentPt 0 enquiry_sent true) ∷ items_begin 3
