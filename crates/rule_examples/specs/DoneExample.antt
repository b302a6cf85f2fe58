-- The example of a registration that is done by a part of its Ack and its Completion, with the whole premises of its law.
use Rattle.std.specs.Prelude.{◌≡◌, pos, List, [], ◌∷◌, ◌++◌}
use Rattle.gw_site.specs.declared.turn.Turn.{Turn}
use Rattle.gw_site.specs.declared.turn.Turn.TheVariants.{Polled, HeardPt}
use Rattle.gw_owes.specs.declared.terminal.Standing.TheVariants.{Registering}
use Rattle.gw_owes.specs.declared.terminal.Terminal.{Terminal}
use Rattle.gw_rules.specs.DialogueLaws.{EndsAlong, IsDone, IsEnquiredIn}
use Rattle.gw_rules.specs.Lawful.{turns_of}
use Rattle.gw_rules.specs.TerminalLogExample.{linked_log}
use Rattle.gw_rules.specs.View.{View, view_from, at_first}
use Rattle.gw_rules.specs.DoneExample.{rest_chunk, both_apdus, first_byte_course, enquiring_moves}

-- ---- a lawful course

-- the log up to the rest
abbrev pub first_byte_log : List Turn
first_byte_log = linked_log ++ Polled (pos 1) ∷ HeardPt 0 (0x80 ∷ []) ∷ Polled (pos 2) ∷ []

-- the view at its end
abbrev pub first_byte_view : View
first_byte_view = view_from at_first first_byte_course

-- the premise of the law of courses holds: with the rest of the bytes the terminal, which registers, ends its registration as done; and so does what the law says
pub record ExampleDone : Type 0 where
  pub terminal : Terminal
  pub ends : EndsAlong IsDone first_byte_log first_byte_view enquiring_moves 0 terminal Registering
  pub chunk_is : ends.chunk ≡ rest_chunk
  pub new_are : ends.new ≡ both_apdus
  pub enquired : IsEnquiredIn terminal.pt 0 (turns_of enquiring_moves)
