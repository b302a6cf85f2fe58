-- An example log of two terminals that register, of which one says an APDU outside the grammar and then a good one: it is cut, and nothing of the other changes.
use Rattle.std.specs.Option.{option_map}
use Rattle.std.specs.Prelude.{◌≡◌, ℕ, pos, true, List, [], ◌∷◌, ◌++◌, slice_get, Option, Some, codes}
use Rattle.gw_base.specs.declared.setup.Pt.{Pt}
use Rattle.gw_base.specs.declared.setup.Setup.{Setup}
use Rattle.gw_site.specs.Outside.{outside_of}
use Rattle.gw_site.specs.declared.turn.Turn.{Turn}
use Rattle.gw_site.specs.declared.turn.Turn.TheVariants.{Polled, HeardPt, Linked, SentPt, CutPt, Stopped}
use Rattle.gw_owes.specs.Items.{Greet, Oversized}
use Rattle.gw_owes.specs.TerminalExample.{completion, outside_status}
use Rattle.gw_owes.specs.declared.terminal.Standing.{Standing}
use Rattle.gw_owes.specs.declared.terminal.Standing.TheVariants.{Unlinked, Registering}
use Rattle.gw_owes.specs.declared.terminal.Terminal.{Terminal}
use Rattle.gw_rules.specs.CauseExample.{outside_apdu, too_long_log}
use Rattle.gw_rules.specs.CutCauseExample.{completion_apdu}
use Rattle.gw_rules.specs.Example.{example_setup, IsCourseAlong, began, began_moves}
use Rattle.gw_rules.specs.LinkLaws.{HasSaid}
use Rattle.gw_rules.specs.OutsideLaws.{IsAlone, after_greeting}
use Rattle.gw_rules.specs.RowExample.{example_pt, first_standing, register_bytes}
use Rattle.gw_rules.specs.TerminalLogExample.{items_begin}
use Rattle.gw_rules.specs.View.{View, Move, Begin, Make, view_from, at_first}

-- ---- two terminals

-- the same terminal but for its POIID
abbrev pub other_pt : Pt
other_pt = record example_pt { poi = codes "T2" }

-- a gateway with both
abbrev pub two_setup : Setup
two_setup = record example_setup { terminals = example_pt ∷ other_pt ∷ [] }

-- the standing of the other terminal
abbrev pub other_standing : View → Option Standing
other_standing v = option_map (λ (terminal : Terminal). terminal.standing) (slice_get v.scene.core.terminals 1)

-- both are due at this moment, and linked and registered in the order of the setup
abbrev pub both_linked : List Turn
both_linked = Linked 0 ∷ SentPt 0 register_bytes true ∷ Linked 1 ∷ SentPt 1 register_bytes true ∷ []

-- the course of that: neither is late
abbrev pub both_linked_moves : List Move
both_linked_moves = items_begin 3 ++ Make (Linked 0) ∷ Make (SentPt 0 register_bytes true) ∷ Begin ∷ Make (Linked 1) ∷ Make (SentPt 1 register_bytes true) ∷ []

-- ---- an APDU outside the grammar

-- both were linked, and a second later a poll comes
abbrev pub both_polled : List Turn
both_polled = began two_setup ++ Polled (pos 0) ∷ (both_linked ++ Polled (pos 1) ∷ [])

-- the first says a Status whose fields are truncated, and a Completion
abbrev pub alone_chunk : List ℕ
alone_chunk = outside_status ++ completion

-- as the bytes come
abbrev pub alone_log : List Turn
alone_log = both_polled ++ HeardPt 0 alone_chunk ∷ []

-- it is cut, and the run goes on
abbrev pub alone_cut_log : List Turn
alone_cut_log = alone_log ++ CutPt 0 ∷ Polled (pos 2) ∷ Stopped ∷ []

-- the course of that: the five items that are left of the bytes owe nothing
abbrev pub alone_cut_course : List Move
alone_cut_course =
    began_moves two_setup ++ Make (Polled (pos 0)) ∷ (both_linked_moves ++ Make (Polled (pos 1)) ∷ Make (HeardPt 0 alone_chunk) ∷ Begin ∷ Make (CutPt 0) ∷ (items_begin 9 ++ Make (Polled (pos 2)) ∷ Make Stopped ∷ []))

-- the first terminal is due five seconds after its cut, and the other still registers
pub record OutsideLeavesOther : Type 0 where
  pub along : IsCourseAlong alone_cut_log alone_cut_course
  pub first_is : first_standing (view_from at_first alone_cut_course) ≡ Some (Unlinked (Some 6))
  pub other_is : other_standing (view_from at_first alone_cut_course) ≡ Some Registering
  pub said : HasSaid (outside_of both_polled) 0 alone_chunk (outside_apdu ∷ completion_apdu ∷ []) []
  pub alone : IsAlone alone_log (CutPt 0 ∷ []) (Polled (pos 2) ∷ Stopped ∷ []) 0 (Greet 0 outside_apdu) (after_greeting 0 outside_apdu (completion_apdu ∷ []))

-- ---- an APDU above the limit

-- where one terminal begins an APDU above the limit, its cut changes its own link alone
abbrev pub TooLongEndsOwnLink : Type 0
TooLongEndsOwnLink = IsAlone too_long_log (CutPt 0 ∷ []) (Polled (pos 2) ∷ Stopped ∷ []) 0 (Oversized 0) []
