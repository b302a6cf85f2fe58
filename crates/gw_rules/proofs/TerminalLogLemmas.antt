-- The example logs of a gateway with one terminal.
use Rattle.std.proofs.Common.{◌≡◌, List, [], ◌∷◌, refl, true, inl, inr}
use Rattle.std.proofs.lemmas.Bool.{and_parts}
use Rattle.std.specs.Prelude.{ℤ, Bool, ◌&&◌, not}
use Rattle.zvt_apdu.specs.DecodeStream.{decode_apdus, decode_apdus_within}
use Rattle.zvt_bmp.specs.Decode.{decode_field_value, decode_status_field, decode_status_within, decode_status}
use Rattle.zvt_msg.specs.MessageDecode.{decode_pt_message}
use Rattle.gw_ledger.specs.History.{history}
use Rattle.gw_site.specs.Sorts.{IsQuiet, is_between}
use Rattle.gw_site.specs.declared.turn.Turn.{Turn}
use Rattle.gw_site.specs.declared.turn.Turn.TheVariants.{Start, Polled, Lost, LinkFailed, CutPt}
use Rattle.gw_rules.specs.Lawful.{IsCourse}
use Rattle.gw_rules.specs.LinkLaws.{EndsLink}
use Rattle.gw_rules.specs.RowExample.{terminal_setup}
use Rattle.gw_rules.specs.TerminalLogExample.{before_link, ready_course, ReadyIsLawful}
use Rattle.gw_rules.specs.View.{Move, Make, after, at_first}
use Rattle.gw_rules.proofs.RowExampleLemmas.{formed}
use Rattle.gw_rules.proofs.StageLemmas.{not-true}
use Rattle.gw_rules.proofs.TestedLemmas.{passes_course, course-tested}

-- ---- a run that begins

-- no run begins in these turns
abbrev quiet_turns : List Turn → Bool
quiet_turns [] = true
quiet_turns (turn ∷ turns) = not (is_between turn) && quiet_turns turns

pub quiet-tested : (turns : List Turn) → quiet_turns turns ≡ true → IsQuiet turns
quiet-tested [] e = tt
quiet-tested (turn ∷ turns) e =
    let p = and_parts (not (is_between turn)) (quiet_turns turns) e in
    (not-true (is_between turn) p.0, quiet-tested turns p.1)

pub before-link-quiet : IsQuiet before_link
before-link-quiet = quiet-tested before_link refl

-- the moves after the start
abbrev pub after_start : List Move → List Move
after_start [] = []
after_start (move ∷ moves) = moves

-- a course from the start on
pub from-start : (moves : List Move) → passes_course (after at_first (Make (Start terminal_setup))) moves ≡ true → IsCourse at_first (Make (Start terminal_setup) ∷ moves)
from-start moves e = ((refl, formed), course-tested (after at_first (Make (Start terminal_setup))) moves e)

pub ready-lawful : ReadyIsLawful
unfolding decode_apdus decode_apdus_within decode_pt_message decode_status decode_status_within decode_status_field decode_field_value history
ready-lawful = record { along = record { turns = refl; lawful = from-start (after_start ready_course) refl }; standing_is = refl }

-- ---- what isn't lawful

-- a poll ends no link
pub poll-ends-none : (now : ℤ) → EndsLink 0 (Polled now) → ⊥
poll-ends-none now (inl lost) = absurd (let n : Polled now ≡ Lost 0 = lost in cc)
poll-ends-none now (inr (inl cut)) = absurd (let n : Polled now ≡ CutPt 0 = cut in cc)
poll-ends-none now (inr (inr failed)) = absurd (let n : Polled now ≡ LinkFailed 0 = failed in cc)
