-- Proof of the contract of `law_site_calls`.
use Rattle.std.proofs.Common.{◌≡◌, ℕ, length, refl, sym, ◌∙◌, ap, arith, false, [], ◌∷◌, List}
use Rattle.std.specs.Prelude.{pos}
use Rattle.gw_base.specs.declared.setup.Setup.{Setup}
use Rattle.gw_site.specs.declared.turn.Turn.{Turn}
use Rattle.gw_site.specs.declared.turn.Turn.TheVariants.{Start, Polled, Opened, SentTill, Crash}
use Rattle.gw_site.specs.Steps.{Junk, New, OpenCall, PollCall, SendTillCall, Holding, Made}
use Rattle.gw_script.specs.site.CallExample.{NoFileOverAnother, OtherSetupIsNotItsOwn, SendsTakeNoFewer, plain}
use Rattle.gw_script.specs.site.ScriptLine.{Open, Tick, FailSendTill, Poll, Fail}
use Rattle.gw_script.specs.site.Playing.{Sync}
use Rattle.gw_script.specs.site.Calls.{PlaysBy}
use Rattle.gw_script.proofs.site.CallLemmas.{calls-go-on, calls-play, goes-on-beside, one-log-of-calls, power-goes-on, sends-are-cut}
use Rattle.gw_script.proofs.law_site_calls.Goals as goal

pub returns-clause-play : goal.returns-clause-play
returns-clause-play c = calls-play

pub returns-clause-one_log : goal.returns-clause-one_log
returns-clause-one_log c = one-log-of-calls

pub returns-clause-cut : goal.returns-clause-cut
returns-clause-cut c = sends-are-cut

pub returns-clause-sends : goal.returns-clause-sends
returns-clause-sends c = (_, (_, _, (record { no_event = refl; no_failure = refl; power = refl }, refl), refl, (_, _, (record { no_event = refl; no_failure = refl; power = refl }, refl), refl, (_, _, (record { no_event = refl; no_failure = refl; power = refl }, refl), refl, (_, _, (record { no_event = refl; no_failure = refl; power = refl }, refl), refl, (_, _, (record { no_event = refl; no_failure = refl; power = refl }, refl), refl, (_, _, (record { no_event = refl; no_failure = refl; power = refl }, refl), refl, (_, _, (record { no_event = refl; no_failure = refl; power = refl }, refl), refl, (_, _, (record { no_event = refl; no_failure = refl; power = refl }, refl), refl, (refl, refl))))))))))

pub returns-clause-looks : goal.returns-clause-looks
returns-clause-looks c = (_, (_, _, (record { no_event = refl; no_failure = refl; power = refl }, refl), refl, (_, _, (record { no_event = refl; no_failure = refl; power = refl }, refl), refl, (_, _, (record { no_event = refl; no_failure = refl; power = refl }, refl), refl, (_, _, (record { no_event = refl; no_failure = refl; power = refl }, refl), refl, (_, _, (record { no_event = refl; no_failure = refl; power = refl }, refl), refl, (_, _, (record { no_event = refl; no_failure = refl; power = refl }, refl), refl, (_, _, (record { no_event = refl; no_failure = refl; power = refl }, refl), refl, (_, _, (record { no_event = refl; no_failure = refl; power = refl }, refl), refl, (_, _, (record { no_event = refl; no_failure = refl; power = refl }, refl), refl, (Junk 165, _, refl, refl, (_, _, (record { no_event = refl; no_failure = refl; power = refl }, refl), refl, (refl, refl)))))))))))))

pub returns-clause-power : goal.returns-clause-power
returns-clause-power c = (_, (_, _, (record { no_event = refl; no_failure = refl; power = refl }, refl), refl, (_, _, (record { no_event = refl; no_failure = refl; power = refl }, refl), refl, (_, _, (record { no_event = refl; no_failure = refl; power = refl }, refl), refl, (_, _, (record { no_event = refl; no_failure = refl; power = refl }, refl), refl, (_, _, (record { no_event = refl; no_failure = refl; power = refl }, refl), refl, (_, _, (record { no_event = refl; no_failure = refl; power = refl }, refl), refl, (New, _, refl, refl, (_, _, (record { no_event = refl; no_failure = refl; power = refl }, refl), refl, (_, _, (record { no_event = refl; no_failure = refl; power = refl }, refl), refl, (_, _, (record { no_event = refl; no_failure = refl; power = refl }, refl), refl, (_, _, (record { no_event = refl; no_failure = refl; power = refl }, refl), refl, (refl, refl)))))))))))))

pub returns-clause-own : goal.returns-clause-own
returns-clause-own c = record { plays = (_, (Sync, (record { no_event = refl; no_failure = refl; power = refl }, refl), (Sync, (record { no_event = refl; no_failure = refl; power = refl }, refl, refl), (Sync, refl, refl)))); setup = (refl, (tt, (tt, tt))) }

other_setup : OtherSetupIsNotItsOwn
other_setup h = absurd (omega (arith, ap (λ (s : Setup). s.wait) h.0))

pub returns-clause-other : goal.returns-clause-other
returns-clause-other c = other_setup

-- what that send leaves
whole : PlaysBy (Poll (Open 1) ∷ Fail (FailSendTill 1 2) ∷ Poll Tick ∷ [])
    (Made (OpenCall plain) ∷ Made PollCall ∷ Made PollCall ∷ Made (SendTillCall 1 (7 ∷ 8 ∷ 9 ∷ [])) ∷ [])
    (Start plain ∷ Polled (pos 0) ∷ Opened 1 ∷ Polled (pos 0) ∷ SentTill 1 (7 ∷ 8 ∷ []) false ∷ [])
whole = (_, (_, _, (record { no_event = refl; no_failure = refl; power = refl }, refl), refl, (_, _, (record { no_event = refl; no_failure = refl; power = refl }, refl), refl, (_, _, (record { no_event = refl; no_failure = refl; power = refl }, refl), refl, (_, _, (record { no_event = refl; no_failure = refl; power = refl }, refl), refl, (refl, refl))))))

-- a log with one byte sent has two
one_is_two : (a b : List ℕ) → Start plain ∷ Polled (pos 0) ∷ Opened 1 ∷ Polled (pos 0) ∷ SentTill 1 a false ∷ [] ≡ Start plain ∷ Polled (pos 0) ∷ Opened 1 ∷ Polled (pos 0) ∷ SentTill 1 b false ∷ [] → length a ≡ length b
one_is_two a b e = let same : a ≡ b = cc in ap length same

no_fewer : SendsTakeNoFewer
no_fewer h = absurd (omega (arith, one_is_two (7 ∷ []) (7 ∷ 8 ∷ []) (one-log-of-calls (Poll (Open 1) ∷ Fail (FailSendTill 1 2) ∷ Poll Tick ∷ []) (Made (OpenCall plain) ∷ Made PollCall ∷ Made PollCall ∷ Made (SendTillCall 1 (7 ∷ 8 ∷ 9 ∷ [])) ∷ []) _ _ h whole)))

pub returns-clause-no_fewer : goal.returns-clause-no_fewer
returns-clause-no_fewer c = no_fewer

pub returns-clause-calls : goal.returns-clause-calls
returns-clause-calls c = calls-go-on

pub returns-clause-power_back : goal.returns-clause-power_back
returns-clause-power_back c = power-goes-on

pub returns-clause-beside : goal.returns-clause-beside
returns-clause-beside c = goes-on-beside

pub returns-clause-beside_script : goal.returns-clause-beside_script
returns-clause-beside_script c = (_, (_, refl, refl, (_, _, (record { no_event = refl; no_failure = refl; power = refl }, refl), refl, (_, _, (record { no_event = refl; no_failure = refl; power = refl }, refl), refl, (_, _, (record { no_event = refl; no_failure = refl; power = refl }, refl), refl, (Junk 165, _, refl, refl, (_, _, (record { no_event = refl; no_failure = refl; power = refl }, refl), refl, (_, _, (record { no_event = refl; no_failure = refl; power = refl }, refl), refl, (refl, refl)))))))))

-- a log that has a turn isn't empty
not_none : (turn : Turn) (turns : List Turn) → turn ∷ turns ≡ [] → ⊥
not_none turn turns e = cc

file_no_other : (file other : List ℕ) (log : List Turn) → PlaysBy (Poll Tick ∷ []) (Holding file ∷ Holding other ∷ []) log → ⊥
file_no_other file other log (after, (later, none, is, (more, over, same, rest))) = not_none (Crash file) [] over

started_no_file : (file : List ℕ) (log : List Turn) → PlaysBy (Poll Tick ∷ []) (Made (OpenCall plain) ∷ Holding file ∷ []) log → ⊥
started_no_file file log (after, (made, later, (idle, made_is), is, (more, over, same, rest))) = not_none (Start plain) [] (sym made_is ∙ over)

no_file_over : NoFileOverAnother
no_file_over = record { twice = file_no_other; started = started_no_file }

pub returns-clause-no_file_over : goal.returns-clause-no_file_over
returns-clause-no_file_over c = no_file_over

pub returns-clause-sync : goal.returns-clause-sync
returns-clause-sync c = record { place = _; reached = (_, _, (record { no_event = refl; no_failure = refl; power = refl }, refl), refl, (_, _, (record { no_event = refl; no_failure = refl; power = refl }, refl), refl, (refl, refl))); fits = (record { no_event = refl; no_failure = refl; power = refl }, refl) }

pub returns-clause-off : goal.returns-clause-off
returns-clause-off c = record { place = _; reached = (_, _, (record { no_event = refl; no_failure = refl; power = refl }, refl), refl, (_, _, (record { no_event = refl; no_failure = refl; power = refl }, refl), refl, (_, _, (record { no_event = refl; no_failure = refl; power = refl }, refl), refl, (refl, refl)))); off = refl }

pub returns-clause-pt : goal.returns-clause-pt
returns-clause-pt c = record { place = _; reached = (_, _, (record { no_event = refl; no_failure = refl; power = refl }, refl), refl, (_, _, (record { no_event = refl; no_failure = refl; power = refl }, refl), refl, (_, _, (record { no_event = refl; no_failure = refl; power = refl }, refl), refl, (refl, refl)))); named = refl; fits = (record { no_event = refl; no_failure = refl; power = refl }, refl) }
