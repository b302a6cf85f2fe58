-- How a lawful log ends, how many polls it has, and what its course is after its start.
use Rattle.std.proofs.Common.{◌≡◌, ◌+◌, ◌≤◌, List, [], ◌∷◌, ◌++◌, length, refl, sym, ◌∙◌, ap, subst, arith, inl, inr, true, false}
use Rattle.std.specs.Prelude.{◌⊎◌, Bool, Some, None}
use Rattle.gw_base.specs.declared.setup.Setup.{Setup}
use Rattle.gw_site.specs.Sorts.{is_between, IsQuiet}
use Rattle.gw_site.specs.declared.turn.Turn.{Turn}
use Rattle.gw_site.specs.declared.turn.Turn.TheVariants.{Start, OpenFailed, Polled, Opened, HeardTill, Closed, HeardPt, Lost, Stopped, Linked, LinkFailed, SentTill, SentPt, CutTill, CutPt, Wrote, Synced, DiskFailed, Crash}
use Rattle.gw_owes.specs.Calls.{OwedCall}
use Rattle.gw_owes.specs.Items.{RoundItem}
use Rattle.gw_owes.specs.ReadAs.{ReadAs}
use Rattle.gw_script.specs.site.ByLines.{IsRunToStop}
use Rattle.gw_rules.specs.Scene.{Scene}
use Rattle.gw_rules.specs.Stage.{Stage, Resting, Opening, Looking, AtPoll, Handling, Over, Broken, is_round, is_running, is_looking, busy, stage_synced, stage_wrote}
use Rattle.gw_rules.specs.View.{View, Move, Begin, Read, Make, begin, after, after_turn, view_from, at_first}
use Rattle.gw_rules.specs.Lawful.{AllowedTurn, IsIdle, IsCourse, turns_of, Stands, IsLawful, IsNext, first_call}
use Rattle.gw_rules.proofs.CourseLemmas.{begin-stage}
use Rattle.gw_rules.proofs.StageLemmas.{round-busy}
use Rattle.gw_run.specs.ScriptLog.{HasLastTurn, IsStopped}

polls-turn : (v : View) (turn : Turn) → (after_turn v turn).scene.polls ≤ v.scene.polls + 1
polls-turn v (Start setup) = omega arith
polls-turn v OpenFailed = omega arith
polls-turn v (Polled now) = omega arith
polls-turn v (Opened till) = omega arith
polls-turn v (HeardTill till bytes) = omega arith
polls-turn v (Closed till) = omega arith
polls-turn v (HeardPt pt bytes) = omega arith
polls-turn v (Lost pt) = omega arith
polls-turn v Stopped = omega arith
polls-turn v (Linked pt) = omega arith
polls-turn v (LinkFailed pt) = omega arith
polls-turn v (SentTill till bytes true) = omega arith
polls-turn v (SentTill till bytes false) = omega arith
polls-turn v (SentPt pt bytes true) = omega arith
polls-turn v (SentPt pt bytes false) = omega arith
polls-turn v (CutTill till) = omega arith
polls-turn v (CutPt pt) = omega arith
polls-turn v (Wrote at bytes) = omega arith
polls-turn v Synced = omega arith
polls-turn v DiskFailed = omega arith
polls-turn v (Crash file) = omega arith

polls-begin : (scene : Scene) (items : List RoundItem) → (begin scene items).scene.polls ≡ scene.polls
polls-begin scene [] = refl
polls-begin scene (item ∷ items) = refl

polls-from : (v : View) (moves : List Move) → (view_from v moves).scene.polls ≤ v.scene.polls + length (turns_of moves)
polls-from v [] = omega arith
polls-from v (Begin ∷ moves) = let a = polls-begin v.scene v.items in let b = polls-from (after v Begin) moves in omega arith
polls-from v (Read as_read ∷ moves) = polls-from (after v (Read as_read)) moves
polls-from v (Make turn ∷ moves) = let a = polls-turn v turn in let b = polls-from (after_turn v turn) moves in omega arith

-- a run has no more polls than the log has turns
pub polls-most : (log : List Turn) (v : View) → Stands log v → v.scene.polls ≤ length log
polls-most log v s = let h = polls-from at_first s.course in rw (← s.view_is, ← s.log_is) (omega arith)

-- nothing is owed at this stage, and this turn alone leads to it
pub record IsEnd (end : Stage) (last : Turn) : Type 0 where
  pub no_opening : (refused : Bool) → Opening refused ≡ end → ⊥
  pub no_looking : (refused : Bool) → Looking refused ≡ end → ⊥
  pub no_rest : Resting ≡ end → ⊥
  pub no_poll : AtPoll ≡ end → ⊥
  pub no_handling : Handling ≡ end → ⊥
  pub stopped : Over ≡ end → Stopped ≡ last
  pub disk_failed : Broken ≡ end → DiskFailed ≡ last

pub over-end : IsEnd Over Stopped
over-end = record { no_opening = λ refused e. cc; no_looking = λ refused e. cc; no_rest = λ e. cc; no_poll = λ e. cc; no_handling = λ e. cc; stopped = λ e. refl; disk_failed = λ e. absurd (let h : Broken ≡ Over = e in cc) }

pub broken-end : IsEnd Broken DiskFailed
broken-end = record { no_opening = λ refused e. cc; no_looking = λ refused e. cc; no_rest = λ e. cc; no_poll = λ e. cc; no_handling = λ e. cc; stopped = λ e. absurd (let h : Over ≡ Broken = e in cc); disk_failed = λ e. refl }

-- at this stage, no call is owed
abbrev pub IsCalmAt : Stage → View → Type 0
IsCalmAt end v = v.scene.stage ≡ end → v.calls ≡ []

-- where the run is over, no call is owed
abbrev pub OverCalm : View → Type 0
OverCalm v = IsCalmAt Over v

-- nothing that follows a poll leads to it, nor a sync or a write
busy-back : (end : Stage) (last : Turn) → IsEnd end last → (s : Stage) → busy s ≡ end → s ≡ end
busy-back end last x Resting e = e
busy-back end last x (Opening refused) e = e
busy-back end last x (Looking refused) e = e
busy-back end last x AtPoll e = absurd (x.no_handling e)
busy-back end last x Handling e = e
busy-back end last x Over e = e
busy-back end last x Broken e = e

synced-back : (end : Stage) (last : Turn) → IsEnd end last → (s : Stage) → stage_synced s ≡ end → s ≡ end
synced-back end last x Resting e = e
synced-back end last x (Opening refused) e = absurd (x.no_looking refused e)
synced-back end last x (Looking refused) e = e
synced-back end last x AtPoll e = absurd (x.no_handling e)
synced-back end last x Handling e = e
synced-back end last x Over e = e
synced-back end last x Broken e = e

wrote-back : (end : Stage) (last : Turn) → IsEnd end last → (s : Stage) → stage_wrote s ≡ end → s ≡ end
wrote-back end last x Resting e = e
wrote-back end last x (Opening refused) e = e
wrote-back end last x (Looking refused) e = absurd (x.no_handling e)
wrote-back end last x AtPoll e = absurd (x.no_handling e)
wrote-back end last x Handling e = e
wrote-back end last x Over e = e
wrote-back end last x Broken e = e

-- a call that is owed rules out that the run is at its end
next-end : (end : Stage) (v : View) (call : OwedCall) → IsCalmAt end v → IsNext v call → v.scene.stage ≡ end → ⊥
next-end end v call calm next e = let h : None ≡ Some call = sym (ap first_call (calm e)) ∙ next in cc

-- the turn that leads to the end is this one
end-turn : (end : Stage) (last : Turn) → IsEnd end last → (v : View) (turn : Turn) → IsCalmAt end v → AllowedTurn v turn → (after_turn v turn).scene.stage ≡ end → (turn ≡ last) × ((after_turn v turn).calls ≡ [])
end-turn end last x v (Start setup) calm ok e = absurd (x.no_opening _ e)
end-turn end last x v OpenFailed calm ok e = absurd (x.no_rest e)
end-turn end last x v (Polled now) calm ok e = absurd (x.no_poll e)
end-turn end last x v (Opened till) calm ok e = absurd (x.no_handling e)
end-turn end last x v (HeardTill till bytes) calm ok e = absurd (x.no_handling e)
end-turn end last x v (Closed till) calm ok e = absurd (x.no_handling e)
end-turn end last x v (HeardPt pt bytes) calm ok e = absurd (x.no_handling e)
end-turn end last x v (Lost pt) calm ok e = absurd (x.no_handling e)
end-turn end last x v Stopped calm ok e = (x.stopped e, refl)
end-turn end last x v (Linked pt) calm ok e = absurd (next-end end v _ calm ok (busy-back end last x v.scene.stage e))
end-turn end last x v (LinkFailed pt) calm ok e = absurd (next-end end v _ calm ok (busy-back end last x v.scene.stage e))
end-turn end last x v (SentTill till bytes true) calm ok e = absurd (next-end end v _ calm ok.1 (busy-back end last x v.scene.stage e))
end-turn end last x v (SentTill till bytes false) calm ok e = absurd (next-end end v _ calm ok.1 (busy-back end last x v.scene.stage e))
end-turn end last x v (SentPt pt bytes true) calm ok e = absurd (next-end end v _ calm ok.1 (busy-back end last x v.scene.stage e))
end-turn end last x v (SentPt pt bytes false) calm ok e = absurd (next-end end v _ calm ok.1 (busy-back end last x v.scene.stage e))
end-turn end last x v (CutTill till) calm ok e = absurd (next-end end v _ calm ok (busy-back end last x v.scene.stage e))
end-turn end last x v (CutPt pt) calm ok e = absurd (next-end end v _ calm ok (busy-back end last x v.scene.stage e))
end-turn end last x v (Wrote at bytes) calm ok e = absurd (next-end end v _ calm ok.1 (wrote-back end last x v.scene.stage e))
end-turn end last x v Synced calm ok e = absurd (next-end end v _ calm ok (synced-back end last x v.scene.stage e))
end-turn end last x v DiskFailed calm ok e = (x.disk_failed e, refl)
end-turn end last x v (Crash file) calm ok e = absurd (x.no_rest e)

-- where an item may begin, the run isn't at its end
idle-end : (end : Stage) (last : Turn) → IsEnd end last → (v : View) → IsIdle v → busy v.scene.stage ≡ end → ⊥
idle-end end last x v idle e = x.no_handling (sym (round-busy v.scene.stage idle.round) ∙ e)

-- the log of a course that leads to the end ends with the turn
end-from : (end : Stage) (last : Turn) → IsEnd end last → (v : View) (moves : List Move) → IsCalmAt end v → IsCourse v moves → (view_from v moves).scene.stage ≡ end → ((v.scene.stage ≡ end) × (turns_of moves ≡ [])) ⊎ HasLastTurn last (turns_of moves)
end-from end last x v [] calm h e = inl (e, refl)
end-from end last x v (Begin ∷ moves) calm h e =
    let none : (after v Begin).scene.stage ≡ end → ⊥ = λ o. idle-end end last x v h.0.idle (sym (begin-stage v.scene v.items) ∙ o) in
    elim (end-from end last x (after v Begin) moves (λ o. absurd (none o)) h.1 e) [ inl o ↦ absurd (none o.0) | inr ends ↦ inr ends ]
end-from end last x v (Read as_read ∷ moves) calm h e =
    let none : (after v (Read as_read)).scene.stage ≡ end → ⊥ = λ o. idle-end end last x v h.0.idle o in
    elim (end-from end last x (after v (Read as_read)) moves (λ o. absurd (none o)) h.1 e) [ inl o ↦ absurd (none o.0) | inr ends ↦ inr ends ]
end-from end last x v (Make turn ∷ moves) calm h e = elim (end-from end last x (after_turn v turn) moves (λ o. (end-turn end last x v turn calm h.0 o).1) h.1 e)
    [ inl o ↦ inr ([], rw ((end-turn end last x v turn calm h.0 o.0).0, o.1) refl) | inr ends ↦ inr (turn ∷ ends.0, ap (λ rest. turn ∷ rest) ends.1) ]

end-ends : (end : Stage) (last : Turn) → IsEnd end last → (log : List Turn) (v : View) → Stands log v → v.scene.stage ≡ end → HasLastTurn last log
end-ends end last x log v s e = subst (HasLastTurn last) s.log_is (elim (end-from end last x at_first s.course (λ o. refl) s.lawful (ap (λ (w : View). w.scene.stage) s.view_is ∙ e))
    [ inl o ↦ absurd (x.no_rest o.0) | inr ends ↦ ends ])

-- where the run is over, the log ends with Stopped
pub over-ends : (log : List Turn) (v : View) → Stands log v → v.scene.stage ≡ Over → IsStopped log
over-ends log v s e = end-ends Over Stopped over-end log v s e

-- where a call on the disk has failed, the log ends with that
pub broken-ends : (log : List Turn) (v : View) → Stands log v → v.scene.stage ≡ Broken → HasLastTurn DiskFailed log
broken-ends log v s e = end-ends Broken DiskFailed broken-end log v s e

pub over-turn : (v : View) (turn : Turn) → OverCalm v → AllowedTurn v turn → (after_turn v turn).scene.stage ≡ Over → (turn ≡ Stopped) × ((after_turn v turn).calls ≡ [])
over-turn v turn calm ok e = end-turn Over Stopped over-end v turn calm ok e

-- where an item may begin, the run isn't over
pub idle-over : (v : View) → IsIdle v → v.scene.stage ≡ Over → ⊥
idle-over v idle e = let h : false ≡ true = sym (ap is_round e) ∙ idle.round in cc

-- ---- where the run is over

-- no call is owed, and the turn is the outcome of one
pub idle-next : (v : View) (call : OwedCall) → v.calls ≡ [] → IsNext v call → ⊥
idle-next v call idle next = let h : None ≡ Some call = sym (ap first_call idle) ∙ next in cc

over-poll : (s : Stage) → s ≡ Over → s ≡ AtPoll → ⊥
over-poll s e f = let h : Over ≡ AtPoll = sym e ∙ f in cc

over-runs : (s : Stage) → s ≡ Over → is_running s ≡ true → ⊥
over-runs s e running = let h : false ≡ true = sym (ap is_running e) ∙ running in cc

over-looks : (s : Stage) → s ≡ Over → is_looking s ≡ true → ⊥
over-looks s e looking = let h : false ≡ true = sym (ap is_looking e) ∙ looking in cc

-- where the run is over, no turn of a run may come
over-last : (v : View) (turn : Turn) → OverCalm v → v.scene.stage ≡ Over → AllowedTurn v turn → is_between turn ≡ false → ⊥
over-last v (Start setup) calm over ok quiet = (let h : true ≡ false = quiet in cc)
over-last v OpenFailed calm over ok quiet = (let h : true ≡ false = quiet in cc)
over-last v (Polled now) calm over ok quiet = over-runs v.scene.stage over ok.running
over-last v (Opened till) calm over ok quiet = over-poll v.scene.stage over ok.0
over-last v (HeardTill till bytes) calm over ok quiet = over-poll v.scene.stage over ok.0.polled
over-last v (Closed till) calm over ok quiet = over-poll v.scene.stage over ok.polled
over-last v (HeardPt pt bytes) calm over ok quiet = over-poll v.scene.stage over ok.0.polled
over-last v (Lost pt) calm over ok quiet = over-poll v.scene.stage over ok.polled
over-last v Stopped calm over ok quiet = over-poll v.scene.stage over ok
over-last v (Linked pt) calm over ok quiet = idle-next v _ (calm over) ok
over-last v (LinkFailed pt) calm over ok quiet = idle-next v _ (calm over) ok
over-last v (SentTill till bytes true) calm over ok quiet = idle-next v _ (calm over) ok.1
over-last v (SentTill till bytes false) calm over ok quiet = idle-next v _ (calm over) ok.1
over-last v (SentPt pt bytes true) calm over ok quiet = idle-next v _ (calm over) ok.1
over-last v (SentPt pt bytes false) calm over ok quiet = idle-next v _ (calm over) ok.1
over-last v (CutTill till) calm over ok quiet = idle-next v _ (calm over) ok
over-last v (CutPt pt) calm over ok quiet = idle-next v _ (calm over) ok
over-last v (Wrote offset bytes) calm over ok quiet = idle-next v _ (calm over) ok.1
over-last v Synced calm over ok quiet = idle-next v _ (calm over) ok
over-last v DiskFailed calm over (inl next) quiet = idle-next v _ (calm over) next
over-last v DiskFailed calm over (inr looking) quiet = over-looks v.scene.stage over looking
over-last v (Crash file) calm over ok quiet = (let h : true ≡ false = quiet in cc)

-- nothing follows where the run is over
pub over-rest : (v : View) (moves : List Move) → OverCalm v → v.scene.stage ≡ Over → IsCourse v moves → IsQuiet (turns_of moves) → turns_of moves ≡ []
over-rest v [] calm over h quiet = refl
over-rest v (Begin ∷ moves) calm over h quiet = absurd (idle-over v h.0.idle over)
over-rest v (Read as_read ∷ moves) calm over h quiet = absurd (idle-over v h.0.idle over)
over-rest v (Make turn ∷ moves) calm over h quiet = absurd (over-last v turn calm over h.0 quiet.0)

pub calm-begin : (v : View) → IsIdle v → OverCalm (after v Begin)
calm-begin v idle e = absurd (idle-end Over Stopped over-end v idle (sym (begin-stage v.scene v.items) ∙ e))

pub calm-read : (v : View) (as_read : ReadAs) → IsIdle v → OverCalm (after v (Read as_read))
calm-read v as_read idle e = absurd (idle-end Over Stopped over-end v idle e)

pub calm-turn : (v : View) (turn : Turn) → OverCalm v → AllowedTurn v turn → OverCalm (after_turn v turn)
calm-turn v turn calm ok e = (over-turn v turn calm ok e).1

-- ---- the course after a start

-- the log starts with this setup, and goes on along these moves
pub record StartsOn (setup : Setup) (log : List Turn) : Type 0 where
  pub moves : List Move
  pub log_is : log ≡ Start setup ∷ turns_of moves
  pub allowed : AllowedTurn at_first (Start setup)
  pub lawful : IsCourse (after_turn at_first (Start setup)) moves

starts-from : (setup : Setup) (course : List Move) (run log : List Turn) → turns_of course ≡ log → log ≡ Start setup ∷ run → IsCourse at_first course → StartsOn setup log
starts-from setup [] run log e f h = absurd (let n : [] ≡ Start setup ∷ run = e ∙ f in cc)
starts-from setup (Begin ∷ moves) run log e f h = absurd (let n : false ≡ true = h.0.idle.round in cc)
starts-from setup (Read as_read ∷ moves) run log e f h = absurd (let n : false ≡ true = h.0.idle.round in cc)
starts-from setup (Make turn ∷ moves) run log e f h =
    let n : turn ∷ turns_of moves ≡ Start setup ∷ run = e ∙ f in
    let heads : turn ≡ Start setup = cc in
    record {
      moves = moves;
      log_is = sym e ∙ ap (λ first. first ∷ turns_of moves) heads;
      allowed = subst (AllowedTurn at_first) heads h.0;
      lawful = subst (λ first. IsCourse (after_turn at_first first) moves) heads h.1;
    }

pub starts-on : (setup : Setup) (run log : List Turn) → IsLawful log → log ≡ Start setup ∷ run → StartsOn setup log
starts-on setup run log (v, s) e = starts-from setup s.course run log s.log_is e s.lawful

pub start-calm : (setup : Setup) → OverCalm (after_turn at_first (Start setup))
start-calm setup e = absurd (over-end.no_opening _ e)

pub stops-later : (turn : Turn) (turns : List Turn) → (turn ≡ Stopped → ⊥) → IsStopped (turn ∷ turns) → IsStopped turns
stops-later turn turns other ([], e) = absurd (other (let n : turn ∷ turns ≡ Stopped ∷ [] = e in cc))
stops-later turn turns other (first ∷ prefix, e) = (prefix, let n : turn ∷ turns ≡ first ∷ (prefix ++ Stopped ∷ []) = e in cc)

-- some turn comes before the stop, or it is the stop
run-on : (turn : Turn) (turns : List Turn) → is_between turn ≡ false → (turn ≡ Stopped → turns ≡ []) → ((turn ≡ Stopped → ⊥) → IsRunToStop turns) → IsRunToStop (turn ∷ turns)
run-on (Start setup) turns quiet last more = absurd (let h : true ≡ false = quiet in cc)
run-on OpenFailed turns quiet last more = absurd (let h : true ≡ false = quiet in cc)
run-on (Polled now) turns quiet last more = more (λ e. cc)
run-on (Opened till) turns quiet last more = more (λ e. cc)
run-on (HeardTill till bytes) turns quiet last more = more (λ e. cc)
run-on (Closed till) turns quiet last more = more (λ e. cc)
run-on (HeardPt pt bytes) turns quiet last more = more (λ e. cc)
run-on (Lost pt) turns quiet last more = more (λ e. cc)
run-on Stopped turns quiet last more = last refl
run-on (Linked pt) turns quiet last more = more (λ e. cc)
run-on (LinkFailed pt) turns quiet last more = more (λ e. cc)
run-on (SentTill till bytes ok) turns quiet last more = more (λ e. cc)
run-on (SentPt pt bytes ok) turns quiet last more = more (λ e. cc)
run-on (CutTill till) turns quiet last more = more (λ e. cc)
run-on (CutPt pt) turns quiet last more = more (λ e. cc)
run-on (Wrote offset bytes) turns quiet last more = more (λ e. cc)
run-on Synced turns quiet last more = more (λ e. cc)
run-on DiskFailed turns quiet last more = more (λ e. cc)
run-on (Crash file) turns quiet last more = absurd (let h : true ≡ false = quiet in cc)

none-stops : (prefix : List Turn) → [] ≡ prefix ++ Stopped ∷ [] → ⊥
none-stops [] e = cc
none-stops (turn ∷ prefix) e = cc

-- a course of one run that ends with the stop has no other
pub run-to-stop : (v : View) (moves : List Move) → OverCalm v → IsCourse v moves → IsQuiet (turns_of moves) → IsStopped (turns_of moves) → IsRunToStop (turns_of moves)
run-to-stop v [] calm h quiet (prefix, e) = absurd (none-stops prefix e)
run-to-stop v (Begin ∷ moves) calm h quiet ends = run-to-stop (after v Begin) moves (calm-begin v h.0.idle) h.1 quiet ends
run-to-stop v (Read as_read ∷ moves) calm h quiet ends = run-to-stop (after v (Read as_read)) moves (calm-read v as_read h.0.idle) h.1 quiet ends
run-to-stop v (Make turn ∷ moves) calm h quiet ends =
    let calm2 = calm-turn v turn calm h.0 in
    run-on turn (turns_of moves) quiet.0 (λ e. over-rest (after_turn v turn) moves calm2 (subst (λ last. (after_turn v last).scene.stage ≡ Over) (sym e) refl) h.1 quiet.1)
    (λ other. run-to-stop (after_turn v turn) moves calm2 h.1 quiet.1 (stops-later turn (turns_of moves) other ends))
