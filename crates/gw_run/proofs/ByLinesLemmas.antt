-- The log of a script without failing calls goes by the script's lines, and a lawful log that goes by them is the script's.
use Rattle.std.proofs.Common.{◌≡◌, ℕ, List, [], ◌∷◌, ◌++◌, sym, ◌∙◌, ap, subst, inl, inr}
use Rattle.std.specs.Prelude.{ℤ, pos, Ok}
use Rattle.gw_base.specs.declared.setup.Setup.{Setup}
use Rattle.gw_site.specs.Outside.{Outside, outside_from}
use Rattle.gw_site.specs.Sorts.{IsQuiet}
use Rattle.gw_site.specs.declared.turn.Turn.{Turn}
use Rattle.gw_site.specs.declared.turn.Turn.TheVariants.{Start, Polled}
use Rattle.gw_script.specs.site.ByLines.{GoesBy, GoesByLines, HasNoFailures, IsRunToStop}
use Rattle.gw_script.specs.site.Events.{HasEventsOf}
use Rattle.gw_script.specs.site.Playing.{PlaysLines, brings}
use Rattle.gw_script.specs.site.ScriptLine.{PlayedLine, At, Poll, Fail, Power, ForgetPower, Script, setup_of}
use Rattle.gw_script.proofs.site.ByLinesLemmas.{going-by-lines-plays, plain-lines-go-on}
use Rattle.gw_script.proofs.site.EventLemmas.{run-has-events}
use Rattle.gw_rules.specs.Lawful.{IsLawful, turns_of}
use Rattle.gw_run.specs.Laws.{LogGoesByLines, LogHasEvents}
use Rattle.gw_run.specs.ScriptLog.{IsLogOf, IsRunWith, IsStopped}
use Rattle.gw_script.specs.site.Decode.{script_of}
use Rattle.gw_run.proofs.ByLinesActLemmas.{acts-of-run}
use Rattle.gw_run.proofs.EndLemmas.{StartsOn, run-to-stop, start-calm, starts-on, stops-later}
use Rattle.gw_run.proofs.PlainLemmas.{plain-runs}
use Rattle.gw_run.proofs.PlayLawLemmas.{log-is-played}

-- ---- one run to the stop

-- a lawful log that starts with this setup, and is one run up to its stop
record RunsToStop (setup : Setup) (log : List Turn) : Type 0 where
  starts : StartsOn setup log
  quiet : IsQuiet (turns_of starts.moves)
  stops : IsStopped (turns_of starts.moves)
  to_stop : IsRunToStop (turns_of starts.moves)

runs-to-stop : (setup : Setup) (log : List Turn) → IsLawful log → IsRunWith setup log → IsStopped log → RunsToStop setup log
runs-to-stop setup log lawful (run, is, quiet) stopped =
    let s = starts-on setup run log lawful is in
    let run_is : run ≡ turns_of s.moves = (let n : Start setup ∷ run ≡ Start setup ∷ turns_of s.moves = sym is ∙ s.log_is in cc) in
    let quiet_run : IsQuiet (turns_of s.moves) = subst IsQuiet run_is quiet in
    let ends = stops-later (Start setup) (turns_of s.moves) (λ n. cc) (subst IsStopped s.log_is stopped) in
    record { starts = s; quiet = quiet_run; stops = ends; to_stop = run-to-stop _ s.moves (start-calm setup) s.lawful quiet_run ends }

-- ---- lines that end

-- the turns end with the stop
stops-after : (first turns : List Turn) → IsStopped turns → IsStopped (first ++ turns)
stops-after [] turns stops = stops
stops-after (turn ∷ first) turns stops =
    let later = stops-after first turns stops in
    (turn ∷ later.0, ap (λ rest. turn ∷ rest) later.1)

lines-end : (lines : List PlayedLine) (o : Outside) (moment : ℤ) (turns : List Turn) → GoesBy o moment lines turns → IsStopped turns
lines-end [] o moment turns goes = (Polled moment ∷ [], goes)
lines-end (At now ∷ lines) o moment turns goes = lines-end lines o now turns goes
lines-end (Poll event ∷ lines) o moment turns (inl (is, goes)) = lines-end lines o moment turns goes
lines-end (Poll event ∷ lines) o moment turns (inr x) =
    let later = lines-end lines (outside_from o (Polled moment ∷ (brings event ++ x.calls))) moment x.later x.goes_on in
    subst IsStopped (sym x.turns_are) (stops-after (Polled moment ∷ []) (brings event ++ (x.calls ++ x.later)) (stops-after (brings event) (x.calls ++ x.later) (stops-after x.calls x.later later)))
lines-end (Fail failing ∷ lines) o moment turns goes = absurd goes
lines-end (Power calls kind ∷ lines) o moment turns goes = absurd goes
lines-end (ForgetPower ∷ lines) o moment turns goes = absurd goes

log-ends : (lines : List PlayedLine) (log : List Turn) → GoesByLines lines log → IsStopped log
log-ends lines log g = subst IsStopped (sym g.log_is) (stops-after (Start g.setup ∷ []) (g.calls ++ g.later) (stops-after g.calls g.later (lines-end lines _ (pos 0) g.later g.goes_on)))

-- ---- the laws

pub log-has-events : LogHasEvents
log-has-events text script log e x run stopped =
    let setup = setup_of script.given in
    let r = runs-to-stop setup log (log-is-played.lawful text log x) run stopped in
    subst (HasEventsOf script.lines) (sym r.starts.log_is) (run-has-events script.lines setup (turns_of r.starts.moves) r.to_stop (subst (PlaysLines script.lines) r.starts.log_is (log-is-played.plays text script log e x)))

log-goes : (text : List ℕ) (script : Script) (log : List Turn) → script_of text ≡ Ok script → HasNoFailures script.lines → IsLogOf text log → IsLawful log × IsRunWith (setup_of script.given) log × GoesByLines script.lines log
log-goes text script log e plain x =
    let setup = setup_of script.given in
    let lawful = log-is-played.lawful text log x in
    let plays = log-is-played.plays text script log e x in
    let (run, stops) = plain-runs setup script.lines log plain plays x.ends (log-is-played.runs text script log e x) in
    let r = runs-to-stop setup log lawful run stops in
    let goes = plain-lines-go-on script.lines setup (turns_of r.starts.moves) plain r.to_stop (subst (PlaysLines script.lines) r.starts.log_is plays) in
    (lawful, run, subst (GoesByLines script.lines) (sym r.starts.log_is) goes)

log-of-lines : (text : List ℕ) (script : Script) (log : List Turn) → script_of text ≡ Ok script → HasNoFailures script.lines → IsLawful log → IsRunWith (setup_of script.given) log → GoesByLines script.lines log → IsLogOf text log
log-of-lines text script log e plain lawful run goes =
    let setup = setup_of script.given in
    let stops = log-ends script.lines log goes in
    let r = runs-to-stop setup log lawful run stops in
    let plays = subst (PlaysLines script.lines) r.starts.log_is (going-by-lines-plays script.lines log goes) in
    let a = acts-of-run setup script.lines r.starts.moves plain r.starts.allowed r.starts.lawful plays r.stops r.quiet in
    record {
      script = script;
      script_is = e;
      acts = a.acts;
      done = record { lawful = a.goes.lawful; due = a.goes.due; log_is = a.log_is ∙ sym r.starts.log_is };
      turns = a.parts;
      ends = inl stops;
      power = a.goes.turns;
    }

pub log-by-lines : LogGoesByLines
log-by-lines text script log e plain = (log-goes text script log e plain, λ y. log-of-lines text script log e plain y.0 y.1 y.2)
