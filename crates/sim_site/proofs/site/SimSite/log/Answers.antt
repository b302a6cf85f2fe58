-- Proof of the contract of `log`.
use Rattle.std.proofs.Common.{subst, true}
use Rattle.std.proofs.Math.Logic.{∥∥₁_map}
use Rattle.gw_script.specs.site.Calls.{IsPlayedTo}
use Rattle.gw_script.specs.site.Drill.{drill_payments, drill_terminals}
use Rattle.gw_script.specs.site.Playing.{PlaysLines}
use Rattle.gw_script.specs.site.ScriptLine.{Script}
use Rattle.sim_script.specs.Values.{lines_value}
use Rattle.sim_site.specs.Sources.{source_terminals}
use Rattle.sim_site.specs.Made.{play_at}
use Rattle.sim_site.specs.Steps.{HasPart, HasSteps, IsPlayedWith}
use Rattle.sim_site.proofs.PlayedLemmas.{part_loosened, part_plays, played_alone, stands_loosened}
use Rattle.sim_site.proofs.SiteLemmas.{drill_own, origin_own}
use Rattle.sim_site.proofs.site.SimSite.log.Goals as goal

pub returns-clause-steps : goal.returns-clause-steps
returns-clause-steps c = λ whole.
    let s = c.args.self.now.played in
    stands_loosened s.scripted (source_terminals s.drill) (lines_value s.script.lines.items) s.log (play_at s) (s.stands whole)

pub returns-clause-part : goal.returns-clause-part
returns-clause-part c =
    let s = c.args.self.now.played in
    part_loosened s.scripted (source_terminals s.drill) (lines_value s.script.lines.items) s.log s.part

pub returns-clause-plays : goal.returns-clause-plays
returns-clause-plays c = λ script e.
    let s = c.args.self.now.played in
    let own = origin_own s script e in
    let these = source_terminals s.drill in
    let lines = lines_value s.script.lines.items in
    subst (λ (x : Script). ∥ PlaysLines x.lines s.log ∥₁) own.script_is (∥∥₁_map (subst (λ scripted. ∥ HasPart scripted these lines s.log ∥₁) own.scripted s.part) (λ part. part_plays these lines s.log own.alone part))

pub returns-clause-calls : goal.returns-clause-calls
returns-clause-calls c = λ whole script e.
    let s = c.args.self.now.played in
    let own = origin_own s script e in
    let these = source_terminals s.drill in
    let lines = lines_value s.script.lines.items in
    let stands = subst (λ scripted. ∥ HasSteps scripted these lines s.log (play_at s) ∥₁) own.scripted (s.stands whole) in
    subst (λ (x : Script). ∥ IsPlayedTo x.lines s.log (play_at s) ∥₁) own.script_is (∥∥₁_map stands (λ stood. played_alone these lines s.log (play_at s) own.alone stood))

pub returns-clause-drill : goal.returns-clause-drill
returns-clause-drill c = λ whole from payments e.
    let s = c.args.self.now.played in
    let own = drill_own s from payments e in
    let these = source_terminals s.drill in
    let lines = lines_value s.script.lines.items in
    let stands = subst (λ scripted. ∥ HasSteps scripted these lines s.log (play_at s) ∥₁) own.scripted (s.stands whole) in
    let drilled = drill_terminals (drill_payments from payments) in
    subst (λ (x : Script). ∥ IsPlayedWith drilled x.lines s.log (play_at s) ∥₁) own.script_is (subst (λ terminals. ∥ IsPlayedWith terminals lines s.log (play_at s) ∥₁) own.terminals stands)

pub returns-clause-drill_part : goal.returns-clause-drill_part
returns-clause-drill_part c = λ from payments e.
    let s = c.args.self.now.played in
    let own = drill_own s from payments e in
    let these = source_terminals s.drill in
    let lines = lines_value s.script.lines.items in
    let part = subst (λ scripted. ∥ HasPart scripted these lines s.log ∥₁) own.scripted s.part in
    let drilled = drill_terminals (drill_payments from payments) in
    subst (λ (x : Script). ∥ HasPart true drilled x.lines s.log ∥₁) own.script_is (subst (λ terminals. ∥ HasPart true terminals lines s.log ∥₁) own.terminals part)
