-- Proof of the contract of `restart`.
use Rattle.std.proofs.Common.{ap}
use Rattle.std.specs.Prelude.{is_some}
use Rattle.sim_script.specs.Values.{whole_script_value}
use Rattle.sim_site.specs.Sources.{source_terminals}
use Rattle.sim_site.proofs.SiteLemmas.{observed_same, on_err, play_same}
use Rattle.sim_site.proofs.StepLemmas.{crashed_whole, restarted_there}
use Rattle.sim_site.proofs.site.SimSite.restart.Goals as goal

pub returns-in-Some-clause-restarted : goal.returns-in-Some-clause-restarted
returns-in-Some-clause-restarted c =
    let s = c.args.self.now in
    restarted_there c.restart.result s (record s { played = c.restart.new.self }) c.in-Some.kind (crashed_whole s.played.short (is_some s.played.place.off) c.requires) c.in-Some.is c.restart.ensures.log c.restart.ensures.bytes c.restart.ensures.place c.restart.ensures.power c.restart.ensures.whole c.restart.ensures.same

pub returns-in-Some-clause-refused : goal.returns-in-Some-clause-refused
returns-in-Some-clause-refused c =
    let s = c.args.self.now in
    on_err c.restart.result (λ u. record { observed = observed_same s.faults s.played c.restart.new.self u; place = play_same s.played c.restart.new.self u; script = ap whole_script_value u.script; terminals = ap source_terminals u.drill }) c.restart.ensures.refused
