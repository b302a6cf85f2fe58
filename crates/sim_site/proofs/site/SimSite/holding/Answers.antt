-- Proof of the contract of `holding`.
use Rattle.std.proofs.Common.{ap}
use Rattle.sim_script.specs.Values.{whole_script_value}
use Rattle.sim_site.specs.Sources.{source_terminals}
use Rattle.sim_site.proofs.SiteLemmas.{observed_same, on_err, play_same}
use Rattle.sim_site.proofs.StepLemmas.{held_step}
use Rattle.sim_site.proofs.site.SimSite.holding.Goals as goal

pub returns-clause-refused : goal.returns-clause-refused
returns-clause-refused c =
    let s = c.args.self.now in
    on_err c.hold.result (λ u. record { observed = observed_same s.faults s.played c.hold.new.self u; place = play_same s.played c.hold.new.self u; script = ap whole_script_value u.script; terminals = ap source_terminals u.drill }) c.hold.ensures.refused

pub returns-clause-taken : goal.returns-clause-taken
returns-clause-taken c = held_step c.hold.result c.args.self.now.played c.hold.new.self c.args.file.now c.requires c.hold.ensures.log c.hold.ensures.place c.hold.ensures.short c.hold.ensures.script
