-- Proof of the contract of `drill_counts`.
use Rattle.gw_run.proofs.DrillSiteLemmas.{drill-ran, drill-unbegun}
use Rattle.gw_run.proofs.drill.drill_counts.Goals as goal

pub play_site-end-requires : goal.play_site-end-requires
play_site-end-requires c = drill-unbegun c.args.from c.args.payments c.in-Ok.site c.in-Ok.ensures.site c.in-Ok.ensures.script

pub counts_after-counts-requires : goal.counts_after-counts-requires
counts_after-counts-requires c = (c.args.from, c.args.payments, drill-ran c.args.from c.args.payments c.in-Ok.site c.play_site-end.new.site c.play_site-end.result c.in-Ok.ensures.site c.in-Ok.ensures.script c.play_site-end.ensures.run c.play_site-end.ensures.lit c.play_site-end.ensures.origin)

pub returns-clause-counted : goal.returns-clause-counted
returns-clause-counted c = c.counts_after-counts.ensures.counted c.args.from c.args.payments (drill-ran c.args.from c.args.payments c.in-Ok.site c.play_site-end.new.site c.play_site-end.result c.in-Ok.ensures.site c.in-Ok.ensures.script c.play_site-end.ensures.run c.play_site-end.ensures.lit c.play_site-end.ensures.origin)
