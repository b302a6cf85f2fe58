-- Proof of the contract of `serve`.
use Rattle.std.proofs.Common.{◌≡◌}
use Rattle.gw_dispatch.proofs.GrowthLemmas.{goes-nowhere, goes-without-poll}
use Rattle.gw_run.specs.declared.ending.Ending.TheVariants.{Played}
use Rattle.gw_run.specs.declared.serving.ServeEnding.TheVariants.{Other}
use Rattle.gw_run.proofs.ServeLemmas.{config-unplayed, input-setup, nothing-served, other-same, serve-printed, serves-own}
use Rattle.gw_run.proofs.serving.serve.Goals as goal

pub returns-in-Ok-clause-printed : goal.returns-in-Ok-clause-printed
returns-in-Ok-clause-printed g c = λ written e.
    let y = c.serve_setup.ensures.printed written e in
    (y.0, serve-printed c.serve_setup.result c.in-Ok.setup _ _ _ y.0 c.in-Ok.ensures.setup y.1, y.2)

pub returns-in-Ok-clause-headline : goal.returns-in-Ok-clause-headline
returns-in-Ok-clause-headline g c = λ before e v stands clear. serves-own c.in-Ok.setup _ c.args.most (c.serve_setup.result ≡ Played) (Other c.serve_setup.result ≡ Other Played) before _
    (input-setup c.in-Ok.setup _ _ c.in-Ok.ensures.limits c.in-Ok.ensures.setup) (λ well. other-same _ _ well) (c.serve_setup.ensures.headline before e v stands clear)

pub returns-in-Err-clause-headline : goal.returns-in-Err-clause-headline
returns-in-Err-clause-headline g c = λ before e v stands clear. nothing-served c.law_headline.ensures.throughout _ c.args.most (c.write_serve_lines.result ≡ Other Played) before v _
    (config-unplayed c.in-Err.ending c.write_serve_lines.result _ c.in-Err.ensures.fault c.write_serve_lines.ensures.which) e stands

pub returns-in-Err-clause-polls : goal.returns-in-Err-clause-polls
returns-in-Err-clause-polls g c = (goes-without-poll c.args.most (g.S.Site.observed c.args.site.now) (g.S.Site.observed c.args.site.now) (goes-nowhere (g.S.Site.observed c.args.site.now))).adds

pub returns-in-Ok-clause-done : goal.returns-in-Ok-clause-done
returns-in-Ok-clause-done g c = λ played. c.serve_setup.ensures.done (other-same _ _ played)

pub returns-in-Err-clause-done : goal.returns-in-Err-clause-done
returns-in-Err-clause-done g c = λ played. absurd (config-unplayed c.in-Err.ending c.write_serve_lines.result _ c.in-Err.ensures.fault c.write_serve_lines.ensures.which played)
