-- Proof of the contract of `top`.
use Rattle.std.proofs.Common.{◌∙◌, inl, refl, subst, sym}
use Rattle.gw_dispatch.specs.Growth.{AddsPolls, PollsToEnd}
use Rattle.gw_dispatch.proofs.GrowthLemmas.{goes-nowhere, goes-without-poll}
use Rattle.gw_run.specs.declared.ending.Ending.TheVariants.{Memory}
use Rattle.gw_run.proofs.DrillLemmas.{drill-complete, drill-ended-as, memory-drilled}
use Rattle.gw_run.proofs.ReplayLemmas.{status-after}
use Rattle.gw_run.proofs.TopLemmas.{drill-alone, drill-no-replay, drill-numbers, lines-ended, memory-complete, memory-served, memory-serves, memory-undone, order-there, replay-asked, replay-no-drill, replay-ended, serve-ended, serve-no-drill, serve-turns, serves-status, zero-served}
use Rattle.gw_run.proofs.WordsLemmas.{drill-few}
use Rattle.gw_run.proofs.program.top.Goals as goal

pub returns-in-Serve-clause-served : goal.returns-in-Serve-clause-served
returns-in-Serve-clause-served g c = λ turns asks. serve-ended c.status.result _ _ _ c.serve.result c.status.ensures c.serve.ensures.cause c.serve.ensures.printed

pub returns-in-Serve-clause-headline : goal.returns-in-Serve-clause-headline
returns-in-Serve-clause-headline g c = λ turns asks before e v stands clear.
    serves-status _ c.status.result _ turns c.serve.result before _ c.status.ensures (serve-turns c.args.words.now _ turns (order-there _ _ _ _ c.in-Ok-Some.order-is c.in-Ok-Some.field-0-is c.in-Ok-Some.ensures) asks) (c.serve.ensures.headline before e v stands clear)

pub returns-in-Serve-clause-polls : goal.returns-in-Serve-clause-polls
returns-in-Serve-clause-polls g c = λ turns asks before e.
    subst (λ most. AddsPolls most before (g.S.Site.observed c.serve.new.site)) (serve-turns c.args.words.now _ turns (order-there _ _ _ _ c.in-Ok-Some.order-is c.in-Ok-Some.field-0-is c.in-Ok-Some.ensures) asks) (c.serve.ensures.polls before e)

pub returns-in-Serve-clause-done : goal.returns-in-Serve-clause-done
returns-in-Serve-clause-done g c = λ turns asks zero before e.
    subst (λ most. PollsToEnd most before (g.S.Site.observed c.serve.new.site)) (serve-turns c.args.words.now _ turns (order-there _ _ _ _ c.in-Ok-Some.order-is c.in-Ok-Some.field-0-is c.in-Ok-Some.ensures) asks)
    (c.serve.ensures.done (zero-served c.serve.result (sym c.status.ensures ∙ zero)) before e)

pub returns-in-Replay-clause-ended : goal.returns-in-Replay-clause-ended
returns-in-Replay-clause-ended g c = λ asks. replay-ended c.status-in-Replay.result c.args.words.now _ _ c.replay.result c.status-in-Replay.ensures (replay-asked c.args.words.now _ (order-there _ _ _ _ c.in-Ok-Some.order-is c.in-Ok-Some.field-0-is c.in-Ok-Some.ensures) c.in-Replay.is) c.replay.ensures.cause c.replay.ensures.printed

pub returns-in-Replay-clause-log : goal.returns-in-Replay-clause-log
returns-in-Replay-clause-log g c = λ asks text log left is calm written. status-after c.replay.result c.status-in-Replay.result log c.status-in-Replay.ensures (c.replay.ensures.log text log left is calm written)

pub returns-in-Err-clause-ended : goal.returns-in-Err-clause-ended
returns-in-Err-clause-ended g c = λ asks. lines-ended c.status-in-Err.result c.args.words.now _ _ Memory c.write_last_lines-in-Err.result tt c.status-in-Err.ensures tt c.write_last_lines-in-Err.ensures.output_failed c.write_last_lines-in-Err.ensures.which c.write_last_lines-in-Err.ensures.observed

pub returns-in-Err-clause-served : goal.returns-in-Err-clause-served
returns-in-Err-clause-served g c = λ turns asks. memory-served c.status-in-Err.result _ _ _ c.write_last_lines-in-Err.result refl c.status-in-Err.ensures c.write_last_lines-in-Err.ensures.output_failed c.write_last_lines-in-Err.ensures.which c.write_last_lines-in-Err.ensures.observed

pub returns-in-Err-clause-headline : goal.returns-in-Err-clause-headline
returns-in-Err-clause-headline g c = λ turns asks before e v stands clear.
    memory-serves c.law_headline.ensures.throughout _ turns c.status-in-Err.result c.write_last_lines-in-Err.result before v _ c.status-in-Err.ensures c.write_last_lines-in-Err.ensures.which e stands

pub returns-in-Err-clause-polls : goal.returns-in-Err-clause-polls
returns-in-Err-clause-polls g c = λ turns asks. (goes-without-poll turns (g.S.Site.observed c.args.site.now) (g.S.Site.observed c.args.site.now) (goes-nowhere (g.S.Site.observed c.args.site.now))).adds

pub returns-in-Err-clause-done : goal.returns-in-Err-clause-done
returns-in-Err-clause-done g c = λ turns asks zero. absurd (memory-undone c.status-in-Err.result c.write_last_lines-in-Err.result c.status-in-Err.ensures c.write_last_lines-in-Err.ensures.which zero)

pub drill-requires : goal.drill-requires
drill-requires g c = drill-few c.args.words.now _ c.in-Drill.from c.in-Drill.payments (order-there _ _ _ _ c.in-Ok-Some.order-is c.in-Ok-Some.field-0-is c.in-Ok-Some.ensures) c.in-Drill.is

pub returns-in-Drill-clause-ended : goal.returns-in-Drill-clause-ended
returns-in-Drill-clause-ended g c = λ asks. drill-no-replay c.args.words.now _ c.in-Drill.from c.in-Drill.payments (order-there _ _ _ _ c.in-Ok-Some.order-is c.in-Ok-Some.field-0-is c.in-Ok-Some.ensures) c.in-Drill.is asks

pub returns-in-Drill-clause-complete : goal.returns-in-Drill-clause-complete
returns-in-Drill-clause-complete g c = λ asks. drill-no-replay c.args.words.now _ c.in-Drill.from c.in-Drill.payments (order-there _ _ _ _ c.in-Ok-Some.order-is c.in-Ok-Some.field-0-is c.in-Ok-Some.ensures) c.in-Drill.is (inl asks)

pub returns-in-Drill-clause-log : goal.returns-in-Drill-clause-log
returns-in-Drill-clause-log g c = λ asks. drill-no-replay c.args.words.now _ c.in-Drill.from c.in-Drill.payments (order-there _ _ _ _ c.in-Ok-Some.order-is c.in-Ok-Some.field-0-is c.in-Ok-Some.ensures) c.in-Drill.is (inl asks)

pub returns-in-Drill-clause-drilled : goal.returns-in-Drill-clause-drilled
returns-in-Drill-clause-drilled g c = λ from payments asks. drill-ended-as c.status-in-Drill.result c.in-Drill.from c.in-Drill.payments from payments _ c.drill.result
    (drill-numbers c.args.words.now _ c.in-Drill.from c.in-Drill.payments from payments (order-there _ _ _ _ c.in-Ok-Some.order-is c.in-Ok-Some.field-0-is c.in-Ok-Some.ensures) c.in-Drill.is asks) c.status-in-Drill.ensures c.drill.ensures.cause c.drill.ensures.printed

pub returns-in-Drill-clause-drill_complete : goal.returns-in-Drill-clause-drill_complete
returns-in-Drill-clause-drill_complete g c = λ from payments asks calm. drill-complete c.status-in-Drill.result c.in-Drill.from c.in-Drill.payments c.drill.result _ c.status-in-Drill.ensures c.drill.ensures.cause calm

pub returns-in-Drill-clause-served : goal.returns-in-Drill-clause-served
returns-in-Drill-clause-served g c = λ turns asks. drill-alone c.args.words.now _ c.in-Drill.from c.in-Drill.payments turns (order-there _ _ _ _ c.in-Ok-Some.order-is c.in-Ok-Some.field-0-is c.in-Ok-Some.ensures) c.in-Drill.is asks

pub returns-in-Drill-clause-polls : goal.returns-in-Drill-clause-polls
returns-in-Drill-clause-polls g c = λ turns asks. drill-alone c.args.words.now _ c.in-Drill.from c.in-Drill.payments turns (order-there _ _ _ _ c.in-Ok-Some.order-is c.in-Ok-Some.field-0-is c.in-Ok-Some.ensures) c.in-Drill.is asks

pub returns-in-Drill-clause-done : goal.returns-in-Drill-clause-done
returns-in-Drill-clause-done g c = λ turns asks. drill-alone c.args.words.now _ c.in-Drill.from c.in-Drill.payments turns (order-there _ _ _ _ c.in-Ok-Some.order-is c.in-Ok-Some.field-0-is c.in-Ok-Some.ensures) c.in-Drill.is asks

pub returns-in-Drill-clause-headline : goal.returns-in-Drill-clause-headline
returns-in-Drill-clause-headline g c = λ turns asks. drill-alone c.args.words.now _ c.in-Drill.from c.in-Drill.payments turns (order-there _ _ _ _ c.in-Ok-Some.order-is c.in-Ok-Some.field-0-is c.in-Ok-Some.ensures) c.in-Drill.is asks

pub returns-in-Drill-clause-serve_complete : goal.returns-in-Drill-clause-serve_complete
returns-in-Drill-clause-serve_complete g c = λ turns asks. drill-alone c.args.words.now _ c.in-Drill.from c.in-Drill.payments turns (order-there _ _ _ _ c.in-Ok-Some.order-is c.in-Ok-Some.field-0-is c.in-Ok-Some.ensures) c.in-Drill.is asks

pub returns-in-Serve-clause-drilled : goal.returns-in-Serve-clause-drilled
returns-in-Serve-clause-drilled g c = λ from payments asks. serve-no-drill c.args.words.now _ from payments (order-there _ _ _ _ c.in-Ok-Some.order-is c.in-Ok-Some.field-0-is c.in-Ok-Some.ensures) c.in-Serve.is asks

pub returns-in-Serve-clause-drill_complete : goal.returns-in-Serve-clause-drill_complete
returns-in-Serve-clause-drill_complete g c = λ from payments asks. serve-no-drill c.args.words.now _ from payments (order-there _ _ _ _ c.in-Ok-Some.order-is c.in-Ok-Some.field-0-is c.in-Ok-Some.ensures) c.in-Serve.is asks

pub returns-in-Replay-clause-drilled : goal.returns-in-Replay-clause-drilled
returns-in-Replay-clause-drilled g c = λ from payments asks. replay-no-drill c.args.words.now _ from payments (order-there _ _ _ _ c.in-Ok-Some.order-is c.in-Ok-Some.field-0-is c.in-Ok-Some.ensures) c.in-Replay.is asks

pub returns-in-Replay-clause-drill_complete : goal.returns-in-Replay-clause-drill_complete
returns-in-Replay-clause-drill_complete g c = λ from payments asks. replay-no-drill c.args.words.now _ from payments (order-there _ _ _ _ c.in-Ok-Some.order-is c.in-Ok-Some.field-0-is c.in-Ok-Some.ensures) c.in-Replay.is asks

pub returns-in-Err-clause-drilled : goal.returns-in-Err-clause-drilled
returns-in-Err-clause-drilled g c = λ from payments asks. memory-drilled c.status-in-Err.result from payments _ c.write_last_lines-in-Err.result c.status-in-Err.ensures c.write_last_lines-in-Err.ensures.output_failed c.write_last_lines-in-Err.ensures.which c.write_last_lines-in-Err.ensures.observed

pub returns-in-Err-clause-drill_complete : goal.returns-in-Err-clause-drill_complete
returns-in-Err-clause-drill_complete g c = λ from payments asks calm. memory-complete c.status-in-Err.result c.write_last_lines-in-Err.result _ c.status-in-Err.ensures c.write_last_lines-in-Err.ensures.output_failed c.write_last_lines-in-Err.ensures.which calm
