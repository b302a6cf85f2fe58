-- Proof of the contract of `drill_plays`.
use Rattle.std.proofs.Common.{◌≡◌, ◌+◌, ◌-◌, ◌<◌, ◌∷◌, ◌++◌, [], ◌∙◌, ap, arith}
use Rattle.gw_script.specs.site.Drill.{drill_payments, drill_plays, payments_drawn}
use Rattle.sim_script.proofs.DrillLemmas.{plays_more}
use Rattle.sim_script.proofs.drill.drill_plays.Goals as goal

pub loop-number-preserved : goal.loop-number-preserved
loop-number-preserved c =
    let payments = c.args.payments in
    let pt = c.args.pt in
    let number = c.loop-number.number in
    let old = c.loop-number.plays.items in
    let new = c.push_play.new.plays.items in
    let less : number < payments = omega arith in
    let pushed = c.in_ok-push_play.ensures ∙ ap (λ payment. old ++ drill_plays pt (payment ∷ [])) c.payment_drawn-payment.ensures.value in
    record {
      within = omega (arith, less);
      so_far = ap (λ seed. new ++ drill_plays pt (payments_drawn (payments - (number + 1)) (number + 1 + 1) seed)) c.seed_after_payment-seed.ensures
          ∙ plays_more pt payments number c.loop-number.seed old new (drill_plays pt (drill_payments c.args.from payments)) less pushed c.loop-number.invariant.so_far;
    }
