-- Proof of the contract of `drill_lines`.
use Rattle.std.proofs.Common.{◌≡◌, ◌+◌, ◌-◌, ◌<◌, ◌++◌, ◌∙◌, ap, arith}
use Rattle.gw_script.specs.site.Drill.{drill_lines, drill_payments, payment_lines, payments_drawn}
use Rattle.sim_script.specs.Values.{lines_value}
use Rattle.sim_script.proofs.DrillLemmas.{lines_more}
use Rattle.sim_script.proofs.drill.drill_lines.Goals as goal

pub loop-number-preserved : goal.loop-number-preserved
loop-number-preserved c =
    let payments = c.args.payments in
    let number = c.loop-number.number in
    let old = lines_value c.loop-number.lines.items in
    let new = lines_value c.push_payment.new.lines.items in
    let less : number < payments = omega arith in
    let pushed = c.in_ok-push_payment.ensures ∙ ap (λ payment. old ++ payment_lines payment) c.payment_drawn-payment.ensures.value in
    record {
      within = omega (arith, less);
      so_far = ap (λ seed. new ++ drill_lines (payments_drawn (payments - (number + 1)) (number + 1 + 1) seed)) c.seed_after_payment-seed.ensures
          ∙ lines_more payments number c.loop-number.seed old new (drill_lines (drill_payments c.args.from payments)) less pushed c.loop-number.invariant.so_far;
    }
