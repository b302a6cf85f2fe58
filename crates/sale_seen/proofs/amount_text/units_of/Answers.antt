-- Proof of the contract of `units_of`.
use Rattle.std.proofs.Common.{◌≡◌, ◌∙◌, ap, arith, sym, true≢false}
use Rattle.sale_values.specs.Money.{money_text}
use Rattle.sale_seen.proofs.MoneyLemmas.{amount_spells}
use Rattle.sale_seen.proofs.amount_text.units_of.Goals as goal

pub returns-in-None : goal.returns-in-None
returns-in-None c = λ units h. let spells = amount_spells c.args.text.now units h.1 h.0 in let low = h.1 in absurd (omega (arith, c.in-None.ensures, spells, low))

pub returns-else-is_written : goal.returns-else-is_written
returns-else-is_written c = λ units h.
    let spells = amount_spells c.args.text.now units h.1 h.0 in
    let same : units ≡ c.in-Some.units = sym spells ∙ sym c.in-Some.ensures in
    let is = c.is_written.ensures.1 (h.0 ∙ ap money_text same) in
    absurd (true≢false (sym is ∙ c.if-is_written.false))
