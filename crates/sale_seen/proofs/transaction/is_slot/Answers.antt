-- Proof of the contract of `is_slot`.
use Rattle.std.proofs.Common.{◌≡◌, ◌^◌, ◌<◌, ◌∙◌, ap, arith, decimal, sym, true≢false}
use Rattle.sale_seen.proofs.TransactionLemmas.{slot_spells}
use Rattle.sale_seen.proofs.transaction.is_slot.Goals as goal

pub returns-in-None : goal.returns-in-None
returns-in-None c = (
  λ f. absurd (true≢false (sym f)),
  λ is.
      let small = is.1 in
      let spells = slot_spells c.args.text.now is.0 small is.2 in
      absurd (omega (arith, c.in-None.ensures, spells, small)),
)

pub returns-in-Err : goal.returns-in-Err
returns-in-Err c = (
  λ f. absurd (true≢false (sym f)),
  λ is.
      let small = is.1 in
      let spells = slot_spells c.args.text.now is.0 small is.2 in
      absurd (omega (arith, c.in-Some.ensures, c.in-Err.ensures, spells, small)),
)

pub returns-in-Ok : goal.returns-in-Ok
returns-in-Ok c = (
  λ t.
      let written = c.is_decimal.ensures.0 t in
      (c.in-Ok.slot, written.1, written.0),
  λ is.
      let small = is.1 in
      let spells = slot_spells c.args.text.now is.0 small is.2 in
      let same : c.in-Ok.slot ≡ is.0 = omega (arith, c.in-Ok.ensures, c.in-Some.ensures, spells) in
      c.is_decimal.ensures.1 (is.2 ∙ ap decimal (sym same), omega (arith, same, small)),
)
