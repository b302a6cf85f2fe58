-- The numbers of a command have at most their fields' digits.
use Rattle.std.proofs.Common.{◌≡◌, ◌^◌, ◌<◌, Option, Some, None, refl, arith, lit<}
use Rattle.gw_base.specs.Currency.{currency_number}
use Rattle.gw_base.specs.declared.currency.Currency.{Currency}
use Rattle.gw_base.specs.declared.currency.Currency.TheVariants.{Eur, Chf, Gbp, Usd, Dkk, Sek, Nok, Pln, Czk}
use Rattle.jrn_record.specs.Limits.{IsOutcome}
use Rattle.jrn_record.specs.declared.records.Deal.{Deal}
use Rattle.jrn_record.specs.declared.records.Deal.TheVariants.{Payment, Reversal}
use Rattle.jrn_record.specs.declared.records.Outcome.{Outcome as TheOutcome}
use Rattle.gw_ledger.specs.declared.entry.Entry.{Entry}
use Rattle.zvt_msg.specs.CommandGrammar.{HasCommandDigits}
use Rattle.xlate.specs.Ask.{CommandsHaveDigits, IsOriginalWithinLimits, ask_for, receipt_in, receipt_of}
use Rattle.xlate.proofs.LimitLemmas.{receipt_limited}

currency_fits : (currency : Currency) → currency_number currency < 100 ^ 2
currency_fits Eur = lit< tt
currency_fits Chf = lit< tt
currency_fits Gbp = lit< tt
currency_fits Usd = lit< tt
currency_fits Dkk = lit< tt
currency_fits Sek = lit< tt
currency_fits Nok = lit< tt
currency_fits Pln = lit< tt
currency_fits Czk = lit< tt

result_fits : (result : Option TheOutcome) → ((outcome : TheOutcome) → result ≡ Some outcome → IsOutcome outcome) → receipt_in result < 100 ^ 2
result_fits None within = lit< tt
result_fits (Some outcome) within =
    let is = within outcome refl in
    let limited = receipt_limited outcome.approved outcome.receipt is.receipt in
    omega (arith, limited)

receipt_fits : (original : Option Entry) → IsOriginalWithinLimits original → receipt_of original < 100 ^ 2
receipt_fits None within = lit< tt
receipt_fits (Some entry) within = result_fits entry.result within

pub commands_have_digits : CommandsHaveDigits
commands_have_digits intent original pt is within password = by_deal intent.what
  where
    by_deal : (what : Deal) → HasCommandDigits (ask_for what intent original pt.password)
    by_deal Payment = (omega (arith, is.amount), currency_fits intent.currency)
    by_deal Reversal = (password, receipt_fits original within)
