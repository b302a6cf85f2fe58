-- The currencies of this profile, each with two decimals: ISO 4217's letters and numbers.
use Rattle.std.specs.Prelude.{ℕ, List, codes}
use Rattle.gw_base.specs.declared.currency.Currency.{Currency}
use Rattle.gw_base.specs.declared.currency.Currency.TheVariants.{Eur, Chf, Gbp, Usd, Dkk, Sek, Nok, Pln, Czk}

-- the three letters
abbrev pub currency_letters : Currency → List ℕ
currency_letters Eur = codes "EUR"
currency_letters Chf = codes "CHF"
currency_letters Gbp = codes "GBP"
currency_letters Usd = codes "USD"
currency_letters Dkk = codes "DKK"
currency_letters Sek = codes "SEK"
currency_letters Nok = codes "NOK"
currency_letters Pln = codes "PLN"
currency_letters Czk = codes "CZK"

-- the three digits, as a number
abbrev pub currency_number : Currency → ℕ
currency_number Eur = 978
currency_number Chf = 756
currency_number Gbp = 826
currency_number Usd = 840
currency_number Dkk = 208
currency_number Sek = 752
currency_number Nok = 578
currency_number Pln = 985
currency_number Czk = 203
