-- The header of a payment, and what it asks, as examples have them.
use Rattle.std.specs.Prelude.{ℕ, List, Option, Some, None, codes}
use Rattle.sale_values.specs.declared.header.Header.{Header}
use Rattle.sale_values.specs.declared.names.Class.TheVariants as classes
use Rattle.sale_values.specs.declared.names.Kind.TheVariants as kinds
use Rattle.sale_values.specs.declared.request.SaleRequest.{SaleRequest}
use Rattle.sale_values.specs.declared.request.SaleRequest.TheVariants as requests

-- ---- what is asked

-- the header of a request of till `S`, by category, POIID and ServiceID
abbrev pub asked_at : List ℕ → List ℕ → List ℕ → Header
asked_at category poi service = record { class = classes.Service; category = category; kind = kinds.Request; service = Some service; device = None; sale = codes "S"; poi = poi }

-- the header of a Payment at terminal `A`
abbrev pub payment_header : List ℕ → Header
payment_header service = asked_at (codes "Payment") (codes "A") service

-- a payment of so many minor units in this currency, of this type
abbrev pub payment_in : List ℕ → Option (List ℕ) → ℕ → SaleRequest
payment_in currency payment_type amount = requests.Payment (record { transaction = codes "T"; stamp = codes "now"; currency = currency; amount = amount; kind = payment_type })

-- one in euros, of no type
abbrev pub euros : ℕ → SaleRequest
euros amount = payment_in (codes "EUR") None amount
