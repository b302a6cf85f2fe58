-- What is given where the steps of a request refuse it.
use Rattle.std.proofs.Common.{◌≡◌, ℕ, [], refl}
use Rattle.std.specs.Prelude.{Option, Some, None}
use Rattle.gw_base.specs.declared.condition.Condition.{Condition}
use Rattle.sale_values.specs.declared.header.Header.{Header}
use Rattle.sale_values.specs.declared.request.SaleRequest.{SaleRequest}
use Rattle.gw_owes.specs.Diagnosis.{NamedTerminal}
use Rattle.gw_owes.specs.Steps.{Fails, items_of_result}

-- nothing begins
pub none-begins : (till : ℕ) (header : Header) (request : SaleRequest) (named : Option NamedTerminal) (condition : Condition) → items_of_result till header request named (Fails condition) ≡ []
none-begins till header request None condition = refl
none-begins till header request (Some one) condition = refl
