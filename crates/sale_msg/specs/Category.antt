-- The categories of requests.
use Rattle.std.specs.Prelude.{ℕ, List, codes}
use Rattle.sale_values.specs.declared.request.SaleRequest.{SaleRequest}
use Rattle.sale_values.specs.declared.request.SaleRequest.TheVariants as requests
use Rattle.sale_msg.specs.declared.category.Category.{Category}
use Rattle.sale_msg.specs.declared.category.Category.TheVariants as categories

-- the text of a MessageCategory
abbrev pub category_name : Category → List ℕ
category_name categories.Login = codes "Login"
category_name categories.Logout = codes "Logout"
category_name categories.Payment = codes "Payment"
category_name categories.Reversal = codes "Reversal"
category_name categories.Abort = codes "Abort"
category_name categories.TransactionStatus = codes "TransactionStatus"
category_name categories.Reconciliation = codes "Reconciliation"
category_name categories.Display = codes "Display"
category_name categories.Print = codes "Print"
category_name categories.Diagnosis = codes "Diagnosis"

-- the category of a request
abbrev pub category_of : SaleRequest → Category
category_of requests.Login = categories.Login
category_of requests.Logout = categories.Logout
category_of (requests.Payment ask) = categories.Payment
category_of (requests.Reversal ask) = categories.Reversal
category_of (requests.Abort reference) = categories.Abort
category_of (requests.Status reference) = categories.TransactionStatus
category_of (requests.Reconciliation period) = categories.Reconciliation
category_of (requests.Display outputs) = categories.Display
category_of (requests.Print qualifier) = categories.Print
category_of requests.Diagnosis = categories.Diagnosis
