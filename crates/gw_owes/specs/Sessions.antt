-- Who is logged out: a SaleID at a POIID, by the last Login or Logout of both in this run that succeeded.
use Rattle.std.specs.Prelude.{ℕ, nat_le, bytes_eq, not, Bool, true, false, ◌&&◌, if◌then◌else◌, List, [], ◌∷◌, ◌++◌, length, filter}
use Rattle.std.specs.List.{list_any}
use Rattle.sale_values.specs.declared.header.Header.{Header}
use Rattle.sale_values.specs.declared.request.SaleRequest.{SaleRequest}
use Rattle.sale_values.specs.declared.request.SaleRequest.TheVariants as requests
use Rattle.gw_owes.specs.declared.terminal.LoggedOut.{LoggedOut}
use Rattle.gw_owes.specs.Core.{Core}

-- the pair is this SaleID and this POIID
abbrev pub is_pair : List ℕ → List ℕ → LoggedOut → Bool
is_pair sale poi pair = bytes_eq pair.sale sale && bytes_eq pair.poi poi

-- it is among these
abbrev pub has_pair : List LoggedOut → List ℕ → List ℕ → Bool
has_pair pairs sale poi = list_any (is_pair sale poi) pairs

-- this SaleID is logged out at this POIID
abbrev pub is_logged_out : Core → List ℕ → List ℕ → Bool
is_logged_out core sale poi = has_pair core.logged_out sale poi

-- the pairs after a Logout of this SaleID at this POIID: it comes last, unless it is there already
abbrev pub logged_out_after : List LoggedOut → List ℕ → List ℕ → List LoggedOut
logged_out_after pairs sale poi = if has_pair pairs sale poi then pairs else pairs ++ record { sale = sale; poi = poi } ∷ []

-- the pairs after a Login of this SaleID at this POIID: the others
abbrev pub logged_in_after : List LoggedOut → List ℕ → List ℕ → List LoggedOut
logged_in_after pairs sale poi = filter (λ (pair : LoggedOut). not (is_pair sale poi pair)) pairs

-- a Login or a Logout
abbrev pub is_session : SaleRequest → Bool
is_session requests.Login = true
is_session requests.Logout = true
is_session (requests.Payment ask) = false
is_session (requests.Reversal ask) = false
is_session (requests.Abort reference) = false
is_session (requests.Status reference) = false
is_session (requests.Reconciliation period) = false
is_session (requests.Display outputs) = false
is_session (requests.Print qualifier) = false
is_session requests.Diagnosis = false

-- how many pairs may be logged out
abbrev pub most_logged_out : ℕ
most_logged_out = 1024

-- a Logout of a pair that isn't logged out, while as many are as may be
abbrev pub is_one_too_many : Core → Header → SaleRequest → Bool
is_one_too_many core header requests.Login = false
is_one_too_many core header requests.Logout = not (is_logged_out core header.sale header.poi) && nat_le most_logged_out (length core.logged_out)
is_one_too_many core header (requests.Payment ask) = false
is_one_too_many core header (requests.Reversal ask) = false
is_one_too_many core header (requests.Abort reference) = false
is_one_too_many core header (requests.Status reference) = false
is_one_too_many core header (requests.Reconciliation period) = false
is_one_too_many core header (requests.Display outputs) = false
is_one_too_many core header (requests.Print qualifier) = false
is_one_too_many core header requests.Diagnosis = false

-- the pairs after a Login or a Logout that succeeds; another request changes none
abbrev pub pairs_after : Core → Header → SaleRequest → List LoggedOut
pairs_after core header requests.Login = logged_in_after core.logged_out header.sale header.poi
pairs_after core header requests.Logout = logged_out_after core.logged_out header.sale header.poi
pairs_after core header (requests.Payment ask) = core.logged_out
pairs_after core header (requests.Reversal ask) = core.logged_out
pairs_after core header (requests.Abort reference) = core.logged_out
pairs_after core header (requests.Status reference) = core.logged_out
pairs_after core header (requests.Reconciliation period) = core.logged_out
pairs_after core header (requests.Display outputs) = core.logged_out
pairs_after core header (requests.Print qualifier) = core.logged_out
pairs_after core header requests.Diagnosis = core.logged_out
