-- A Display that was read has at most 16 outputs.
use Rattle.std.proofs.Common.{◌≡◌, ◌≤◌, List, length, refl, arith}
use Rattle.std.proofs.lemmas.Slice.Zip.{AllZip-long}
use Rattle.std.specs.Prelude.{Option, Some, None, MatchOption, codes}
use Rattle.json_text.specs.Tree.{Tree, array_of}
use Rattle.sale_values.specs.declared.header.Header.{Header}
use Rattle.sale_values.specs.declared.request.Incoming.TheVariants.{Request}
use Rattle.sale_values.specs.declared.request.SaleRequest.{SaleRequest}
use Rattle.sale_values.specs.declared.request.SaleRequest.TheVariants.{Login, Logout, Payment, Reversal, Abort, Status, Reconciliation, Display, Print, Diagnosis}
use Rattle.sale_msg.specs.Form.{IsOutputList}
use Rattle.sale_msg.specs.Flaw.{IsMet}
use Rattle.sale_msg.specs.Path.{tree_at}
use Rattle.sale_msg.specs.Grammar.{IsTillMessage, IsOutput, outputs_in, listed}
use Rattle.gw_core.specs.ReplyOf.{HasFewOutputs}

listed-few : (tree : Tree) → IsOutputList tree → length (listed tree) ≤ 16
listed-few tree h = by_list (array_of tree) refl
  where
    by_list : (list : Option (List Tree)) → array_of tree ≡ list → length (listed tree) ≤ 16
    by_list None e = rw e (omega arith)
    by_list (Some items) e = rw e ((rw e at h).1)

few : (value : Option Tree) → MatchOption value ⊥ IsOutputList → length (outputs_in value) ≤ 16
few None h = absurd h
few (Some tree) h = listed-few tree h

pub few-outputs : (tree : Tree) (header : Header) (request : SaleRequest) → IsTillMessage tree (Request header request) → HasFewOutputs request
unfolding IsMet
few-outputs tree header Login h = tt
few-outputs tree header Logout h = tt
few-outputs tree header (Payment ask) h = tt
few-outputs tree header (Reversal ask) h = tt
few-outputs tree header (Abort reference) h = tt
few-outputs tree header (Status reference) h = tt
few-outputs tree header (Reconciliation period) h = tt
few-outputs tree header (Display outputs) (body, h) =
    let k = few (tree_at (codes "DisplayRequest.DisplayOutput") body) h.members.members.1.0 in
    let e = AllZip-long IsOutput _ outputs h.asks in
    omega (arith, e, k)
few-outputs tree header (Print qualifier) h = tt
few-outputs tree header Diagnosis h = tt
