-- Proof of the contract of `device_id`.
use Rattle.std.proofs.Common.{sym, subst, ◌∙◌, lit<, List, ℕ}
use Rattle.gw_base.specs.Ident.{IsIdent}
use Rattle.gw_core.proofs.DeviceLemmas.{number-ident}
use Rattle.gw_core.proofs.device_requests.device_id.Goals as goal

pub known-requires : goal.known-requires
known-requires c = (lit< tt, subst (λ (text : List ℕ). IsIdent 10 text) (sym (c.as_bytes.ensures.value ∙ c.format.ensures.text)) (number-ident c.args.number c.requires))
