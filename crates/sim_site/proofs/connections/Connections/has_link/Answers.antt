-- Proof of the contract of `has_link`.
use Rattle.std.proofs.Common.{ℕ, ◌∙◌, sym, ap}
use Rattle.std.specs.Prelude.{Bool}
use Rattle.sim_site.proofs.connections.Connections.has_link.Goals as goal

pub returns : goal.returns
returns c = λ o held. c.contains.ensures ∙ sym (ap (λ (numbers : ℕ → Bool). numbers c.args.pt) held.links)
