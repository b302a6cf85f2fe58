-- Proof of the contract of `Links::put`.
use Rattle.std.proofs.Common.{◌∙◌, ap}
use Rattle.std.proofs.lemmas.List.{map-set}
use Rattle.std.specs.Prelude.{Bool, set}
use Rattle.net_site.specs.Link.{is_up}
use Rattle.net_site.specs.declared.links.Terminal.{Terminal}
use Rattle.net_site.proofs.links.Links.put.Goals as goal

pub returns : goal.returns
returns c =
    let up : Terminal → Bool = λ terminal. is_up terminal.link in
    map-set up c.self.inside.terminals.items c.args.at _ ∙ ap (λ links. set links c.args.at (is_up c.args.link)) c.self.view_is
