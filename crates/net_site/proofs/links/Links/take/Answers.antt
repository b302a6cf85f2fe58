-- Proof of the contract of `Links::take`.
use Rattle.std.proofs.Common.{◌∙◌, ap}
use Rattle.std.proofs.lemmas.List.{map-set}
use Rattle.std.specs.Prelude.{Bool, false, map, set}
use Rattle.net_site.specs.Link.{is_up}
use Rattle.net_site.specs.declared.links.Terminal.{Terminal}
use Rattle.net_site.proofs.links.Links.take.Goals as goal

pub returns : goal.returns
returns c =
    let up : Terminal → Bool = λ terminal. is_up terminal.link in
    let items = c.self.inside.terminals.items in
    map-set up items c.args.at _
    ∙ ap (λ link. set (map up items) c.args.at (is_up link)) c.replace.ensures.after
    ∙ ap (λ links. set links c.args.at false) c.self.view_is
