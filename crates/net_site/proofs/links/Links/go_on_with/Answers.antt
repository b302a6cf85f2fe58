-- Proof of the contract of `Links::go_on_with`.
use Rattle.std.proofs.Common.{◌∙◌, ap}
use Rattle.std.proofs.Math.Seq.{map-set_same}
use Rattle.net_site.specs.Link.{is_up}
use Rattle.net_site.specs.declared.links.Terminal.{Terminal}
use Rattle.net_site.proofs.links.Links.go_on_with.Goals as goal

pub returns : goal.returns
returns g c = map-set_same (λ (terminal : Terminal). is_up terminal.link) c.self.inside.terminals.items c.args.at c.go_on.new.self c.index_mut.result.now (c.go_on.ensures ∙ ap (λ (terminal : Terminal). is_up terminal.link) c.index_mut.ensures.value) ∙ c.self.view_is
