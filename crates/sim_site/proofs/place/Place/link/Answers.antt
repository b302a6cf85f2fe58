-- Proof of the contract of `link`.
use Rattle.std.proofs.Common.{◌≡◌, ◌∙◌, ap}
use Rattle.gw_script.specs.site.Hazards.{is_failing, links_without}
use Rattle.gw_script.specs.site.Peers.{Peers}
use Rattle.gw_script.specs.site.Playing.{Play, counted}
use Rattle.sim_site.specs.Peering.{peers_by_link, peers_value}
use Rattle.sim_site.specs.Places.{place_value}
use Rattle.sim_site.proofs.PlaceLemmas.{link_moves}
use Rattle.sim_site.proofs.place.Place.link.Goals as goal

pub returns-clause-moves : goal.returns-clause-moves
returns-clause-moves c = λ o lines.
    let p : Play = place_value lines c.args.self.now in
    let pt = c.args.pt in
    let linked : peers_value c.link_unless.new.self ≡ peers_by_link (is_failing p.hazard.fail_links pt) pt p.peers =
    c.link_unless.ensures ∙ ap (λ fails. peers_by_link fails pt p.peers) c.is_failing-fails.ensures in
    c.count.ensures lines
    ∙ ap (λ s. counted (record p { hazard = record p.hazard { fail_links = s }; peers = peers_value c.link_unless.new.self })) c.drop_links.ensures
    ∙ ap (λ (q : Peers). counted (record p { hazard = record p.hazard { fail_links = links_without p.hazard.fail_links pt }; peers = q })) linked
    ∙ link_moves o p pt
