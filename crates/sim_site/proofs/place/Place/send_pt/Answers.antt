-- Proof of the contract of `send_pt`.
use Rattle.std.proofs.Common.{◌≡◌, ◌∙◌, ap}
use Rattle.gw_script.specs.site.Hazards.{sends_without, sent_of, takes_most}
use Rattle.gw_script.specs.site.Peers.{Peers, peers_after_bytes}
use Rattle.gw_script.specs.site.Playing.{Play, counted}
use Rattle.sim_site.specs.Peering.{peers_value}
use Rattle.sim_site.specs.Places.{place_value}
use Rattle.sim_site.proofs.PlaceLemmas.{pt_moves}
use Rattle.sim_site.proofs.place.Place.send_pt.Goals as goal

pub returns : goal.returns
returns c = λ o lines.
    let p : Play = place_value lines c.args.self.now in
    let pt = c.args.pt in
    let bytes = c.args.bytes.now in
    let most = c.takes_most-most.ensures ∙ ap (takes_most p.hazard.fail_pts) c.from-number.ensures in
    let heard : peers_value c.hear.new.self ≡ peers_after_bytes pt (sent_of (takes_most p.hazard.fail_pts pt) bytes) p.peers =
    c.in_ok-hear.ensures ∙ ap (λ sent. peers_after_bytes pt sent p.peers) (c.taken.ensures ∙ ap (λ m. sent_of m bytes) most) in
    c.count.ensures lines
    ∙ ap (λ s. counted (record p { hazard = record p.hazard { fail_pts = s }; peers = peers_value c.hear.new.self })) (c.drop_sends.ensures ∙ ap (sends_without p.hazard.fail_pts) c.from-number.ensures)
    ∙ ap (λ (q : Peers). counted (record p { hazard = record p.hazard { fail_pts = sends_without p.hazard.fail_pts pt }; peers = q })) heard
    ∙ pt_moves o p pt bytes
