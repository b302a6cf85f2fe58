-- Proof of the contract of `drop_coming`.
use Rattle.std.proofs.Common.{rules, ◌∙◌, ap}
use Rattle.std.specs.Prelude.{not}
use Rattle.std.proofs.lemmas.Fn.{filter_same}
use Rattle.gw_script.specs.site.Peers.{is_event_of}
use Rattle.sim_script.specs.Values.{script_event_value}
use Rattle.sim_site.specs.Peering.{coming_value}
use Rattle.sim_site.proofs.PeerLemmas.{filtered_values}
use Rattle.sim_site.proofs.peers.drop_coming.Goals as goal

pub returns : goal.returns
returns c =
    let e = filter_same _ (λ event. not (is_event_of c.args.pt (script_event_value event))) _ (λ x b f' k. search rules) _ _ c.retain.ensures.filtered in
    ap coming_value e ∙ filtered_values c.args.pt c.args.coming.now.items
