-- A registration that is acknowledged and done with the same bytes is followed by the enquiry.
use Rattle.std.proofs.Common.{List, ◌∷◌, ◌++◌, refl, sym, ap, subst}
use Rattle.std.specs.Prelude.{slice_get}
use Rattle.gw_site.specs.Outside.{outside_of}
use Rattle.gw_site.specs.Sorts.{AreOfRound}
use Rattle.gw_site.specs.declared.turn.Turn.{Turn}
use Rattle.gw_site.specs.declared.turn.Turn.TheVariants.{Start, Polled, HeardPt}
use Rattle.gw_owes.specs.declared.terminal.Standing.TheVariants.{Registering}
use Rattle.gw_owes.specs.declared.terminal.Terminal.{Terminal}
use Rattle.gw_rules.specs.ChunkLaws.{DoneAtOnceIsEnquired}
use Rattle.gw_rules.specs.DialogueLaws.{EndsWith, IsDone, EndsAlong, IsEnquiredIn}
use Rattle.gw_rules.specs.LinkLaws.{EndsNone}
use Rattle.gw_rules.specs.SilenceLaws.{linked_turns}
use Rattle.gw_rules.specs.View.{View, after_turn}
use Rattle.gw_rules.proofs.DoneLemmas.{done-is-enquired}
use Rattle.gw_rules.proofs.KeptLemmas.{lasting-kept}
use Rattle.gw_rules.proofs.LinkedSilenceLemmas.{registers-unsaid}
use Rattle.gw_rules.proofs.PendingLemmas.{ends-own}
use Rattle.gw_rules.proofs.RegistrationLemmas.{registered}
use Rattle.gw_rules.proofs.SilenceLemmas.{found-kept}
use Rattle.gw_rules.proofs.SplitLemmas.{split-at}

pub done-at-once-is-enquired : DoneAtOnceIsEnquired
done-at-once-is-enquired before run first inside rest setup settings pt chunk new left now lawful quiet configured silent round lasts said ends =
    let u = registers-unsaid before run first (inside ++ Polled now ∷ rest) setup settings pt (HeardPt pt chunk) lawful quiet silent configured in
    let v : View = u.view in
    let terminal : Terminal = registered settings (outside_of (before ++ Start setup ∷ run)).moment in
    let log : List Turn = linked_turns before setup run pt first in
    let found = found-kept (slice_get v.scene.core.terminals pt) terminal (lasting-kept v.scene.core pt terminal refl u.kept.kept) in
    let own : Terminal = found.0 in
    let y = split-at (after_turn v (HeardPt pt chunk)) u.onward.moves inside (Polled now) rest u.onward.turns_are u.onward.lawful in
    let own_ends : EndsWith IsDone own (outside_of log).moment new = ends-own IsDone own (outside_of log).moment new (subst (λ t. EndsWith IsDone t (outside_of log).moment new) (sym found.2) ends) in
    let along : EndsAlong IsDone log v y.first pt own Registering = record {
      chunk = chunk;
      new = new;
      left = left;
      before = u.before;
      lawful = (u.allowed, y.lawful);
      round = subst AreOfRound (sym y.first_are) round;
      lasts = subst (EndsNone pt) (sym y.first_are) lasts;
      found = found.1;
      standing_is = ap (λ (t : Terminal). t.standing) found.2;
      said = said;
      ends = own_ends;
      may_poll = y.allowed;
    } in
    subst (λ p. IsEnquiredIn p pt inside) (ap (λ (t : Terminal). t.pt) found.2) (subst (IsEnquiredIn own.pt pt) y.first_are (done-is-enquired log v y.first pt own along))
