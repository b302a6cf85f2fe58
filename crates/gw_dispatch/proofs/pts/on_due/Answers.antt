-- Proof of the contract of `on_due`.
use Rattle.std.proofs.Common.{◌≡◌, ◌++◌, List, [], length, ◌∙◌, ap, append-nil}
use Rattle.std.proofs.lemmas.Int.{to_z-of_z}
use Rattle.gw_rules.proofs.TripleLemmas.{triple-before, triple-then}
use Rattle.gw_owes.specs.Items.{RoundItem, Due}
use Rattle.gw_dispatch.specs.MidRound.{AllHear, MidRound, each_terminal, overdue_items}
use Rattle.gw_dispatch.proofs.GrowthLemmas.{stands-then}
use Rattle.gw_dispatch.proofs.OverdueLemmas.{due-keys}
use Rattle.gw_dispatch.proofs.ReaderLemmas.{still-then}
use Rattle.gw_dispatch.proofs.RunStateLemmas.{stays-then}
use Rattle.gw_dispatch.proofs.pts.on_due.Goals as goal

pub returns-clause-triple : goal.returns-clause-triple
returns-clause-triple g c = λ setup kept polls keys.
    let links : List RoundItem = each_terminal 0 (length c.args.core.now.terminals) Due in
    let same : each_terminal 0 (length c.refuse_all_overdue.new.core.terminals) Due ++ [] ≡ links = append-nil _ ∙ ap (λ n. each_terminal 0 n Due) (c.refuse_all_overdue.ensures.count ∙ c.cut_late.ensures.count) in
    triple-then _ _ _ _ _ _ (simp (to_z-of_z, c.ranges.now) at (c.cut_late.ensures.triple setup kept polls (overdue_items keys ++ links)))
    (triple-then _ _ _ _ _ _ (triple-before _ _ (MidRound setup c.cut_late.new.core kept c.cut_late.new.tills.list.items polls c.args.now (AllHear c.args.readers.now) [] (overdue_items keys ++ links)) _ _ (λ v p. (keys, p))
    (simp (to_z-of_z, c.ranges.now) at (c.refuse_all_overdue.ensures.triple setup kept polls links (due-keys 0 (length c.args.core.now.terminals)))))
    (rw same at (simp (to_z-of_z, c.ranges.now) at (c.link_all_due.ensures.triple setup kept polls []))))

pub returns-clause-order : goal.returns-clause-order
returns-clause-order g c = stays-then c.args.core.now c.cut_late.new.core c.link_all_due.new.core c.cut_late.ensures.order (stays-then c.cut_late.new.core c.refuse_all_overdue.new.core c.link_all_due.new.core c.refuse_all_overdue.ensures.order c.link_all_due.ensures.order)

pub returns-clause-goes_on : goal.returns-clause-goes_on
returns-clause-goes_on g c = stands-then _ _ _ c.cut_late.ensures.goes_on (stands-then _ _ _ c.refuse_all_overdue.ensures.goes_on c.link_all_due.ensures.goes_on)

pub returns-clause-still : goal.returns-clause-still
returns-clause-still g c = still-then c.args.tills.now.list.items c.cut_late.new.tills.list.items c.link_all_due.new.tills.list.items c.cut_late.ensures.still
    (still-then c.cut_late.new.tills.list.items c.refuse_all_overdue.new.tills.list.items c.link_all_due.new.tills.list.items c.refuse_all_overdue.ensures.still c.link_all_due.ensures.still)
