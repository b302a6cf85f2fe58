-- Proof of the contract of `Counts::of`.
use Rattle.std.proofs.Common.{◌≡◌, ◌+◌, ◌++◌, ℕ, length, ap, ap₂, arith, subst, sym, ◌∙◌}
use Rattle.gw_drill.specs.Counts.{IsCountable, approved_in, units_of}
use Rattle.gw_drill.specs.declared.counts.Counts.{Counts}
use Rattle.gw_drill.proofs.CountLemmas.{counts-add-up, units-add-up}
use Rattle.gw_drill.proofs.counts.Counts.of.Goals as goal

pub overflow_add-result : goal.overflow_add-result
overflow_add-result c =
    let one = (subst IsCountable (sym c.as_slice-first.ensures) c.requires.first).few in
    let other = (subst IsCountable (sym c.as_slice-second.ensures) c.requires.second).few in
    omega (arith, one, other, c.approved_count.ensures.bound, c.approved_count-2.ensures.bound)

pub approved_units-requires : goal.approved_units-requires
approved_units-requires c = subst IsCountable (sym c.as_slice-first.ensures) c.requires.first

pub approved_units-requires-2 : goal.approved_units-requires-2
approved_units-requires-2 c = subst IsCountable (sym c.as_slice-second.ensures) c.requires.second

pub overflow_add-result-2 : goal.overflow_add-result-2
overflow_add-result-2 c =
    let one = (subst IsCountable (sym c.as_slice-first.ensures) c.requires.first).few in
    let other = (subst IsCountable (sym c.as_slice-second.ensures) c.requires.second).few in
    omega (arith, one, other, c.approved_units.ensures.bound, c.approved_units-2.ensures.bound)

pub returns : goal.returns
returns c =
    let entries : c.approved_count.result + c.approved_count-2.result ≡ length (approved_in (c.args.first.now ++ c.args.second.now)) =
    ap₂ (λ (a b : ℕ). a + b) (c.approved_count.ensures.count ∙ ap (λ book. length (approved_in book)) c.as_slice-first.ensures) (c.approved_count-2.ensures.count ∙ ap (λ book. length (approved_in book)) c.as_slice-second.ensures)
    ∙ sym (counts-add-up c.args.first.now c.args.second.now) in
    let units : c.approved_units.result + c.approved_units-2.result ≡ units_of (approved_in (c.args.first.now ++ c.args.second.now)) =
    ap₂ (λ (a b : ℕ). a + b) (c.approved_units.ensures.units ∙ ap (λ book. units_of (approved_in book)) c.as_slice-first.ensures) (c.approved_units-2.ensures.units ∙ ap (λ book. units_of (approved_in book)) c.as_slice-second.ensures)
    ∙ sym (units-add-up c.args.first.now c.args.second.now) in
    ap₂ (λ (n m : ℕ). let counted : Counts = record { tally = c.args.tally; entries = n; units = m } in counted) entries units
