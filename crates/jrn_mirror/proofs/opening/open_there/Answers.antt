-- Proof of the contract of `open_there`.
use Rattle.std.proofs.Common.{◌≡◌, [], ◌∷◌}
use Rattle.std.specs.Prelude.{is_some}
use Rattle.gw_site.specs.declared.turn.Turn.TheVariants.{Start}
use Rattle.jrn_mirror.specs.declared.turn.Turn2.TheVariants.{Line}
use Rattle.jrn_mirror.specs.PairObserved.{PairGrows}
use Rattle.jrn_mirror.specs.inner.Opening.{IsUnderWay}
use Rattle.jrn_mirror.proofs.BeforeLemmas.{lengths-kept}
use Rattle.jrn_mirror.proofs.OpensLemmas.{opens-asked}
use Rattle.jrn_mirror.proofs.opening.open_there.Goals as goal

pub copy_apart-first-requires : goal.copy_apart-first-requires
copy_apart-first-requires g c = lengths-kept (g.P.Pair.observed c.open.new.self) (g.P.Pair.observed c.lengths_there-first_size.new.pair) c.args.first c.args.second c.lengths_there-first_size.result.0 c.lengths_there-first_size.result.1 c.lengths_there-first_size.ensures.turns c.lengths_there-first_size.ensures.stay c.lengths_there-first_size.ensures.lengths

pub sync_left-requires-clause-gone : goal.sync_left-requires-clause-gone
sync_left-requires-clause-gone g c =
    let opened : PairGrows (g.P.Pair.observed c.args.pair.now) (g.P.Pair.observed c.open.new.self) (λ turns. turns ≡ Line (Start c.args.setup.now) ∷ []) = rw c.in-Ok.is at c.open.ensures.turns in
    let asked : IsUnderWay (g.P.Pair.observed c.args.pair.now) (g.P.Pair.observed c.lengths_there-first_size.new.pair) c.args.setup.now (is_some c.lengths_there-first_size.result.0) (is_some c.lengths_there-first_size.result.1) =
    opens-asked (g.P.Pair.observed c.args.pair.now) (g.P.Pair.observed c.open.new.self) (g.P.Pair.observed c.lengths_there-first_size.new.pair) c.args.setup.now c.args.first c.args.second c.lengths_there-first_size.result.0 c.lengths_there-first_size.result.1 c.requires.can opened
    c.lengths_there-first_size.ensures.turns c.lengths_there-first_size.ensures.lengths c.lengths_there-first_size.ensures.stay c.lengths_there-first_size.ensures.gone in
    (c.copy_apart-first.ensures.goes (g.P.Pair.observed c.args.pair.now) c.args.setup.now asked).gone

pub returns-clause-opened : goal.returns-clause-opened
returns-clause-opened g c =
    let opened : PairGrows (g.P.Pair.observed c.args.pair.now) (g.P.Pair.observed c.open.new.self) (λ turns. turns ≡ Line (Start c.args.setup.now) ∷ []) = rw c.in-Ok.is at c.open.ensures.turns in
    let asked : IsUnderWay (g.P.Pair.observed c.args.pair.now) (g.P.Pair.observed c.lengths_there-first_size.new.pair) c.args.setup.now (is_some c.lengths_there-first_size.result.0) (is_some c.lengths_there-first_size.result.1) =
    opens-asked (g.P.Pair.observed c.args.pair.now) (g.P.Pair.observed c.open.new.self) (g.P.Pair.observed c.lengths_there-first_size.new.pair) c.args.setup.now c.args.first c.args.second c.lengths_there-first_size.result.0 c.lengths_there-first_size.result.1 c.requires.can opened
    c.lengths_there-first_size.ensures.turns c.lengths_there-first_size.ensures.lengths c.lengths_there-first_size.ensures.stay c.lengths_there-first_size.ensures.gone in
    c.sync_left.ensures (g.P.Pair.observed c.args.pair.now) c.args.setup.now (c.copy_apart-first.ensures.goes (g.P.Pair.observed c.args.pair.now) c.args.setup.now asked)
