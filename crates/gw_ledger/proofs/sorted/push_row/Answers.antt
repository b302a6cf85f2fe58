-- Proof of the contract of `push_row`.
use Rattle.std.proofs.Common.{◌<◌, length, sym, subst}
use Rattle.std.specs.Prelude.{IfSome}
use Rattle.std.proofs.lemmas.List.Elements.{All-push}
use Rattle.gw_ledger.specs.ShortRows.{HasPair, HavePairs}
use Rattle.gw_ledger.proofs.ShortLemmas.{rows_push}
use Rattle.gw_ledger.proofs.sorted.push_row.Goals as goal

pub short_row-requires-clause-pair : goal.short_row-requires-clause-pair
short_row-requires-clause-pair c = subst (λ own. IfSome own (λ key. HasPair c.args.pairs.now key.sale key.poi)) c.in-Some.is c.requires.pair

pub returns-clause-rows : goal.returns-clause-rows
returns-clause-rows c =
    rw (c.in_ok-push.ensures.items, c.in-Some.is) (rows_push c.args.pairs.now c.args.rows.now.items c.short_row.result c.in-Some.key c.args.slot c.short_row.ensures.row)

pub returns-clause-inside : goal.returns-clause-inside
returns-clause-inside c =
    subst (HavePairs c.args.pairs.now) (sym c.in_ok-push.ensures.items)
    (All-push (λ row. row.pair < length c.args.pairs.now) c.args.rows.now.items c.short_row.result c.requires.inside c.short_row.ensures.inside)
