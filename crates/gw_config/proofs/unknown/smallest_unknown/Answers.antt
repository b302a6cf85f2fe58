-- Proof of the contract of `smallest_unknown`.
use Rattle.std.proofs.Common.{sym, ◌∙◌}
use Rattle.std.specs.Map.Iter.{deref}
use Rattle.std.specs.Option.{option_copied}
use Rattle.std.proofs.lemmas.Map.Iter.{rest_more}
use Rattle.gw_config.proofs.NameLemmas.{smallest_at_start, smallest_past_known, smallest_past_unknown}
use Rattle.gw_config.proofs.unknown.smallest_unknown.Goals as goal

pub loop-key-init : goal.loop-key-init
loop-key-init c =
    smallest_at_start c.args.known.now (option_copied c.args.least) c.into_iter-key-iterator.result c.args.table.now.entries
    (c.into_iter-key-iterator.ensures.into_iter_gives ∙ c.keys-key-items.ensures.rest)

pub loop-key-preserved-then-not-is_known : goal.loop-key-preserved-then-not-is_known
loop-key-preserved-then-not-is_known c =
    let first = rest_more deref c.loop-key.key-iterator c.next.new.self c.next.result c.in-Some.key c.in-Some.is c.next.ensures.steps in
    smallest_past_unknown c.args.known.now (option_copied c.loop-key.least) (option_copied c.smaller-least.result) c.loop-key.key-iterator c.in-Some.key.now c.next.new.self
    (option_copied c.args.least) _ first
    (rw (← c.as_str.ensures.value) (sym c.is_known.ensures ∙ c.if-not-is_known.true))
    (rw (← c.as_str-then-not-is_known.ensures.value) c.smaller-least.ensures)
    c.loop-key.invariant

pub loop-key-preserved : goal.loop-key-preserved
loop-key-preserved c =
    let first = rest_more deref c.loop-key.key-iterator c.next.new.self c.next.result c.in-Some.key c.in-Some.is c.next.ensures.steps in
    smallest_past_known c.args.known.now (option_copied c.loop-key.least) c.loop-key.key-iterator c.in-Some.key.now c.next.new.self
    (option_copied c.args.least) _ first
    (rw (← c.as_str.ensures.value) (sym c.is_known.ensures ∙ c.if-not-is_known.false))
    c.loop-key.invariant
