-- Proof of the contract of `take_part`.
use Rattle.std.proofs.Common.{take, drop, sym, ◌∙◌, ap, ◌++◌, inl, take-append-drop}
use Rattle.std.proofs.lemmas.List.{take_min}
use Rattle.gw_site.proofs.memory.take_part.Goals as goal

pub returns-in-Ok-clause-prefix : goal.returns-in-Ok-clause-prefix
returns-in-Ok-clause-prefix c = (take c.min-count.result c.args.bytes.now, (drop c.min-count.result c.args.bytes.now, sym (take-append-drop c.min-count.result c.args.bytes.now)), c.in-Ok.ensures.ok)

pub returns-in-Ok-clause-most : goal.returns-in-Ok-clause-most
returns-in-Ok-clause-most c = inl (c.in-Ok.ensures.ok ∙ ap (λ n. c.args.stored.now ++ take n c.args.bytes.now) c.min-count.ensures ∙ ap (λ part. c.args.stored.now ++ part) (take_min c.args.most c.args.bytes.now))
