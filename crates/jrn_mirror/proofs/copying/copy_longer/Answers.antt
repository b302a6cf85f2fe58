-- Proof of the contract of `copy_longer`.
use Rattle.jrn_mirror.proofs.CopyPairLemmas.{longer_le, same-file}
use Rattle.jrn_mirror.proofs.copying.copy_longer.Goals as goal

pub returns-in-First-clause-goes : goal.returns-in-First-clause-goes
returns-in-First-clause-goes g c = rw c.in-First.is at c.copy_file-source_left.ensures.goes

pub returns-in-First-clause-copied : goal.returns-in-First-clause-copied
returns-in-First-clause-copied g c = λ s t. same-file (g.P.Pair.observed c.copy_file-source_left.new.pair) c.longer_of-copying.result (longer_le c.longer_of-copying.result c.longer_of-copying.ensures.longer) (c.copy_file-source_left.ensures.copied s t)

pub returns-in-Second-clause-goes : goal.returns-in-Second-clause-goes
returns-in-Second-clause-goes g c = rw c.in-Second.is at c.copy_file-source_left.ensures.goes

pub returns-in-Second-clause-copied : goal.returns-in-Second-clause-copied
returns-in-Second-clause-copied g c = λ s t. same-file (g.P.Pair.observed c.copy_file-source_left.new.pair) c.longer_of-copying.result (longer_le c.longer_of-copying.result c.longer_of-copying.ensures.longer) (c.copy_file-source_left.ensures.copied t s)
