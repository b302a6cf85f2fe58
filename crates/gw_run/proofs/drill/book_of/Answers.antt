-- Proof of the contract of `book_of`.
use Rattle.std.proofs.Common.{◌∙◌, ap, sym}
use Rattle.std.specs.Option.{option_copied}
use Rattle.std.specs.Prelude.{is_some}
use Rattle.gw_run.proofs.DrillSiteLemmas.{some-book}
use Rattle.gw_run.proofs.drill.book_of.Goals as goal

pub unwrap-requires : goal.unwrap-requires
unwrap-requires c = some-book c.book.result (ap is_some c.book.ensures ∙ c.requires)

pub returns : goal.returns
returns c = sym (ap option_copied c.unwrap.ensures) ∙ c.book.ensures
