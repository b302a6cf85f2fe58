-- Proof of the contract of `print`.
use Rattle.std.proofs.Common.{◌∙◌, ap}
use Rattle.gw_owes.specs.Reply.{PrintRequest, reply_value_tree}
use Rattle.gw_core.specs.IsRow.{lines_printed}
use Rattle.gw_dispatch.proofs.PrintLemmas.{bytes_of_texts}
use Rattle.gw_dispatch.proofs.printing.print.Goals as goal

pub returns-clause-triple : goal.returns-clause-triple
returns-clause-triple g c = λ setup kept polls now heard items.
    c.deliver.ensures.triple (PrintRequest c.args.header.now (lines_printed c.args.printed)) (ap (λ l. reply_value_tree (PrintRequest c.args.header.now l)) (ap bytes_of_texts c.as_slice.ensures.value ∙ c.add_printed.ensures)) setup kept polls now heard items
