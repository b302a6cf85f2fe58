-- Each command that a request of a till has a terminal sent is one more that is awaited.
use Rattle.std.proofs.Common.{◌≡◌, ℕ, refl, sym, ◌∙◌, ap}
use Rattle.std.specs.Prelude.{Some}
use Rattle.jrn_record.specs.declared.records.How.TheVariants as hows
use Rattle.gw_owes.specs.declared.terminal.Terminal.{Terminal}
use Rattle.gw_owes.specs.Awaited.{one_more_awaited, many_more}
use Rattle.gw_owes.specs.Reconciliations.{settled_of, reply_to_settled}
use Rattle.gw_owes.specs.Row.{Known}
use Rattle.gw_owes.specs.TerminalLaws.{Awaits, EachServedCounts, EachNextCounts}
use Rattle.gw_owes.specs.Terminals.{terminal_at}
use Rattle.gw_owes.proofs.NextLemmas.{each-next}
use Rattle.gw_owes.proofs.PaymentLemmas.{each-served}
use Rattle.gw_owes.proofs.RowLemmas.{reply-commands}
use Rattle.gw_owes.proofs.SetLemmas.{new-is-there, same-some}

-- the terminal that was found is the one that the row changes
same-awaited : (known : Known) (number : ℕ) (one other : Terminal) → terminal_at known number ≡ Some one → terminal_at known number ≡ Some other → one.awaited ≡ other.awaited
same-awaited known number one other first second = ap (λ (t : Terminal). t.awaited) (same-some one other (sym first ∙ second))

pub each-served-counts : EachServedCounts
each-served-counts known number till header request terminal found =
    each-served (Awaits number terminal.awaited) known number till header request
    (record {
      none = record { terminal = terminal; found = found; count = refl };
      begins = λ one last asking at. record { terminal = _; found = new-is-there known.core.terminals number one _ at.found; count = ap one_more_awaited (same-awaited known number one terminal at.found found) };
      sent = λ one talk at may. record { terminal = _; found = new-is-there known.core.terminals number one _ at.found; count = ap one_more_awaited (same-awaited known number one terminal at.found found) };
      wished = λ one talk at may. record { terminal = _; found = new-is-there known.core.terminals number one _ at.found; count = same-awaited known number one terminal at.found found };
      session = λ success. record { terminal = terminal; found = found; count = refl };
      settles = λ one at. record {
        terminal = terminal;
        found = found;
        count = ap (λ n. many_more n terminal.awaited) (sym (reply-commands (Some till) (reply_to_settled known.kept (settled_of hows.Sale header one.pt.currency known.moment))));
      };
      day = λ one last at. record { terminal = _; found = new-is-there known.core.terminals number one _ at.found; count = ap one_more_awaited (same-awaited known number one terminal at.found found) };
      displays = λ one last outputs command at. record { terminal = _; found = new-is-there known.core.terminals number one _ at.found; count = ap one_more_awaited (same-awaited known number one terminal at.found found) };
    })

-- and so is that of what has waited
pub each-next-counts : EachNextCounts
each-next-counts known number terminal found =
    each-next (Awaits number terminal.awaited) known number
    (record {
      none = record { terminal = terminal; found = found; count = refl };
      refused = λ one last wait condition first is. record { terminal = terminal; found = found; count = refl };
      begins = λ one last wait asking at. record {
        terminal = _;
        found = new-is-there known.core.terminals number one _ at.first.found;
        count = ap one_more_awaited (same-awaited known number one terminal at.first.found found);
      };
      day = λ one last wait at. record {
        terminal = _;
        found = new-is-there known.core.terminals number one _ at.first.found;
        count = ap one_more_awaited (same-awaited known number one terminal at.first.found found);
      };
      left = λ one last wait first. record { terminal = terminal; found = found; count = refl };
    })
