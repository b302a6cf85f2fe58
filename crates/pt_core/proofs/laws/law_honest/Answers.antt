-- The book with its places is honest for the connection, from the laws of the crates below.
use Rattle.std.proofs.Common.{[], ap}
use Rattle.std.proofs.lemmas.List.Elements.{All-from_recursion}
use Rattle.pt_core.specs.Serving.{TerminalValue}
use Rattle.pt_core.specs.Exchange.{HasTrueCause, met_of, placed_book}
use Rattle.pt_core.proofs.SplitLemmas.{Laws}
use Rattle.pt_core.proofs.ReactionLemmas.{Digits, ReadLaws}
use Rattle.pt_core.proofs.PlaceLemmas.{placed_entries, true_causes}
use Rattle.pt_core.proofs.CauseLemmas.{own_causes}
use Rattle.pt_core.proofs.HearingLemmas.{AllLaws, true_hearing}
use Rattle.pt_core.proofs.laws.law_honest.Goals as goal

pub returns : goal.returns
returns c setting exchanges hears =
    let stream : Laws = record { whole = c.law_decode_apdus.ensures.whole; incomplete = c.law_decode_apdus.ensures.incomplete; too_long = c.law_decode_apdus.ensures.too_long } in
    let read : ReadLaws = record { written = c.law_read_again.ensures.messages; read = c.law_decode_pt_message.ensures.computes } in
    let digits : Digits = λ apdu command e. ((c.law_commands.ensures.canonical apdu command).0 ((c.law_commands.ensures.read apdu command).0 e)).0 in
    let laws : AllLaws = record { stream = stream; read = read; digits = digits; ended = c.law_ends.ensures.ended } in
    record {
      book = placed_entries stream setting (ap (λ (t : TerminalValue). t.account.book) (c.law_met.ensures.fresh setting)) (c.law_book.ensures.link setting) exchanges;
      causes = All-from_recursion (HasTrueCause setting exchanges) (placed_book setting exchanges) (true_causes stream setting exchanges);
      own_causes = own_causes stream setting exchanges;
      numbers = c.law_book.ensures.numbers setting (met_of exchanges);
      few = c.law_book.ensures.few setting (met_of exchanges);
      fit = c.law_book.ensures.fit setting (met_of exchanges);
      ends = true_hearing laws setting exchanges hears;
    }
