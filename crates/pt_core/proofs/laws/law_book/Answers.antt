-- The book of a played terminal is honest, from its account and its history.
use Rattle.std.proofs.Common.{ap, sym}
use Rattle.zvt_msg.specs.CommandDecode.{decode_command}
use Rattle.pt_core.specs.Serving.{TerminalValue}
use Rattle.pt_core.specs.History.{all_handled, book_of, play_left}
use Rattle.pt_core.proofs.HonestLemmas.{all_numbered, booked, grows}
use Rattle.pt_core.proofs.ReactionLemmas.{Digits, book_fits}
use Rattle.pt_core.proofs.laws.law_book.Goals as goal

pub returns-clause-caused : goal.returns-clause-caused
returns-clause-caused c setting before apdu = booked setting.none (play_left setting.plays before) (book_of setting before) apdu.class (decode_command apdu)

pub returns-clause-link : goal.returns-clause-link
returns-clause-link c setting met = ap (λ (t : TerminalValue). t.account.book) (sym (c.law_met.ensures.link setting met))

pub returns-clause-grows : goal.returns-clause-grows
returns-clause-grows c setting met what =
    grows setting met what (c.law_met.ensures.bytes setting met) (ap (λ (t : TerminalValue). t.account.book) (sym (c.law_met.ensures.link setting met)))

pub returns-clause-numbers : goal.returns-clause-numbers
returns-clause-numbers c setting met = (all_numbered setting (all_handled setting met)).numbers

pub returns-clause-few : goal.returns-clause-few
returns-clause-few c setting met = (all_numbered setting (all_handled setting met)).few

pub returns-clause-fit : goal.returns-clause-fit
returns-clause-fit c setting met =
    let digits : Digits = λ apdu command e. ((c.law_commands.ensures.canonical apdu command).0 ((c.law_commands.ensures.read apdu command).0 e)).0 in
    book_fits digits setting (all_handled setting met)
