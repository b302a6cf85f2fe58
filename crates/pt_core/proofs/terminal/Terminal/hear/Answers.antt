-- After bytes on its connection a terminal keeps what its account and its reader then hold.
use Rattle.std.proofs.Common.{◌≡◌, Bool, cond, None, Some, drop, sym, ap, ◌∙◌}
use Rattle.pt_core.specs.Serving.{AccountValue, TerminalValue, next_terminal}
use Rattle.pt_core.proofs.NextLemmas.{next_is, same_account}
use Rattle.pt_core.proofs.terminal.Terminal.hear.Goals as goal

pub returns-in-Ok-clause-next : goal.returns-in-Ok-clause-next
returns-in-Ok-clause-next c =
    let new = c.hear-heard.new.self in
    let ok = c.in-Ok.ensures.ok in
    let before : AccountValue = record { none = c.self.inside.none; plays = drop c.self.inside.used c.self.inside.plays; book = c.take.result.items } in
    let start : (let t : TerminalValue = record { account = before; connection = Some c.self.inside.reader } in t) ≡ c.args.self.now =
    ap (λ b. let t : TerminalValue = record { account = record { none = c.self.inside.none; plays = drop c.self.inside.used c.self.inside.plays; book = b }; connection = Some c.self.inside.reader } in t) c.take.ensures.entries
    ∙ ap (λ (k : Bool). let t : TerminalValue = record { account = record { none = c.self.inside.none; plays = drop c.self.inside.used c.self.inside.plays; book = c.self.inside.book }; connection = cond k None (Some c.self.inside.reader) } in t) (sym c.if-self.false)
    ∙ c.self.view_is in
    let later = same_account (sym c.in-Ok.ensures.none) (ap (λ p. drop new.used p.now) (sym c.in-Ok.ensures.plays)) c.of.ensures in
    next_is before _ c.self.inside.reader c.args.bytes.now c.hear-heard.new.reader c.in-Ok.cut (later ∙ ok.account) ok.cut ok.rest
    ∙ ap (λ (t : TerminalValue). next_terminal t c.args.bytes.now) start

pub returns-in-Err-clause-err : goal.returns-in-Err-clause-err
returns-in-Err-clause-err c =
    let new = c.hear-heard.new.self in
    let later = same_account (sym c.in-Err.ensures.none) (ap (λ p. drop new.used p.now) (sym c.in-Err.ensures.plays)) c.of.ensures in
    let same = later ∙ c.in-Err.ensures.account_stays ∙ ap (λ b. let a : AccountValue = record { none = c.self.inside.none; plays = drop c.self.inside.used c.self.inside.plays; book = b } in a) c.take.ensures.entries in
    ap (λ (a : AccountValue). let t : TerminalValue = record { account = a; connection = cond c.self.inside.is_cut None (Some c.hear-heard.new.reader) } in t) same
    ∙ ap (λ r. let t : TerminalValue = record { account = record { none = c.self.inside.none; plays = drop c.self.inside.used c.self.inside.plays; book = c.self.inside.book }; connection = cond c.self.inside.is_cut None (Some r) } in t) c.in-Err.ensures.reader_stays
    ∙ c.self.view_is
