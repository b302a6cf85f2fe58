-- What is due at a terminal: its connection is cut after too long a silence, and made again once it is due.
use Rattle.std.specs.Prelude.{ℕ, pos, int_le, nat_le, Bool, true, false, [], ◌∷◌, Option, Some, None}
use Rattle.zvt_talk.specs.Talk.{TalkFacts}
use Rattle.gw_owes.specs.Calls.{LinkPt}
use Rattle.gw_owes.specs.declared.terminal.Standing.{Standing}
use Rattle.gw_owes.specs.declared.terminal.Standing.TheVariants.{Unlinked, Registering, Enquiring, Ready, Serving, Aside}
use Rattle.gw_owes.specs.Row.{Known, Row, owing, owing_where}
use Rattle.gw_owes.specs.Terminals.{terminal_at, of_terminal}
use Rattle.gw_owes.specs.Links.{cutting}

-- ---- silence

-- the deadline of the dialogue that runs is now or before
abbrev pub is_late : ℕ → Option TalkFacts → Bool
is_late moment None = false
is_late moment (Some talk) = int_le talk.deadline (pos moment)

-- what a terminal's silence owes: the cut, where its dialogue has a deadline that has come
abbrev pub late_row : Known → ℕ → Row
late_row known number = of_terminal known (λ terminal. owing_where (is_late known.moment terminal.talk) known (cutting known number)) (terminal_at known number)

-- ---- links

-- the moment at which it is due is now or before, where it has one
abbrev pub is_due_by : ℕ → Option ℕ → Bool
is_due_by moment None = true
is_due_by moment (Some due) = nat_le due moment

-- it is unlinked, and due
abbrev pub is_due : ℕ → Standing → Bool
is_due moment (Unlinked due) = is_due_by moment due
is_due moment Registering = false
is_due moment Enquiring = false
is_due moment (Ready last) = false
is_due moment (Serving service last) = false
is_due moment (Aside before reported) = false

-- what a terminal owes that may be due to be linked: the link, where it is
abbrev pub due_row : Known → ℕ → Row
due_row known number = of_terminal known (λ terminal. owing_where (is_due known.moment terminal.standing) known (owing known (LinkPt number ∷ []))) (terminal_at known number)
