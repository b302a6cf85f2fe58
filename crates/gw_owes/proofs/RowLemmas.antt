-- What a row owes is calls on the disk, and then one other call at most.
use Rattle.std.proofs.Common.{◌≡◌, ℕ, refl, true, false}
use Rattle.std.specs.Prelude.{Bool, Option, Some, None}
use Rattle.gw_owes.specs.declared.terminal.Terminal.{Terminal}
use Rattle.gw_owes.specs.Reply.{ReplyValue}
use Rattle.gw_owes.specs.Row.{Known, Row, owing_where}
use Rattle.gw_owes.specs.Terminals.{terminal_at, of_terminal, registers, link_made, reply_calls_to, reply_to_lost, unlinks, link_lost}
use Rattle.gw_owes.specs.Laws.{ends_in_one, EndsInOne, LinksEndInOne}
use Rattle.gw_owes.specs.TerminalLaws.{commands_in, owes_cut}

pub reply-ends : (asker : Option ℕ) (reply : Option ReplyValue) → ends_in_one (reply_calls_to asker reply) ≡ true
reply-ends None reply = refl
reply-ends (Some till) None = refl
reply-ends (Some till) (Some reply) = refl

-- a reply is no command
pub reply-commands : (asker : Option ℕ) (reply : Option ReplyValue) → commands_in (reply_calls_to asker reply) ≡ 0
reply-commands None reply = refl
reply-commands (Some till) None = refl
reply-commands (Some till) (Some reply) = refl

-- and cuts no terminal
pub reply-no-cut : (asker : Option ℕ) (reply : Option ReplyValue) → owes_cut (reply_calls_to asker reply) ≡ false
reply-no-cut None reply = refl
reply-no-cut (Some till) None = refl
reply-no-cut (Some till) (Some reply) = refl

pub where-ends : (there : Bool) (known : Known) (row : Row) → EndsInOne row → EndsInOne (owing_where there known row)
where-ends true known row h = h
where-ends false known row h = refl

of-terminal-ends : (known : Known) (row : Terminal → Row) (terminal : Option Terminal) → ((terminal : Terminal) → EndsInOne (row terminal)) → EndsInOne (of_terminal known row terminal)
of-terminal-ends known row None each = refl
of-terminal-ends known row (Some terminal) each = each terminal

link-lost-ends : (known : Known) (number : ℕ) → EndsInOne (link_lost known number)
link-lost-ends known number =
    of-terminal-ends known (unlinks known number) (terminal_at known number) (λ terminal. reply-ends terminal.asker (reply_to_lost terminal.standing))

link-made-ends : (known : Known) (number : ℕ) → EndsInOne (link_made known number)
link-made-ends known number = of-terminal-ends known (registers known number) (terminal_at known number) (λ terminal. refl)

pub links-end : LinksEndInOne
links-end known number = record { made = link-made-ends known number; lost = link-lost-ends known number }
