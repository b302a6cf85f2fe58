-- What the core remembers of its terminals: their settings, their links, and their tills.
use Rattle.std.proofs.Common.{ℤ, append-nil, ◌≡◌, ◌≤◌, ◌<◌, ◌^◌, ◌++◌, ◌+◌, ℕ, zero, suc, List, [], ◌∷◌, refl, sym, ◌∙◌, ap, subst, inl, inr, ◌⊎◌, arith}
use Rattle.std.proofs.lemmas.Int.{ints}
use Rattle.std.proofs.Math.Nat.{min-eq_left}
use Rattle.std.proofs.lemmas.List.{map-append, take_all, take_more, drop_all}
use Rattle.std.specs.Prelude.{pos, All, set, map, slice_get, get_or, take, drop, length, Some}
use Rattle.std.proofs.lemmas.Option.{slice_get_read}
use Rattle.gw_base.specs.Currency.{currency_number}
use Rattle.gw_base.specs.Moment.{IsMoment, last_moment, moment_of}
use Rattle.gw_base.specs.Setup.{IsPt}
use Rattle.gw_base.specs.declared.currency.Currency.{Currency}
use Rattle.gw_base.specs.declared.currency.Currency.TheVariants.{Eur, Chf, Gbp, Usd, Dkk, Sek, Nok, Pln, Czk}
use Rattle.gw_base.specs.declared.setup.Pt.{Pt}
use Rattle.gw_base.proofs.MomentLemmas.{moment_of_bound}
use Rattle.zvt_msg.specs.CommandGrammar.{HasCommandDigits}
use Rattle.zvt_msg.specs.declared.command.Command.{Command}
use Rattle.jrn_record.specs.declared.records.Record.{Record}
use Rattle.gw_owes.specs.Core.{Core as CoreValue, new_terminal}
use Rattle.gw_owes.specs.DeviceRequests.{greatest_device_number}
use Rattle.gw_owes.specs.Links.{LinkIsLost, LinkIsMade, link_row}
use Rattle.gw_owes.specs.Row.{Known}
use Rattle.gw_owes.specs.Terminals.{after_command, forgets_till, registration, unlinks, with_terminal}
use Rattle.gw_owes.specs.declared.terminal.Standing.TheVariants.{Registering}
use Rattle.gw_owes.specs.declared.terminal.Terminal.{Terminal}
use Rattle.gw_core.specs.declared.act.Act.{Act}
use Rattle.gw_core.specs.declared.act.Act.TheVariants as act
use Rattle.gw_core.specs.declared.act.Acts.{Acts}
use Rattle.gw_core.specs.IsRow.{HaveSettings, IsRow, alone}

-- ---- moments

-- a number of seconds that was taken into the range of moments has the moment that it had
pub moment-stays : (seconds now : ℤ) → now ≡ pos (moment_of seconds) → moment_of now ≡ moment_of seconds
moment-stays seconds now is = ap moment_of is ∙ min-eq_left (moment_of_bound seconds)

-- and each moment lies in the range of moments
pub moment-in-range : (seconds : ℤ) → IsMoment (pos (moment_of seconds))
moment-in-range seconds = within (moment_of seconds) (moment_of_bound seconds)
  where
    within : (moment : ℕ) → moment ≤ last_moment → IsMoment (pos moment)
    within moment at = (omega (arith, ints), omega (arith, ints))

-- ---- lists

-- what is made of each element, once that of one element more is added
pub mapped-more : {X Y : Type 0} (f : X → Y) (xs : List X) (index : ℕ) (x : X) (y : Y) (before now : List Y) → index < length xs → x ≡ get_or xs index x → before ≡ map f (take index xs) → y ≡ f x → now ≡ before ++ y ∷ []
    → now ≡ map f (take (index + 1) xs)
mapped-more {X = X} {Y = Y} f xs index x y before now within at is made added =
    added
    ∙ ap (λ (ys : List Y). ys ++ y ∷ []) is
    ∙ ap (λ (one : Y). map f (take index xs) ++ one ∷ []) made
    ∙ sym (ap (map f) (take_more xs index x within ∙ ap (λ (one : X). take index xs ++ one ∷ []) (sym at)) ∙ map-append f (take index xs) (x ∷ []))

-- ---- device requests

-- as a run begins the next device request has the number 0
pub zero-least : 0 ≤ greatest_device_number
zero-least = omega arith

-- ---- settings

same-some : (one other : Terminal) → Some one ≡ Some other → one ≡ other
same-some one other same = cc

-- after one terminal was replaced each is the new one, or was there before
set-or-there : (all : List Terminal) (at other : ℕ) (new terminal : Terminal) → slice_get (set all at new) other ≡ Some terminal → (terminal ≡ new) ⊎ (slice_get all other ≡ Some terminal)
set-or-there [] at other new terminal found = inr found
set-or-there (first ∷ rest) zero zero new terminal found = inl (sym (same-some new terminal found))
set-or-there (first ∷ rest) zero (suc other) new terminal found = inr found
set-or-there (first ∷ rest) (suc at) zero new terminal found = inr found
set-or-there (first ∷ rest) (suc at) (suc other) new terminal found = set-or-there rest at other new terminal found

-- the settings stay where the new one has those of the old
pub settings-stay : (all : List Terminal) (at : ℕ) (old new : Terminal) → HaveSettings all → slice_get all at ≡ Some old → new.pt ≡ old.pt → HaveSettings (set all at new)
settings-stay all at old new have found same = λ other terminal there. by-case other terminal (set-or-there all at other new terminal there)
  where
    by-case : (other : ℕ) (terminal : Terminal) → (terminal ≡ new) ⊎ (slice_get all other ≡ Some terminal) → IsPt terminal.pt
    by-case other terminal (inl is) = subst IsPt (sym (ap (λ (t : Terminal). t.pt) is ∙ same)) (have at old found)
    by-case other terminal (inr there) = have other terminal there

-- the terminals of a setup within its limits have theirs as a run begins
pub new-have-settings : (pts : List Pt) → All IsPt pts → HaveSettings (map new_terminal pts)
new-have-settings pts each = λ number terminal there. in-list pts each number terminal there
  where
    in-list : (pts : List Pt) → All IsPt pts → (number : ℕ) (terminal : Terminal) → slice_get (map new_terminal pts) number ≡ Some terminal → IsPt terminal.pt
    in-list [] each number terminal there = absurd cc
    in-list (pt ∷ pts) each zero terminal there = subst (λ (t : Terminal). IsPt t.pt) (same-some (new_terminal pt) terminal there) (each 0 pt (omega arith))
    in-list (pt ∷ pts) each (suc number) terminal there = in-list pts (λ k d within. each (suc k) d (omega arith)) number terminal there

-- the registration of a terminal within its limits can be written
pub registration-writable : (pt : Pt) → IsPt pt → HasCommandDigits (registration pt)
registration-writable pt within = (within.password.1, by-currency pt.currency)
  where
    by-currency : (currency : Currency) → currency_number currency < 100 ^ 2
    by-currency Eur = omega arith
    by-currency Chf = omega arith
    by-currency Gbp = omega arith
    by-currency Usd = omega arith
    by-currency Dkk = omega arith
    by-currency Sek = omega arith
    by-currency Nok = omega arith
    by-currency Pln = omega arith
    by-currency Czk = omega arith

-- ---- one terminal

-- a terminal that was read is there
pub found-at : (items : List Terminal) (held : CoreValue) (pt at : ℕ) (terminal : Terminal) → held.terminals ≡ items → pt < length held.terminals → at ≡ pt → terminal ≡ get_or items at terminal → slice_get items pt ≡ Some terminal
found-at items held pt at terminal held_is within at_is is =
    slice_get_read items (length items) pt terminal refl (subst (λ (all : List Terminal). pt < length all) held_is within) (subst (λ n. terminal ≡ get_or items n terminal) at_is is)

-- ---- a link

-- a terminal whose link is made registers, whatever the records
pub made-row : (known : Known) (kept : List Record) (pt : ℕ) (old new : Terminal) (command : Command) (wanted : Act) → slice_get known.core.terminals pt ≡ Some old → command ≡ registration old.pt
    → new ≡ after_command (record old { awaited = 0 }) command Registering known.moment → wanted ≡ act.SendPt pt command
    → IsRow kept (link_row known pt LinkIsMade) (with_terminal known.core pt new) (alone (Some wanted))
made-row known kept pt old new command wanted found is becomes wants =
    rw (found, wants, becomes, is) (record { core_is = refl; calls_are = refl; items_are = refl })

-- one whose link isn't there is unlinked
pub lost-row : (known : Known) (kept : List Record) (pt : ℕ) (old new : Terminal) (acts : Acts) → slice_get known.core.terminals pt ≡ Some old
    → IsRow kept (unlinks known pt old) (with_terminal known.core pt new) acts → IsRow kept (link_row known pt LinkIsLost) (with_terminal known.core pt new) acts
lost-row known kept pt old new acts found row = rw found row

-- ---- a till that is gone

-- a loop over all of them has changed each
pub all-mapped : (f : Terminal → Terminal) (items from now : List Terminal) (at : ℕ) → from ≡ items → length from ≤ at → now ≡ map f (take at from) ++ drop at from → now ≡ map f items
all-mapped f items from now at from_is past is =
    is ∙ ap (λ (l : List Terminal). map f l ++ drop at from) (take_all at from past) ∙ ap (λ (l : List Terminal). map f from ++ l) (drop_all at from past) ∙ append-nil (map f from) ∙ ap (map f) from_is

-- what was written back over as many as there were is what is there
pub written-back : (items new : List Terminal) (len : ℕ) → length new ≡ length items → len ≡ length items → take len (new ++ drop (length new) items) ≡ new
written-back items new len same len_is =
    ap (λ (l : List Terminal). take len (new ++ l)) (drop_all (length new) items (omega arith)) ∙ ap (take len) (append-nil new) ∙ take_all len new (omega arith)

-- the settings stay where a till is forgotten
pub forgotten-have-settings : (all : List Terminal) (till : ℕ) → HaveSettings all → HaveSettings (map (forgets_till till) all)
forgotten-have-settings all till have = λ number terminal there. in-list all have number terminal there
  where
    in-list : (all : List Terminal) → HaveSettings all → (number : ℕ) (terminal : Terminal) → slice_get (map (forgets_till till) all) number ≡ Some terminal → IsPt terminal.pt
    in-list [] have number terminal there = absurd cc
    in-list (first ∷ rest) have zero terminal there = subst (λ (t : Terminal). IsPt t.pt) (same-some (forgets_till till first) terminal there) (have 0 first refl)
    in-list (first ∷ rest) have (suc number) terminal there = in-list rest (λ n t found. have (suc n) t found) number terminal there
