-- The terminal that a POIID names.
use Rattle.std.proofs.Common.{◌≡◌, ◌≤◌, ◌<◌, ◌+◌, ℕ, zero, suc, List, [], ◌∷◌, refl, sym, ◌∙◌, ap, subst, arith}
use Rattle.std.proofs.lemmas.List.{drop_more, at_drop_all}
use Rattle.std.proofs.lemmas.Option.{same_Some}
use Rattle.std.proofs.lemmas.Slice.Eq.{bytes_eq-Decides}
use Rattle.std.specs.Prelude.{slice_get, get_or, drop, length, bytes_eq, if◌then◌else◌, Bool, true, false, IfSome, Option, Some, None}
use Rattle.std.specs.Option.{option_map}
use Rattle.sale_reply.specs.declared.reply.GlobalStatus.{GlobalStatus}
use Rattle.gw_owes.specs.Core.{Core as CoreValue}
use Rattle.gw_owes.specs.Diagnosis.{NamedTerminal, named_from, named_terminal, status_of_standing}
use Rattle.gw_owes.specs.declared.terminal.Terminal.{Terminal}

-- ---- the search

-- the search goes on after a terminal that has another
pub named-later : (terminals : List Terminal) (number : ℕ) (poi : List ℕ) (terminal : Terminal) → number < length terminals → terminal ≡ get_or terminals number terminal → bytes_eq terminal.pt.poi poi ≡ false
    → named_from number poi (drop number terminals) ≡ named_from (number + 1) poi (drop (number + 1) terminals)
named-later terminals number poi terminal within is other =
    ap (named_from number poi) (drop_more terminals number terminal within ∙ ap (λ (t : Terminal). t ∷ drop (number + 1) terminals) (sym is))
    ∙ ap (λ b. if b then Some (record { number = number; terminal = terminal }) else named_from (number + 1) poi (drop (number + 1) terminals)) other

-- and ends at one that has it
pub named-here : (terminals : List Terminal) (number : ℕ) (poi : List ℕ) (terminal : Terminal) → number < length terminals → terminal ≡ get_or terminals number terminal → bytes_eq terminal.pt.poi poi ≡ true
    → named_from number poi (drop number terminals) ≡ Some (record { number = number; terminal = terminal })
named-here terminals number poi terminal within is same =
    ap (named_from number poi) (drop_more terminals number terminal within ∙ ap (λ (t : Terminal). t ∷ drop (number + 1) terminals) (sym is))
    ∙ ap (λ b. if b then Some (record { number = number; terminal = terminal }) else named_from (number + 1) poi (drop (number + 1) terminals)) same

-- after the last there is none
pub named-none : (terminals : List Terminal) (number : ℕ) (poi : List ℕ) → length terminals ≤ number → named_from number poi (drop number terminals) ≡ None
named-none terminals number poi past = at_drop_all (named_from number poi) terminals number past

-- ---- what is found

-- the number of the terminal that is named
abbrev pub number_of : Option NamedTerminal → Option ℕ
number_of named = option_map (λ (one : NamedTerminal). one.number) named

-- where no number is found no terminal is named
pub none-named : (named : Option NamedTerminal) → None ≡ number_of named → named ≡ None
none-named None is = refl
none-named (Some one) is = absurd cc

-- where one is found its terminal is named
pub one-named : (named : Option NamedTerminal) (number : ℕ) → Some number ≡ number_of named → (terminal : Terminal) × (named ≡ Some (record { number = number; terminal = terminal }))
one-named None number is = absurd cc
one-named (Some one) number is = let e : number ≡ one.number = cc in (one.terminal, ap (λ n. Some (record { number = n; terminal = one.terminal })) (sym e))

-- a terminal that is named is there
named-from-there : (terminals : List Terminal) (first : ℕ) (poi : List ℕ) (one : NamedTerminal) → named_from first poi terminals ≡ Some one → (k : ℕ) × (one.number ≡ first + k) × (slice_get terminals k ≡ Some one.terminal)
named-from-there [] first poi one is = absurd cc
named-from-there (terminal ∷ terminals) first poi one is = by-test (bytes_eq terminal.pt.poi poi) (λ later. named-from-there terminals (first + 1) poi one later) is
  where
    at-first : (one : NamedTerminal) → Some (record { number = first; terminal = terminal }) ≡ Some one → (k : ℕ) × (one.number ≡ first + k) × (slice_get (terminal ∷ terminals) k ≡ Some one.terminal)
    at-first one is = let number : one.number ≡ first = cc in let same : terminal ≡ one.terminal = cc in (0, omega arith, ap (λ t. Some t) same)

    later : (one : NamedTerminal) → ((k : ℕ) × (one.number ≡ (first + 1) + k) × (slice_get terminals k ≡ Some one.terminal)) → (k : ℕ) × (one.number ≡ first + k) × (slice_get (terminal ∷ terminals) k ≡ Some one.terminal)
    later one (k, number, found) = (suc k, omega arith, found)

    by-test : (b : Bool) → (named_from (first + 1) poi terminals ≡ Some one → (k : ℕ) × (one.number ≡ (first + 1) + k) × (slice_get terminals k ≡ Some one.terminal))
        → (if b then Some (record { number = first; terminal = terminal }) else named_from (first + 1) poi terminals) ≡ Some one → (k : ℕ) × (one.number ≡ first + k) × (slice_get (terminal ∷ terminals) k ≡ Some one.terminal)
    by-test true rest is = at-first one is
    by-test false rest is = later one (rest is)

pub named-there : (core : CoreValue) (poi : List ℕ) (number : ℕ) (terminal : Terminal) → named_terminal core poi ≡ Some (record { number = number; terminal = terminal }) → slice_get core.terminals number ≡ Some terminal
named-there core poi number terminal is = by-place (named-from-there core.terminals 0 poi (record { number = number; terminal = terminal }) is)
  where
    by-place : (k : ℕ) × (number ≡ 0 + k) × (slice_get core.terminals k ≡ Some terminal) → slice_get core.terminals number ≡ Some terminal
    by-place (k, is, found) = let e : number ≡ k = omega arith in subst (λ n. slice_get core.terminals n ≡ Some terminal) (sym e) found

-- so the terminal of the number that was found is the one that is named
pub named-is : (core : CoreValue) (poi : List ℕ) (number : ℕ) (terminal : Terminal) → Some number ≡ number_of (named_terminal core poi) → slice_get core.terminals number ≡ Some terminal
    → named_terminal core poi ≡ Some (record { number = number; terminal = terminal })
named-is core poi number terminal is found =
    let one = one-named (named_terminal core poi) number is in
    let there = named-there core poi number one.0 one.1 in
    let same : one.0 ≡ terminal = same_Some one.0 terminal (sym there ∙ found) in
    subst (λ (t : Terminal). named_terminal core poi ≡ Some (record { number = number; terminal = t })) same one.1

-- a terminal that is named has the POIID
named-from-poi : (terminals : List Terminal) (first : ℕ) (poi : List ℕ) (one : NamedTerminal) → named_from first poi terminals ≡ Some one → one.terminal.pt.poi ≡ poi
named-from-poi [] first poi one is = absurd cc
named-from-poi (terminal ∷ terminals) first poi one is = by-test (bytes_eq terminal.pt.poi poi) refl (λ later. named-from-poi terminals (first + 1) poi one later) is
  where
    by-test : (b : Bool) → bytes_eq terminal.pt.poi poi ≡ b → (named_from (first + 1) poi terminals ≡ Some one → one.terminal.pt.poi ≡ poi)
        → (if b then Some (record { number = first; terminal = terminal }) else named_from (first + 1) poi terminals) ≡ Some one → one.terminal.pt.poi ≡ poi
    by-test true same rest is =
        let here : record { number = first; terminal = terminal } ≡ one = same_Some (record { number = first; terminal = terminal }) one is in
        subst (λ (n : NamedTerminal). n.terminal.pt.poi ≡ poi) here ((bytes_eq-Decides terminal.pt.poi poi).0 same)
    by-test false other rest is = rest is

pub named-poi : (core : CoreValue) (poi : List ℕ) (number : ℕ) (terminal : Terminal) → named_terminal core poi ≡ Some (record { number = number; terminal = terminal }) → terminal.pt.poi ≡ poi
named-poi core poi number terminal is = named-from-poi core.terminals 0 poi (record { number = number; terminal = terminal }) is

-- what is there lies within
pub there-within : (terminals : List Terminal) (number : ℕ) (terminal : Terminal) → slice_get terminals number ≡ Some terminal → number < length terminals
there-within [] number terminal found = absurd cc
there-within (first ∷ rest) zero terminal found = omega arith
there-within (first ∷ rest) (suc number) terminal found = let within : number < length rest = there-within rest number terminal found in omega arith

-- what is said of the terminal of a number holds of the one that is there
pub status-at : (core : CoreValue) (number : ℕ) (terminal : Terminal) (status : GlobalStatus) → slice_get core.terminals number ≡ Some terminal
    → IfSome (slice_get core.terminals number) (λ (one : Terminal). status ≡ status_of_standing one.standing) → status ≡ status_of_standing terminal.standing
status-at core number terminal status found is = subst (λ (o : Option Terminal). IfSome o (λ (one : Terminal). status ≡ status_of_standing one.standing)) found is
