-- Proof of the contract of `minor_of`.
use Rattle.std.proofs.Common.{◌≡◌, ℕ, List, take, drop, sym, ◌∙◌, ap, subst, arith, Option, Some, MatchOption}
use Rattle.std.specs.Char.{is_ascii_digit}
use Rattle.std.proofs.lemmas.List.Sums.{prefix_len-le-length}
use Rattle.gw_base.specs.Amount.{fraction_of, minor_units, minor_units_with, rest_of, whole_of, SpellsAmount}
use Rattle.gw_base.proofs.AmountLemmas.{minor_units-meaning}
use Rattle.gw_base.proofs.amount.minor_of.Goals as goal

-- the meaning of what was found
meaning : (text : List ℕ) (found : Option ℕ) → found ≡ minor_units text
    → MatchOption found ((units : ℕ) → ¬ SpellsAmount text units) (SpellsAmount text)
meaning text found e =
    let P : Option ℕ → Type 0 = λ r. MatchOption r ((units : ℕ) → ¬ SpellsAmount text units) (SpellsAmount text) in
    subst P (sym e) (minor_units-meaning text)

pub split_at-requires : goal.split_at-requires
split_at-requires c = omega (arith, c.whole_len.ensures, prefix_len-le-length is_ascii_digit c.args.numeral.now)

pub returns-in-Some-clause-value : goal.returns-in-Some-clause-value
unfolding minor_units
returns-in-Some-clause-value c =
    let whole : c.split_at.result.0.now ≡ whole_of c.args.numeral.now =
    c.split_at.ensures.front ∙ ap (λ n. take n c.args.numeral.now) c.whole_len.ensures in
    let rest : c.split_at.result.1.now ≡ rest_of c.args.numeral.now =
    c.split_at.ensures.back ∙ ap (λ n. drop n c.args.numeral.now) c.whole_len.ensures in
    let fraction : Some c.in-Some.fraction.now ≡ fraction_of (rest_of c.args.numeral.now) =
    c.in-Some.ensures.value ∙ ap fraction_of rest in
    c.units_of_parts.ensures ∙ ap (λ w. minor_units_with w (Some c.in-Some.fraction.now)) whole
    ∙ ap (minor_units_with (whole_of c.args.numeral.now)) fraction

pub returns-in-Some-clause-amount : goal.returns-in-Some-clause-amount
returns-in-Some-clause-amount c = meaning c.args.numeral.now _ (returns-in-Some-clause-value c)

pub returns-in-None-clause-value : goal.returns-in-None-clause-value
unfolding minor_units
returns-in-None-clause-value c =
    let rest : c.split_at.result.1.now ≡ rest_of c.args.numeral.now =
    c.split_at.ensures.back ∙ ap (λ n. drop n c.args.numeral.now) c.whole_len.ensures in
    ap (minor_units_with (whole_of c.args.numeral.now)) (c.in-None.ensures.value ∙ ap fraction_of rest)

pub returns-in-None-clause-amount : goal.returns-in-None-clause-amount
returns-in-None-clause-amount c = meaning c.args.numeral.now _ (returns-in-None-clause-value c)
