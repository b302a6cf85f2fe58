-- The examples of turns.
use Rattle.std.proofs.Common.{◌≡◌, ℕ, [], false, true, None, Ok, refl, inl, inr}
use Rattle.sale_ws.specs.Gateway.{Brought, ReadFailed, NotAsked}
use Rattle.sale_ws.specs.Turn.{HasNoFrame}
use Rattle.sale_ws.specs.TurnExample.{only_heard}
use Rattle.sale_ws.specs.declared.fault.BridgeFault.TheVariants.{Gate, Length}
use Rattle.sale_ws.specs.declared.wire.Got.TheVariants.{Message, Control, Nothing}
use Rattle.sale_ws.proofs.ResultLemmas.{heard-fault, heard-nothing, not-passed, read-failed}
use Rattle.sale_ws.proofs.laws.law_turn_examples.Goals as goal

nothing-is-no-message : (n : ℕ) → HasNoFrame (Ok Nothing) n → ⊥
nothing-is-no-message n (message, is, none, size) = cc

control-is-no-message : (n : ℕ) → HasNoFrame (Ok Control) n → ⊥
control-is-no-message n (message, is, none, size) = cc

was-not-read : Brought None ≡ NotAsked → ⊥
was-not-read is = cc

pub returns : goal.returns
returns c = record {
  turns = record {
    idle = heard-nothing tt [] [] true Nothing (only_heard (Brought None)) (λ e. cc) nothing-is-no-message (λ _. refl, λ _. refl) (refl, (refl, refl, refl, refl));
    failed = read-failed tt [] [];
    failed_passed_over = λ results. let no : false ≡ true = results.faultless.got in cc;
    read_after_failed = λ results. was-not-read (results.first (inl refl));
    empty = not-passed tt [] [] (Message []) (Length 0) (λ e. cc) ([], refl, refl, refl);
    empty_passed_over = λ results. let e = (results.outsized 0).1 ([], refl, refl, refl) in cc;
    read_after_empty = λ results. was-not-read (results.first (inr (0, ([], refl, refl, refl))));
    unheard = heard-fault tt [] [] Control (only_heard ReadFailed) Gate (λ e. cc) control-is-no-message refl;
    unheard_passed_over = λ results. results.faultless.heard refl;
  };
}
