-- The drill's own lines and terminals, and so what its log and place are.
use Rattle.std.proofs.Common.{◌≡◌, ℕ, ◌-◌, ◌*◌, true, false, List, [], ◌∷◌, ◌++◌, refl, ap}
use Rattle.std.specs.Prelude.{Option, Some, None, option_map}
use Rattle.zvt_apdu.specs.DecodeStream.{decode_apdus}
use Rattle.pt_core.specs.History.{Setting}
use Rattle.pt_core.specs.Serving.{TerminalValue}
use Rattle.gw_site.specs.Steps.{SiteStep}
use Rattle.gw_site.specs.declared.turn.Turn.{Turn}
use Rattle.gw_script.specs.site.Calls.{LeadsBy, are_scripted}
use Rattle.gw_script.specs.site.Drill.{DrillPayment, drill_begins, drill_lines, drill_payment_frame, drill_payments, payment_begins, payment_lines, payment_waits, payment_ends, power_set, power_unset}
use Rattle.gw_script.specs.site.Hazards.{Armed, Hazard, no_hazard}
use Rattle.gw_script.specs.site.Playing.{Play, early_hazard, early_lines}
use Rattle.gw_script.specs.site.ScriptLine.{FromTill, PlayedLine, At, Poll, Fail, Power, ForgetPower}
use Rattle.gw_drill.specs.DrillBooks.{DrillIsAt, IsDrillAt, setting_at}
use Rattle.gw_drill.proofs.PeerLemmas.{Follows, MetLaws}
use Rattle.gw_drill.proofs.PlaceLemmas.{AreOfTills, Goes, steps-go}

-- ---- lines

more-of-tills : (lines more : List PlayedLine) → AreOfTills lines → AreOfTills more → AreOfTills (lines ++ more)
more-of-tills [] more h k = k
more-of-tills (At now ∷ lines) more h k = more-of-tills lines more h k
more-of-tills (Poll event ∷ lines) more h k = (h.0, more-of-tills lines more h.1 k)
more-of-tills (Fail failing ∷ lines) more h k = absurd h
more-of-tills (Power calls kind ∷ lines) more h k = more-of-tills lines more h k
more-of-tills (ForgetPower ∷ lines) more h k = more-of-tills lines more h k

set-of-tills : (power : Option Armed) → AreOfTills (power_set power)
set-of-tills None = tt
set-of-tills (Some power) = tt

unset-of-tills : (power : Option Armed) → AreOfTills (power_unset power)
unset-of-tills None = tt
unset-of-tills (Some power) = tt

payment-of-tills : (payment : DrillPayment) → AreOfTills (payment_lines payment)
payment-of-tills payment =
    more-of-tills (payment_begins payment) (Poll (FromTill (2 * payment.number - 1) (drill_payment_frame payment)) ∷ (payment_waits payment ++ payment_ends payment)) (tt, (tt, set-of-tills payment.power))
    (tt, more-of-tills (payment_waits payment) (payment_ends payment) (tt, (tt, unset-of-tills payment.power)) (tt, (tt, (tt, (tt, tt)))))

lines-of-tills : (payments : List DrillPayment) → AreOfTills (drill_lines payments)
lines-of-tills [] = tt
lines-of-tills (payment ∷ payments) = more-of-tills (payment_lines payment) (drill_lines payments) (payment-of-tills payment) (lines-of-tills payments)

early-of-tills : (lines : List PlayedLine) → AreOfTills lines → AreOfTills (early_lines lines)
early-of-tills [] h = tt
early-of-tills (At now ∷ lines) h = early-of-tills lines h
early-of-tills (Poll event ∷ lines) h = h
early-of-tills (Fail failing ∷ lines) h = absurd h
early-of-tills (Power calls kind ∷ lines) h = early-of-tills lines h
early-of-tills (ForgetPower ∷ lines) h = early-of-tills lines h

no-early : (hazard : Hazard) (lines : List PlayedLine) → AreOfTills lines → early_hazard hazard lines ≡ hazard
no-early hazard [] h = refl
no-early hazard (At now ∷ lines) h = no-early hazard lines h
no-early hazard (Poll event ∷ lines) h = refl
no-early hazard (Fail failing ∷ lines) h = absurd h
no-early hazard (Power calls kind ∷ lines) h = no-early hazard lines h
no-early hazard (ForgetPower ∷ lines) h = no-early hazard lines h

-- ---- the first place

-- the laws of what each terminal meets, and that nothing is no APDU
pub record DrillLaws : Type 0 where
  pub met : (pt : ℕ) (setting : Setting) → MetLaws pt setting
  pub nothing : decode_apdus [] ≡ record { apdus = []; rest = [] }

module _ (laws : DrillLaws) (from payments : ℕ) where
  first-goes : (pt : ℕ) → Follows pt (setting_at from payments pt) [] (drill_begins from payments).peers → Goes pt (setting_at from payments pt) (laws.met pt (setting_at from payments pt)) laws.nothing [] (drill_begins from payments)
  first-goes pt follows =
      let lines = drill_lines (drill_payments from payments) in
      let of_tills : AreOfTills lines = lines-of-tills (drill_payments from payments) in
      let hazard : early_hazard no_hazard lines ≡ no_hazard = no-early no_hazard lines of_tills in
      record {
        follows = follows;
        lines = early-of-tills lines of_tills;
        calm = record { opens = ap (λ (h : Hazard). h.fail_open) hazard; write = ap (λ (h : Hazard). h.fail_write) hazard; sync = ap (λ (h : Hazard). h.fail_sync) hazard; lengths = ap (λ (h : Hazard). h.fail_length) hazard; read = ap (λ (h : Hazard). h.fail_read) hazard };
      }

  first-follows : Follows 0 (setting_at from payments 0) [] (drill_begins from payments).peers
  first-follows = record { terminal = refl; hears = tt; way = λ connected. absurd (let n : false ≡ true = connected in cc) }

  second-follows : Follows 1 (setting_at from payments 1) [] (drill_begins from payments).peers
  second-follows = record { terminal = refl; hears = tt; way = λ connected. absurd (let n : false ≡ true = connected in cc) }

  pub drill-at : (steps : List SiteStep) (log : List Turn) (place : Play) → are_scripted steps ≡ true → LeadsBy [] (drill_begins from payments) steps log place → IsDrillAt from payments log place
  drill-at steps log place scripted leads =
      let first = steps-go 0 (setting_at from payments 0) (laws.met 0 (setting_at from payments 0)) laws.nothing [] (drill_begins from payments) steps log place scripted leads (first-goes 0 first-follows) in
      let second = steps-go 1 (setting_at from payments 1) (laws.met 1 (setting_at from payments 1)) laws.nothing [] (drill_begins from payments) steps log place scripted leads (first-goes 1 second-follows) in
      record {
        first_book = ap (option_map (λ (terminal : TerminalValue). terminal.account.book)) first.follows.terminal;
        second_book = ap (option_map (λ (terminal : TerminalValue). terminal.account.book)) second.follows.terminal;
        first_hears = first.follows.hears;
        second_hears = second.follows.hears;
      }

pub drill-is-at : DrillLaws → DrillIsAt
drill-is-at laws from payments steps log place scripted leads = drill-at laws from payments steps log place scripted leads
