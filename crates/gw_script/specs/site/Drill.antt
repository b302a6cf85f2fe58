-- The drill: what a number and a count of payments give to play, as a script and as the terminals that are played in it.
use Rattle.std.specs.Prelude.{ℕ, zero, suc, ◌+◌, ◌-◌, ◌*◌, ◌/◌, ◌%◌, ◌^◌, ◌==◌, pos, Bool, if◌then◌else◌, List, [], ◌∷◌, ◌++◌, map, filter, Option, Some, None, codes}
use Rattle.std.specs.List.{flat_map}
use Rattle.std.specs.Fmt.{decimal}
use Rattle.gw_base.specs.declared.currency.Currency.TheVariants.{Eur}
use Rattle.gw_base.specs.declared.setup.Pt.{Pt}
use Rattle.gw_site.specs.declared.turn.Turn.{Turn}
use Rattle.gw_site.specs.Steps.{ImageKind, Old, New, Junk, SiteStep}
use Rattle.json_text.specs.Canonical.{canonical}
use Rattle.sale_frame.specs.Grammar.{frame}
use Rattle.sale_values.specs.declared.header.Header.{Header}
use Rattle.sale_values.specs.declared.names.Class.TheVariants as class
use Rattle.sale_values.specs.declared.names.Kind.TheVariants as kind
use Rattle.sale_values.specs.declared.request.SaleRequest.{SaleRequest}
use Rattle.sale_values.specs.declared.request.SaleRequest.TheVariants as requests
use Rattle.sale_msg.specs.Canonical.{request_tree}
use Rattle.pt_core.specs.declared.play.Play.{Play as PaymentPlay}
use Rattle.pt_core.specs.declared.play.Play.TheVariants.{Approve, CutAfterBook, Decline, DropAtOnce}
use Rattle.pt_core.specs.History.{Setting, terminal_after}
use Rattle.pt_core.specs.Serving.{TerminalValue}
use Rattle.gw_script.specs.site.Decode.{terminal}
use Rattle.gw_script.specs.site.Hazards.{Armed}
use Rattle.gw_script.specs.site.Playing.{Play, begins_with}
use Rattle.gw_script.specs.site.ScriptLine.{Open, Close, FromTill, Tick, PlayedLine, At, Poll, Power, ForgetPower, Given, Script, nothing_given}
use Rattle.gw_script.specs.site.StepTurns.{turns_by}

-- ---- numbers

-- the seed after one more draw
abbrev pub next_seed : ℕ → ℕ
next_seed seed = (seed * 6364136223846793005 + 1442695040888963407) % (2 ^ 64)

-- the number that was drawn with this seed
abbrev pub drawn_number : ℕ → ℕ
drawn_number seed = seed / (2 ^ 32)

-- the seed after so many more draws
abbrev pub seed_after : ℕ → ℕ → ℕ
seed_after zero seed = seed
seed_after (suc draws) seed = seed_after draws (next_seed seed)

-- the number that is drawn with the draw of this number, from 1
abbrev pub draw_at : ℕ → ℕ → ℕ
draw_at draw seed = drawn_number (seed_after draw seed)

-- ---- payments

-- one payment of the drill: its number from 1, its amount in minor units, its terminal, what the terminal does at it, and when the power fails, if it does
pub record DrillPayment : Type 0 where
  pub number : ℕ
  pub amount : ℕ
  pub pt : ℕ
  pub play : PaymentPlay
  pub power : Option Armed

-- by the third draw: what the terminal does
abbrev pub play_by_draw : ℕ → PaymentPlay
play_by_draw draw = if draw % 8 == 0 then Decline 0x6C else if draw % 8 == 1 then CutAfterBook else if draw % 8 == 2 then DropAtOnce else Approve

-- by the third draw: the power fails, and a fourth draw says when
abbrev pub fails_by_draw : ℕ → Bool
fails_by_draw draw = draw % 8 == 3

-- by its number: what a power failure leaves
abbrev pub image_by_number : ℕ → ImageKind
image_by_number number = if number == 0 then Old else if number == 1 then New else Junk 0xA5

-- by the fourth draw: after how many calls the power fails, and what it leaves
abbrev pub power_by_draw : ℕ → Armed
power_by_draw draw = record { calls = draw % 12; kind = image_by_number (draw / 12 % 3) }

-- by the seed after the third draw: when the power fails, if it does
abbrev pub power_drawn : ℕ → Option Armed
power_drawn third = if fails_by_draw (drawn_number third) then Some (power_by_draw (draw_at 1 third)) else None

-- the payment of this number that is drawn after this seed
abbrev pub payment_drawn : ℕ → ℕ → DrillPayment
payment_drawn number seed = record {
  number = number;
  amount = 1 + draw_at 1 seed % 100000;
  pt = draw_at 2 seed % 2;
  play = play_by_draw (draw_at 3 seed);
  power = power_drawn (seed_after 3 seed);
}

-- the seed after the draws of one payment
abbrev pub seed_after_payment : ℕ → ℕ
seed_after_payment seed = seed_after (if fails_by_draw (draw_at 3 seed) then 4 else 3) seed

-- so many payments, from this number and this seed on
abbrev pub payments_drawn : ℕ → ℕ → ℕ → List DrillPayment
payments_drawn zero number seed = []
payments_drawn (suc count) number seed = payment_drawn number seed ∷ payments_drawn count (number + 1) (seed_after_payment seed)

-- the payments of the drill from this number on
abbrev pub drill_payments : ℕ → ℕ → List DrillPayment
drill_payments from payments = payments_drawn payments 1 from

-- ---- messages

-- the POIID of the terminal of this number
abbrev pub drill_poi : ℕ → List ℕ
drill_poi pt = if pt == 0 then codes "T0" else codes "T1"

-- the header of a request of this category for a payment
abbrev pub drill_header : List ℕ → DrillPayment → Header
drill_header category payment = record {
  class = class.Service;
  category = category;
  kind = kind.Request;
  service = Some (decimal payment.number);
  device = None;
  sale = codes "S1";
  poi = drill_poi payment.pt;
}

-- the payment is asked
abbrev pub drill_payment_request : DrillPayment → SaleRequest
drill_payment_request payment = requests.Payment (record { transaction = decimal payment.number; stamp = codes "T"; currency = codes "EUR"; amount = payment.amount; kind = None })

-- its status is asked
abbrev pub drill_status_request : DrillPayment → SaleRequest
drill_status_request payment = requests.Status (Some (record { service = decimal payment.number; sale = None; poi = None }))

-- the frame in which the payment is asked
abbrev pub drill_payment_frame : DrillPayment → List ℕ
drill_payment_frame payment = frame (canonical (request_tree (drill_header (codes "Payment") payment) (drill_payment_request payment)))

-- the frame in which its status is asked
abbrev pub drill_status_frame : DrillPayment → List ℕ
drill_status_frame payment = frame (canonical (request_tree (drill_header (codes "TransactionStatus") payment) (drill_status_request payment)))

-- ---- lines

-- the power is to fail, where it does at this payment
abbrev pub power_set : Option Armed → List PlayedLine
power_set None = []
power_set (Some power) = Power power.calls power.kind ∷ []

-- what is unused of it is forgotten
abbrev pub power_unset : Option Armed → List PlayedLine
power_unset None = []
power_unset (Some power) = ForgetPower ∷ []

-- a till opens
abbrev pub payment_begins : DrillPayment → List PlayedLine
payment_begins payment = At (pos (20 * payment.number)) ∷ Poll (Open (2 * payment.number - 1)) ∷ Poll Tick ∷ power_set payment.power

-- time passes
abbrev pub payment_waits : DrillPayment → List PlayedLine
payment_waits payment = At (pos (20 * payment.number + 6)) ∷ Poll Tick ∷ At (pos (20 * payment.number + 12)) ∷ Poll Tick ∷ power_unset payment.power

-- another till opens and asks its status, and both close
abbrev pub payment_ends : DrillPayment → List PlayedLine
payment_ends payment = Poll (Open (2 * payment.number)) ∷ Poll (FromTill (2 * payment.number) (drill_status_frame payment))
    ∷ Poll (Close (2 * payment.number)) ∷ Poll (Close (2 * payment.number - 1)) ∷ []

-- the lines of one payment: a till opens and asks it, time passes, and its status is asked
abbrev pub payment_lines : DrillPayment → List PlayedLine
payment_lines payment = payment_begins payment ++ (Poll (FromTill (2 * payment.number - 1) (drill_payment_frame payment)) ∷ (payment_waits payment ++ payment_ends payment))

-- the lines of all payments
abbrev pub drill_lines : List DrillPayment → List PlayedLine
drill_lines payments = flat_map payment_lines payments

-- ---- the whole drill

-- the terminal of this number, as it is set up
abbrev pub drill_pt : ℕ → Pt
drill_pt pt = terminal (drill_poi pt) Eur (0 ∷ 0 ∷ 0 ∷ []) 0 131

-- the setup lines: two terminals, and the defaults
abbrev pub drill_given : Given
drill_given = record nothing_given { terminals = drill_pt 0 ∷ drill_pt 1 ∷ [] }

-- the script
abbrev pub drill_script : ℕ → ℕ → Script
drill_script from payments = record { given = drill_given; lines = drill_lines (drill_payments from payments) }

-- what the terminal of this number does at its payments, in their order
abbrev pub drill_plays : ℕ → List DrillPayment → List PaymentPlay
drill_plays pt payments = map (λ (payment : DrillPayment). payment.play) (filter (λ (payment : DrillPayment). payment.pt == pt) payments)

-- how the terminal of this number is played
abbrev pub drill_setting : ℕ → List DrillPayment → Setting
drill_setting pt payments = record { none = 131; plays = drill_plays pt payments }

-- the terminals, which have met nothing yet
abbrev pub drill_terminals : List DrillPayment → List TerminalValue
drill_terminals payments = terminal_after (drill_setting 0 payments) [] ∷ terminal_after (drill_setting 1 payments) [] ∷ []

-- what determines what is played in a drill: a text that no script has, by its two numbers
abbrev pub drill_origin : ℕ → ℕ → List ℕ
drill_origin from payments = 254 ∷ 10 ∷ from ∷ payments ∷ []

-- before the first turn of the drill
abbrev pub drill_begins : ℕ → ℕ → Play
drill_begins from payments = begins_with (drill_terminals (drill_payments from payments)) (drill_lines (drill_payments from payments))

-- the turns of each step of the drill's site, for as long as the steps can be taken
abbrev pub drill_turns : ℕ → ℕ → List SiteStep → List (List Turn)
drill_turns from payments steps = turns_by [] (drill_begins from payments) steps
