-- How the drill's lines and plays are built, one payment after the other.
use Rattle.std.proofs.Common.{◌≡◌, ℕ, suc, ◌+◌, ◌-◌, ◌*◌, ◌^◌, ◌<◌, ◌≤◌, List, [], ◌∷◌, ◌++◌, length, refl, sym, ◌∙◌, ap, arith, append-nil, append_assoc}
use Rattle.std.specs.Prelude.{◌==◌, All, map, filter, Result, Ok, Err, OnOk}
use Rattle.std.specs.Fmt.{decimal}
use Rattle.std.specs.Str.Parse.{AllDigits}
use Rattle.std.proofs.lemmas.Fmt.{length-decimal-le, decimal_nonempty, decimal_is_IsNumeral}
use Rattle.std.proofs.lemmas.Str.Parse.{digit_from_value}
use Rattle.std.proofs.lemmas.List.{map-append}
use Rattle.std.proofs.lemmas.List.Elements.{All-cons, All-nil, filter-append}
use Rattle.gw_base.specs.Ident.{IsIdent, IsPrintable}
use Rattle.json_text.specs.Canonical.{canonical}
use Rattle.sale_frame.specs.Grammar.{frame}
use Rattle.sale_values.specs.declared.header.Header.{Header}
use Rattle.sale_values.specs.declared.request.SaleRequest.{SaleRequest}
use Rattle.sale_msg.specs.Canonical.{request_tree}
use Rattle.pt_core.specs.declared.play.Play.{Play}
use Rattle.gw_script.specs.site.Drill.{DrillPayment, drill_lines, drill_payment_frame, payment_begins, payment_ends, payment_waits, drill_plays, payment_drawn, payment_lines, payments_drawn, seed_after_payment}
use Rattle.gw_script.specs.site.ScriptLine.{FromTill, PlayedLine, Poll}

-- digits are printable
digits-printable : (digits : List ℕ) → AllDigits 10 digits → All IsPrintable digits
digits-printable [] each = All-nil IsPrintable
digits-printable (digit ∷ digits) each =
    let range = digit_from_value digit each.0 in
    All-cons IsPrintable digit digits (omega (arith, range), omega (arith, range)) (digits-printable digits each.1)

-- the number of a payment is an identifier
pub number-ident : (most n : ℕ) → 10 ≤ most → n < 2 ^ 32 → IsIdent most (decimal n)
number-ident most n long within =
    let small : n < 2 ^ 64 = omega (arith, within) in
    (omega (arith, decimal_nonempty n small), omega (arith, length-decimal-le 10 n (omega arith) (omega (arith, within)) small, long), digits-printable (decimal n) (decimal_is_IsNumeral n small).0.1)

-- what is written of the same header and request is the same
pub same_frame : (header other : Header) (request asked : SaleRequest) → header ≡ other → request ≡ asked → frame (canonical (request_tree header request)) ≡ frame (canonical (request_tree other asked))
same_frame header other request asked h r = rw (h, r) refl

pub same_most : (header other : Header) (request asked : SaleRequest) → header ≡ other → request ≡ asked → length (canonical (request_tree other asked)) ≤ 4092 → length (canonical (request_tree header request)) ≤ 4092
same_most header other request asked h r le = rw (h, r) le

-- two parts are appended, one after the other
pub then_appended : {A : Type 0} (old mid new first second : List A) → mid ≡ old ++ first → new ≡ mid ++ second → new ≡ old ++ (first ++ second)
then_appended old mid new first second a b = b ∙ ap (λ l. l ++ second) a ∙ append_assoc old first second

-- so where what is appended last could fail
pub last_appended : {A T E : Type 0} (result : Result T E) (old mid new first second : List A) → mid ≡ old ++ first → OnOk result (new ≡ mid ++ second) → OnOk result (new ≡ old ++ (first ++ second))
last_appended (Ok done) old mid new first second a b = then_appended old mid new first second a b
last_appended (Err error) old mid new first second a b = tt

-- the lines of a payment, by the till and the frame that ask it
pub asked_lines : (payment : DrillPayment) (till : ℕ) (bytes : List ℕ) → till ≡ 2 * payment.number - 1 → bytes ≡ drill_payment_frame payment →
    payment_begins payment ++ (Poll (FromTill till bytes) ∷ (payment_waits payment ++ payment_ends payment)) ≡ payment_lines payment
asked_lines payment till bytes t b =
    let rest = payment_waits payment ++ payment_ends payment in
    ap (λ n. payment_begins payment ++ (Poll (FromTill n bytes) ∷ rest)) t ∙ ap (λ these. payment_begins payment ++ (Poll (FromTill (2 * payment.number - 1) these) ∷ rest)) b

-- one payment more is drawn
drawn_more : (payments number seed : ℕ) → number < payments → payments_drawn (payments - number) (number + 1) seed
    ≡ payment_drawn (number + 1) seed ∷ payments_drawn (payments - (number + 1)) (number + 1 + 1) (seed_after_payment seed)
drawn_more payments number seed lt =
    let count : payments - number ≡ suc (payments - (number + 1)) = omega (arith, lt) in
    ap (λ n. payments_drawn n (number + 1) seed) count

drawn_all : (payments number seed : ℕ) → payments ≤ number → payments_drawn (payments - number) (number + 1) seed ≡ []
drawn_all payments number seed le =
    let none : payments - number ≡ 0 = omega (arith, le) in
    ap (λ n. payments_drawn n (number + 1) seed) none

-- the lines so far, and those of the payments that are left, are all lines
pub lines_more : (payments number seed : ℕ) (old new all : List PlayedLine) → number < payments → new ≡ old ++ payment_lines (payment_drawn (number + 1) seed)
    → old ++ drill_lines (payments_drawn (payments - number) (number + 1) seed) ≡ all → new ++ drill_lines (payments_drawn (payments - (number + 1)) (number + 1 + 1) (seed_after_payment seed)) ≡ all
lines_more payments number seed old new all lt pushed so_far =
    let rest = drill_lines (payments_drawn (payments - (number + 1)) (number + 1 + 1) (seed_after_payment seed)) in
    let first = payment_lines (payment_drawn (number + 1) seed) in
    ap (λ l. l ++ rest) pushed ∙ append_assoc old first rest ∙ ap (λ ps. old ++ drill_lines ps) (sym (drawn_more payments number seed lt)) ∙ so_far

pub lines_all : (payments number seed : ℕ) (lines all : List PlayedLine) → payments ≤ number → lines ++ drill_lines (payments_drawn (payments - number) (number + 1) seed) ≡ all → lines ≡ all
lines_all payments number seed lines all le so_far =
    sym (append-nil lines) ∙ ap (λ ps. lines ++ drill_lines ps) (sym (drawn_all payments number seed le)) ∙ so_far

-- the plays of payments are those of the first, and then those of the others
plays_more_one : (pt : ℕ) (payment : DrillPayment) (payments : List DrillPayment) → drill_plays pt (payment ∷ payments) ≡ drill_plays pt (payment ∷ []) ++ drill_plays pt payments
plays_more_one pt payment payments =
    let is = λ (one : DrillPayment). one.pt == pt in
    let play = λ (one : DrillPayment). one.play in
    ap (map play) (filter-append is (payment ∷ []) payments) ∙ map-append play (filter is (payment ∷ [])) (filter is payments)

pub plays_more : (pt payments number seed : ℕ) (old new all : List Play) → number < payments → new ≡ old ++ drill_plays pt (payment_drawn (number + 1) seed ∷ [])
    → old ++ drill_plays pt (payments_drawn (payments - number) (number + 1) seed) ≡ all → new ++ drill_plays pt (payments_drawn (payments - (number + 1)) (number + 1 + 1) (seed_after_payment seed)) ≡ all
plays_more pt payments number seed old new all lt pushed so_far =
    let later = payments_drawn (payments - (number + 1)) (number + 1 + 1) (seed_after_payment seed) in
    let payment = payment_drawn (number + 1) seed in
    ap (λ l. l ++ drill_plays pt later) pushed ∙ append_assoc old (drill_plays pt (payment ∷ [])) (drill_plays pt later)
    ∙ ap (λ l. old ++ l) (sym (plays_more_one pt payment later)) ∙ ap (λ ps. old ++ drill_plays pt ps) (sym (drawn_more payments number seed lt)) ∙ so_far

pub plays_all : (pt payments number seed : ℕ) (plays all : List Play) → payments ≤ number → plays ++ drill_plays pt (payments_drawn (payments - number) (number + 1) seed) ≡ all → plays ≡ all
plays_all pt payments number seed plays all le so_far =
    sym (append-nil plays) ∙ ap (λ ps. plays ++ drill_plays pt ps) (sym (drawn_all payments number seed le)) ∙ so_far
