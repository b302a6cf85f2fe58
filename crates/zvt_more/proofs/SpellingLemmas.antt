-- Each of the three commands has one APDU, which spells none of the others and is read again.
use Rattle.std.proofs.Common.{◌≡◌, ℕ, ◌+◌, ◌<◌, ◌≤◌, Bool, true, false, eqb, ltb, List, ◌∷◌, ◌++◌, length, Some, refl, sym, ap, subst, ◌∙◌, arith}
use Rattle.std.specs.Prelude.{◌↔◌, ◌||◌}
use Rattle.std.proofs.lemmas.Bool.{lt-ltb}
use Rattle.std.proofs.lemmas.List.{length-append}
use Rattle.gw_base.specs.Bcd.{bcd_of}
use Rattle.gw_base.proofs.BcdLemmas.{length-bcd_of}
use Rattle.zvt_apdu.specs.Grammar.{ApduValue, SpellsApdu, BeginsWithApdu, canonical_apdu, longest_apdu_data}
use Rattle.zvt_msg.specs.declared.command.Command.{Command}
use Rattle.zvt_msg.specs.declared.command.Command.TheVariants as command
use Rattle.zvt_msg.specs.MessageGrammar.{HasClassAndInstruction}
use Rattle.zvt_msg.specs.CommandGrammar.{SpellsCommand, HasCommandDigits, HasCommandSizes}
use Rattle.zvt_msg.specs.CommandCanonical.{instruction_of, command_apdu}
use Rattle.zvt_more.specs.declared.more.More.{More}
use Rattle.zvt_more.specs.declared.more.More.TheVariants.{Refund, Reserve, Complete}
use Rattle.zvt_more.specs.Grammar.{SpellsMore, HasMoreDigits, HasMoreSizes}
use Rattle.zvt_more.specs.Canonical.{canonical_amount_and_currency, more_instruction, more_data, more_apdu, canonical_more_command}
use Rattle.zvt_more.specs.Decode.{decode_more}
use Rattle.zvt_more.proofs.PartLemmas.{number_digits, digits_spell, amount_and_currency_are, canonical_spells}
use Rattle.zvt_more.proofs.MoreLemmas.{spelt_found}

-- ---- the one spelling

abbrev six : ℕ → List ℕ → ApduValue
six instr apdu_data = record { class = 0x06; instr = instr; body = apdu_data }

apdu_is : (apdu : ApduValue) (instr : ℕ) (apdu_data : List ℕ) → HasClassAndInstruction apdu 0x06 instr → apdu.body ≡ apdu_data → apdu ≡ six instr apdu_data
apdu_is apdu instr apdu_data (class, is) same =
    ap (λ (c : ℕ). record { class = c; instr = apdu.instr; body = apdu.body }) class ∙ ap (λ (i : ℕ). six i apdu.body) is ∙ ap (six instr) same

abbrev Written : ApduValue → More → Type 0
Written apdu more = HasMoreDigits more × HasMoreSizes more × (apdu ≡ more_apdu more)

spelt_written : (apdu : ApduValue) (more : More) → SpellsMore apdu more → Written apdu more
spelt_written apdu (Refund password amount currency) (has, fields, is_password, are, is) =
    let f = amount_and_currency_are fields amount currency are in
    ((is_password.1, f.0, f.1), is_password.0, apdu_is apdu 0x31 (password ++ canonical_amount_and_currency amount currency) has (is ∙ ap (λ (d : List ℕ). password ++ d) f.2))
spelt_written apdu (Reserve amount currency) (has, are) =
    let f = amount_and_currency_are apdu.body amount currency are in
    ((f.0, f.1), tt, apdu_is apdu 0x22 (canonical_amount_and_currency amount currency) has f.2)
spelt_written apdu (Complete receipt amount currency) (has, number, fields, is_receipt, are, is) =
    let n = number_digits 2 number receipt is_receipt in
    let f = amount_and_currency_are fields amount currency are in (
      (n.0, f.0, f.1),
      tt,
      apdu_is apdu 0x24 (0x87 ∷ (bcd_of 2 receipt ++ canonical_amount_and_currency amount currency)) has
          (is ∙ ap (λ (d : List ℕ). 0x87 ∷ (d ++ fields)) n.1 ∙ ap (λ (d : List ℕ). 0x87 ∷ (bcd_of 2 receipt ++ d)) f.2),
    )

written_spells : (more : More) → HasMoreDigits more → HasMoreSizes more → SpellsMore (more_apdu more) more
written_spells (Refund password amount currency) (digits, few, small) size =
    ((refl, refl), canonical_amount_and_currency amount currency, (size, digits), canonical_spells amount currency few small, refl)
written_spells (Reserve amount currency) (few, small) size = ((refl, refl), canonical_spells amount currency few small)
written_spells (Complete receipt amount currency) (short, few, small) size =
    ((refl, refl), bcd_of 2 receipt, canonical_amount_and_currency amount currency, digits_spell 2 receipt short, canonical_spells amount currency few small, refl)

pub written_clause : (apdu : ApduValue) (more : More) → SpellsMore apdu more ↔ Written apdu more
written_clause apdu more = (
  spelt_written apdu more,
  λ (digits, sizes, is). subst (λ (a : ApduValue). SpellsMore a more) (sym is) (written_spells more digits sizes),
)

pub one_spelling : (a b : ApduValue) (more : More) → SpellsMore a more → SpellsMore b more → a ≡ b
one_spelling a b more first second = (spelt_written a more first).2 ∙ sym (spelt_written b more second).2

-- ---- no command of the crate below

-- an instruction of one of the three
abbrev is_more : ℕ → Bool
is_more instr = eqb instr 0x31 || (eqb instr 0x22 || eqb instr 0x24)

more_instructions : (more : More) → is_more (more_instruction more) ≡ true
more_instructions (Refund password amount currency) = refl
more_instructions (Reserve amount currency) = refl
more_instructions (Complete receipt amount currency) = refl

other_instructions : (c : Command) → is_more (instruction_of c) ≡ false
other_instructions (command.Register password config currency) = refl
other_instructions (command.Authorise amount currency) = refl
other_instructions (command.Enquire password) = refl
other_instructions (command.Reverse password receipt) = refl
other_instructions (command.EndOfDay password) = refl
other_instructions command.Stop = refl
other_instructions (command.Show lines) = refl

-- the law of the crate below on what spells a command
abbrev pub CommandsAreWritten : Type 0
CommandsAreWritten = (apdu : ApduValue) (c : Command) → SpellsCommand apdu c ↔ (HasCommandDigits c × HasCommandSizes c × (apdu ≡ command_apdu c))

pub apart : CommandsAreWritten → (apdu : ApduValue) (more : More) (c : Command) → SpellsMore apdu more → ¬ SpellsCommand apdu c
apart written apdu more c first second =
    let mine = (spelt_written apdu more first).2 in
    let other = ((written apdu c).0 second).2 in
    let same : more_instruction more ≡ instruction_of c = ap (λ (a : ApduValue). a.instr) (sym mine ∙ other) in
    let not_one : is_more (more_instruction more) ≡ false = ap is_more same ∙ other_instructions c in
    let one = more_instructions more in
    cc (one, not_one)

-- ---- how long it is, and that it is read again

fields_size : (amount currency : ℕ) → length (canonical_amount_and_currency amount currency) ≡ 10
fields_size amount currency = omega (arith, length-append (bcd_of 6 amount) (0x49 ∷ bcd_of 2 currency), length-bcd_of 6 amount, length-bcd_of 2 currency)

data_size : (more : More) → HasMoreSizes more → length (more_data more) ≤ 13
data_size (Refund password amount currency) size =
    omega (arith, size, length-append password (canonical_amount_and_currency amount currency), fields_size amount currency)
data_size (Reserve amount currency) size = omega (arith, fields_size amount currency)
data_size (Complete receipt amount currency) size =
    omega (arith, length-append (bcd_of 2 receipt) (canonical_amount_and_currency amount currency), length-bcd_of 2 receipt, fields_size amount currency)

-- the law of the crate below on what it writes
abbrev pub ApduAgain : Type 0
ApduAgain = (apdu : ApduValue) → length apdu.body ≤ longest_apdu_data → SpellsApdu (canonical_apdu apdu.class apdu.instr apdu.body) apdu

pub more_again : ApduAgain → (more : More) (rest : List ℕ) → HasMoreDigits more → HasMoreSizes more → BeginsWithApdu (canonical_more_command more ++ rest) (more_apdu more) rest × (decode_more (more_apdu more) ≡ Some more)
more_again again more rest digits sizes =
    ((canonical_more_command more, again (more_apdu more) (omega (arith, data_size more sizes)), refl), spelt_found (more_apdu more) more (written_spells more digits sizes))

short_apdu : (class instr : ℕ) (apdu_data : List ℕ) → length apdu_data < 255 → length (canonical_apdu class instr apdu_data) ≡ 3 + length apdu_data
short_apdu class instr apdu_data below = let test : ltb (length apdu_data) 255 ≡ true = lt-ltb _ _ below in rw test (omega arith)

pub more_size : (more : More) → HasMoreSizes more → length (canonical_more_command more) ≤ 16
more_size more sizes =
    let size : length (more_data more) ≤ 13 = data_size more sizes in
    omega (arith, short_apdu 0x06 (more_instruction more) (more_data more) (omega (arith, size)), size)
