-- The function that computes the command of an APDU agrees with the definition, and each command has one APDU.
use Rattle.std.proofs.Common.{◌≡◌, ℕ, ◌+◌, ◌*◌, ◌^◌, ◌<◌, ◌≤◌, Bool, true, false, cond, eqb, List, [], ◌∷◌, ◌++◌, length, take, drop, Option, Some, None, refl, sym, ap, subst, ◌∙◌, arith}
use Rattle.std.specs.Prelude.{◌↔◌, ◌&&◌, IsNone}
use Rattle.std.proofs.lemmas.Bool.{eq-eqb, eqb-true, and_parts}
use Rattle.std.proofs.lemmas.List.{take_at, drop_at, take-append-drop, length-append}
use Rattle.arrayvec.specs.ArrayVec.{ArrayVec}
use Rattle.gw_base.specs.Bcd.{bcd_value, bcd_of, is_bcd}
use Rattle.gw_base.proofs.BcdLemmas.{length-bcd_of, bcd_value_bound, bcd_of-value, bcd_value-of, bcd_passes, passes_bcd}
use Rattle.zvt_apdu.specs.Grammar.{ApduValue}
use Rattle.zvt_msg.specs.declared.command.Command.{Command}
use Rattle.zvt_msg.specs.declared.command.Command.TheVariants.{Register, Authorise, Enquire, Reverse, EndOfDay, Stop, Show}
use Rattle.zvt_msg.specs.MessageGrammar.{HasClassAndInstruction}
use Rattle.zvt_msg.specs.CommandGrammar.{IsPassword, SpellsBcdNumber, AreShortLines, SpellsCommand, HasCommandDigits, HasCommandSizes}
use Rattle.zvt_msg.specs.CommandDecode.{decode_password, decode_bcd_number, decode_display_lines, register_with, register_at, decode_register, authorise_with, authorise_at, decode_authorise, reverse_with, reverse_at, decode_reverse, enquire_with, end_of_day_with, decode_stop, show_with, decode_show, decode_command_by, decode_command}
use Rattle.zvt_msg.specs.CommandCanonical.{command_data, command_apdu, canonical_display_lines}
use Rattle.zvt_msg.proofs.DisplayGrammarLemmas.{AreFound, lines_found, found_lines, lines_are, lines_spell}

-- ---- passwords and numbers

pub number_with : (count : ℕ) (bytes : List ℕ) → length bytes ≡ count → cond (is_bcd bytes) (Some (bcd_value bytes)) None ≡ decode_bcd_number count bytes
number_with count bytes is = rw (eq-eqb (length bytes) count is) refl

password_found : (bytes : List ℕ) → IsPassword bytes → decode_password bytes ≡ Some bytes
password_found bytes (size, digits) = rw (eq-eqb (length bytes) 3 size, bcd_passes bytes digits) refl

number_found : (count : ℕ) (bytes : List ℕ) (n : ℕ) → SpellsBcdNumber count bytes n → decode_bcd_number count bytes ≡ Some n
number_found count bytes n (size, digits, value) = rw (eq-eqb (length bytes) count size, bcd_passes bytes digits) (ap (λ (m : ℕ). Some m) value)

abbrev some : {A : Type 0} → A → Option A
some x = Some x

some_is : {A : Type 0} (x y : A) → some x ≡ some y → x ≡ y
some_is x y e = cc

password_by : (bytes password : List ℕ) (test : Bool) → (eqb (length bytes) 3 && is_bcd bytes) ≡ test → cond test (some bytes) None ≡ some password → IsPassword password × (bytes ≡ password)
password_by bytes password false is e = absurd cc
password_by bytes password true is e =
    let tests = and_parts (eqb (length bytes) 3) (is_bcd bytes) is in
    let same = some_is bytes password e in
    (subst IsPassword same (eqb-true _ _ tests.0, passes_bcd bytes tests.1), same)

found_password : (bytes password : List ℕ) → decode_password bytes ≡ Some password → IsPassword password × (bytes ≡ password)
found_password bytes password e = password_by bytes password _ refl e

number_by : (count : ℕ) (bytes : List ℕ) (n : ℕ) (test : Bool) → (eqb (length bytes) count && is_bcd bytes) ≡ test → cond test (some (bcd_value bytes)) None ≡ some n → SpellsBcdNumber count bytes n
number_by count bytes n false is e = absurd cc
number_by count bytes n true is e =
    let tests = and_parts (eqb (length bytes) count) (is_bcd bytes) is in
    (eqb-true _ _ tests.0, passes_bcd bytes tests.1, some_is (bcd_value bytes) n e)

found_number : (count : ℕ) (bytes : List ℕ) (n : ℕ) → decode_bcd_number count bytes ≡ Some n → SpellsBcdNumber count bytes n
found_number count bytes n e = number_by count bytes n _ refl e

-- ---- the command that was found is spelt

abbrev Is : ApduValue → Option Command → Type 0
Is apdu None = Unit {0}
Is apdu (Some command) = SpellsCommand apdu command

by_test : (apdu : ApduValue) (test : Bool) (x y : Option Command) → (test ≡ true → Is apdu x) → Is apdu y → Is apdu (cond test x y)
by_test apdu true x y first second = first refl
by_test apdu false x y first second = second

-- data that begin with a password
prefix_is : (apdu_data password rest : List ℕ) → take 3 apdu_data ≡ password → drop 3 apdu_data ≡ rest → apdu_data ≡ password ++ rest
prefix_is apdu_data password rest first second =
    sym (take-append-drop 3 apdu_data) ∙ ap (λ (f : List ℕ). f ++ drop 3 apdu_data) first ∙ ap (λ (r : List ℕ). password ++ r) second

register_number : (apdu : ApduValue) → HasClassAndInstruction apdu 0x06 0x00 → (password : Option (List ℕ)) (config : ℕ) (number : List ℕ) (currency : Option ℕ) → decode_password (take 3 apdu.body) ≡ password → drop 3 apdu.body ≡ config ∷ number → decode_bcd_number 2 number ≡ currency → Is apdu (register_with password config currency)
register_number apdu has None config number currency first rest second = tt
register_number apdu has (Some password) config number None first rest second = tt
register_number apdu has (Some password) config number (Some currency) first rest second =
    let is = found_password (take 3 apdu.body) password first in
    (has, number, is.0, found_number 2 number currency second, prefix_is apdu.body password (config ∷ number) is.1 rest)

register_rest : (apdu : ApduValue) → HasClassAndInstruction apdu 0x06 0x00 → (rest : List ℕ) → drop 3 apdu.body ≡ rest → Is apdu (register_at (decode_password (take 3 apdu.body)) rest)
register_rest apdu has [] e = tt
register_rest apdu has (config ∷ number) e = register_number apdu has (decode_password (take 3 apdu.body)) config number (decode_bcd_number 2 number) refl e refl

reverse_number : (apdu : ApduValue) → HasClassAndInstruction apdu 0x06 0x30 → (password : Option (List ℕ)) (number : List ℕ) (receipt : Option ℕ) → decode_password (take 3 apdu.body) ≡ password → drop 3 apdu.body ≡ 0x87 ∷ number → decode_bcd_number 2 number ≡ receipt → Is apdu (reverse_with password receipt)
reverse_number apdu has None number receipt first rest second = tt
reverse_number apdu has (Some password) number None first rest second = tt
reverse_number apdu has (Some password) number (Some receipt) first rest second =
    let is = found_password (take 3 apdu.body) password first in
    (has, number, is.0, found_number 2 number receipt second, prefix_is apdu.body password (0x87 ∷ number) is.1 rest)

reverse_rest : (apdu : ApduValue) → HasClassAndInstruction apdu 0x06 0x30 → (rest : List ℕ) → drop 3 apdu.body ≡ rest → Is apdu (reverse_at (decode_password (take 3 apdu.body)) rest)
reverse_rest apdu has [] e = tt
reverse_rest apdu has (b ∷ number) e =
    by_test apdu (eqb b 0x87) _ _ (λ is. reverse_number apdu has (decode_password (take 3 apdu.body)) number (decode_bcd_number 2 number) refl (e ∙ ap (λ (a : ℕ). a ∷ number) (eqb-true _ _ is)) refl) tt

authorise_number : (apdu : ApduValue) → HasClassAndInstruction apdu 0x06 0x01 → (digits number : List ℕ) (amount currency : Option ℕ) → apdu.body ≡ 0x04 ∷ (digits ++ 0x49 ∷ number) → decode_bcd_number 6 digits ≡ amount → decode_bcd_number 2 number ≡ currency → Is apdu (authorise_with amount currency)
authorise_number apdu has digits number None currency e first second = tt
authorise_number apdu has digits number (Some amount) None e first second = tt
authorise_number apdu has digits number (Some amount) (Some currency) e first second =
    (has, digits, number, found_number 6 digits amount first, found_number 2 number currency second, e)

authorise_rest : (apdu : ApduValue) → HasClassAndInstruction apdu 0x06 0x01 → (bytes rest : List ℕ) → apdu.body ≡ 0x04 ∷ bytes → drop 6 bytes ≡ rest → Is apdu (authorise_at (decode_bcd_number 6 (take 6 bytes)) rest)
authorise_rest apdu has bytes [] e r = tt
authorise_rest apdu has bytes (b ∷ number) e r =
    by_test apdu (eqb b 0x49) _ _ (λ is.
    let whole : bytes ≡ take 6 bytes ++ 0x49 ∷ number = sym (take-append-drop 6 bytes) ∙ ap (λ (t : List ℕ). take 6 bytes ++ t) (r ∙ ap (λ (a : ℕ). a ∷ number) (eqb-true _ _ is)) in
    authorise_number apdu has (take 6 bytes) number (decode_bcd_number 6 (take 6 bytes)) (decode_bcd_number 2 number) (e ∙ ap (λ (t : List ℕ). 0x04 ∷ t) whole) refl refl) tt

authorise_data : (apdu : ApduValue) → HasClassAndInstruction apdu 0x06 0x01 → (apdu_data : List ℕ) → apdu.body ≡ apdu_data → Is apdu (decode_authorise apdu_data)
authorise_data apdu has [] e = tt
authorise_data apdu has (b ∷ bytes) e =
    by_test apdu (eqb b 0x04) _ _ (λ is. authorise_rest apdu has bytes (drop 6 bytes) (e ∙ ap (λ (a : ℕ). a ∷ bytes) (eqb-true _ _ is)) refl) tt

enquire_by : (apdu : ApduValue) → HasClassAndInstruction apdu 0x06 0x20 → (password : Option (List ℕ)) → decode_password apdu.body ≡ password → Is apdu (enquire_with password)
enquire_by apdu has None e = tt
enquire_by apdu has (Some password) e = let is = found_password apdu.body password e in (has, is.0, is.1)

end_of_day_by : (apdu : ApduValue) → HasClassAndInstruction apdu 0x06 0x50 → (password : Option (List ℕ)) → decode_password apdu.body ≡ password → Is apdu (end_of_day_with password)
end_of_day_by apdu has None e = tt
end_of_day_by apdu has (Some password) e = let is = found_password apdu.body password e in (has, is.0, is.1)

stop_by : (apdu : ApduValue) → HasClassAndInstruction apdu 0x06 0xB0 → (apdu_data : List ℕ) → apdu.body ≡ apdu_data → Is apdu (decode_stop apdu_data)
stop_by apdu has [] e = (has, e)
stop_by apdu has (b ∷ apdu_data) e = tt

show_lines : (apdu : ApduValue) → HasClassAndInstruction apdu 0x06 0xE0 → (text : List ℕ) (lines : Option (List (ArrayVec ℕ))) → apdu.body ≡ 0xF0 ∷ 0x05 ∷ text → AreFound 8 0xF1 text lines → Is apdu (show_with lines)
show_lines apdu has text None e found = tt
show_lines apdu has text (Some lines) e (few, sized, spells) = (has, text, (few, sized), spells, e)

lines_are_found : (text : List ℕ) → AreFound 8 0xF1 text (decode_display_lines text)
unfolding decode_display_lines
lines_are_found text = found_lines 8 0xF1 text

show_by : (apdu : ApduValue) → HasClassAndInstruction apdu 0x06 0xE0 → (apdu_data : List ℕ) → apdu.body ≡ apdu_data → Is apdu (decode_show apdu_data)
show_by apdu has [] e = tt
show_by apdu has (b ∷ []) e = tt
show_by apdu has (b ∷ c ∷ text) e =
    by_test apdu (eqb b 0xF0 && eqb c 0x05) _ _ (λ is.
    let tests = and_parts (eqb b 0xF0) (eqb c 0x05) is in
    show_lines apdu has text (decode_display_lines text) (e ∙ ap (λ (a : ℕ). a ∷ c ∷ text) (eqb-true _ _ tests.0) ∙ ap (λ (a : ℕ). 0xF0 ∷ a ∷ text) (eqb-true _ _ tests.1)) (lines_are_found text)) tt

command_is : (apdu : ApduValue) → Is apdu (decode_command apdu)
unfolding decode_command
command_is apdu =
    by_test apdu (eqb apdu.class 0x06) _ _ (λ class.
    let six = eqb-true apdu.class 0x06 class in
    by_test apdu (eqb apdu.instr 0x00) _ _ (λ i. register_rest apdu (six, eqb-true _ _ i) (drop 3 apdu.body) refl)
    (by_test apdu (eqb apdu.instr 0x01) _ _ (λ i. authorise_data apdu (six, eqb-true _ _ i) apdu.body refl)
    (by_test apdu (eqb apdu.instr 0x20) _ _ (λ i. enquire_by apdu (six, eqb-true _ _ i) (decode_password apdu.body) refl)
    (by_test apdu (eqb apdu.instr 0x30) _ _ (λ i. reverse_rest apdu (six, eqb-true _ _ i) (drop 3 apdu.body) refl)
    (by_test apdu (eqb apdu.instr 0x50) _ _ (λ i. end_of_day_by apdu (six, eqb-true _ _ i) (decode_password apdu.body) refl)
    (by_test apdu (eqb apdu.instr 0xB0) _ _ (λ i. stop_by apdu (six, eqb-true _ _ i) apdu.body refl)
    (by_test apdu (eqb apdu.instr 0xE0) _ _ (λ i. show_by apdu (six, eqb-true _ _ i) apdu.body refl) tt))))))) tt

-- ---- a command that is spelt is found

of_instr : (apdu : ApduValue) (instr : ℕ) → HasClassAndInstruction apdu 0x06 instr → decode_command apdu ≡ decode_command_by instr apdu.body
unfolding decode_command
of_instr apdu instr (class, is) = rw (class, is) refl

after_password : (password rest : List ℕ) → IsPassword password → (take 3 (password ++ rest) ≡ password) × (drop 3 (password ++ rest) ≡ rest)
after_password password rest is = (take_at password rest 3 is.0, drop_at password rest 3 is.0)

lines_shown : (lines : ArrayVec (ArrayVec ℕ)) (text : List ℕ) (found : Option (List (ArrayVec ℕ))) → found ≡ Some lines.items → show_with found ≡ Some (Show lines)
lines_shown lines text found e = ap show_with e

pub spelt_found : (apdu : ApduValue) (command : Command) → SpellsCommand apdu command → decode_command apdu ≡ Some command
unfolding decode_display_lines
spelt_found apdu (Register password config currency) (has, number, is_password, is_number, is) =
    let prefix = after_password password (config ∷ number) is_password in
    of_instr apdu 0x00 has ∙ ap decode_register is
    ∙ ap (λ (t : List ℕ). register_at (decode_password t) (drop 3 (password ++ config ∷ number))) prefix.0
    ∙ ap (register_at (decode_password password)) prefix.1
    ∙ rw (password_found password is_password, number_found 2 number currency is_number) refl
spelt_found apdu (Authorise amount currency) (has, digits, number, is_amount, is_currency, is) =
    of_instr apdu 0x01 has ∙ ap decode_authorise is
    ∙ ap (λ (t : List ℕ). authorise_at (decode_bcd_number 6 t) (drop 6 (digits ++ 0x49 ∷ number))) (take_at digits (0x49 ∷ number) 6 is_amount.0)
    ∙ ap (authorise_at (decode_bcd_number 6 digits)) (drop_at digits (0x49 ∷ number) 6 is_amount.0)
    ∙ rw (number_found 6 digits amount is_amount, number_found 2 number currency is_currency) refl
spelt_found apdu (Enquire password) (has, is_password, is) =
    of_instr apdu 0x20 has ∙ ap (λ (b : List ℕ). enquire_with (decode_password b)) is ∙ ap enquire_with (password_found password is_password)
spelt_found apdu (Reverse password receipt) (has, number, is_password, is_number, is) =
    let prefix = after_password password (0x87 ∷ number) is_password in
    of_instr apdu 0x30 has ∙ ap decode_reverse is
    ∙ ap (λ (t : List ℕ). reverse_at (decode_password t) (drop 3 (password ++ 0x87 ∷ number))) prefix.0
    ∙ ap (reverse_at (decode_password password)) prefix.1
    ∙ rw (password_found password is_password, number_found 2 number receipt is_number) refl
spelt_found apdu (EndOfDay password) (has, is_password, is) =
    of_instr apdu 0x50 has ∙ ap (λ (b : List ℕ). end_of_day_with (decode_password b)) is ∙ ap end_of_day_with (password_found password is_password)
spelt_found apdu Stop (has, is) = of_instr apdu 0xB0 has ∙ ap decode_stop is
spelt_found apdu (Show lines) (has, text, fits, spells, is) =
    of_instr apdu 0xE0 has ∙ ap decode_show is ∙ lines_shown lines text (decode_display_lines text) (lines_found lines.items 8 0xF1 text fits.0 fits.1 spells)

-- ---- the clauses of the call

pub some_clause : (apdu : ApduValue) (command : Command) → (decode_command apdu ≡ Some command) ↔ SpellsCommand apdu command
some_clause apdu command = ((λ e. subst (Is apdu) e (command_is apdu)), spelt_found apdu command)

none_by : (apdu : ApduValue) (found : Option Command) → decode_command apdu ≡ found → ((command : Command) → ¬ SpellsCommand apdu command) → IsNone found
none_by apdu None e none = refl
none_by apdu (Some command) e none = absurd (none command (subst (Is apdu) e (command_is apdu)))

none_at : (apdu : ApduValue) (found : Option Command) → decode_command apdu ≡ found → IsNone found → (command : Command) → ¬ SpellsCommand apdu command
none_at apdu None e is command spells = let there = spelt_found apdu command spells in cc (there, e)
none_at apdu (Some other) e is command spells = absurd cc

pub none_clause : (apdu : ApduValue) → IsNone (decode_command apdu) ↔ ((command : Command) → ¬ SpellsCommand apdu command)
none_clause apdu = (none_at apdu (decode_command apdu) refl, none_by apdu (decode_command apdu) refl)

-- ---- the one spelling

number_digits : (count : ℕ) (bytes : List ℕ) (n : ℕ) → SpellsBcdNumber count bytes n → (n < 100 ^ count) × (bytes ≡ bcd_of count n)
number_digits count bytes n (size, digits, value) =
    let small = bcd_value_bound bytes digits in
    let same = bcd_of-value bytes digits in (
      subst (λ (k : ℕ). n < 100 ^ k) size (subst (λ (m : ℕ). m < 100 ^ length bytes) value small),
      sym same ∙ ap (λ (k : ℕ). bcd_of k (bcd_value bytes)) size ∙ ap (bcd_of count) value,
    )

digits_spell : (count n : ℕ) → n < 100 ^ count → SpellsBcdNumber count (bcd_of count n) n
digits_spell count n small = let again = bcd_value-of count n small in (length-bcd_of count n, again.0, again.1)

abbrev six : ℕ → List ℕ → ApduValue
six instr apdu_data = record { class = 0x06; instr = instr; body = apdu_data }

apdu_is : (apdu : ApduValue) (instr : ℕ) (apdu_data : List ℕ) → HasClassAndInstruction apdu 0x06 instr → apdu.body ≡ apdu_data → apdu ≡ six instr apdu_data
apdu_is apdu instr apdu_data (class, is) same =
    ap (λ (c : ℕ). record { class = c; instr = apdu.instr; body = apdu.body }) class ∙ ap (λ (i : ℕ). six i apdu.body) is ∙ ap (six instr) same

abbrev Written : ApduValue → Command → Type 0
Written apdu command = HasCommandDigits command × HasCommandSizes command × (apdu ≡ command_apdu command)

pub spelt_written : (apdu : ApduValue) (command : Command) → SpellsCommand apdu command → Written apdu command
spelt_written apdu (Register password config currency) (has, number, is_password, is_number, is) =
    let n = number_digits 2 number currency is_number in
    ((is_password.1, n.0), is_password.0, apdu_is apdu 0x00 (password ++ config ∷ bcd_of 2 currency) has (is ∙ ap (λ (d : List ℕ). password ++ config ∷ d) n.1))
spelt_written apdu (Authorise amount currency) (has, digits, number, is_amount, is_currency, is) =
    let a = number_digits 6 digits amount is_amount in
    let n = number_digits 2 number currency is_currency in
    ((a.0, n.0), tt, apdu_is apdu 0x01 (0x04 ∷ (bcd_of 6 amount ++ 0x49 ∷ bcd_of 2 currency)) has (is ∙ ap (λ (d : List ℕ). 0x04 ∷ (d ++ 0x49 ∷ number)) a.1 ∙ ap (λ (d : List ℕ). 0x04 ∷ (bcd_of 6 amount ++ 0x49 ∷ d)) n.1))
spelt_written apdu (Enquire password) (has, is_password, is) = (is_password.1, is_password.0, apdu_is apdu 0x20 password has is)
spelt_written apdu (Reverse password receipt) (has, number, is_password, is_number, is) =
    let n = number_digits 2 number receipt is_number in
    ((is_password.1, n.0), is_password.0, apdu_is apdu 0x30 (password ++ 0x87 ∷ bcd_of 2 receipt) has (is ∙ ap (λ (d : List ℕ). password ++ 0x87 ∷ d) n.1))
spelt_written apdu (EndOfDay password) (has, is_password, is) = (is_password.1, is_password.0, apdu_is apdu 0x50 password has is)
spelt_written apdu Stop (has, is) = (tt, tt, apdu_is apdu 0xB0 [] has is)
spelt_written apdu (Show lines) (has, text, fits, spells, is) =
    (tt, fits, apdu_is apdu 0xE0 (0xF0 ∷ 0x05 ∷ canonical_display_lines 0xF1 lines.items) has (is ∙ ap (λ (t : List ℕ). 0xF0 ∷ 0x05 ∷ t) (lines_are lines.items 0xF1 text spells)))

pub written_spells : (command : Command) → HasCommandDigits command → HasCommandSizes command → SpellsCommand (command_apdu command) command
written_spells (Register password config currency) (digits, small) size =
    ((refl, refl), bcd_of 2 currency, (size, digits), digits_spell 2 currency small, refl)
written_spells (Authorise amount currency) (few, small) size =
    ((refl, refl), bcd_of 6 amount, bcd_of 2 currency, digits_spell 6 amount few, digits_spell 2 currency small, refl)
written_spells (Enquire password) digits size = ((refl, refl), (size, digits), refl)
written_spells (Reverse password receipt) (digits, small) size =
    ((refl, refl), bcd_of 2 receipt, (size, digits), digits_spell 2 receipt small, refl)
written_spells (EndOfDay password) digits size = ((refl, refl), (size, digits), refl)
written_spells Stop digits size = ((refl, refl), refl)
written_spells (Show lines) digits fits =
    ((refl, refl), canonical_display_lines 0xF1 lines.items, fits, lines_spell lines.items 0xF1 fits.1, refl)

pub written_clause : (apdu : ApduValue) (command : Command) → SpellsCommand apdu command ↔ Written apdu command
written_clause apdu command = (
  spelt_written apdu command,
  λ (digits, sizes, is). subst (λ (a : ApduValue). SpellsCommand a command) (sym is) (written_spells command digits sizes),
)

pub one_spelling : (a b : ApduValue) (command : Command) → SpellsCommand a command → SpellsCommand b command → a ≡ b
one_spelling a b command first second = (spelt_written a command first).2 ∙ sym (spelt_written b command second).2

pub one_command : (apdu : ApduValue) (a b : Command) → SpellsCommand apdu a → SpellsCommand apdu b → a ≡ b
one_command apdu a b first second = some_is a b (sym (spelt_found apdu a first) ∙ spelt_found apdu b second)

-- ---- how long it is

lines_size : (lines : List (ArrayVec ℕ)) (number : ℕ) → AreShortLines lines → length (canonical_display_lines number lines) ≤ 43 * length lines
lines_size [] number sized = omega arith
lines_size (line ∷ lines) number sized =
    omega (arith, sized.0, lines_size lines (number + 1) sized.1, length-append line.items (canonical_display_lines (number + 1) lines))

pub data_size : (command : Command) → HasCommandSizes command → length (command_data command) ≤ 12000
data_size (Register password config currency) size =
    omega (arith, size, length-append password (config ∷ bcd_of 2 currency), length-bcd_of 2 currency)
data_size (Authorise amount currency) size =
    omega (arith, length-append (bcd_of 6 amount) (0x49 ∷ bcd_of 2 currency), length-bcd_of 6 amount, length-bcd_of 2 currency)
data_size (Enquire password) size = omega (arith, size)
data_size (Reverse password receipt) size =
    omega (arith, size, length-append password (0x87 ∷ bcd_of 2 receipt), length-bcd_of 2 receipt)
data_size (EndOfDay password) size = omega (arith, size)
data_size Stop size = omega arith
data_size (Show lines) fits = omega (arith, fits.0, lines_size lines.items 0xF1 fits.1)
