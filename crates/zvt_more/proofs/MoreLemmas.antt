-- The function that computes the command of an APDU agrees with the definition.
use Rattle.std.proofs.Common.{◌≡◌, ℕ, Bool, true, false, cond, eqb, List, [], ◌∷◌, ◌++◌, take, drop, Option, Some, None, refl, sym, ap, subst, ◌∙◌}
use Rattle.std.specs.Prelude.{◌↔◌, IsNone}
use Rattle.std.proofs.lemmas.Bool.{eqb-true}
use Rattle.std.proofs.lemmas.List.{take_at, drop_at}
use Rattle.zvt_apdu.specs.Grammar.{ApduValue}
use Rattle.zvt_msg.specs.MessageGrammar.{HasClassAndInstruction}
use Rattle.zvt_msg.specs.CommandDecode.{decode_password, decode_bcd_number}
use Rattle.zvt_more.specs.declared.more.More.{More}
use Rattle.zvt_more.specs.declared.more.More.TheVariants.{Refund, Reserve, Complete}
use Rattle.zvt_more.specs.Grammar.{SpellsMore}
use Rattle.zvt_more.specs.Decode.{decode_amount_and_currency, refund_with, decode_refund, reservation_with, reservation_completion_with, decode_reservation_completion, decode_more_by, decode_more}
use Rattle.zvt_more.proofs.PartLemmas.{some_is, password_found, found_password, number_found, found_number, prefix_is, found_spelt, spelt_are_found}

-- ---- the command that was found is spelt

abbrev Is : ApduValue → Option More → Type 0
Is apdu None = Unit {0}
Is apdu (Some more) = SpellsMore apdu more

by_test : (apdu : ApduValue) (test : Bool) (x y : Option More) → (test ≡ true → Is apdu x) → Is apdu y → Is apdu (cond test x y)
by_test apdu true x y first second = first refl
by_test apdu false x y first second = second

refund_by : (apdu : ApduValue) → HasClassAndInstruction apdu 0x06 0x31 → (password : Option (List ℕ)) (found : Option (ℕ × ℕ)) → decode_password (take 3 apdu.body) ≡ password → decode_amount_and_currency (drop 3 apdu.body) ≡ found → Is apdu (refund_with password found)
refund_by apdu has None found first second = tt
refund_by apdu has (Some password) None first second = tt
refund_by apdu has (Some password) (Some found) first second =
    let is = found_password (take 3 apdu.body) password first in
    (has, drop 3 apdu.body, is.0, found_spelt (drop 3 apdu.body) (Some found) second, prefix_is 3 apdu.body password (drop 3 apdu.body) is.1 refl)

reservation_by : (apdu : ApduValue) → HasClassAndInstruction apdu 0x06 0x22 → (found : Option (ℕ × ℕ)) → decode_amount_and_currency apdu.body ≡ found → Is apdu (reservation_with found)
reservation_by apdu has None e = tt
reservation_by apdu has (Some found) e = (has, found_spelt apdu.body (Some found) e)

completion_by : (apdu : ApduValue) → HasClassAndInstruction apdu 0x06 0x24 → (bytes : List ℕ) (receipt : Option ℕ) (found : Option (ℕ × ℕ)) → apdu.body ≡ 0x87 ∷ bytes → decode_bcd_number 2 (take 2 bytes) ≡ receipt → decode_amount_and_currency (drop 2 bytes) ≡ found → Is apdu (reservation_completion_with receipt found)
completion_by apdu has bytes None found e first second = tt
completion_by apdu has bytes (Some receipt) None e first second = tt
completion_by apdu has bytes (Some receipt) (Some found) e first second =
    (has, take 2 bytes, drop 2 bytes, found_number 2 (take 2 bytes) receipt first, found_spelt (drop 2 bytes) (Some found) second, e ∙ ap (λ (t : List ℕ). 0x87 ∷ t) (prefix_is 2 bytes (take 2 bytes) (drop 2 bytes) refl refl))

completion_data : (apdu : ApduValue) → HasClassAndInstruction apdu 0x06 0x24 → (apdu_data : List ℕ) → apdu.body ≡ apdu_data → Is apdu (decode_reservation_completion apdu_data)
completion_data apdu has [] e = tt
completion_data apdu has (b ∷ bytes) e =
    by_test apdu (eqb b 0x87) _ _ (λ is. completion_by apdu has bytes (decode_bcd_number 2 (take 2 bytes)) (decode_amount_and_currency (drop 2 bytes)) (e ∙ ap (λ (a : ℕ). a ∷ bytes) (eqb-true _ _ is)) refl refl) tt

more_is : (apdu : ApduValue) → Is apdu (decode_more apdu)
unfolding decode_more
more_is apdu =
    by_test apdu (eqb apdu.class 0x06) _ _ (λ class.
    let six = eqb-true apdu.class 0x06 class in
    by_test apdu (eqb apdu.instr 0x31) _ _ (λ i. refund_by apdu (six, eqb-true _ _ i) (decode_password (take 3 apdu.body)) (decode_amount_and_currency (drop 3 apdu.body)) refl refl)
    (by_test apdu (eqb apdu.instr 0x22) _ _ (λ i. reservation_by apdu (six, eqb-true _ _ i) (decode_amount_and_currency apdu.body) refl)
    (by_test apdu (eqb apdu.instr 0x24) _ _ (λ i. completion_data apdu (six, eqb-true _ _ i) apdu.body refl) tt))) tt

-- ---- a command that is spelt is found

of_instr : (apdu : ApduValue) (instr : ℕ) → HasClassAndInstruction apdu 0x06 instr → decode_more apdu ≡ decode_more_by instr apdu.body
unfolding decode_more
of_instr apdu instr (class, is) = rw (class, is) refl

pub spelt_found : (apdu : ApduValue) (more : More) → SpellsMore apdu more → decode_more apdu ≡ Some more
spelt_found apdu (Refund password amount currency) (has, fields, is_password, are, is) =
    of_instr apdu 0x31 has ∙ ap decode_refund is
    ∙ ap (λ (t : List ℕ). refund_with (decode_password t) (decode_amount_and_currency (drop 3 (password ++ fields)))) (take_at password fields 3 is_password.0)
    ∙ ap (λ (t : List ℕ). refund_with (decode_password password) (decode_amount_and_currency t)) (drop_at password fields 3 is_password.0)
    ∙ rw (password_found password is_password, spelt_are_found fields amount currency are) refl
spelt_found apdu (Reserve amount currency) (has, are) =
    of_instr apdu 0x22 has ∙ ap reservation_with (spelt_are_found apdu.body amount currency are)
spelt_found apdu (Complete receipt amount currency) (has, number, fields, is_receipt, are, is) =
    of_instr apdu 0x24 has ∙ ap decode_reservation_completion is
    ∙ ap (λ (t : List ℕ). reservation_completion_with (decode_bcd_number 2 t) (decode_amount_and_currency (drop 2 (number ++ fields)))) (take_at number fields 2 is_receipt.0)
    ∙ ap (λ (t : List ℕ). reservation_completion_with (decode_bcd_number 2 number) (decode_amount_and_currency t)) (drop_at number fields 2 is_receipt.0)
    ∙ rw (number_found 2 number receipt is_receipt, spelt_are_found fields amount currency are) refl

-- ---- the clauses of the reader

found_spells : (apdu : ApduValue) (more : More) → decode_more apdu ≡ Some more → SpellsMore apdu more
found_spells apdu more e = subst (Is apdu) e (more_is apdu)

pub some_clause : (apdu : ApduValue) (more : More) → (decode_more apdu ≡ Some more) ↔ SpellsMore apdu more
some_clause apdu more = (found_spells apdu more, spelt_found apdu more)

none_by : (apdu : ApduValue) (found : Option More) → decode_more apdu ≡ found → ((more : More) → ¬ SpellsMore apdu more) → IsNone found
none_by apdu None e none = refl
none_by apdu (Some more) e none = absurd (none more (found_spells apdu more e))

none_at : (apdu : ApduValue) (found : Option More) → decode_more apdu ≡ found → IsNone found → (more : More) → ¬ SpellsMore apdu more
none_at apdu None e is more spells = let there = spelt_found apdu more spells in cc (there, e)
none_at apdu (Some other) e is more spells = absurd cc

pub none_clause : (apdu : ApduValue) → IsNone (decode_more apdu) ↔ ((more : More) → ¬ SpellsMore apdu more)
none_clause apdu = (none_at apdu (decode_more apdu) refl, none_by apdu (decode_more apdu) refl)

pub one_command : (apdu : ApduValue) (a b : More) → SpellsMore apdu a → SpellsMore apdu b → a ≡ b
one_command apdu a b first second = some_is a b (sym (spelt_found apdu a first) ∙ spelt_found apdu b second)
