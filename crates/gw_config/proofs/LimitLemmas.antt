-- A setup that a table is lies within the limits of a setup.
use Rattle.std.proofs.Common.{◌≡◌, ℕ, suc, Result, Ok, Err, append_assoc, ◌+◌, ◌-◌, ◌*◌, ◌≤◌, Bool, true, false, ◌&&◌, eqb, if◌then◌else◌, ℤ, pos, negsuc, List, [], ◌∷◌, ◌++◌, length, map, Option, Some, None, refl, sym, ap, ◌∙◌, subst, arith}
use Rattle.std.specs.Prelude.{◌≢◌, All, nat_le, is_some, option_map, IfSome, IfOk, MatchResult, ◌||◌, codes}
use Rattle.std.specs.Char.{is_ascii_digit}
use Rattle.std.specs.List.{list_all, list_any, filter_map, cons_option}
use Rattle.std.specs.Option.{option_or}
use Rattle.std.specs.Str.{bytes_eq}
use Rattle.std.proofs.lemmas.Bool.{and_parts, leb-true, eqb-true, false≢true}
use Rattle.std.proofs.lemmas.List.Elements.{All-nil, All-cons, All-from_recursion}
use Rattle.std.proofs.lemmas.Option.{option_and_then_some, cond_some}
use Rattle.std.proofs.lemmas.Slice.Eq.{bytes_eq-Decides}
use Rattle.toml.specs.Data.{Data, Members, get_member, as_str, as_integer, as_array, as_table}
use Rattle.gw_base.specs.Bcd.{IsBcd, IsBcdByte}
use Rattle.gw_base.specs.Ident.{IsIdent}
use Rattle.gw_base.specs.Setup.{IsPt, IsSetup, HaveDistinctPois}
use Rattle.gw_base.specs.declared.setup.Pt.{Pt}
use Rattle.gw_base.specs.declared.setup.Setup.{Setup}
use Rattle.gw_config.specs.Form.{is_from_to, identifier, number_from, integer_from, packed, six_digits, array_values, tables_among, some_tables}
use Rattle.gw_config.specs.Keys.{KeyRule, said_by, key_fault, listen_key, journal_key, name_key, line_key, wait_key, slots_key, terminal_key, poi_key, password_key, config_key, none_key, answer_key, command_key}
use Rattle.gw_config.specs.Grammar.{IsPtOf, ArePtsOf, IsSetupOf}
use Rattle.gw_config.specs.Faults.{first_some, repeated_after, pois_of, each_fault, twice_fault, terminals_fault, terminals_of, table_fault}
use Rattle.gw_config.specs.declared.fault.ConfigFault.{ConfigFault}
use Rattle.gw_config.specs.declared.fault.ConfigFault.TheVariants.{Twice}
use Rattle.gw_config.proofs.TableLemmas.{pois_of-ArePtsOf}
use Rattle.gw_config.proofs.FormLemmas.{is_identifier, passed_identifier}

-- ---- what the forms give

bounds : (low high number : ℕ) → is_from_to low high number ≡ true → (low ≤ number) × (number ≤ high)
bounds low high number test =
    let parts = and_parts (nat_le low number) (nat_le number high) test in
    (leb-true low number parts.0, leb-true number high parts.1)

identifier_is : (value : Data) (text : List ℕ) → identifier value ≡ Some text → IsIdent 40 text
identifier_is value text is =
    option_and_then_some (λ t. if is_identifier t then Some t else None) (as_str value) text is
    (λ t found passed. let both = cond_some (is_identifier t) t text passed in subst (IsIdent 40) both.1 (passed_identifier t both.0))

number_is : (low high : ℕ) (z : ℤ) (number : ℕ) → number_from low high z ≡ Some number → (low ≤ number) × (number ≤ high)
number_is low high (pos n) number is =
    let both = cond_some (is_from_to low high n) n number is in
    subst (λ (m : ℕ). (low ≤ m) × (m ≤ high)) both.1 (bounds low high n both.0)
number_is low high (negsuc n) number is = absurd cc

integer_is : (low high : ℕ) (value : Data) (number : ℕ) → integer_from low high value ≡ Some number → (low ≤ number) × (number ≤ high)
integer_is low high value number is =
    option_and_then_some (number_from low high) (as_integer value) number is (λ z found passed. number_is low high z number passed)

said_is : {X : Type 0} (P : X → Type 0) (rule : KeyRule X) (found : Option Data) (x : X) → IfSome rule.absent P
    → ((value : Data) (y : X) → rule.form value ≡ Some y → P y) → said_by rule found ≡ Some x → P x
said_is P rule None x default formed is = rw is at default
said_is P rule (Some value) x default formed is = formed value x is

-- two digits in a byte
digit : (byte : ℕ) → is_ascii_digit byte ≡ true → (0x30 ≤ byte) × (byte ≤ 0x39)
digit byte test =
    let parts = and_parts (nat_le 0x30 byte) (nat_le byte 0x39) test in
    (leb-true 0x30 byte parts.0, leb-true byte 0x39 parts.1)

pair_is : (tens ones : ℕ) → is_ascii_digit tens ≡ true → is_ascii_digit ones ≡ true → IsBcdByte (16 * (tens - 0x30) + (ones - 0x30))
pair_is tens ones first second =
    let a = digit tens first in
    let b = digit ones second in
    (omega arith, omega arith)

-- a password's three bytes
abbrev IsPassword : List ℕ → Type 0
IsPassword bytes = (length bytes ≡ 3) × IsBcd bytes

packed_is : (text : List ℕ) → eqb (length text) 6 ≡ true → list_all is_ascii_digit text ≡ true → IsPassword (packed text)
packed_is (a ∷ b ∷ c ∷ d ∷ e ∷ f ∷ []) six digits =
    let first = and_parts (is_ascii_digit a) (list_all is_ascii_digit (b ∷ c ∷ d ∷ e ∷ f ∷ [])) digits in
    let second = and_parts (is_ascii_digit b) (list_all is_ascii_digit (c ∷ d ∷ e ∷ f ∷ [])) first.1 in
    let third = and_parts (is_ascii_digit c) (list_all is_ascii_digit (d ∷ e ∷ f ∷ [])) second.1 in
    let fourth = and_parts (is_ascii_digit d) (list_all is_ascii_digit (e ∷ f ∷ [])) third.1 in
    let fifth = and_parts (is_ascii_digit e) (list_all is_ascii_digit (f ∷ [])) fourth.1 in
    let sixth = and_parts (is_ascii_digit f) true fifth.1 in (
      refl,
      All-from_recursion IsBcdByte (packed (a ∷ b ∷ c ∷ d ∷ e ∷ f ∷ []))
          (pair_is a b first.0 second.0, (pair_is c d third.0 fourth.0, (pair_is e f fifth.0 sixth.0, tt))),
    )
packed_is text six digits = absurd (omega (arith, eqb-true (length text) 6 six))

password_is : (value : Data) (bytes : List ℕ) → six_digits value ≡ Some bytes → IsPassword bytes
password_is value bytes is =
    option_and_then_some (λ text. if eqb (length text) 6 && list_all is_ascii_digit text then Some (packed text) else None) (as_str value) bytes is
    (λ text found passed.
    let both = cond_some (eqb (length text) 6 && list_all is_ascii_digit text) (packed text) bytes passed in
    let parts = and_parts (eqb (length text) 6) (list_all is_ascii_digit text) both.0 in
    subst IsPassword both.1 (packed_is text parts.0 parts.1))

-- ---- terminals

fewer_with : (found : Option Members) (tables : List Members) (most : ℕ) → length tables ≤ most → length (cons_option found tables) ≤ suc most
fewer_with None tables most few = omega (arith, few)
fewer_with (Some table) tables most few = omega (arith, few)

fewer : (values : List Data) → length (filter_map as_table values) ≤ length values
fewer [] = omega arith
fewer (value ∷ values) = fewer_with (as_table value) (filter_map as_table values) (length values) (fewer values)

few_tables : (value : Data) (tables : List Members) → some_tables value ≡ Some tables → length tables ≤ 32
few_tables value tables is =
    option_and_then_some (λ elements. tables_among (array_values elements)) (as_array value) tables is
    (λ elements found passed.
    let values = array_values elements in
    let both = cond_some (is_from_to 1 32 (length values) && list_all (λ v. is_some (as_table v)) values) (filter_map as_table values) tables passed in
    let parts = and_parts (is_from_to 1 32 (length values)) (list_all (λ v. is_some (as_table v)) values) both.0 in
    subst (λ (ts : List Members). length ts ≤ 32) both.1 (omega (arith, fewer values, (bounds 1 32 (length values) parts.0).1)))

pt_is : (table : Members) (pt : Pt) → IsPtOf table pt → IsPt pt
pt_is table pt is = record {
  poi = said_is (IsIdent 40) poi_key (get_member poi_key.name table) pt.poi tt identifier_is is.poi;
  password = said_is IsPassword password_key (get_member password_key.name table) pt.password (packed_is (codes "000000") refl refl) password_is is.password;
  config = (said_is (λ n. (0 ≤ n) × (n ≤ 255)) config_key (get_member config_key.name table) pt.config (omega arith, omega arith) (integer_is 0 255) is.config).1;
  none = (said_is (λ n. (0 ≤ n) × (n ≤ 255)) none_key (get_member none_key.name table) pt.none (omega arith, omega arith) (integer_is 0 255) is.none).1;
  answer = said_is (λ n. (1 ≤ n) × (n ≤ 60)) answer_key (get_member answer_key.name table) pt.answer (omega arith, omega arith) (integer_is 1 60) is.answer;
  command = said_is (λ n. (1 ≤ n) × (n ≤ 3600)) command_key (get_member command_key.name table) pt.command (omega arith, omega arith) (integer_is 1 3600) is.command;
}

each_is : (tables : List Members) (pts : List Pt) → ArePtsOf tables pts → (length pts ≡ length tables) × All IsPt pts
each_is [] [] are = (refl, All-nil IsPt)
each_is [] (pt ∷ pts) are = absurd are
each_is (table ∷ tables) [] are = absurd are
each_is (table ∷ tables) (pt ∷ pts) are =
    let rest = each_is tables pts are.1 in
    (ap (λ (n : ℕ). suc n) rest.0, All-cons IsPt pt pts (pt_is table pt are.0) rest.1)

-- ---- POIIDs

abbrev pois : List Pt → List (List ℕ)
pois pts = map (λ pt. pt.poi) pts

none_parts : {X : Type 0} (a b : Option X) → option_or a b ≡ None → (a ≡ None) × (b ≡ None)
none_parts None b is = (refl, is)
none_parts (Some x) b is = absurd cc

not_taken : (test : Bool) (name : List ℕ) (rest : Option (List ℕ)) → (if test then Some name else rest) ≡ None → (test ≡ false) × (rest ≡ None)
not_taken true name rest is = absurd cc
not_taken false name rest is = (refl, is)

any_within : (test : List ℕ → Bool) (prefix : List (List ℕ)) (name : List ℕ) (back : List (List ℕ)) → test name ≡ true → list_any test (prefix ++ name ∷ back) ≡ true
any_within test [] name back passed = rw passed refl
any_within test (other ∷ prefix) name back passed = rw (any_within test prefix name back passed) (or_true (test other))
  where
    or_true : (b : Bool) → (b || true) ≡ true
    or_true true = refl
    or_true false = refl

-- no terminal has a name that came before
none_before : (prefix : List (List ℕ)) (name : List ℕ) (back : List (List ℕ)) (pts : List Pt)
    → repeated_after (prefix ++ name ∷ back) (pois pts) ≡ None → All (λ other. name ≢ other.poi) pts
none_before prefix name back [] none = All-nil (λ (other : Pt). name ≢ other.poi)
none_before prefix name back (pt ∷ pts) none =
    let parts = not_taken (list_any (bytes_eq pt.poi) (prefix ++ name ∷ back)) pt.poi (repeated_after ((prefix ++ name ∷ back) ++ pt.poi ∷ []) (pois pts)) none in
    let rest : repeated_after (prefix ++ name ∷ (back ++ pt.poi ∷ [])) (pois pts) ≡ None =
    ap (λ (before : List (List ℕ)). repeated_after before (pois pts)) (sym (append_assoc prefix (name ∷ back) (pt.poi ∷ []))) ∙ parts.1 in
    All-cons (λ (other : Pt). name ≢ other.poi) pt pts
    (λ same. false≢true (sym parts.0 ∙ any_within (bytes_eq pt.poi) prefix name back ((bytes_eq-Decides pt.poi name).1 (sym same))))
    (none_before prefix name (back ++ pt.poi ∷ []) pts rest)

distinct_are : (before : List (List ℕ)) (pts : List Pt) → repeated_after before (pois pts) ≡ None → HaveDistinctPois pts
distinct_are before [] none = tt
distinct_are before (pt ∷ pts) none =
    let parts = not_taken (list_any (bytes_eq pt.poi) before) pt.poi (repeated_after (before ++ pt.poi ∷ []) (pois pts)) none in
    (none_before before pt.poi [] pts parts.1, distinct_are (before ++ pt.poi ∷ []) pts parts.1)

not_mapped : (fault : List ℕ → ConfigFault) (found : Option (List ℕ)) → option_map fault found ≡ None → found ≡ None
not_mapped fault None is = refl
not_mapped fault (Some name) is = absurd cc

distinct_pts : (tables : List Members) (pts : List Pt) → ArePtsOf tables pts → terminals_fault tables ≡ None → HaveDistinctPois pts
distinct_pts tables pts are none =
    let twice = (none_parts (twice_fault tables) None (none_parts (each_fault tables) (first_some (twice_fault tables ∷ [])) none).1).0 in
    distinct_are [] pts (rw (pois_of-ArePtsOf tables pts are) at (not_mapped Twice (repeated_after [] (pois_of tables)) twice))

-- ---- a table

-- no terminal of a sound table has a fault
terminals_sound : (table : Members) → table_fault table ≡ None → terminals_fault (terminals_of table) ≡ None
terminals_sound table sound =
    let a = (none_parts (key_fault [] listen_key table) _ sound).1 in
    let b = (none_parts (key_fault [] journal_key table) _ a).1 in
    let c = (none_parts (key_fault [] name_key table) _ b).1 in
    let d = (none_parts (key_fault [] line_key table) _ c).1 in
    let e = (none_parts (key_fault [] wait_key table) _ d).1 in
    let f = (none_parts (key_fault [] slots_key table) _ e).1 in
    let g = (none_parts (key_fault [] terminal_key table) _ f).1 in
    (none_parts (terminals_fault (terminals_of table)) _ g).0

setup_is : (table : Members) (setup : Setup) → table_fault table ≡ None → IsSetupOf table setup → IsSetup setup
setup_is table setup sound is =
    let tables = is.terminals.0 in
    let are : ArePtsOf tables setup.terminals = is.terminals.2 in
    let each = each_is tables setup.terminals are in
    let few : length tables ≤ 32 = said_is (λ ts. length ts ≤ 32) terminal_key (get_member terminal_key.name table) tables tt few_tables is.terminals.1 in
    let none : terminals_fault tables ≡ None = rw is.terminals.1 at (terminals_sound table sound) in
    record {
      name = said_is (IsIdent 40) name_key (get_member name_key.name table) setup.name (passed_identifier (codes "GATEWAY") refl) identifier_is is.name;
      line = (said_is (λ n. (0 ≤ n) × (n ≤ 8)) line_key (get_member line_key.name table) setup.line (omega arith, omega arith) (integer_is 0 8) is.line).1;
      wait = said_is (λ n. (1 ≤ n) × (n ≤ 3600)) wait_key (get_member wait_key.name table) setup.wait (omega arith, omega arith) (integer_is 1 3600) is.wait;
      slots = said_is (λ n. (2 ≤ n) × (n ≤ 1000000)) slots_key (get_member slots_key.name table) setup.slots (omega arith, omega arith) (integer_is 2 1000000) is.slots;
      count = omega (arith, few, each.0);
      each = each.1;
      distinct = distinct_pts tables setup.terminals are none;
    }

pub within_limits : (table : Members) (result : Result Setup ConfigFault) (Q : ConfigFault → Type 0)
    → MatchResult result (λ setup. (table_fault table ≡ None) × IsSetupOf table setup) Q → IfOk result IsSetup
within_limits table (Ok setup) Q read = setup_is table setup read.0 read.1
within_limits table (Err fault) Q read = tt
