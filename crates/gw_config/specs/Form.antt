-- The forms of a configuration's values: what a value of each form gives, and nothing where a value isn't of the form.
use Rattle.std.specs.Prelude.{ℕ, ◌+◌, ◌-◌, ◌*◌, ◌==◌, nat_le, ℤ, pos, negsuc, Bool, ◌&&◌, if◌then◌else◌, Option, Some, None, List, [], ◌∷◌, length, is_some, option_and_then}
use Rattle.std.specs.Char.{is_ascii_digit}
use Rattle.std.specs.List.{list_all, find, filter_map}
use Rattle.std.specs.Str.{bytes_eq}
use Rattle.toml.specs.Data.{Data, Items, no_items, item, Members, as_str, as_integer, as_array, as_table}
use Rattle.gw_base.specs.Text437.{is_printable}
use Rattle.gw_base.specs.Currency.{currency_letters}
use Rattle.gw_base.specs.declared.currency.Currency.{Currency}
use Rattle.gw_base.specs.declared.currency.Currency.TheVariants.{Eur, Chf, Gbp, Usd, Dkk, Sek, Nok, Pln, Czk}

-- whether a number lies between two others, these included
abbrev pub is_from_to : ℕ → ℕ → ℕ → Bool
is_from_to low high number = nat_le low number && nat_le number high

-- a text of 1 to 255 bytes
abbrev pub short_text : Data → Option (List ℕ)
short_text value =
    option_and_then (λ text. if is_from_to 1 255 (length text) then Some text else None) (as_str value)

-- a text of 1 to 40 printable ASCII bytes
abbrev pub identifier : Data → Option (List ℕ)
identifier value =
    option_and_then
    (λ text. if is_from_to 1 40 (length text) && list_all is_printable text then Some text else None)
    (as_str value)

-- an integer as a number between two others
abbrev pub number_from : ℕ → ℕ → ℤ → Option ℕ
number_from low high (pos number) = if is_from_to low high number then Some number else None
number_from low high (negsuc _) = None

-- an integer between two numbers
abbrev pub integer_from : ℕ → ℕ → Data → Option ℕ
integer_from low high value = option_and_then (number_from low high) (as_integer value)

-- the currencies that there are
abbrev pub currencies : List Currency
currencies = Eur ∷ Chf ∷ Gbp ∷ Usd ∷ Dkk ∷ Sek ∷ Nok ∷ Pln ∷ Czk ∷ []

-- the three letters of a currency, as text
abbrev pub currency_code : Data → Option Currency
currency_code value = option_and_then (λ text. find (λ c. bytes_eq (currency_letters c) text) currencies) (as_str value)

-- digits of ASCII, two in each byte
abbrev pub packed : List ℕ → List ℕ
packed (tens ∷ ones ∷ digits) = (16 * (tens - 0x30) + (ones - 0x30)) ∷ packed digits
packed (ones ∷ []) = []
packed [] = []

-- six digits, as text: the password's three bytes
abbrev pub six_digits : Data → Option (List ℕ)
six_digits value =
    option_and_then
    (λ text. if (length text == 6) && list_all is_ascii_digit text then Some (packed text) else None)
    (as_str value)

-- the values of an array, in their order
abbrev pub array_values : Items → List Data
array_values no_items = []
array_values (item value others) = value ∷ array_values others

-- 1 to 32 tables, where each of these values is one
abbrev pub tables_among : List Data → Option (List Members)
tables_among values =
    if is_from_to 1 32 (length values) && list_all (λ value. is_some (as_table value)) values
    then Some (filter_map as_table values) else None

-- an array of 1 to 32 tables
abbrev pub some_tables : Data → Option (List Members)
some_tables value = option_and_then (λ elements. tables_among (array_values elements)) (as_array value)
