-- The lines of a text, its words and its numbers, as functions that compute them.
use Rattle.std.specs.Prelude.{ℕ, ◌+◌, ◌-◌, ◌*◌, ◌^◌, Bool, true, false, nat_lt, nat_le, ◌==◌, ◌&&◌, not, if◌then◌else◌, List, [], ◌∷◌, Option, Some, None, length}
use Rattle.std.specs.List.{list_all}

-- the most bytes that a script may have
abbrev pub script_limit : ℕ
script_limit = 4194304

-- nothing is in the list
abbrev pub is_empty : {A : Type 0} → List A → Bool
is_empty [] = true
is_empty (first ∷ rest) = false

-- a decimal digit in ASCII
abbrev pub is_digit : ℕ → Bool
is_digit byte = nat_le 48 byte && nat_le byte 57

-- the value of more decimal digits after those of n, below 2^64
abbrev pub more_digits : ℕ → List ℕ → Option ℕ
more_digits n [] = Some n
more_digits n (digit ∷ digits) = if is_digit digit && nat_lt (n * 10 + (digit - 48)) (2 ^ 64) then more_digits (n * 10 + (digit - 48)) digits else None

-- a decimal number below 2^64, without sign or leading zeros
abbrev pub number : List ℕ → Option ℕ
number [] = None
number (digit ∷ digits) = if (digit == 48) && not (is_empty digits) then None else more_digits 0 (digit ∷ digits)

-- a word, and what follows the one space that ends it
pub record WordAndRest : Type 0 where
  pub word : List ℕ
  pub rest : List ℕ

-- a split with one byte more at the beginning of its word
abbrev pub with_first_of_word : ℕ → Option WordAndRest → Option WordAndRest
with_first_of_word byte None = None
with_first_of_word byte (Some split) = Some (record split { word = byte ∷ split.word })

-- the text split at its first space, where it has one
abbrev pub split_at_space : List ℕ → Option WordAndRest
split_at_space [] = None
split_at_space (byte ∷ text) = if byte == 32 then Some (record { word = []; rest = text }) else with_first_of_word byte (split_at_space text)

-- printable ASCII but the space
abbrev pub is_visible : ℕ → Bool
is_visible byte = nat_le 33 byte && nat_le byte 126

-- a name is one word of 1 to 40 bytes of printable ASCII
abbrev pub is_name : List ℕ → Bool
is_name word = nat_le 1 (length word) && nat_le (length word) 40 && list_all is_visible word

-- an empty line, or a comment
abbrev pub is_blank : List ℕ → Bool
is_blank [] = true
is_blank (byte ∷ bytes) = byte == 35

-- these texts with one byte more at the beginning of the first
abbrev pub with_prefix : ℕ → List (List ℕ) → List (List ℕ)
with_prefix byte [] = (byte ∷ []) ∷ []
with_prefix byte (text ∷ texts) = (byte ∷ text) ∷ texts

-- the texts that line ends close; the last one may lack its line end
abbrev pub split_lines : List ℕ → List (List ℕ)
split_lines [] = []
split_lines (byte ∷ bytes) = if byte == 10 then [] ∷ split_lines bytes else with_prefix byte (split_lines bytes)
