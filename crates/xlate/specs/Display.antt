-- What a terminal shows of the outputs of a Display.
use Rattle.std.specs.Prelude.{ℕ, Bool, List, [], map, take, find, bytes_eq, codes, Option, Some, None, option_map}
use Rattle.std.specs.Str.{chars}
use Rattle.gw_base.specs.Text437.{byte_of}
use Rattle.sale_values.specs.declared.request.Output.{Output}
use Rattle.zvt_msg.specs.declared.command.Command.{Command}
use Rattle.zvt_msg.specs.declared.command.Command.TheVariants.{Show}

-- the output is for the customer's display
abbrev pub is_for_customer : Output → Bool
is_for_customer output = bytes_eq output.device (codes "CustomerDisplay")

-- the first output for the customer's display
abbrev pub customer_output : List Output → Option Output
customer_output outputs = find is_for_customer outputs

-- a line: the first 40 characters of a text, in the bytes of a terminal's text
abbrev pub display_line : List ℕ → List ℕ
display_line text = map byte_of (take 40 (chars text))

-- the lines: one for each of the first eight texts; none where there are no texts
abbrev pub display_lines : Option (List (List ℕ)) → List (List ℕ)
display_lines None = []
display_lines (Some texts) = map display_line (take 8 texts)

-- the command that shows these lines
abbrev pub show_lines : List (List ℕ) → Command
show_lines lines = Show (record { items = map (λ line. record { items = line }) lines })

-- the command that shows the first output for the customer's display; none where there is none
abbrev pub show : List Output → Option Command
show outputs = option_map (λ output. show_lines (display_lines output.texts)) (customer_output outputs)
