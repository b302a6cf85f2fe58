-- The error condition of a terminal's code: the error code of a refusal, or the result code of a status or an abort.
use Rattle.std.specs.Prelude.{ℕ, ◌==◌, Bool, ◌&&◌, if◌then◌else◌, List, [], ◌∷◌}
use Rattle.gw_base.specs.declared.condition.Condition.{Condition}
use Rattle.gw_base.specs.declared.condition.Condition.TheVariants.{Aborted, Cancel, InsertedCard, InvalidCard, NotAllowed, Refusal, UnavailableService}

-- a result code and its condition
pub record CodeRow : Type 0 where
  pub result_code : ℕ
  pub condition : Condition

-- the result code of an abort at the terminal, or by a stop
abbrev pub abort_result_code : ℕ
abort_result_code = 0x6C

-- the result codes that have a condition of their own
abbrev pub code_rows : List CodeRow
code_rows =
    record { result_code = abort_result_code; condition = Cancel }
    ∷ record { result_code = 0x78; condition = InvalidCard }
    ∷ record { result_code = 0x83; condition = UnavailableService }
    ∷ record { result_code = 0x6F; condition = NotAllowed }
    ∷ record { result_code = 0xB4; condition = NotAllowed }
    ∷ record { result_code = 0xB5; condition = NotAllowed }
    ∷ record { result_code = 0xDC; condition = InsertedCard }
    ∷ []

-- the condition that the rows have for a result code; every other is a refusal
abbrev pub condition_in_rows : List CodeRow → ℕ → Condition
condition_in_rows [] result_code = Refusal
condition_in_rows (row ∷ rows) result_code = if row.result_code == result_code then row.condition else condition_in_rows rows result_code

-- the condition of a result code; an abort is `Aborted` where the dialogue sent a stop
abbrev pub condition_of_code : ℕ → Bool → Condition
condition_of_code result_code stop_sent =
    if (result_code == abort_result_code) && stop_sent then Aborted else condition_in_rows code_rows result_code
