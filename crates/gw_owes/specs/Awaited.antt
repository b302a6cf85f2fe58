-- How many Acks and Nacks of a terminal are awaited.
use Rattle.std.specs.Prelude.{ℕ, zero, suc, ◌+◌, ◌-◌, ◌==◌, if◌then◌else◌}

-- The greatest count, which is a number of 32 bits. It stays until the next link, and until then no Nack is taken for the last command's.
abbrev pub most_awaited : ℕ
most_awaited = 4294967295

-- one more is awaited, once a command was sent
abbrev pub one_more_awaited : ℕ → ℕ
one_more_awaited awaited = if awaited == most_awaited then awaited else awaited + 1

-- one less is awaited, once an Ack or a Nack was heard; never fewer than none
abbrev pub one_less_awaited : ℕ → ℕ
one_less_awaited awaited = if awaited == most_awaited then awaited else awaited - 1

-- one more for each of so many commands
abbrev pub many_more : ℕ → ℕ → ℕ
many_more zero awaited = awaited
many_more (suc commands) awaited = many_more commands (one_more_awaited awaited)
