-- Which statuses were heard.
use Rattle.std.proofs.Common.{◌≡◌, true, false, List, [], ◌∷◌, Some, None, is_some, refl, ap}
use Rattle.std.specs.List.{filter_map, last_or, list_any}
use Rattle.zvt_bmp.specs.declared.fields.Fields.{Fields}
use Rattle.zvt_msg.specs.Message.{MessageValue}
use Rattle.zvt_talk.specs.Came.{Came, status_fields_of, has_result, last_status, messages, said_approved, statuses}

some_last : (heard : List Fields) (status : Fields) → is_some (last_or (Some status) heard) ≡ true
some_last [] status = refl
some_last (next ∷ heard) status = some_last heard next

none_heard : (heard : List Fields) → last_or None heard ≡ None → heard ≡ []
none_heard [] is = refl
none_heard (status ∷ heard) is = let some : is_some (last_or (Some status) heard) ≡ true = some_last heard status in absurd cc

-- where there is no last status, none was heard
pub no_status : (came : List Came) → last_status came ≡ None → statuses came ≡ []
no_status came is = none_heard (statuses came) is

-- while the command isn't acknowledged, no status was heard
pub nothing_said : (came : List Came) → messages came ≡ [] → said_approved came ≡ false
nothing_said came is = ap (λ (taken : List MessageValue). list_any (λ status. has_result 0 status.result) (filter_map status_fields_of taken)) is
