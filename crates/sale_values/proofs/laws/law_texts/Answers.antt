-- Proof of the contract of `law_texts`.
use Rattle.sale_values.proofs.Utf8Lemmas.{ident_utf8, class_utf8, kind_utf8, period_utf8}
use Rattle.sale_values.proofs.laws.law_texts.Goals as goal

pub returns : goal.returns
returns c = record { ident = ident_utf8; class = class_utf8; message_type = kind_utf8; period = period_utf8 }
