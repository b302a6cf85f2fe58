-- Proof of the contract of `law_stop_acknowledged`.
use Rattle.std.proofs.Common.{refl}
use Rattle.zvt_msg.specs.Message.{Ack, Nack}
use Rattle.zvt_talk.proofs.StopLemmas.{ack_same, nack_same, stray}
use Rattle.zvt_talk.proofs.laws.law_stop_acknowledged.Goals as goal

pub returns-clause-ack : goal.returns-clause-ack
returns-clause-ack c = λ dialogue came is. stray dialogue came Ack is refl

pub returns-clause-ack_stays : goal.returns-clause-ack_stays
returns-clause-ack_stays c = λ dialogue came at is. ack_same dialogue.dialogue_kind came at is

pub returns-clause-nack : goal.returns-clause-nack
returns-clause-nack c = λ dialogue came error_code is. stray dialogue came (Nack error_code) is refl

pub returns-clause-nack_stays : goal.returns-clause-nack_stays
returns-clause-nack_stays c = λ dialogue came result_code at is. nack_same dialogue.dialogue_kind came result_code at is
