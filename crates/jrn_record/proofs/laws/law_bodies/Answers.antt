-- Proof of the contract of `law_bodies`.
use Rattle.jrn_record.proofs.LawLemmas.{body_of-injective, record_body-offsets, fault-no_record, first_fault-one}
use Rattle.jrn_record.specs.Table.{table_at}
use Rattle.jrn_record.proofs.laws.law_bodies.Goals as goal

pub returns-clause-size : goal.returns-clause-size
returns-clause-size c = λ the_record is. (record_body-offsets the_record is).0

pub returns-clause-offsets : goal.returns-clause-offsets
returns-clause-offsets c = λ the_record is. (record_body-offsets the_record is).1

pub returns-clause-one_record : goal.returns-clause-one_record
returns-clause-one_record c = body_of-injective

pub returns-clause-faulty : goal.returns-clause-faulty
returns-clause-faulty c = fault-no_record

pub returns-clause-one_fault : goal.returns-clause-one_fault
returns-clause-one_fault c = λ body. first_fault-one (table_at body) body
