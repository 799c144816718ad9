use Rattle.field_index.proofs.IndexLemmas.{ids_equal_by_index, ids_greater_by_index}
use Rattle.field_index.proofs.laws.queries_by_index.Goals as goal

pub returns-clause-equal : goal.returns-clause-equal
returns-clause-equal c = λ m type name value. ids_equal_by_index type name m value

pub returns-clause-greater : goal.returns-clause-greater
returns-clause-greater c = λ m type name number. ids_greater_by_index type name m number
