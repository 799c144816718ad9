use Rattle.std.proofs.Common.{ap, sym, ◌∙◌}
use Rattle.doc_store.specs.Slots.{present}
use Rattle.doc_store.proofs.SlotLaws.{present-empty}
use Rattle.doc_store.proofs.Fullness.{gone, others_stay}
use Rattle.doc_store.proofs.journal.drop_empty.Goals as goal

pub returns-in-None-clause-records : goal.returns-in-None-clause-records
returns-in-None-clause-records c = ap present c.take.ensures.rest ∙ present-empty c.args.slots.now c.args.id.now (sym c.in-None.ensures.found)

pub returns-in-None-clause-dropped : goal.returns-in-None-clause-dropped
returns-in-None-clause-dropped c = gone c.args.slots.now c.take.new.self c.args.id.now c.take.ensures.rest

pub returns-in-None-clause-others : goal.returns-in-None-clause-others
returns-in-None-clause-others c = others_stay c.args.slots.now c.take.new.self c.args.id.now c.take.ensures.rest
