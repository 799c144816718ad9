use Rattle.std.proofs.Common.{◌∷◌, Ok, sym, ap, ◌∙◌}
use Rattle.migrate_seq.specs.Plans.{migrations_at, plan_answer}
use Rattle.migrate_seq.specs.Shown.{places_in}
use Rattle.schema_core.specs.SchemaOf.{schema_tree}
use Rattle.room_snapshot.specs.Raised.{next_clock, raised, raised_along_all, AreRaised}
use Rattle.room_snapshot.specs.Saved.{saved_tree}
use Rattle.room_snapshot.proofs.IdLemmas.{not_both}
use Rattle.room_snapshot.proofs.PlanLemmas.{gives_err, raised_err, raised_empty, raised_run, none_run, each_run}
use Rattle.room_snapshot.proofs.raising.raise.Goals as goal

pub returns-in_err-plan-clause-answer : goal.returns-in_err-plan-clause-answer
returns-in_err-plan-clause-answer c =
    let seqs = (schema_tree c.args.schema.now).sequences in
    let held = c.args.snapshot.held in
    let saved = saved_tree c.args.snapshot.saved in
    let e = c.in_err-plan.field-0.0 in
    gives_err c.from_residual.result e (raised seqs held saved) c.from_residual.ensures.1
    (λ other. raised_err seqs held saved e (sym (ap (λ s. plan_answer s held) c.sequences-sequences.ensures) ∙ c.in_err-plan.ensures.plan other))

pub returns-then-is_empty-clause-answer : goal.returns-then-is_empty-clause-answer
returns-then-is_empty-clause-answer c =
    let seqs = (schema_tree c.args.schema.now).sequences in
    let held = c.args.snapshot.held in
    raised_empty seqs held (saved_tree c.args.snapshot.saved) (places_in c.in_ok-plan.plan) (sym (ap (λ s. plan_answer s held) c.sequences-sequences.ensures) ∙ c.in_ok-plan.ensures.plan)
    (c.is_empty.ensures.0 c.if-is_empty.true)

pub returns-then-is_empty-clause-each : goal.returns-then-is_empty-clause-each
returns-then-is_empty-clause-each c =
    let seqs = (schema_tree c.args.schema.now).sequences in
    let held = c.args.snapshot.held in
    let saved = saved_tree c.args.snapshot.saved in
    none_run seqs held saved (λ first rest. AreRaised (migrations_at seqs (first ∷ rest)) (next_clock saved) saved.documents saved.documents) (places_in c.in_ok-plan.plan) (sym (ap (λ s. plan_answer s held) c.sequences-sequences.ensures) ∙ c.in_ok-plan.ensures.plan)
    (c.is_empty.ensures.0 c.if-is_empty.true)

pub returns-clause-answer : goal.returns-clause-answer
returns-clause-answer c =
    let seqs = (schema_tree c.args.schema.now).sequences in
    let held = c.args.snapshot.held in
    let saved = saved_tree c.args.snapshot.saved in
    let places = places_in c.in_ok-plan.plan in
    raised_run seqs held saved places (sym (ap (λ s. plan_answer s held) c.sequences-sequences.ensures) ∙ c.in_ok-plan.ensures.plan)
    (λ none. not_both c.is_empty.result (c.is_empty.ensures.1 none) c.if-is_empty.false)
    ∙ ap Ok (sym (c.in_ok-saved.ensures ∙ ap (λ s. raised_along_all (migrations_at s places) saved) c.sequences-sequences.ensures))

pub returns-clause-each : goal.returns-clause-each
returns-clause-each c =
    let seqs = (schema_tree c.args.schema.now).sequences in
    let held = c.args.snapshot.held in
    let saved = saved_tree c.args.snapshot.saved in
    let places = places_in c.in_ok-plan.plan in
    each_run seqs held saved (saved_tree c.in_ok-saved.saved) places c.requires.ids (sym (ap (λ s. plan_answer s held) c.sequences-sequences.ensures) ∙ c.in_ok-plan.ensures.plan)
    (c.in_ok-saved.ensures ∙ ap (λ s. raised_along_all (migrations_at s places) saved) c.sequences-sequences.ensures)
