use Rattle.std.proofs.Common.{refl, ap, ◌∙◌, arith}
use Rattle.doc_store.specs.Journal.{forgotten, notes_of, note_of}
use Rattle.doc_store.proofs.Journals.{forgotten_at, forgotten_nowhere}
use Rattle.doc_store.proofs.journal.forget_begin.Goals as goal

pub returns-in-Began : goal.returns-in-Began
returns-in-Began c =
    ap notes_of c.remove.ensures.by_index.2
    ∙ forgotten_at c.back.journal.items c.back.place _ c.index.result.now refl (omega arith) c.back.invariant.within c.index.ensures (ap note_of c.in-Began.is) c.back.invariant.later_wrote
    ∙ ap (λ es. forgotten (notes_of es)) c.back.invariant.same

pub returns : goal.returns
returns c = forgotten_nowhere c.back.journal.items c.back.place (omega arith) c.back.invariant.later_wrote ∙ ap (λ es. forgotten (notes_of es)) c.back.invariant.same
