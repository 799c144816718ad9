use Rattle.std.proofs.lemmas.Grind.{common_steps}
use Rattle.std.proofs.Common.{◌≡◌, ◌∷◌, length, refl, ap, subst, ◌∙◌, arith}
use Rattle.doc_store.specs.Journal.{AreNoted, notes_of, note_of}
use Rattle.doc_store.proofs.Fullness.{noted_before}
use Rattle.doc_store.proofs.Journals.{notes_of-push, full_left}
use Rattle.doc_store.proofs.journal.clear.Goals as goal

pub entries-init : goal.entries-init
entries-init c = record { records = refl; noted = noted_before (notes_of c.args.journal.now.items) c.args.slots.now c.requires }

pub entries-preserved : goal.entries-preserved
entries-preserved c =
    let was : notes_of c.entries.journal.items ≡ note_of c.in-Some.entry ∷ notes_of c.pop.new.self.items = ap notes_of c.in-Some.ensures.items ∙ notes_of-push c.pop.new.self.items c.in-Some.entry in
    record {
      records = c.drop_written.ensures.records ∙ c.entries.invariant.records;
      noted = c.drop_written.ensures.noted (notes_of c.pop.new.self.items) (subst (λ ns. AreNoted ns c.entries.slots) was c.entries.invariant.noted);
    }

pub returns-clause-full : goal.returns-clause-full
returns-clause-full c =
    let none : length c.entries.journal.items ≡ 0 = grind (arith, common_steps) in
    full_left c.entries.journal.items c.entries.slots none c.entries.invariant.noted
