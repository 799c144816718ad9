use Rattle.std.proofs.Common.{◌≡◌, ℕ, List, ◌∷◌, Some, None, option_map, subst}
use Rattle.std.specs.Prelude.{string_bytes}
use Rattle.rooms_val.specs.Maps.{value_at}
use Rattle.field_ops.specs.View.{maybe_data}
use Rattle.doc_store.specs.Journal.{AreNoted, note_of}
use Rattle.doc_store.proofs.Fullness.{noted_less}
use Rattle.doc_store.proofs.journal.drop_written.Goals as goal

pub returns-in-Began-clause-noted : goal.returns-in-Began-clause-noted
returns-in-Began-clause-noted c older noted = subst (λ e. AreNoted (note_of e ∷ older) c.args.slots.now) c.in-Began.is noted

pub returns-in-Wrote-clause-noted : goal.returns-in-Wrote-clause-noted
returns-in-Wrote-clause-noted c older noted =
    noted_less older c.args.slots.now c.drop_empty.new.slots (string_bytes c.in-Wrote.id) (option_map maybe_data c.in-Wrote.field-1)
    (subst (λ (k : List ℕ). value_at c.drop_empty.new.slots k ≡ Some None → ⊥) c.as_str.ensures.value c.drop_empty.ensures.dropped) c.drop_empty.ensures.others
    (subst (λ e. AreNoted (note_of e ∷ older) c.args.slots.now) c.in-Wrote.is noted)
