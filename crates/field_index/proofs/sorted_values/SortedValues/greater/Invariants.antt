use Rattle.std.proofs.Common.{◌≡◌, ℕ, List, ◌||◌}
use Rattle.std.specs.List.Sorted.{IsStrictlySortedBy}
use Rattle.rooms_val.specs.Maps.{order}
use Rattle.field_index.specs.Index.{is_greater}
use Rattle.field_index.proofs.AnswerLemmas.{has, ids_at}
use Rattle.field_index.proofs.sorted_values.SortedValues.greater.Given as goal

abbrev pub invariant-places : goal.invariant-places
invariant-places l = record {
  ordered : IsStrictlySortedBy order l.ids.keys;
  so_far : (q : List ℕ) → (has l.ids.keys q || has (ids_at (is_greater l.number) l.place-iterator) q) ≡ has (ids_at (is_greater l.number) l.initial.place-iterator) q;
}
