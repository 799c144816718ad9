use Rattle.std.proofs.Common.{◌≡◌, ◌++◌, map}
use Rattle.std.specs.Prelude.{filter}
use Rattle.field_index.proofs.EqualLemmas.{is_one, EndsOnce}
use Rattle.field_index.proofs.sorted_values.SortedValues.equal.Given as goal

abbrev pub invariant-places : goal.invariant-places
invariant-places l = record {
  so_far : l.ids.items ++ map (λ q. q.id) (filter (is_one l.value) l.place-iterator) ≡ map (λ q. q.id) (filter (is_one l.value) l.initial.place-iterator);
  ends : EndsOnce l.value l.place-iterator;
}
