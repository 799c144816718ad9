use Rattle.std.proofs.Common.{◌≡◌, ◌+◌, ℕ, List, take}
use Rattle.edit_names.specs.Names.{count_at, once}
use Rattle.edit_names.proofs.names.EditNames.add.Given as goal

abbrev pub invariant-ids : goal.invariant-ids
invariant-ids l = record {
  counts : (q : List ℕ) → count_at l.self q ≡ count_at l.initial.self q + once (take l.id-index l.ids) q;
  counted : l.counted ≡ l.id-index;
}
