-- What borrowed records and ids stand for.
use Rattle.std.specs.Prelude.{◌≡◌, ℕ, List, map, Bool, true, cond}
use Rattle.std.specs.BTreeSet.{BTreeSet, contains}
use Rattle.std.specs.declared.cmp.Ordering.{Ordering}
use denote.Ref.{Bor}
use Rattle.rooms_val.specs.Data.{Pairs}
use Rattle.rooms_val.specs.Maps.{order, ties}
use Rattle.rooms_val.specs.View.{data_of}
use Rattle.rooms_val.specs.declared.val.Val.{Val}

-- the records under borrowed ids
abbrev pub sorted_view : List (Bor (List ℕ) × Bor Val) → Pairs
sorted_view es = map (λ e. (e.0.now, data_of e.1.now)) es

-- the order of two borrowed ids, by their bytes
abbrev pub by_text : Bor (List ℕ) → Bor (List ℕ) → Ordering
by_text k q = order k.now q.now

-- a set has an id
abbrev pub has_text : BTreeSet (Bor (List ℕ)) → Bor (List ℕ) → Bool
has_text set id = contains by_text set id

-- a set has the ids of another, and this one
abbrev pub HasMore : BTreeSet (Bor (List ℕ)) → BTreeSet (Bor (List ℕ)) → Bor (List ℕ) → Type 0
HasMore old new id = (q : Bor (List ℕ)) → has_text new q ≡ cond (ties id.now q.now) true (has_text old q)
