use Rattle.std.proofs.Common.{ℕ, subst, sym, rules}
use Rattle.std.specs.List.Sorted.{IsSearchInRange}
use Rattle.std.proofs.lemmas.Fn.{always_returns_same}
use Rattle.std.proofs.lemmas.List.{length-map}
use Rattle.rooms_val.specs.Maps.{order}
use Rattle.rooms_val.proofs.PlacesLemmas.{searched}
use Rattle.change_list.specs.Kept.{entry_at, keyed}
use Rattle.change_list.proofs.Orders.{search_keyed}
use Rattle.change_list.proofs.entries.place_of.Goals as goal

pub returns-clause-found : goal.returns-clause-found
returns-clause-found c =
    let facts = c.binary_search_by.ensures in
    let entries = c.args.entries.now in
    let by_key = search_keyed (λ n. ((entry_at entries n).id, n)) c.args.order.now c.args.id.now _ facts.bound (facts.position (λ n. order (entry_at entries n).id c.args.id.now) (always_returns_same _ _ _ (λ a r f called. (search rules, search rules)))) in
    (searched (keyed entries c.args.order.now) c.requires c.args.id.now _ (subst (λ (n : ℕ). IsSearchInRange c.binary_search_by.result n) (sym (length-map c.args.order.now (λ n. ((entry_at entries n).id, n)))) facts.bound) by_key).found

pub returns-clause-absent : goal.returns-clause-absent
returns-clause-absent c =
    let facts = c.binary_search_by.ensures in
    let entries = c.args.entries.now in
    let by_key = search_keyed (λ n. ((entry_at entries n).id, n)) c.args.order.now c.args.id.now _ facts.bound (facts.position (λ n. order (entry_at entries n).id c.args.id.now) (always_returns_same _ _ _ (λ a r f called. (search rules, search rules)))) in
    (searched (keyed entries c.args.order.now) c.requires c.args.id.now _ (subst (λ (n : ℕ). IsSearchInRange c.binary_search_by.result n) (sym (length-map c.args.order.now (λ n. ((entry_at entries n).id, n)))) facts.bound) by_key).absent
