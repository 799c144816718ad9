use Rattle.std.proofs.Common.{w64, ◌≡◌, ℕ, List, map, subst, ap, sym, ◌∙◌, rules}
use Rattle.std.proofs.lemmas.Int.{to_z-of_z}
use Rattle.std.proofs.lemmas.List.{map-id}
use Rattle.std.proofs.lemmas.Iterator.Adapters.{YieldsList-from_vec}
use Rattle.std.proofs.lemmas.Iterator.Consumers.{YieldsList-end}
use Rattle.change_list.specs.declared.entries.Change.{Change}
use Rattle.room_messages.proofs.IdLemmas.{AreChanged, changed_ids}
use Rattle.room_messages.proofs.ids.changed_ids.Goals as goal

pub returns-clause-changed : goal.returns-clause-changed
returns-clause-changed g c = λ first history known keeps is from.
    let clock = to_z-of_z w64 c.args.clock c.ranges.clock ∙ is in
    let all = c.in_ok-changes.changes.items in
    let end = YieldsList-end (YieldsList-from_vec {s = c.into_iter-change-iterator.result} all (search rules) (search rules)) c.changes.yielded _ c.changes.yielded_by _ c.next.new.self c.in-None.is c.next.ensures.steps in
    let moved = changed_ids (λ (x : Change). x.id) (λ (x : Change). x.clock) known history all (c.in_ok-changes.ensures.changed first history known keeps clock from) in
    let ids : c.changes.ids.items ≡ map (λ (x : Change). x.id) all = c.changes.invariant ∙ ap (map (λ (x : Change). x.id)) (sym (map-id c.changes.yielded) ∙ end.0) in
    subst (λ (ids : List (List ℕ)). AreChanged known history ids) (sym ids) moved
