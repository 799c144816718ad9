use Rattle.std.proofs.Common.{◌≡◌, ◌∷◌, [], ◌++◌, ap, sym, subst, ◌∙◌}
use Rattle.std.specs.Prelude.{is_some, OnOk}
use Rattle.std.specs.Option.{option_copied}
use Rattle.rooms_val.specs.Maps.{value_at, with_key}
use Rattle.field_ops.specs.View.{maybe_data}
use Rattle.doc_store.proofs.Trees.{data_of-copied}
use Rattle.client_replica.specs.Stashes.{without_all}
use Rattle.client_replica.proofs.StashLemmas.{kept_fresh, forgotten_fresh}
use Rattle.client_replica.proofs.stash.Stash.keep_fresh.Goals as goal

pub returns-clause-fresh : goal.returns-clause-fresh
returns-clause-fresh g c =
    let id = c.args.id.now in
    let r = maybe_data (option_copied c.get.result) in
    let absent = sym (ap (λ k. is_some (value_at c.args.self.now k)) c.as_str.ensures.bytes) ∙ sym c.has.ensures ∙ c.if-has.false in
    let ok = subst (λ k. OnOk c.insert.result (c.insert.new.self ≡ with_key c.args.self.now k r)) c.as_str-2.ensures.bytes c.insert.ensures.ok in
    ap (without_all c.insert.new.self) (c.in_ok-push.ensures.items ∙ ap (λ k. c.args.fresh.now.items ++ k ∷ []) c.in_ok-copy.ensures)
    ∙ forgotten_fresh c.insert.result c.args.self.now c.insert.new.self c.args.fresh.now.items id r c.tell_rising.ensures absent ok c.insert.ensures.err

pub returns-clause-ok : goal.returns-clause-ok
returns-clause-ok g c =
    let id = c.args.id.now in
    let absent = sym (ap (λ k. is_some (value_at c.args.self.now k)) c.as_str.ensures.bytes) ∙ sym c.has.ensures ∙ c.if-has.false in
    let is = sym (data_of-copied c.get.result) ∙ c.get.ensures.found ∙ ap (value_at (g.D.DocStore.records c.args.store.now)) c.as_str-3.ensures.bytes in
    let ok = subst (λ k. OnOk c.insert.result (c.insert.new.self ≡ with_key c.args.self.now k (maybe_data (option_copied c.get.result)))) c.as_str-2.ensures.bytes c.insert.ensures.ok in
    kept_fresh c.insert.result c.args.self.now c.insert.new.self id (value_at (g.D.DocStore.records c.args.store.now) id) absent
    (subst (λ r. OnOk c.insert.result (c.insert.new.self ≡ with_key c.args.self.now id r)) is ok)
