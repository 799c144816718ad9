use Rattle.std.proofs.Common.{◌≡◌, ℕ, ◌<◌, List, length, get_or, map, ap, sym, subst, ◌∙◌, take, arith}
use Rattle.std.proofs.lemmas.List.{length-map, get_or-map}
use Rattle.rooms_val.specs.Data.{Data, null}
use Rattle.rooms_val.specs.Maps.{value_at}
use Rattle.shape_tree.specs.View.{maybe_data}
use Rattle.field_index.specs.Index.{with_record}
use Rattle.store_query.specs.Asking.{IsIndexOf}
use Rattle.store_query.proofs.AskingLemmas.{rising_sound}
use Rattle.store_query.proofs.RefreshingLemmas.{set_follows, keeps_through, next_taken, rising_take}
use Rattle.store_query.proofs.refreshing.rebuild.Goals as goal

pub ids-preserved : goal.ids-preserved
ids-preserved g c =
    let m = g.D.DocStore.records c.args.store.now in
    let i = c.ids.id-index in
    let old = c.ids.index in
    let new = c.set.new.self in
    let id = c.id-item.result in
    let d : List ℕ × Data = (id, null) in
    let rising = rising_sound m c.get.ensures.sound in
    let len : length c.in_ok-ids.ids.items ≡ length m = ap length c.in_ok-ids.ensures ∙ length-map m (λ e. e.0) in
    let within : i < length m = omega (arith, len) in
    let here : id ≡ (get_or m i d).0 = c.id-item.is ∙ ap (λ xs. get_or xs i id) (c.deref-id-items.ensures.value ∙ c.in_ok-ids.ensures) ∙ get_or-map (λ e. e.0) m i d id within in
    let is = c.in_ok-set.ensures.ok in
    record {
      field = keeps_through c.args.index.now old new c.ids.invariant.field (record { type_name = ap (λ x. x.type_name) is; field = ap (λ x. x.field) is });
      holds = subst (λ t. IsIndexOf t new) (next_taken m rising i d within id (maybe_data c.get.result) here (c.get.ensures.found ∙ ap (value_at m) c.as_str-in-ids.ensures.bytes))
          (set_follows (take i m) old new id (maybe_data c.get.result) (is ∙ ap (λ k. record old { values = with_record old.type_name old.field old.values k (maybe_data c.get.result) }) c.as_str.ensures.bytes) (rising_take m i rising) c.ids.invariant.holds);
    }
