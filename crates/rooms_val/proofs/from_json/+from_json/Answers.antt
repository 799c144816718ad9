use Rattle.std.proofs.Common.{◌≡◌, [], ◌∷◌, ◌++◌, map, string_bytes, sym, ap, subst, ◌∙◌, length, arith, append-nil}
use Rattle.std.proofs.lemmas.Result.{IfOk-weaker}
use Rattle.std.specs.Vec.Iter.{into_iter_items}
use Rattle.serde_json.specs.View.{view}
use Rattle.serde_json.specs.declared.value.Value.{Value}
use Rattle.serde_json.proofs.Views.{Entry}
use Rattle.rooms_val.specs.Data.{Data, items_of, members_of, AreSoundItems, AreSoundMembers}
use Rattle.rooms_val.specs.Json.{value_in}
use Rattle.rooms_val.specs.View.{data_of, items_view, pairs_view}
use Rattle.rooms_val.proofs.DataLemmas.{sound_push, items_view-push}
use Rattle.rooms_val.proofs.FromJsonLemmas.{pair_in, items_in-items_view, members_in-members_view, sound_from_ordered, each_sound_push, pairs_view-push, moved}
use Rattle.rooms_val.proofs.Truths.{no_items}
use Rattle.rooms_val.proofs.from_json.+from_json.Goals as goal

pub fields_of-loop-key-preserved : goal.fields_of-loop-key-preserved
fields_of-loop-key-preserved t c =
    let l = c.loop-key in
    let e : Entry = (c.in-Some.key, c.in-Some.member) in
    let d = data_of c.in_ok-val.val in
    let so_far = pairs_view l.entries.items in
    let pushed : pairs_view c.push.new.self.items ≡ so_far ++ (string_bytes e.0, d) ∷ [] =
    ap pairs_view c.in_ok-push.ensures.items ∙ pairs_view-push l.entries.items c.in_ok-from_string.field-0 c.in_ok-val.val ∙ ap (λ k. so_far ++ (k, d) ∷ []) c.in_ok-from_string.ensures in (
      subst (λ ps. AreSoundMembers (members_of ps)) (sym pushed) (each_sound_push so_far (string_bytes e.0) d l.invariant.0 c.kind.ensures.sound),
      moved so_far (map pair_in l.key-iterator) (map pair_in c.next.new.self) _ _ (pair_in e) (string_bytes e.0, d) l.invariant.1 (ap (map pair_in) c.in-Some.ensures.steps) pushed (ap (λ x. (string_bytes e.0, x)) c.in_ok-val.ensures),
    )

pub fields_of-from_vec-requires : goal.fields_of-from_vec-requires
fields_of-from_vec-requires t c =
    let l = c.loop-key in
    let so_far = pairs_view l.entries.items in
    let all : so_far ≡ map pair_in c.args.members.entries = sym (append-nil so_far) ∙ ap (λ es. so_far ++ map pair_in es) (sym c.in-None.ensures.steps.0) ∙ l.invariant.1 in
    sound_from_ordered so_far c.args.members.entries all c.len.ensures.ordered l.invariant.0

pub fields_of-returns : goal.fields_of-returns
fields_of-returns t c =
    let l = c.loop-key in
    let so_far = pairs_view l.entries.items in
    let all : so_far ≡ map pair_in c.args.members.entries = sym (append-nil so_far) ∙ ap (λ es. so_far ++ map pair_in es) (sym c.in-None.ensures.steps.0) ∙ l.invariant.1 in
    IfOk-weaker c.from_vec.result _ _ (λ fields is. ap members_of (is ∙ all) ∙ members_in-members_view c.args.members.entries) c.from_vec.ensures

pub vals_of-loop-item-preserved : goal.vals_of-loop-item-preserved
vals_of-loop-item-preserved t c =
    let l = c.loop-item in
    let d = data_of c.in_ok-val.val in
    let of : Value → Data = λ v. value_in (view v) in
    let so_far = items_view l.vals.items in
    let pushed : items_view c.push.new.self.items ≡ so_far ++ d ∷ [] = ap items_view c.in_ok-push.ensures.items ∙ items_view-push l.vals.items c.in_ok-val.val in (
      subst (λ ds. AreSoundItems (items_of ds)) (sym pushed) (sound_push so_far d l.invariant.0 c.kind.ensures.sound),
      moved so_far (map of (into_iter_items l.item-iterator)) (map of (into_iter_items c.next.new.self)) _ _ (value_in (view c.in-Some.item)) d l.invariant.1 (ap (map of) c.in-Some.ensures.steps.0) pushed c.in_ok-val.ensures,
      omega (arith, l.invariant.2, c.in-Some.ensures.steps.1, ap length c.in-Some.ensures.steps.0),
    )

pub vals_of-returns : goal.vals_of-returns
vals_of-returns t c =
    let l = c.loop-item in
    let of : Value → Data = λ v. value_in (view v) in
    let so_far = items_view l.vals.items in
    let none : into_iter_items l.item-iterator ≡ [] = no_items (into_iter_items l.item-iterator) (sym l.invariant.2 ∙ c.in-None.ensures.steps.0) in
    let all : so_far ≡ map of c.args.items.items = sym (append-nil so_far) ∙ ap (λ vs. so_far ++ map of vs) (sym none) ∙ l.invariant.1 in
    IfOk-weaker c.from_vec.result _ _ (λ vals is. ap items_of (is ∙ all) ∙ items_in-items_view c.args.items.items) c.from_vec.ensures
