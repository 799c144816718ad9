use Rattle.std.proofs.Common.{◌≡◌, ◌∷◌, ℕ, List, length, map, drop, cond, Some, sym, ap, subst, ◌∙◌, arith}
use Rattle.std.specs.Prelude.{is_some, string_bytes}
use Rattle.rooms_val.specs.Maps.{AreRising, value_at, with_key}
use Rattle.rooms_val.proofs.MapsLemmas.{rising_rest}
use Rattle.field_ops.specs.View.{maybe_data}
use Rattle.schema_core.specs.Admits.{is_admitted}
use Rattle.schema_core.specs.SchemaOf.{schema_tree}
use Rattle.doc_model.specs.Documents.{replay}
use Rattle.doc_store.specs.Tree.{slots_view}
use Rattle.client_replica.specs.Works.{work_of, diffs_in}
use Rattle.client_replica.specs.NewBases.{IsOf}
use Rattle.client_replica.proofs.NewBaseLemmas.{few_put, first_is, rest_is, replayed-next}
use Rattle.client_replica.proofs.stash.Stash.with_edits.Goals as goal

pub loop-id-init : goal.loop-id-init
loop-id-init c =
    let gives : slots_view c.into_iter-id-iterator.result ≡ c.args.self.now = ap slots_view c.into_iter-id-iterator.ensures.into_iter_gives.0 ∙ c.self.view_is in
    let none = c.new-shown.ensures in
    record {
      at = λ base are names. (
        subst (IsOf base) (sym gives) are,
        λ q. (λ i. cond (is_some (value_at (gives i) q)) (Some (value_at (replay (is_admitted (schema_tree c.args.schema.now)) base (diffs_in (map work_of (drop c.args.from c.args.works.now.items)))) q)) (value_at (none i) q)),
      );
      rising = subst AreRising (sym gives) c.tell_rising.ensures;
      few = let one = ap length gives in let two = ap length none in omega (arith, one, two);
    }

pub loop-id-preserved : goal.loop-id-preserved
loop-id-preserved c =
    let left = diffs_in (map work_of (drop c.args.from c.args.works.now.items)) in
    let k = string_bytes c.in-Some.id.now in
    let r = maybe_data c.in-Some.slot.now in
    let rest = slots_view c.next.new.self in
    let shown = c.loop-id.shown in
    let after = maybe_data c.in_ok-stored.stored in
    let first : slots_view c.loop-id.id-iterator ≡ (k, r) ∷ rest = ap slots_view c.in-Some.ensures.steps in
    let key : string_bytes c.in_ok-from_str.field-0 ≡ k = c.in_ok-from_str.ensures.ok ∙ c.as_str-in-loop-id.ensures.value in
    let put = c.in_ok-put.ensures.ok ∙ ap (λ x. with_key shown x after) key in
    let rising : AreRising ((k, r) ∷ rest) = subst AreRising first c.loop-id.invariant.rising in
    record {
      at = λ base are names.
          let was = c.loop-id.invariant.at base are names in
          let of_base : IsOf base ((k, r) ∷ rest) = subst (IsOf base) first was.0 in
          let values : List ℕ → _ = λ q. value_at (replay (is_admitted (schema_tree c.args.schema.now)) base left) q in
          let told : values k ≡ after = ap values (sym c.as_str.ensures.value) ∙ c.in_ok-stored.ensures base (ap (value_at base) c.as_str.ensures.value ∙ first_is k r rest base of_base) names in (
            rest_is k r rest base rising of_base,
            λ q. ap (λ s. cond (is_some (value_at rest q)) (Some (values q)) (value_at s q)) put ∙ replayed-next values k r after rest shown q told
                ∙ sym (ap (λ l. cond (is_some (value_at l q)) (Some (values q)) (value_at shown q)) first) ∙ was.1 q,
          );
      rising = rising_rest (k, r) rest rising;
      few = let grew = few_put shown k after c.tell_rising-in-loop-id.ensures in let one = ap length put in let two = ap length first in let was = c.loop-id.invariant.few in omega (arith, grew, one, two, was);
    }

pub returns-clause-at : goal.returns-clause-at
returns-clause-at c = λ base are names q.
    let shown = Some (value_at (replay (is_admitted (schema_tree c.args.schema.now)) base (diffs_in (map work_of (drop c.args.from c.args.works.now.items)))) q) in
    sym (ap (λ i. cond (is_some (value_at (slots_view i) q)) shown (value_at c.loop-id.shown q)) c.in-None.ensures.steps.0) ∙ (c.loop-id.invariant.at base are names).1 q
