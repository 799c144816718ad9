use Rattle.std.proofs.Common.{◌≡◌, ◌+◌, ◌||◌, false, [], ◌∷◌, length, map, drop, refl, sym, ap, subst, ◌∙◌, arith}
use Rattle.std.specs.Prelude.{is_some}
use Rattle.std.proofs.lemmas.Option.{slice_get_within}
use Rattle.rooms_val.specs.Maps.{value_at, AreRising}
use Rattle.rooms_val.proofs.ListLemmas.{one_off_at, none_left}
use Rattle.schema_core.specs.Admits.{is_admitted}
use Rattle.schema_core.specs.SchemaOf.{schema_tree}
use Rattle.doc_model.specs.Documents.{replay}
use Rattle.client_replica.specs.Works.{work_of, diffs_in, operations}
use Rattle.client_replica.specs.Stashes.{under, is_named}
use Rattle.client_replica.proofs.StashLemmas.{or_flip}
use Rattle.client_replica.proofs.WorkLemmas.{replay-first, ops-first, named-first}
use Rattle.client_replica.proofs.replay.replay.Goals as goal
use Rattle.room_model.proofs.LookUpLemmas.{or_assoc}

pub works-init : goal.works-init
works-init g c = record {
  done = refl;
  base = λ q. ap (λ s. under s (g.D.DocStore.records c.args.store.now) q) c.new-stash.ensures;
  exact = λ q. ap (λ s. is_some (value_at s q) || is_named (diffs_in (map work_of (drop c.args.from c.args.works.now.items))) q) c.new-stash.ensures;
  few = let none = ap length c.new-stash.ensures in omega arith;
  rising = subst AreRising (sym c.new-stash.ensures) tt;
  begun = refl;
  rest = refl;
  ticks = omega arith;
}

pub returns-in_err-replay_work-clause-ticks : goal.returns-in_err-replay_work-clause-ticks
returns-in_err-replay_work-clause-ticks g c =
    let items = c.args.works.now.items in
    let w = work_of c.in-Some.work.now in
    let left = map work_of (drop (c.works.place + 1) items) in
    let parts = ap (λ l. operations (diffs_in (map work_of l))) (one_off_at items c.works.place c.in-Some.work.now c.in-Some.ensures) in
    let first = ops-first w left in
    let ticked = c.in_err-replay_work.ensures.ticks in
    let before = c.works.invariant.ticks in
    omega arith

pub works-preserved : goal.works-preserved
works-preserved g c =
    let admits = is_admitted (schema_tree c.args.schema.now) in
    let items = c.args.works.now.items in
    let w = work_of c.in-Some.work.now in
    let left = map work_of (drop (c.works.place + 1) items) in
    let parts : map work_of (drop c.works.place items) ≡ w ∷ left = ap (map work_of) (one_off_at items c.works.place c.in-Some.work.now c.in-Some.ensures) in
    let counted = ap (λ ws. operations (diffs_in ws)) parts ∙ ops-first w left in
    let told = c.in_ok-replay_work.ensures in
    let records = g.D.DocStore.records c.works.store in
    record {
      done = ap (λ m. replay admits m (diffs_in left)) told.ok ∙ sym (replay-first admits records w left) ∙ sym (ap (λ ws. replay admits records (diffs_in ws)) parts) ∙ c.works.invariant.done;
      base = λ q. told.base q ∙ c.works.invariant.base q;
      exact = λ q. ap (λ b. b || is_named (diffs_in left) q) (told.exact q) ∙ or_assoc (is_some (value_at c.works.stash q)) (is_named (diffs_in (w ∷ [])) q) (is_named (diffs_in left) q)
          ∙ ap (λ b. is_some (value_at c.works.stash q) || b) (sym (named-first w left q) ∙ sym (ap (λ ws. is_named (diffs_in ws) q) parts)) ∙ c.works.invariant.exact q;
      few = let grew = told.few in let before = c.works.invariant.few in omega arith;
      rising = told.rising;
      begun = told.begun ∙ c.works.invariant.begun;
      rest = told.rest ∙ c.works.invariant.rest;
      ticks = let ticked = told.ticks in let before = c.works.invariant.ticks in omega arith;
    }

pub works-smaller : goal.works-smaller
works-smaller g c = let less = slice_get_within c.args.works.now.items c.works.place c.in-Some.work.now (sym c.in-Some.ensures) in omega arith

pub overflow_add-place : goal.overflow_add-place
overflow_add-place g c = let less = slice_get_within c.args.works.now.items c.works.place c.in-Some.work.now (sym c.in-Some.ensures) in
    let small = c.args.works.now.small in
    omega arith

pub returns : goal.returns
returns g c =
    let admits = is_admitted (schema_tree c.args.schema.now) in
    let items = c.args.works.now.items in
    let none : drop c.works.place items ≡ [] = none_left items c.works.place c.in_default.ensures in
    let counted = ap (λ l. operations (diffs_in (map work_of l))) none in
    record {
      ok = sym (ap (λ l. replay admits (g.D.DocStore.records c.works.store) (diffs_in (map work_of l))) none) ∙ c.works.invariant.done;
      stash = record {
        base_is = c.works.invariant.base;
        exact = λ q. or_flip false (is_some (value_at c.works.stash q)) ∙ sym (ap (λ l. is_some (value_at c.works.stash q) || is_named (diffs_in (map work_of l)) q) none) ∙ c.works.invariant.exact q;
        rising = c.works.invariant.rising;
        few = let before = c.works.invariant.few in omega arith;
      };
      begun = c.works.invariant.begun;
      rest = c.works.invariant.rest;
      ticks = let before = c.works.invariant.ticks in omega arith;
    }
