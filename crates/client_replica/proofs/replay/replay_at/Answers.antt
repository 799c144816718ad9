use Rattle.std.proofs.Common.{◌+◌, [], ◌∷◌, map, drop, sym, ap, ◌∙◌, arith}
use Rattle.std.proofs.lemmas.Option.{slice_get_within}
use Rattle.rooms_val.specs.Maps.{value_at, set_at}
use Rattle.rooms_val.proofs.ListLemmas.{one_off_at, none_left}
use Rattle.field_ops.specs.View.{maybe_data}
use Rattle.schema_core.specs.Admits.{is_admitted}
use Rattle.schema_core.specs.SchemaOf.{schema_tree}
use Rattle.doc_model.specs.Documents.{replay}
use Rattle.client_replica.specs.Works.{work_of, diffs_in}
use Rattle.client_replica.proofs.WorkLemmas.{replay-first}
use Rattle.client_replica.proofs.NewBaseLemmas.{replay_same, alone_at}
use Rattle.client_replica.proofs.replay.replay_at.Goals as goal

pub works-init : goal.works-init
works-init c = λ m n before now.
    let admits = is_admitted (schema_tree c.args.schema.now) in
    replay_same admits (diffs_in (map work_of (drop c.args.from c.args.works.now.items))) n m c.args.id.now (now ∙ c.in_ok-stored.ensures ∙ sym before)

pub works-preserved : goal.works-preserved
works-preserved c = λ m n before now.
    let admits = is_admitted (schema_tree c.args.schema.now) in
    let items = c.args.works.now.items in
    let id = c.args.id.now in
    let w = work_of c.in-Some.work.now in
    let left = map work_of (drop (c.works.place + 1) items) in
    let parts = ap (map work_of) (one_off_at items c.works.place c.in-Some.work.now c.in-Some.ensures) in
    let alone = set_at [] id (maybe_data c.works.stored) in
    let here = alone_at id (maybe_data c.works.stored) in
    replay_same admits (diffs_in left) n (replay admits alone (diffs_in (w ∷ []))) id (now ∙ sym (c.in_ok-stored-2.ensures alone here))
    ∙ sym (ap (λ d. value_at d id) (replay-first admits alone w left)) ∙ sym (ap (λ ws. value_at (replay admits alone (diffs_in ws)) id) parts)
    ∙ c.works.invariant m alone before here

pub works-smaller : goal.works-smaller
works-smaller c = let less = slice_get_within c.args.works.now.items c.works.place c.in-Some.work.now (sym c.in-Some.ensures) in omega arith

pub overflow_add-place : goal.overflow_add-place
overflow_add-place c = let less = slice_get_within c.args.works.now.items c.works.place c.in-Some.work.now (sym c.in-Some.ensures) in
    let small = c.args.works.now.small in
    omega arith

pub returns : goal.returns
returns c = λ m before.
    let admits = is_admitted (schema_tree c.args.schema.now) in
    let id = c.args.id.now in
    let alone = set_at [] id (maybe_data c.works.stored) in
    let here = alone_at id (maybe_data c.works.stored) in
    sym (c.works.invariant m alone before here) ∙ ap (λ l. value_at (replay admits alone (diffs_in (map work_of l))) id) (none_left c.args.works.now.items c.works.place c.in_default.ensures) ∙ here
