use Rattle.std.proofs.Common.{◌≡◌, ◌+◌, ℕ, [], ◌∷◌, ◌++◌, length, map, option_map, slice_get, take, drop, refl, sym, ap, subst, ◌∙◌, arith}
use Rattle.std.specs.Prelude.{is_some}
use Rattle.std.specs.Option.{option_copied}
use Rattle.std.proofs.lemmas.List.Sums.{fold-append}
use Rattle.std.proofs.lemmas.List.{take-map}
use Rattle.rooms_val.specs.Maps.{value_at}
use Rattle.schema_core.specs.Admits.{is_admitted}
use Rattle.schema_core.specs.SchemaOf.{schema_tree}
use Rattle.doc_model.specs.Documents.{step}
use Rattle.room_model.specs.Taking.{after_event, after_events}
use Rattle.room_schemas.specs.Decided.{is_presence}
use Rattle.client_replica.specs.Parts.{ops_with}
use Rattle.client_replica.specs.Works.{work_of, works_in, diffs_in, operations, event_diff, ended_diff, ended_by, brought, ended}
use Rattle.client_replica.specs.Stashes.{is_named}
use Rattle.client_replica.specs.NewBases.{AreStepped, IsAhead}
use Rattle.client_replica.proofs.StashLemmas.{take_next}
use Rattle.client_replica.proofs.WorkLemmas.{at-map, brought-more, ended-more, ended_ops, ended_named, few_more}
use Rattle.client_replica.proofs.NewBaseLemmas.{ahead_event}
use Rattle.client_replica.proofs.new_base.NewBase.take_events.Goals as goal

pub events-preserved : goal.events-preserved
events-preserved g c =
    let s = schema_tree c.args.schema.now in
    let admits = is_admitted s in
    let items = c.args.works.now.items in
    let works = map work_of items in
    let events = c.as_slice-event-items.result.now in
    let i = c.events.event-index in
    let k = c.events.answered in
    let e = c.event-item.result in
    let m = g.D.DocStore.records c.args.store.now in
    let stash = c.args.stash.now in
    let old = c.events.self in
    let new = c.take_event.new.self in
    let told = c.in_ok-take_event.ensures in
    let done = take i events in
    let more : take (i + 1) events ≡ done ++ e ∷ [] = take_next events i (i + 1) e refl (omega arith) c.event-item.is in
    let first : option_map work_of (option_copied c.work_at-first.result) ≡ slice_get works k = ap (option_map work_of) c.work_at-first.ensures ∙ sym (at-map work_of items k) in
    let count : c.ended_by-answered.result ≡ ended_by e = c.ended_by-answered.ensures in
    let taken : (n : ℕ) → diffs_in (map work_of (take n items)) ≡ diffs_in (take n works) = λ n. ap diffs_in (sym (take-map work_of n items)) in
    let ends : diffs_in (map work_of (take (k + c.ended_by-answered.result) items)) ≡ diffs_in (take (k + ended_by e) works) = taken (k + c.ended_by-answered.result) ∙ ap (λ n. diffs_in (take (k + n) works)) count in
    record {
      ahead = λ replica are was.
          let now = after_events admits replica done in
          let nth : option_map work_of (option_copied c.work_at-first.result) ≡ slice_get (works_in replica.pending) k = first ∙ ap (λ ws. slice_get ws k) (sym are) in
          let after : after_events admits replica (take (i + 1) events) ≡ after_event admits now e = ap (after_events admits replica) more ∙ fold-append (after_event admits) replica done (e ∷ []) in
          subst (λ r. IsAhead s r (drop (k + c.ended_by-answered.result) replica.pending) m stash new.changes new.others) (sym after)
          (subst (λ n. IsAhead s (after_event admits now e) (drop (k + n) replica.pending) m stash new.changes new.others) (sym count)
          (ahead_event s now replica.pending k e m stash old.changes new.changes old.others new.others (c.events.invariant.ahead replica are was)
          (subst (λ o. AreStepped s (event_diff o e) m stash old.changes new.changes) nth told.document)
          (told.presence ∙ ap (λ o. step admits old.others (ops_with (is_presence s) (event_diff o e))) nth)));
      touched = λ q named. ended_named works k e old.changes new.changes
          (λ p is. c.events.invariant.touched p (ap (λ ds. is_named ds p) (taken k) ∙ is)) told.more
          (λ p is. told.touched p (ap (λ o. is_some (value_at (ended_diff o e) p)) first ∙ is))
          q (sym (ap (λ ds. is_named ds q) ends) ∙ named);
      few =
          let brings = ap brought more ∙ brought-more done e in
          let cost = ap operations ends ∙ ended_ops works k e in
          let had = ap operations (taken k) in
          let firsts = ap (λ o. length (ended_diff o e)) first in
          let grew = told.few in
          let was = c.events.invariant.few in
          omega arith;
      ended = let was = c.events.invariant.ended in let next = ap ended more ∙ ended-more done e in omega arith;
      small = few_more k i e c.ended_by-answered.result count c.events.invariant.small;
    }
