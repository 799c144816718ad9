use Rattle.std.proofs.Common.{◌≡◌, ◌+◌, true, false, ◌&&◌, map, drop, slice_get, option_map, sym, ap, ◌∙◌, arith}
use Rattle.std.specs.Option.{option_copied}
use Rattle.rooms_val.proofs.ListLemmas.{one_off}
use Rattle.schema_core.specs.Admits.{is_document}
use Rattle.schema_core.specs.SchemaOf.{schema_tree}
use Rattle.client_replica.specs.Works.{work_of}
use Rattle.client_replica.specs.Owns.{commits, are_own}
use Rattle.client_replica.proofs.StashLemmas.{none_after}
use Rattle.client_replica.proofs.WorkLemmas.{at-map}
use Rattle.client_replica.proofs.OwnLemmas.{own-next}
use Rattle.client_replica.proofs.own.are_own.Goals as goal

pub events-preserved : goal.events-preserved
events-preserved c =
    let s = schema_tree c.args.schema.now in
    let items = c.args.works.now.items in
    let works = map work_of items in
    let events = c.as_slice-event-items.result.now in
    let i = c.events.event-index in
    let e = c.event-item.result in
    let at : option_map work_of (option_copied c.work_at.result) ≡ slice_get works i =
    ap (option_map work_of) (c.work_at.ensures ∙ ap (slice_get items) c.events.invariant.place) ∙ sym (at-map work_of items i) in
    let parts = one_off events i e c.events-test.true c.event-item.is in
    let yes : commits (is_document s) (slice_get works i) e ≡ true = sym (c.commits.ensures ∙ ap (λ o. commits (is_document s) o e) at) ∙ c.if-not-commits.false in
    record {
      place = let was = c.events.invariant.place in omega arith;
      own = ap (λ b. b && are_own (is_document s) (drop (i + 1) works) (drop (i + 1) events)) (sym yes)
          ∙ sym (own-next (is_document s) works i e (drop i events) (drop (i + 1) events) parts) ∙ c.events.invariant.own;
    }

pub returns-then-not-commits : goal.returns-then-not-commits
returns-then-not-commits c =
    let s = schema_tree c.args.schema.now in
    let items = c.args.works.now.items in
    let works = map work_of items in
    let events = c.as_slice-event-items.result.now in
    let i = c.events.event-index in
    let e = c.event-item.result in
    let at : option_map work_of (option_copied c.work_at.result) ≡ slice_get works i =
    ap (option_map work_of) (c.work_at.ensures ∙ ap (slice_get items) c.events.invariant.place) ∙ sym (at-map work_of items i) in
    let no : commits (is_document s) (slice_get works i) e ≡ false = sym (c.commits.ensures ∙ ap (λ o. commits (is_document s) o e) at) ∙ c.if-not-commits.true in
    sym (ap (λ b. b && are_own (is_document s) (drop (i + 1) works) (drop (i + 1) events)) no)
    ∙ sym (own-next (is_document s) works i e (drop i events) (drop (i + 1) events) (one_off events i e c.events-test.true c.event-item.is))
    ∙ c.events.invariant.own ∙ ap (are_own (is_document s) works) c.as_slice-event-items.ensures

pub returns : goal.returns
returns c =
    let s = schema_tree c.args.schema.now in
    let works = map work_of c.args.works.now.items in
    let i = c.events.event-index in
    let events = c.as_slice-event-items.result.now in
    sym (ap (are_own (is_document s) (drop i works)) (none_after i events (omega arith))) ∙ c.events.invariant.own ∙ ap (are_own (is_document s) works) c.as_slice-event-items.ensures
