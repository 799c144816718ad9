use Rattle.std.proofs.Common.{rules, [], map, filter_map, fold, ap, ◌∙◌, w64}
use Rattle.std.proofs.lemmas.Int.{to_z-of_z}
use mir.Val.{SFits}
use Rattle.rooms_val.specs.Data.{Pairs}
use Rattle.rooms_val.specs.Maps.{keys_of}
use Rattle.schema_core.specs.Admits.{is_document}
use Rattle.schema_core.specs.SchemaOf.{schema_tree}
use Rattle.room_history.specs.Clocks.{with_clock, with_removal, number_of, saved_under}
use Rattle.room_history.proofs.SavingLemmas.{saved_documents, saved_rising, saved_removed}
use Rattle.room_history.proofs.kept.Kept.saved.Goals as goal

pub returns : goal.returns
returns g c = λ first history keeps.
    let kept = c.args.self.now in
    let doc = is_document (schema_tree kept.schema) in
    let found = c.in_ok-changes.changes.items in
    let same = c.in_ok-changes.ensures.ok.same in
    let clocks = c.in_ok-clocks.ensures ∙ ap (fold with_clock []) c.deref.ensures.value in
    let removals = c.in_ok-removals.ensures ∙ ap (fold (with_removal doc) []) c.deref-2.ensures.value in
    let documents = c.in_ok-documents.ensures ∙ ap (λ (k : Pairs). filter_map (saved_under doc kept.records.0 k) (keys_of kept.records.0)) clocks in
    let tombs = c.in_ok-tombstones.ensures ∙ ap (λ (m : Pairs). map (λ p. (p.0, number_of p.1)) m) removals in
    let clock_fits : SFits w64 kept.clock = search rules in
    let start_fits : SFits w64 c.starts_at-start.result = search rules in
    record {
      clock = to_z-of_z w64 kept.clock clock_fits ∙ keeps.clock;
      start = to_z-of_z w64 c.starts_at-start.result start_fits ∙ c.starts_at-start.ensures.start ∙ keeps.start;
      documents = saved_documents first history kept keeps found same c.in_ok-documents.documents.items documents;
      rising = saved_rising first history kept keeps found same c.in_ok-tombstones.tombstones.items tombs;
      removed = saved_removed first history kept keeps found same c.in_ok-tombstones.tombstones.items tombs;
    }
