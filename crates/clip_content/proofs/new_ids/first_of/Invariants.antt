use Rattle.std.proofs.Common.{◌≡◌, drop, map}
use Rattle.std.specs.List.{find}
use Rattle.rooms_val.specs.Data.{Pairs}
use Rattle.rooms_val.specs.View.{pairs_view}
use Rattle.side_effects.specs.Records.{has}
use Rattle.clip_content.specs.Pasted.{new_id}
use Rattle.clip_content.proofs.new_ids.first_of.Given as goal

abbrev pub invariant-copied : goal.invariant-copied
invariant-copied l =
    let new = λ (es : Pairs). find (has l.records) (map (λ e. new_id l.kind l.prefix l.copied e.0) es) in
    new (pairs_view (drop l.id-index l.id-items)) ≡ new (pairs_view l.id-items)
