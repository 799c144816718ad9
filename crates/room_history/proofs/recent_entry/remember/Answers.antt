use Rattle.std.proofs.Common.{[], ◌∷◌, ◌++◌, map, ap, ◌∙◌, w64}
use Rattle.std.proofs.lemmas.Int.{to_z-of_z}
use Rattle.std.proofs.lemmas.List.{map-append}
use Rattle.circular_buffer.specs.Buffer.{keep_last}
use Rattle.rooms_val.specs.Maps.{seen}
use Rattle.field_ops.specs.View.{maybe_data}
use Rattle.room_history.specs.Entries.{recent_tree}
use Rattle.room_history.proofs.RingLemmas.{keep_last-map}
use Rattle.room_history.proofs.recent_entry.remember.Goals as goal

pub returns-clause-items : goal.returns-clause-items
returns-clause-items c =
    let old = c.args.recent.now in
    let fits = to_z-of_z w64 c.args.clock c.ranges.clock in
    ap (λ b. map recent_tree b.items) c.push_back.ensures.items
    ∙ keep_last-map recent_tree old.capacity _
    ∙ ap (keep_last old.capacity) (map-append recent_tree old.items _)
    ∙ ap (λ z. keep_last old.capacity (map recent_tree old.items ++ record { clock = z; entry = c.args.entry; after = seen maybe_data c.args.after.items } ∷ [])) fits
