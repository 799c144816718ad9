use Rattle.std.proofs.Common.{◌≡◌, nat_abs, None, pos, refl, sym, ap, subst, ◌∙◌, rules, w64, to_z, of_z}
use Rattle.std.proofs.lemmas.Int.{to_z-of_z}
use Rattle.schema_core.specs.SchemaOf.{schema_tree}
use Rattle.room_model.proofs.BegunLemmas.{beginning_owned}
use Rattle.room_model.specs.Reachable.{ArePresencesOwned, loaded}
use Rattle.room_model.specs.Saves.{begun_room, load_fault}
use Rattle.room_schemas.specs.Decided.{decided}
use Rattle.sync_room.proofs.BegunLemmas.{begun_says, holds_nobody}
use Rattle.sync_room.proofs.room.Room.load.Goals as goal

pub returns-clause-stands : goal.returns-clause-stands
returns-clause-stands g c bound is =
    let saved = c.args.saved in
    let s = schema_tree c.args.schema in
    let last : to_z w64 (of_z w64 c.args.last) ≡ pos bound = to_z-of_z w64 c.args.last c.ranges.last ∙ is in
    let same : schema_tree c.in_ok-load.field-0.kept.schema ≡ s = ap schema_tree c.in_ok-load.ensures.schema in
    let told : to_z w64 (of_z w64 c.args.last) ≡ c.args.last = to_z-of_z w64 c.args.last c.ranges.last in
    let fits = c.in_ok-load.ensures.fits in
    record {
      agrees = record {
        last = last;
        history = c.in_ok-load.ensures.keeps;
        sessions = holds_nobody (begun_room bound saved) c.new.result refl c.new.ensures.empty c.new.ensures.entered;
        says = begun_says (decided (schema_tree c.in_ok-load.field-0.kept.schema)) saved (nat_abs saved.clock);
      };
      near = λ number session at. absurd (search rules);
      presences = subst (λ t. ArePresencesOwned (decided t) (begun_room bound saved)) (sym same) (beginning_owned (decided s) (begun_room bound saved) (loaded bound saved (subst (λ l. load_fault (decided s) l saved ≡ None) last fits)));
    }
