use Rattle.std.proofs.Common.{option_map, sym, ap, subst, ◌∙◌}
use Rattle.field_ops.specs.RecordOps.{IsSoundDiff}
use Rattle.field_ops.specs.ViewRecordOps.{change_of, changes_view}
use Rattle.rooms_val.proofs.MapsLemmas.{seen-with_key, value_seen, with_key_seen}
use Rattle.field_ops.proofs.SoundLemmas.{rising_records, sound_put_change}
use Rattle.field_ops.proofs.diff.Diff.put.Goals as goal

pub put-requires : goal.put-requires
put-requires c = rising_records _ c.self.invariant

pub invariant_of-self-2 : goal.invariant_of-self-2
invariant_of-self-2 c =
    subst IsSoundDiff (sym (ap changes_view c.in_ok-old.ensures.ok ∙ seen-with_key change_of c.self.inside.entries.items c.args.id c.args.op)) (sound_put_change _ c.args.id (change_of c.args.op) c.self.invariant c.name.ensures.sound)

pub returns-clause-old : goal.returns-clause-old
returns-clause-old c = ap (option_map change_of) c.in_ok-old.ensures.old ∙ value_seen change_of _ _ c.self.view_is c.args.id

pub returns-clause-ok : goal.returns-clause-ok
returns-clause-ok c = ap changes_view c.in_ok-old.ensures.ok ∙ with_key_seen change_of _ _ c.self.view_is c.args.id c.args.op
