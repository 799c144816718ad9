use Rattle.std.proofs.Common.{option_map, sym, ap, subst, ◌∙◌}
use Rattle.field_ops.specs.ValueOps.{IsSoundPatch}
use Rattle.field_ops.specs.View.{edit_of, patch_view}
use Rattle.rooms_val.proofs.MapsLemmas.{seen-with_key, value_seen, with_key_seen}
use Rattle.field_ops.proofs.SoundLemmas.{rising_ops, sound_put}
use Rattle.field_ops.proofs.object_diff.ObjectDiff.put.Goals as goal

pub put-requires : goal.put-requires
put-requires c = rising_ops _ c.self.invariant

pub invariant_of-self-2 : goal.invariant_of-self-2
invariant_of-self-2 c =
    subst IsSoundPatch (sym (ap patch_view c.in_ok-old.ensures.ok ∙ seen-with_key edit_of c.self.inside.entries.items c.args.key c.args.op)) (sound_put _ c.args.key (edit_of c.args.op) c.self.invariant c.name.ensures.sound)

pub returns-clause-old : goal.returns-clause-old
returns-clause-old c = ap (option_map edit_of) c.in_ok-old.ensures.old ∙ value_seen edit_of _ _ c.self.view_is c.args.key

pub returns-clause-ok : goal.returns-clause-ok
returns-clause-ok c = ap patch_view c.in_ok-old.ensures.ok ∙ with_key_seen edit_of _ _ c.self.view_is c.args.key c.args.op
