use Rattle.std.proofs.Common.{◌≡◌, Err, sym, ap, ◌∙◌}
use Rattle.room_model.specs.declared.clip_fault.ClipFault.TheVariants.{NoShape, OutOfMemory}
use Rattle.clip_content.specs.Copied.{taken}
use Rattle.sync_world.proofs.clips.clip_of.Goals as goal

pub returns-in-Ok : goal.returns-in-Ok
returns-in-Ok c = λ schemas state stands. ap (λ m. taken m c.args.ids.now) (sym (c.in_ok-records.ensures schemas state stands)) ∙ c.in-Ok.ensures

pub returns-in-Err-NoShape : goal.returns-in-Err-NoShape
returns-in-Err-NoShape c = λ schemas state stands.
    ap (λ m. taken m c.args.ids.now) (sym (c.in_ok-records.ensures schemas state stands)) ∙ c.in-Err-NoShape.ensures (λ other. let no : NoShape c.in-Err-NoShape.id ≡ OutOfMemory = sym c.in-Err-NoShape.field-0-is ∙ other in cc) ∙ ap (λ f. Err f) c.in-Err-NoShape.field-0-is
