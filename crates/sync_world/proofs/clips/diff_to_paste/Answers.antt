use Rattle.std.proofs.Common.{◌≡◌, Err, sym, ap, ◌∙◌, w64, rules}
use Rattle.std.proofs.lemmas.Int.{to_z-of_z}
use mir.Val.{SFits}
use Rattle.room_model.specs.declared.clip_fault.PasteFault.TheVariants.{NoKey, OutOfMemory}
use Rattle.clip_content.specs.Pasted.{pasted}
use Rattle.clip_content.specs.View.{clip_tree, target_tree}
use Rattle.sync_world.proofs.clips.diff_to_paste.Goals as goal

pub returns-in-Err-NoKey : goal.returns-in-Err-NoKey
returns-in-Err-NoKey c = λ schemas state stands.
    let clip = clip_tree c.args.clip.now in
    let target = c.args.target.now in
    let dx_fits : SFits w64 target.dx = search rules in
    let dy_fits : SFits w64 target.dy = search rules in
    let dx = to_z-of_z w64 target.dx dx_fits in
    let dy = to_z-of_z w64 target.dy dy_fits in
    ap (λ m. pasted clip m (target_tree target)) (sym (c.in_ok-records.ensures schemas state stands))
    ∙ (λ i. pasted clip c.in_ok-records.records (record { prefix = target.prefix.now; parent = target.parent.now; dx = sym dx i; dy = sym dy i }))
    ∙ c.in-Err-NoKey.ensures (λ other. let no : NoKey c.in-Err-NoKey.fault ≡ OutOfMemory = sym c.in-Err-NoKey.field-0-is ∙ other in cc) ∙ ap (λ f. Err f) c.in-Err-NoKey.field-0-is
