use Rattle.clip_content.proofs.AddLemmas.{clip_of}
use Rattle.clip_content.proofs.BoundLemmas.{bound_in_clip}
use Rattle.clip_content.proofs.laws.keeps_bindings_within.Goals as goal

pub returns : goal.returns
returns c = λ source ids clip document target keys is id there.
    let has_all = clip_of source ids clip document target keys is in
    bound_in_clip clip target has_all.few_shapes is.prefix has_all.none id there has_all.bound
