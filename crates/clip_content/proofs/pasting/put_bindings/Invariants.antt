use Rattle.std.proofs.Common.{◌≡◌, ℕ, List, drop, map}
use Rattle.rooms_val.specs.Data.{Data, Pairs}
use Rattle.rooms_val.specs.View.{pairs_view}
use Rattle.clip_content.specs.Pasted.{new_binding, pasted_binding, put_each}
use Rattle.clip_content.specs.View.{clip_tree, target_tree}
use Rattle.clip_content.proofs.pasting.put_bindings.Given as goal

abbrev pub invariant-bindings : goal.invariant-bindings
invariant-bindings l =
    let pasted = λ (es : Pairs). map {B = List ℕ × Data} (λ e. (new_binding (clip_tree l.clip) (target_tree l.target) e.0, pasted_binding (clip_tree l.clip) (target_tree l.target) e)) es in
    put_each l.diff (pasted (pairs_view (drop l.id-index l.id-items))) ≡ put_each l.initial.diff (pasted (pairs_view l.id-items))
