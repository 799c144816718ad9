use Rattle.std.proofs.Common.{◌≡◌, ℕ, List, Some, set, get_or, sym, ap, subst, ◌∙◌}
use Rattle.rooms_val.specs.Places.{IsPlace, IsGap}
use Rattle.rooms_val.proofs.PlacesLemmas.{find_at_place, find_in_gap, put_at_place, put_in_gap}
use Rattle.rooms_val.proofs.entries.put.Goals as goal

here : {X : Type 0} (s es : List (List ℕ × X)) (k key : List ℕ) (p : ℕ) → s ≡ es → k ≡ key → IsPlace s k p → IsPlace es key p
here s es k key p list same at = subst (λ t. IsPlace t key p) list (subst (λ q. IsPlace s q p) same at)

nowhere : {X : Type 0} (s es : List (List ℕ × X)) (k key : List ℕ) (p : ℕ) → s ≡ es → k ≡ key → IsGap s k p → IsGap es key p
nowhere s es k key p list same at = subst (λ t. IsGap t key p) list (subst (λ q. IsGap s q p) same at)

pub returns-in-Ok-clause-old : goal.returns-in-Ok-clause-old
returns-in-Ok-clause-old g c =
    let at = here c.deref.result.now c.args.entries.now.items c.as_str.result.now c.args.key c.in-Ok.place c.deref.ensures.value c.as_str.ensures.bytes c.in-Ok.ensures.found in
    ap Some (c.replace.ensures.value ∙ ap (λ e. e.1) c.index_mut.ensures.value) ∙ sym (find_at_place c.args.entries.now.items c.args.key c.in-Ok.place c.index_mut.result.now at)

pub returns-in-Ok-clause-ok : goal.returns-in-Ok-clause-ok
returns-in-Ok-clause-ok g c =
    let at = here c.deref.result.now c.args.entries.now.items c.as_str.result.now c.args.key c.in-Ok.place c.deref.ensures.value c.as_str.ensures.bytes c.in-Ok.ensures.found in
    ap (λ e. set c.args.entries.now.items c.in-Ok.place (e.0, c.replace.new.dest)) c.index_mut.ensures.value
    ∙ ap (λ v. set c.args.entries.now.items c.in-Ok.place ((get_or c.args.entries.now.items c.in-Ok.place c.index_mut.result.now).0, v)) c.replace.ensures.after
    ∙ sym (put_at_place c.args.entries.now.items c.args.key c.args.new c.in-Ok.place c.index_mut.result.now at)

pub returns-in_ok-insert-in-Err-clause-old : goal.returns-in_ok-insert-in-Err-clause-old
returns-in_ok-insert-in-Err-clause-old g c =
    sym (find_in_gap c.args.entries.now.items c.args.key c.in-Err.place (nowhere c.deref.result.now _ c.as_str.result.now _ _ c.deref.ensures.value c.as_str.ensures.bytes c.in-Err.ensures.absent))

pub returns-in_ok-insert-in-Err-clause-ok : goal.returns-in_ok-insert-in-Err-clause-ok
returns-in_ok-insert-in-Err-clause-ok g c =
    c.in_ok-insert-in-Err.ensures.items
    ∙ sym (put_in_gap c.args.entries.now.items c.args.key c.args.new c.in-Err.place (nowhere c.deref.result.now _ c.as_str.result.now _ _ c.deref.ensures.value c.as_str.ensures.bytes c.in-Err.ensures.absent))
