use Rattle.std.proofs.Common.{rules, ◌≡◌, ◌++◌, [], ◌∷◌, map, length, append_assoc, append-nil, refl, sym, ap, subst, ◌∙◌}
use Rattle.std.specs.Prelude.{All}
use Rattle.std.proofs.lemmas.List.Elements.{All-head, All-tail}
use Rattle.room_run.specs.Passes.{room_of_gone}
use Rattle.room_run.specs.Rooms.{id_of}
use Rattle.room_run.specs.Steps.{note_of}
use Rattle.room_run.specs.Views.{view_among}
use Rattle.room_run.specs.declared.passes.Gone.{Gone}
use Rattle.room_run.proofs.StepLemmas.{joins, learns}
use Rattle.room_run.proofs.CloseLemmas.{note_of_gone, all_end, none_left, noted_one_more}
use Rattle.room_run.proofs.running.RunningRoom.close.Goals as goal

pub load-requires : goal.load-requires
load-requires g c = (search rules, search rules, learns _ _ _ _ c.gone.invariant.3.0)

pub join_seat-requires : goal.join_seat-requires
join_seat-requires g c =
    let ours = subst (All (λ (x : Gone). room_of_gone x ≡ id_of c.args.self)) c.in-Some.ensures.steps.0 c.gone.invariant.1 in
    let own = All-head (λ (x : Gone). room_of_gone x ≡ id_of c.args.self) c.in-Some.one c.next.new.self.rest.items ours in
    let turn = ap (λ vs. (view_among vs).turn) (sym c.into_seat.ensures.2) ∙ c.in-Some.one.idle in
    (search rules, c.into_seat.ensures.0 ∙ ap (λ p. p.0) own, search rules, search rules, joins _ _ _ _ _ turn)

pub gone-preserved : goal.gone-preserved
gone-preserved g c =
    let i = c.gone.invariant in
    let steps = c.in-Some.ensures.steps.0 in
    let ours = subst (All (λ (x : Gone). room_of_gone x ≡ id_of c.args.self)) steps i.1 in
    let joined = c.join_seat.ensures.2 in
    let note : note_of c.into_seat.result.me.0 ≡ note_of_gone c.in-Some.one = ap (λ vs. note_of (view_among vs)) (sym c.into_seat.ensures.2) in (
      append_assoc c.gone.yielded (c.in-Some.one ∷ []) c.next.new.self.rest.items ∙ (ap (λ l. c.gone.yielded ++ l) (sym steps) ∙ i.0),
      All-tail (λ (x : Gone). room_of_gone x ≡ id_of c.args.self) c.in-Some.one c.next.new.self.rest.items ours,
      c.join_seat.ensures.0 ∙ i.2,
      (ap (λ m. m.0.turn) joined ∙ i.3.0, ap (λ m. m.1) joined ∙ i.3.1, ap (λ m. m.0.seen) joined ∙ i.3.2, ap (λ m. m.0.opening) joined ∙ i.3.3),
      ap (λ m. m.0.notes) joined ∙ ((λ k. i.4 k ++ note k ∷ []) ∙ sym (noted_one_more c.gone.yielded c.in-Some.one)),
    )

pub returns-clause-ends : goal.returns-clause-ends
returns-clause-ends g c =
    let i = c.gone.invariant in
    let long : length c.gone.one-iterator.rest.items ≡ 0 = search rules in
    let none = none_left c.gone.one-iterator.rest.items long in
    let all : c.gone.yielded ≡ c.args.gone.items = sym (append-nil c.gone.yielded) ∙ (ap (λ l. c.gone.yielded ++ l) (sym none) ∙ i.0) in
    all_end c.into_closed.result.pen c.gone.seat.me.0.seen c.gone.seat.me.0.notes c.args.gone.items (i.3.2 ∙ sym c.into_closed.ensures.pen)
    (i.4 ∙ ap (map note_of_gone) all) c.load.ensures.2.1 c.load.ensures.2.2
