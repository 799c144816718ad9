use Rattle.std.proofs.Common.{rules, ◌≡◌, ◌++◌, [], ◌∷◌, sym, subst}
use Rattle.std.specs.Prelude.{All}
use Rattle.std.proofs.lemmas.List.Elements.{All-head, All-tail, All-push}
use Rattle.std.proofs.lemmas.Result.{IfOk-at_ok}
use Rattle.room_run.specs.Passes.{room_of_gone}
use Rattle.room_run.specs.Rooms.{id_of}
use Rattle.room_run.specs.declared.passes.Gone.{Gone}
use Rattle.test_with_room_runs.specs.Talks.{HasLeft, AllLeft}
use Rattle.test_with_room_runs.specs.declared.talks.Talk.{Talk}
use Rattle.test_with_room_runs.proofs.talks.part_talks.Goals as goal

pub talks-preserved : goal.talks-preserved
talks-preserved c =
    let room = c.args.room.now in
    let left = subst (AllLeft room) c.in-Some.ensures.steps.0 c.talks.invariant.0 in
    let of_room = λ (g : Gone). room_of_gone g ≡ id_of room in
    let own = IfOk-at_ok (λ (t : Talk). room_of_gone t.gone ≡ id_of room) c.in_ok-given.was (All-head (HasLeft room) c.in-Some.talk c.next.new.self.rest.items left) in
    let gone = c.in_ok-given.field-0.gone in
    let more : c.push-in-talks.new.self.items ≡ c.talks.gones.items ++ gone ∷ [] = search rules in (
      All-tail (HasLeft room) c.in-Some.talk c.next.new.self.rest.items left,
      subst (All of_room) (sym more) (All-push of_room c.talks.gones.items gone c.talks.invariant.1 own),
    )
