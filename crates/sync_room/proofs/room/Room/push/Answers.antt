use Rattle.std.proofs.Common.{w64, ◌≡◌, ◌∷◌, [], ◌++◌, rules, refl, sym, ap, subst, ◌∙◌}
use Rattle.std.proofs.lemmas.Int.{to_z-of_z}
use mir.Val.{SFits}
use Rattle.schema_core.specs.SchemaOf.{schema_tree}
use Rattle.room_schemas.specs.Decided.{decided}
use Rattle.room_accept.specs.Pushes.{push_of}
use Rattle.sync_room.specs.Sessions.{session_of, phase_of, with_at, IsWithPushed}
use Rattle.sync_room.specs.Standing.{Follows, Judges, tree_of}
use Rattle.sync_room.proofs.PushLemmas.{taken, same_agrees}
use Rattle.sync_room.proofs.TableLemmas.{stays_in, on_err, with_number, there_with}
use Rattle.rooms_val.proofs.Truths.{some_there}
use Rattle.sync_room.proofs.room.Room.push.Goals as goal

pub returns-in_err-reserve_push-in-Ok-clause-err : goal.returns-in_err-reserve_push-in-Ok-clause-err
returns-in_err-reserve_push-in-Ok-clause-err g c = on_err c.from_residual-in_err-reserve_push-in-Ok.result _ (λ state h.
    let s = some_there _ c.requires in
    let u = c.in_err-reserve_push-in-Ok.ensures.kept s.0 s.1 in
    same_agrees state c.args.self.now _ c.args.key s.0 u.0 h s.1 u.1 refl h.history refl u.2)

pub returns-in_err-reserve_push-in-Ok-clause-others : goal.returns-in_err-reserve_push-in-Ok-clause-others
returns-in_err-reserve_push-in-Ok-clause-others g c =
    let s = some_there _ c.requires in
    let u = c.in_err-reserve_push-in-Ok.ensures.kept s.0 s.1 in
    stays_in c.args.self.now.sessions c.reserve_push.new.self c.args.key s.0 u.0 s.1 (with_number _ s.0 u.0 u.1) u.2

pub returns-in_err-append-in-Ok-clause-err : goal.returns-in_err-append-in-Ok-clause-err
returns-in_err-append-in-Ok-clause-err g c = on_err c.from_residual-in_err-append-in-Ok.result _ (λ state h.
    let s = some_there _ c.requires in
    let u = c.in_ok-reserve_push-in-Ok.ensures.kept s.0 s.1 in
    same_agrees state c.args.self.now _ c.args.key s.0 u.0 h s.1 u.1 refl (c.in_err-append-in-Ok.ensures.err state.first state.history h.history) (ap schema_tree c.append.ensures.schema) u.2)

pub returns-in_err-append-in-Ok-clause-others : goal.returns-in_err-append-in-Ok-clause-others
returns-in_err-append-in-Ok-clause-others g c =
    let s = some_there _ c.requires in
    let u = c.in_ok-reserve_push-in-Ok.ensures.kept s.0 s.1 in
    stays_in c.args.self.now.sessions c.reserve_push.new.self c.args.key s.0 u.0 s.1 (with_number _ s.0 u.0 u.1) u.2

pub returns-in_ok-append-in-Ok-clause-step : goal.returns-in_ok-append-in-Ok-clause-step
returns-in_ok-append-in-Ok-clause-step g c = λ state s h at.
    let fits : SFits w64 c.args.push.client_clock = search rules in
    let judged = subst (λ j. Judges (decided (tree_of c.args.self.now)) state s (push_of c.args.push) j) c.in-Ok.is (c.in_ok-accepted.ensures.judged state s h at.here) in
    let u = c.in_ok-reserve_push-in-Ok.ensures.kept s at.here in
    let there = there_with c.args.self.now.sessions c.reserve_push.new.self c.args.key s u.0 at.here u.2 in
    let t = c.note_push.ensures u.0 there in
    let noting = subst (λ z. IsWithPushed (u.0.pushed.items ++ z ∷ []) u.0 t.0) (to_z-of_z w64 c.args.push.client_clock fits) t.1 in
    taken (decided (tree_of c.args.self.now)) state c.args.self.now _ c.end_slow.new.self c.args.key s u.0 t.0 (push_of c.args.push) c.in-Ok.accepted.entry h at.here
    judged.0 judged.1 judged.2 u.1 noting refl (ap schema_tree c.append.ensures.schema) (c.in_ok-append-in-Ok.ensures.ok state.first state.history h.history)
    (t.2 ∙ ap (with_at c.args.key t.0) u.2) c.end_slow.ensures.ended

pub returns-in_ok-append-in-Ok-clause-others : goal.returns-in_ok-append-in-Ok-clause-others
returns-in_ok-append-in-Ok-clause-others g c = λ other is.
    let s = some_there _ c.requires in
    let u = c.in_ok-reserve_push-in-Ok.ensures.kept s.0 s.1 in
    let there = there_with c.args.self.now.sessions c.reserve_push.new.self c.args.key s.0 u.0 s.1 u.2 in
    let t = c.note_push.ensures u.0 there in
    let reserved = stays_in c.args.self.now.sessions c.reserve_push.new.self c.args.key s.0 u.0 s.1 (with_number _ s.0 u.0 u.1) u.2 other is in
    c.end_slow.ensures.others other (stays_in c.reserve_push.new.self c.note_push.new.self c.args.key u.0 t.0 there (with_number _ u.0 t.0 t.1) t.2 other reserved)

pub returns-in-Err-clause-step : goal.returns-in-Err-clause-step
returns-in-Err-clause-step g c = λ state s h at.
    let judged = subst (λ j. Judges (decided (tree_of c.args.self.now)) state s (push_of c.args.push) j) c.in-Err.is (c.in_ok-accepted.ensures.judged state s h at.here) in
    subst (λ r. Follows r c.refuse.result c.refuse.new.self) (sym judged) (c.refuse.ensures.refused state s h at)
