use Rattle.std.proofs.Common.{◌≡◌, ℕ, List, [], Option, take, refl, sym, ap, subst, ◌∙◌}
use Rattle.std.specs.Prelude.{OnErr, Ok, Err}
use Rattle.std.specs.declared.result.Result.{Result}
use Rattle.std.proofs.lemmas.Result.{err_from_is_err_and}
use Rattle.room_link.specs.Held.{Extends}
use Rattle.room_link.proofs.HeldLemmas.{Extends-nil}
use Rattle.replay_job.specs.Replay.{IsFront}
use Rattle.replay_job.specs.Replies.{reply_text}
use Rattle.replay_job.proofs.WritingLemmas.{first_bytes}
use Rattle.replay_job.proofs.play.write_reply.Goals as goal

-- nothing was written yet
nothing_yet : (held : Option (List ℕ)) (text : List ℕ) → (front : List ℕ) × IsFront front text × Extends held held front
nothing_yet held text = ([], (text, refl), Extends-nil held)

given : {T E : Type 0} (r : Result T E) {P : Type 0} → P → OnErr r P
given (Ok x) p = tt
given (Err e) p = p

pub returns-in_err-write_all-in-Refused-clause-err : goal.returns-in_err-write_all-in-Refused-clause-err
returns-in_err-write_all-in-Refused-clause-err g c =
    let held = g.K.Sink.held in
    let p = err_from_is_err_and c.from_residual-in_err-write_all-in-Refused.result c.from_residual-in_err-write_all-in-Refused.ensures.1 in
    let took = c.in_err-write_all-in-Refused.ensures.front in
    let text = reply_text c.args.at c.args.reply in
    let is : c.deref.result.now ≡ text = c.deref.ensures.value ∙ c.in_ok-text-in-Refused.ensures ∙ ap (reply_text c.args.at) (sym c.in-Refused.is) in
    rw p.1 (take took.0 text, first_bytes took.0 text, subst (λ t. Extends (held c.args.sink.now) (held c.write_all.new.sink) (take took.0 t)) is took.1)

pub returns-in_err-text-in-Refused-clause-err : goal.returns-in_err-text-in-Refused-clause-err
returns-in_err-text-in-Refused-clause-err g c = given c.from_residual.result (nothing_yet (g.K.Sink.held c.args.sink.now) (reply_text c.args.at c.args.reply))
