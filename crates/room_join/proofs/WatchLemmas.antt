-- A client watches a further view, if it watches fewer than may be.
use Rattle.std.proofs.Common.{◌≡◌, nat_le, true, false, [], length, cond, Ok, Err, ap}
use Rattle.shape_tree.specs.declared.view.View.{View}
use Rattle.signal_core.specs.declared.watch.TheConstants.{MOST_WATCHES}
use Rattle.room_model.specs.declared.fault.StepFault.TheVariants.{Limit}
use Rattle.room_join.specs.Joiners as model
use Rattle.room_join.specs.Joiners.{Outcome, on_watch, with_watch}

pub watches_more : (view : View) (joiner : model.Joiner) → nat_le MOST_WATCHES (length joiner.watched) ≡ false
    → on_watch view joiner ≡ Ok (record { joiner = with_watch view joiner; lines = [] })
watches_more view joiner is = let made : Outcome = Ok (record { joiner = with_watch view joiner; lines = [] }) in ap (λ b. cond b (Err Limit) made) is

pub watches_no_more : (view : View) (joiner : model.Joiner) → nat_le MOST_WATCHES (length joiner.watched) ≡ true → on_watch view joiner ≡ Err Limit
watches_no_more view joiner is = let made : Outcome = Ok (record { joiner = with_watch view joiner; lines = [] }) in ap (λ b. cond b (Err Limit) made) is
