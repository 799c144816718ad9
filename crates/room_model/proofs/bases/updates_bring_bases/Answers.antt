use Rattle.std.proofs.Common.{Ok, ap, ◌∙◌}
use Rattle.room_model.proofs.CommitLemmas.{reachable_commits}
use Rattle.room_model.proofs.EntryLemmas.{reachable_acts}
use Rattle.room_model.proofs.UpdateLemmas.{caught_up, by_entries, updated}
use Rattle.room_model.proofs.bases.updates_bring_bases.Goals as goal

pub returns-clause-caught_up : goal.returns-clause-caught_up
returns-clause-caught_up g c schemas admits member sent history items lawful scoped = caught_up schemas lawful member admits sent history items scoped

pub returns-clause-by_entries : goal.returns-clause-by_entries
returns-clause-by_entries g c schemas version member sent history items lawful plan acts commits answers =
    by_entries schemas.room lawful.room member (schemas.client version).admits (λ none. lawful.same version (plan ∙ ap Ok none)) sent history items acts commits answers

pub returns-clause-told : goal.returns-clause-told
returns-clause-told g c schemas version member sent history items events lawful plan acts commits answers is =
    updated schemas.room lawful.room member (schemas.client version).admits (λ none. lawful.same version (plan ∙ ap Ok none)) sent history items events acts commits answers is

pub returns-clause-rooms : goal.returns-clause-rooms
returns-clause-rooms g c schemas version room number session sent plan items events lawful planned reached there is answers told =
    updated schemas.room lawful.room (record { session = number; readonly = session.readonly; plan = plan }) (schemas.client version).admits (λ none. lawful.same version (planned ∙ ap Ok none))
    sent room.history items events (reachable_acts schemas.room room lawful.room reached) (reachable_commits schemas.room lawful.room room reached number session sent plan there is) answers told
