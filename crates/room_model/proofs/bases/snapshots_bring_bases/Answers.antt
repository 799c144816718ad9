use Rattle.room_model.proofs.BaseLemmas.{wiped_all, wiped_presence, hydrated}
use Rattle.room_model.proofs.LookUpLemmas.{rising-filter}
use Rattle.room_model.proofs.bases.snapshots_bring_bases.Goals as goal

pub returns-clause-whole : goal.returns-clause-whole
returns-clause-whole c = wiped_all

pub returns-clause-since : goal.returns-clause-since
returns-clause-since c schemas admits member clock history base rising agrees =
    wiped_presence schemas admits member history clock base (rising-filter schemas.is_document base rising) agrees

pub returns-clause-reached : goal.returns-clause-reached
returns-clause-reached c = hydrated
