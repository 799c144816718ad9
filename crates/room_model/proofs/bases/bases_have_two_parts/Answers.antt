use Rattle.room_model.specs.Histories.{records_of}
use Rattle.room_model.proofs.BaseLemmas.{rising-records, whole_document, whole_presence}
use Rattle.room_model.proofs.bases.bases_have_two_parts.Goals as goal

pub returns-clause-document : goal.returns-clause-document
returns-clause-document c schemas plan session history lawful =
    whole_document schemas lawful plan session (records_of history) (rising-records history)

pub returns-clause-presence : goal.returns-clause-presence
returns-clause-presence c schemas plan session history lawful =
    whole_presence schemas lawful plan session (records_of history) (rising-records history)
