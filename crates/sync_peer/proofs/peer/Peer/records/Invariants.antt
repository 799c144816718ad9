use Rattle.sync_peer.specs.Calls.{records_of}
use Rattle.sync_peer.proofs.CopyLemmas.{IsCopied}
use Rattle.sync_peer.proofs.peer.Peer.records.Given as goal

-- of the records those were copied whose ids were met
abbrev pub invariant-ids : goal.invariant-ids
invariant-ids l = IsCopied (records_of l.fn.self.client.replica.store) l.fields l.id-iterator.rest.items
