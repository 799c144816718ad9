use Rattle.std.proofs.Common.{sym, ap, ◌∙◌}
use Rattle.std.specs.Prelude.{codes}
use Rattle.rooms_val.specs.Data.{text, map, members_of}
use Rattle.rooms_val.specs.Maps.{with_key}
use Rattle.rooms_val.proofs.DataLemmas.{pairs_of-members_of}
use Rattle.room_accept.proofs.presence.with_id.Goals as goal

pub returns-in_ok-put-in-Map : goal.returns-in_ok-put-in-Map
returns-in_ok-put-in-Map c =
    rw c.in-Map.is (ap (λ f. map (members_of f)) (
    c.in_ok-put-in-Map.ensures.ok
    ∙ (λ i. with_key c.in-Map.fields (c.in_ok-of-in-Map.ensures i) (text (c.in_ok-copy-in-Map.ensures i)))
    ∙ ap (λ f. with_key f (codes "id") (text c.args.id.now)) (sym (pairs_of-members_of c.in-Map.fields))))
