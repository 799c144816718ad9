-- Operations in the order of their ids.
use Rattle.std.proofs.Common.{◌≡◌, [], ◌∷◌, ◌++◌, fold, append_assoc, sym, ap, ◌∙◌}
use Rattle.std.proofs.lemmas.List.{append-nil}
use Rattle.rooms_val.specs.Maps.{AreRising, with_key}
use Rattle.rooms_val.proofs.MapsLemmas.{put_last, rising_on, rising-with_key}
use Rattle.field_ops.specs.RecordOps.{RecordOps}
use Rattle.peer_schemas.specs.Clients.{by_id}

-- operations put one after another
abbrev all_put : RecordOps → RecordOps → RecordOps
all_put done more = fold (λ diff c. with_key diff c.0 c.1) done more

rising_put : (done more : RecordOps) → AreRising (done ++ more) → all_put done more ≡ done ++ more
rising_put done [] rising = sym (append-nil done)
rising_put done (c ∷ more) rising =
    ap (λ d. all_put d more) (put_last done c.0 c.1 more rising)
    ∙ rising_put (done ++ c ∷ []) more (rising_on done c more rising)
    ∙ append_assoc done (c ∷ []) more

-- a diff of the code is as it is
pub by_id-rising : (wanted : RecordOps) → AreRising wanted → by_id wanted ≡ wanted
by_id-rising wanted rising = rising_put [] wanted rising

put_rises : (done more : RecordOps) → AreRising done → AreRising (all_put done more)
put_rises done [] rising = rising
put_rises done (c ∷ more) rising = put_rises (with_key done c.0 c.1) more (rising-with_key done c.0 c.1 rising)

-- and their ids rise
pub rising-by_id : (wanted : RecordOps) → AreRising (by_id wanted)
rising-by_id wanted = put_rises [] wanted tt
