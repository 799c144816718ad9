-- Records that a schema admits stay so where what is accepted is done to them.
use Rattle.std.proofs.Common.{◌≡◌, ℕ, Bool, true, false, ◌&&◌, cond, List, [], ◌∷◌, Option, Some, None, option_map, refl, sym, ap, subst, ◌∙◌}
use Rattle.std.specs.Option.{option_map_or}
use Rattle.rooms_val.specs.Data.{Data, Pairs}
use Rattle.rooms_val.specs.Maps.{ties, AreRising, value_at, with_key, set_at}
use Rattle.rooms_val.proofs.MapsLemmas.{by_tie, at-set_at, at-with_key, rising-with_key}
use Rattle.field_ops.specs.Laws.{raw_after}
use Rattle.field_ops.specs.Patched.{raw}
use Rattle.field_ops.specs.RecordOps.{RecordOpTree, put, patch, remove, RecordOps}
use Rattle.doc_model.specs.Documents.{fold_raw, acts_on}
use Rattle.doc_model.proofs.MergeLemmas.{at-fold_raw}
use Rattle.schema_core.specs.Admits.{is_admitted}
use Rattle.schema_core.specs.Tree.{SchemaTree}
use Rattle.room_model.specs.Accepting.{is_put_admitted}
use Rattle.room_schemas.specs.Decided.{decided}
use Rattle.room_accept.specs.Parts.{IsStanding}
use Rattle.room_accept.specs.Suiting.{AreAdmitted}

-- what is left by an operation that is accepted is admitted
pub left_standing : (s : SchemaTree) (id : List ℕ) (c : RecordOpTree) (r : Option Data) → acts_on (is_admitted s) id c r ≡ true → is_put_admitted (decided s) id c ≡ true → IsStanding s id (raw c r)
left_standing s id (put d) r acts puts = puts
left_standing s id (patch p) None acts puts = tt
left_standing s id (patch p) (Some d) acts puts = acts
left_standing s id remove r acts puts = tt

pub standing_at : (s : SchemaTree) (m : Pairs) → AreAdmitted s m → (id : List ℕ) (r : Option Data) → r ≡ value_at m id → IsStanding s id r
standing_at s m admitted id None is = tt
standing_at s m admitted id (Some d) is = admitted id d (sym is)

pub standing_some : (s : SchemaTree) (id : List ℕ) (r : Option Data) (d : Data) → IsStanding s id r → r ≡ Some d → is_admitted s id d ≡ true
standing_some s id r d stands is = subst (IsStanding s id) is stands

-- one record or lack of one more
pub admitted-set_at : (s : SchemaTree) (m : Pairs) (id : List ℕ) (r : Option Data) → AreAdmitted s m → IsStanding s id r → AreAdmitted s (set_at m id r)
admitted-set_at s m id r admitted stands q d is =
    by_tie (λ b. cond b r (value_at m q) ≡ Some d → is_admitted s q d ≡ true) q id
    (λ same found. subst (λ k. is_admitted s k d ≡ true) (sym same) (standing_some s id r d stands found)) (λ found. admitted q d found)
    (sym (at-set_at m id q r) ∙ is)

-- one operation beside a diff
pub admitted-beside : (s : SchemaTree) (m : Pairs) (part : RecordOps) (id : List ℕ) (c : RecordOpTree) → AreRising part → AreAdmitted s (fold_raw m part) → IsStanding s id (raw c (value_at m id))
    → AreAdmitted s (fold_raw m (with_key part id c))
admitted-beside s m part id c rising admitted stands q d is =
    by_tie (λ b. raw_after (cond b (Some c) (value_at part q)) (value_at m q) ≡ Some d → is_admitted s q d ≡ true) q id
    (λ same found. subst (λ k. is_admitted s k d ≡ true) (sym same) (standing_some s id (raw c (value_at m id)) d stands (ap (λ k. raw c (value_at m k)) (sym same) ∙ found)))
    (λ found. admitted q d (at-fold_raw part m q rising ∙ found))
    (sym (at-fold_raw (with_key part id c) m q (rising-with_key part id c rising) ∙ ap (λ e. raw_after e (value_at m q)) (at-with_key part id q c)) ∙ is)

pub own_standing : (s : SchemaTree) (id : List ℕ) (own : Option RecordOpTree) (c : RecordOpTree) → own ≡ Some c → option_map_or (λ e. is_put_admitted (decided s) id e) own true ≡ true → is_put_admitted (decided s) id c ≡ true
own_standing s id own c is puts = subst (λ o. option_map_or (λ e. is_put_admitted (decided s) id e) o true ≡ true) is puts
