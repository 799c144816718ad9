-- What a checked diff makes of a document is what its step does.
use Rattle.std.proofs.Common.{◌≡◌, ℕ, List, Bool, true, false, cond, Option, Some, None, refl, sym, ap, ◌∙◌}
use Rattle.std.specs.Option.{option_map_or, option_and_then}
use Rattle.rooms_val.specs.Data.{Data, Pairs}
use Rattle.rooms_val.specs.Maps.{value_at, AreRising}
use Rattle.rooms_val.proofs.MapsLemmas.{same_pairs}
use Rattle.field_ops.specs.ValueOps.{Patch}
use Rattle.field_ops.specs.RecordOps.{RecordOpTree, put, patch, remove, RecordOps}
use Rattle.field_ops.specs.Patched.{raw}
use Rattle.field_ops.specs.Inverses.{inverse}
use Rattle.schema_core.specs.Tree.{SchemaTree}
use Rattle.schema_core.specs.Admits.{is_admitted}
use Rattle.doc_model.specs.Documents.{acts_on, step}
use Rattle.doc_model.specs.Inverses.{record_after, inverse_on, inverse_diff}
use Rattle.doc_model.proofs.InverseLemmas.{at-step, rising-step, at-inverse_diff, rising-inverse_diff}
use Rattle.doc_store.specs.Checking.{admits_by, EachPatchActs, IsChecked}

-- a diff that doesn't count as checked
pub unchecked : (admits : List ℕ → Data → Bool) (m : Pairs) (diff : RecordOps) → IsChecked false admits m diff
unchecked admits m diff is = absurd (let no : false ≡ true = is in (cc))

module _ (s : SchemaTree) where
  -- if an operation is a patch, it acts on this record
  abbrev Acts : List ℕ → Option RecordOpTree → Option Data → Type 0
  Acts id o r = (p : Patch) → o ≡ Some (patch p) → acts_on (is_admitted s) id (patch p) r ≡ true

  left_any : (id : List ℕ) (o : Option Data) → option_map_or (is_admitted s id) o false ≡ true → option_map_or (admits_by true s id) o false ≡ true
  left_any id None is = is
  left_any id (Some d) is = refl

  acts_alike : (id : List ℕ) (c : RecordOpTree) (r : Option Data) → Acts id (Some c) r → acts_on (admits_by true s) id c r ≡ acts_on (is_admitted s) id c r
  acts_alike id (put d) r is = refl
  acts_alike id (patch p) r is = left_any id (raw (patch p) r) (is p refl) ∙ sym (is p refl)
  acts_alike id remove r is = refl

  after_alike : (id : List ℕ) (o : Option RecordOpTree) (r : Option Data) → Acts id o r → record_after (admits_by true s) id o r ≡ record_after (is_admitted s) id o r
  after_alike id None r is = refl
  after_alike id (Some c) r is = ap (λ b. cond b (raw c r) r) (acts_alike id c r is)

  inverse_alike : (id : List ℕ) (o : Option RecordOpTree) (r : Option Data) → Acts id o r
      → option_and_then (λ c. inverse_on (admits_by true s) id c r) o ≡ option_and_then (λ c. inverse_on (is_admitted s) id c r) o
  inverse_alike id None r is = refl
  inverse_alike id (Some c) r is = ap (λ b. cond b (inverse c r) None) (acts_alike id c r is)

  pub checked_step : (checked : Bool) (m : Pairs) (diff : RecordOps) → IsChecked checked (is_admitted s) m diff → AreRising m → AreRising diff
      → step (admits_by checked s) m diff ≡ step (is_admitted s) m diff
  checked_step false m diff is rises rising = refl
  checked_step true m diff is rises rising =
      same_pairs (step (admits_by true s) m diff) (step (is_admitted s) m diff) (rising-step (admits_by true s) diff m rises) (rising-step (is_admitted s) diff m rises)
      (λ q. at-step (admits_by true s) diff m q rising ∙ after_alike q (value_at diff q) (value_at m q) (is refl q) ∙ sym (at-step (is_admitted s) diff m q rising))

  pub checked_inverse : (checked : Bool) (m : Pairs) (diff : RecordOps) → IsChecked checked (is_admitted s) m diff
      → inverse_diff (admits_by checked s) m diff ≡ inverse_diff (is_admitted s) m diff
  checked_inverse false m diff is = refl
  checked_inverse true m diff is =
      same_pairs (inverse_diff (admits_by true s) m diff) (inverse_diff (is_admitted s) m diff) (rising-inverse_diff (admits_by true s) m diff) (rising-inverse_diff (is_admitted s) m diff)
      (λ q. at-inverse_diff (admits_by true s) m diff q ∙ inverse_alike q (value_at diff q) (value_at m q) (is refl q) ∙ sym (at-inverse_diff (is_admitted s) m diff q))
