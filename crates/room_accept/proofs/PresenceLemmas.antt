-- What is accepted of a document and of a presence beside it.
use Rattle.std.proofs.Common.{◌≡◌, ℕ, ◌+◌, ◌≤◌, Bool, true, false, ◌||◌, not, cond, is_some, T, List, [], ◌∷◌, length, map, sum, Option, Some, None, option_map, Less, Equal, Greater, refl, sym, ap, subst, ◌∙◌, arith}
use Rattle.std.specs.Prelude.{MatchOption}
use Rattle.std.specs.FinMap.Entries.{by_order}
use Rattle.rooms_val.specs.Data.{Data, Pairs}
use Rattle.rooms_val.specs.Maps.{order, ties, AreRising, value_at, with_key, without_key, set_at, seen}
use Rattle.rooms_val.specs.View.{data_of}
use Rattle.rooms_val.specs.Weight.{weight}
use Rattle.rooms_val.specs.declared.val.Val.{Val}
use Rattle.rooms_val.proofs.MapsLemmas.{same_key, ties_same, by_tie, at-with_key, at-set_at, rising-with_key, rising-set_at, rising-seen, seen-with_key}
use Rattle.field_ops.specs.Laws.{raw_after}
use Rattle.field_ops.specs.Patched.{raw}
use Rattle.field_ops.specs.RecordOps.{RecordOpTree, put, patch, RecordOps}
use Rattle.field_ops.specs.ValueOps.{Patch}
use Rattle.field_ops.specs.View.{maybe_data}
use Rattle.field_ops.specs.ViewRecordOps.{change_of}
use Rattle.field_ops.specs.declared.record_op.RecordOp.{RecordOp}
use Rattle.field_ops.specs.declared.record_op.RecordOp.TheVariants as v
use Rattle.doc_model.specs.Documents.{fold_raw, acts_on, left_on}
use Rattle.doc_model.proofs.MergeLemmas.{at-fold_raw, rising-fold_raw}
use Rattle.schema_core.specs.Admits.{is_admitted, is_document}
use Rattle.schema_core.specs.Tree.{SchemaTree}
use Rattle.room_model.specs.Schemas.{records_with}
use Rattle.room_model.proofs.ActingLemmas.{all-with_key, differ}
use Rattle.rooms_val.proofs.Truths.{and_left as left, and_right}
use Rattle.room_model.proofs.LookUpLemmas.{none_at, rising-mapped, rising-filter}
use Rattle.room_model.specs.Accepting.{is_put_admitted}
use Rattle.room_schemas.specs.Decided.{decided, is_presence}
use Rattle.room_schemas.proofs.ApartLemmas.{document_apart, presence_apart}
use Rattle.room_accept.specs.Parts.{IsPart, IsOwnLeft, are_documents, own_part}
use Rattle.room_accept.specs.Sizes.{size_of}
use Rattle.room_accept.specs.Suiting.{AreAdmitted, each_changes, left_under}
use Rattle.room_accept.specs.declared.part.Part.{Part}
use Rattle.room_accept.proofs.AdmittedLemmas.{admitted-beside, left_standing}
use Rattle.room_accept.proofs.PartLemmas.{acted, acting_changes}
use Rattle.room_accept.proofs.SizeLemmas.{same_records, records-set_at, adds, total-set_at, length_total}

module _ (test : List ℕ → Bool) where
  -- what doesn't pass a test changes nothing of what does
  kept-with : (m : Pairs) (k : List ℕ) (d : Data) → test k ≡ false → records_with test (with_key m k d) ≡ records_with test m
  kept-with [] k d out = ap (λ b. cond b ((k, d) ∷ []) []) out
  kept-with (e ∷ m) k d out =
      elim (order k e.0) as (λ o. order k e.0 ≡ o → records_with test (by_order o ((k, d) ∷ e ∷ m) ((e.0, d) ∷ m) (e ∷ with_key m k d)) ≡ records_with test (e ∷ m)) [
        | Less ↦ λ is. ap (λ b. cond b ((k, d) ∷ records_with test (e ∷ m)) (records_with test (e ∷ m))) out
        | Equal ↦ λ is.
            let gone : test e.0 ≡ false = ap test (sym (same_key k e.0 is)) ∙ out in
            ap (λ b. cond b ((e.0, d) ∷ records_with test m) (records_with test m)) gone ∙ sym (ap (λ b. cond b (e ∷ records_with test m) (records_with test m)) gone)
        | Greater ↦ λ is. ap (λ l. cond (test e.0) (e ∷ l) l) (kept-with m k d out)
      ] refl

  kept-without : (m : Pairs) (k : List ℕ) → test k ≡ false → records_with test (without_key m k) ≡ records_with test m
  kept-without [] k out = refl
  kept-without (e ∷ m) k out =
      elim (ties k e.0) as (λ b. ties k e.0 ≡ b → records_with test (cond (not b) (e ∷ without_key m k) (without_key m k)) ≡ records_with test (e ∷ m)) [
        | true ↦ λ is. kept-without m k out ∙ sym (ap (λ b. cond b (e ∷ records_with test m) (records_with test m)) (ap test (sym (ties_same k e.0 is)) ∙ out))
        | false ↦ λ is. ap (λ l. cond (test e.0) (e ∷ l) l) (kept-without m k out)
      ] refl

  kept-set_at : (m : Pairs) (k : List ℕ) (o : Option Data) → test k ≡ false → records_with test (set_at m k o) ≡ records_with test m
  kept-set_at m k None out = kept-without m k out
  kept-set_at m k (Some d) out = kept-with m k d out

-- a diff of the document leaves the presences as they are
pub presences_kept : (s : SchemaTree) (m : Pairs) (part : RecordOps) → are_documents s part ≡ true → records_with (is_presence s) (fold_raw m part) ≡ records_with (is_presence s) m
presences_kept s m [] documents = refl
presences_kept s m (c ∷ part) documents =
    presences_kept s (set_at m c.0 (raw c.1 (value_at m c.0))) part (and_right _ _ documents)
    ∙ kept-set_at (is_presence s) m c.0 (raw c.1 (value_at m c.0)) (document_apart s c.0 (left _ _ documents))

at_most_one : (o : Option Data) → adds (λ d. 1) o ≤ 1
at_most_one None = omega arith
at_most_one (Some d) = omega arith

-- one presence beside it is one more at most
pub one_more : (s : SchemaTree) (m : Pairs) (part : RecordOps) (id : List ℕ) (c : RecordOpTree) → AreRising m → AreRising part → are_documents s part ≡ true → is_presence s id ≡ true
    → length (records_with (is_presence s) (fold_raw m (with_key part id c))) ≤ length (records_with (is_presence s) m) + 1
one_more s m part id c m-rises rising documents presence =
    let test = is_presence s in
    let o = raw c (value_at m id) in
    let same : records_with test (fold_raw m (with_key part id c)) ≡ records_with test (set_at m id o) =
    same_records test _ _ (rising-fold_raw (with_key part id c) m m-rises) (rising-set_at m id o m-rises) (λ q passes.
    at-fold_raw (with_key part id c) m q (rising-with_key part id c rising)
    ∙ ap (λ e. raw_after e (value_at m q)) (at-with_key part id q c ∙ ap (cond (ties q id) (Some c)) (none_at (is_document s) part q documents (presence_apart s q passes)))
    ∙ by_tie (λ t. raw_after (cond t (Some c) None) (value_at m q) ≡ cond t o (value_at m q)) q id (λ tied. ap (λ k. raw c (value_at m k)) tied) refl
    ∙ sym (at-set_at m id q o)) in
    let sums = total-set_at (λ d. 1) length length_total (records_with test m) id o (rising-filter test m m-rises) in
    omega (arith, ap length same, ap length (records-set_at test m id o m-rises presence), sums, at_most_one o)

-- and changes nothing of how large the document is
pub size_beside : (s : SchemaTree) (m : Pairs) (part : RecordOps) (id : List ℕ) (c : RecordOpTree) → AreRising m → AreRising part → is_presence s id ≡ true
    → size_of (is_document s) (fold_raw m (with_key part id c)) ≡ size_of (is_document s) (fold_raw m part)
size_beside s m part id c m-rises rising presence =
    let test = is_document s in
    ap (λ d. record { count = length d; weight = sum (map (λ p. weight p.1) d) })
    (same_records test _ _ (rising-fold_raw (with_key part id c) m m-rises) (rising-fold_raw part m m-rises) (λ q passes.
    at-fold_raw (with_key part id c) m q (rising-with_key part id c rising)
    ∙ ap (λ e. raw_after e (value_at m q)) (at-with_key part id q c)
    ∙ by_tie (λ t. raw_after (cond t (Some c) (value_at part q)) (value_at m q) ≡ raw_after (value_at part q) (value_at m q)) q id
    (λ tied. absurd (differ (sym passes ∙ ap test tied ∙ presence_apart s id presence))) refl
    ∙ sym (at-fold_raw part m q rising)))

left_under-with : (m : Pairs) (part : RecordOps) (id : List ℕ) (c : RecordOpTree) → left_under m (with_key part id c) ≡ with_key (left_under m part) id (raw c (value_at m id))
left_under-with m [] id c = refl
left_under-with m (e ∷ part) id c =
    let f : List ℕ × RecordOpTree → List ℕ × Option Data = λ d. (d.0, raw d.1 (value_at m d.0)) in
    elim (order id e.0) as (λ o. order id e.0 ≡ o → left_under m (by_order o ((id, c) ∷ e ∷ part) ((e.0, c) ∷ part) (e ∷ with_key part id c)) ≡ by_order o ((id, raw c (value_at m id)) ∷ f e ∷ left_under m part) ((e.0, raw c (value_at m id)) ∷ left_under m part) (f e ∷ with_key (left_under m part) id (raw c (value_at m id)))) [
      | Less ↦ λ is. refl
      | Equal ↦ λ is. ap (λ k. (e.0, raw c (value_at m k)) ∷ left_under m part) (sym (same_key id e.0 is))
      | Greater ↦ λ is. ap (λ l. f e ∷ l) (left_under-with m part id c)
    ] refl

-- what each operation left stands by rising ids
pub rising_after : (s : SchemaTree) (m : Pairs) (part : Part) → IsPart s m part → AreRising part.after.items
rising_after s m part is =
    subst T (rising-seen maybe_data part.after.items) (subst AreRising (sym is.after) (rising-mapped (λ id c. raw c (value_at m id)) part.diff is.rising))

-- what was accepted, and a presence beside it
pub part_beside : (s : SchemaTree) (m : Pairs) (part all : Part) (id : List ℕ) (c : RecordOpTree) (left : Option Val) → AreRising m → IsPart s m part → is_presence s id ≡ true
    → acts_on (is_admitted s) id c (value_at m id) ≡ true → is_put_admitted (decided s) id c ≡ true → maybe_data left ≡ raw c (value_at m id)
    → all.diff ≡ with_key part.diff id c → all.after.items ≡ with_key part.after.items id left → all.size ≡ part.size
    → IsPart s m all
part_beside s m part all id c left-data m-rises was presence acts puts leaves diff after size = record {
  after = ap (seen maybe_data) after ∙ seen-with_key maybe_data part.after.items id left-data ∙ (λ i. with_key (was.after i) id (leaves i)) ∙ sym (left_under-with m part.diff id c) ∙ ap (left_under m) (sym diff);
  size = size ∙ was.size ∙ sym (size_beside s m part.diff id c m-rises was.rising presence) ∙ ap (λ d. size_of (is_document s) (fold_raw m d)) (sym diff);
  changing = ap (each_changes m) diff ∙ all-with_key (λ d. is_some (raw d.1 (value_at m d.0)) || is_some (value_at m d.0)) part.diff id c was.changing (acting_changes (is_admitted s) id c (value_at m id) acts);
  admitted = subst (λ d. AreAdmitted s (fold_raw m d)) (sym diff) (admitted-beside s m part.diff id c was.rising was.admitted (left_standing s id c (value_at m id) acts puts));
  rising = subst AreRising (sym diff) (rising-with_key part.diff id c was.rising);
}

-- what a step leaves of a presence that isn't removed is what is accepted
module _ (s : SchemaTree) (m : Pairs) (id : List ℕ) (m-rises : AreRising m) where
  pub put_left : (d : Data) (left : Option (Option Val)) → option_map maybe_data left ≡ left_on (is_admitted s) id (put d) (value_at m id) → MatchOption left (own_part s m id (put d) ≡ None) (IsOwnLeft s m id (put d))
  put_left d None is = absurd (cc)
  put_left d (Some left) is = record { accepted = refl; acting = refl; leaves = (acted (is_admitted s) id (put d) (value_at m id) left is).1; rising = m-rises }

  pub patch_left : (p : Patch) (left : Option (Option Val)) → option_map maybe_data left ≡ left_on (is_admitted s) id (patch p) (value_at m id) → MatchOption left (own_part s m id (patch p) ≡ None) (IsOwnLeft s m id (patch p))
  patch_left p None =
      elim (acts_on (is_admitted s) id (patch p) (value_at m id)) as (λ b. ◌≡◌ {A = Option (Option Data)} None (cond b (Some (raw (patch p) (value_at m id))) None) → cond b (Some (patch p)) None ≡ None) [
        | true ↦ λ is. absurd (cc)
        | false ↦ λ is. refl
      ]
  patch_left p (Some left) = λ is.
      let did = acted (is_admitted s) id (patch p) (value_at m id) left is in
      record { accepted = ap (λ b. cond b (Some (patch p)) None) did.0; acting = did.0; leaves = did.1; rising = m-rises }

  pub own_left_is : (op : RecordOp) → (op ≡ v.Remove → ⊥) → (r : Option Data) → r ≡ value_at m id → (left : Option (Option Val)) → option_map maybe_data left ≡ left_on (is_admitted s) id (change_of op) r
      → MatchOption left (own_part s m id (change_of op) ≡ None) (IsOwnLeft s m id (change_of op))
  own_left_is (v.Put val) there r same left is = put_left (data_of val) left (is ∙ ap (left_on (is_admitted s) id (put (data_of val))) same)
  own_left_is (v.Patch p) there r same left is = patch_left p left (is ∙ ap (left_on (is_admitted s) id (patch p)) same)
  own_left_is v.Remove there r same left is = absurd (there refl)
