-- What is accepted of a diff reads the records of the beginning alone, since no id stands twice.
use Rattle.std.proofs.Common.{◌≡◌, ℕ, Bool, true, false, ◌&&◌, ◌||◌, cond, is_eq, is_some, T, List, [], ◌∷◌, ◌++◌, Option, Some, None, refl, sym, ap, subst, ◌∙◌, append_assoc}
use Rattle.std.specs.Ordering.{is_lt}
use Rattle.std.specs.FinMap.Entries.{is_sorted, below_all}
use Rattle.std.proofs.lemmas.List.{map-append}
use Rattle.std.proofs.lemmas.List.Folds.{list_all-append}
use Rattle.rooms_val.proofs.Truths.{and_true, and_left as left, and_right, and_holds}
use Rattle.rooms_val.specs.Data.{Data, Pairs}
use Rattle.rooms_val.specs.Maps.{order, ties, AreRising, value_at, set_at, seen}
use Rattle.rooms_val.specs.declared.val.Val.{Val}
use Rattle.rooms_val.proofs.MapsLemmas.{first, second, rising_on, rising_without, ties_same, order_itself, none_later, rising_rest}
use Rattle.field_ops.specs.Patched.{raw}
use Rattle.field_ops.specs.RecordOps.{RecordOpTree, put, patch, remove, RecordOps}
use Rattle.field_ops.specs.View.{maybe_data}
use Rattle.doc_model.specs.Documents.{fold_raw, acts_on, left_on}
use Rattle.doc_model.proofs.MergeLemmas.{rising-fold_raw}
use Rattle.schema_core.specs.Admits.{is_admitted, is_document}
use Rattle.schema_core.specs.Tree.{SchemaTree}
use Rattle.room_model.specs.Accepting.{is_accepted, is_fit, is_put_admitted, tried_op, accept_ops}
use Rattle.room_model.specs.Schemas.{Plan}
use Rattle.room_model.proofs.LookUpLemmas.{unnamed}
use Rattle.room_schemas.specs.Decided.{decided}
use Rattle.room_accept.specs.Parts.{IsPart, are_documents, is_taken_in, with_tried}
use Rattle.room_accept.specs.Sizes.{size_of, size_after, is_within}
use Rattle.room_accept.specs.Suiting.{AreAdmitted, each_changes, left_under}
use Rattle.room_accept.specs.declared.part.Part.{Part}
use Rattle.room_accept.specs.declared.size.DocumentSize.{DocumentSize}
use Rattle.room_accept.proofs.AdmittedLemmas.{admitted-set_at, left_standing}
use Rattle.room_accept.proofs.SizeLemmas.{size-set_at}

module _ (id : List ℕ) (rest : RecordOps) where
  -- ids rise whatever is done to one
  below-other : (x : List ℕ) (part : RecordOps) (c d : RecordOpTree) → below_all order x (part ++ (id, c) ∷ rest) ≡ below_all order x (part ++ (id, d) ∷ rest)
  below-other x [] c d = refl
  below-other x (e ∷ part) c d = ap (λ b. is_lt (order x e.0) && b) (below-other x part c d)

  sorted-other : (part : RecordOps) (c d : RecordOpTree) → is_sorted order (part ++ (id, c) ∷ rest) ≡ is_sorted order (part ++ (id, d) ∷ rest)
  sorted-other [] c d = refl
  sorted-other (e ∷ part) c d = λ i. below-other e.0 part c d i && sorted-other part c d i

  stands : (part : RecordOps) (c : RecordOpTree) → is_some (value_at (part ++ (id, c) ∷ rest) id) ≡ true
  stands [] c = ap (λ o. is_some (cond (is_eq o) (Some c) (value_at rest id))) (order_itself id)
  stands (e ∷ part) c = elim (ties id e.0) as (λ b. is_some (cond b (Some e.1) (value_at (part ++ (id, c) ∷ rest) id)) ≡ true) [ true ↦ refl | false ↦ stands part c ]

  -- an id above those before it isn't among them
  pub none_before : (part : RecordOps) (c : RecordOpTree) → AreRising (part ++ (id, c) ∷ rest) → value_at part id ≡ None
  none_before [] c rising = refl
  none_before (e ∷ part) c rising =
      elim (ties id e.0) as (λ b. ties id e.0 ≡ b → cond b (Some e.1) (value_at part id) ≡ None) [
        | true ↦ λ same.
            let none = ap is_some (ap (value_at (part ++ (id, c) ∷ rest)) (ties_same id e.0 same) ∙ none_later e (part ++ (id, c) ∷ rest) rising) in
            let there = stands part c in
            absurd (cc)
        | false ↦ λ apart. none_before part c (rising_rest e (part ++ (id, c) ∷ rest) rising)
      ] refl

pub rising-other : (part : RecordOps) (id : List ℕ) (c d : RecordOpTree) (rest : RecordOps) → AreRising (part ++ (id, c) ∷ rest) → AreRising (part ++ (id, d) ∷ rest)
rising-other part id c d rest rising = subst T (sorted-other id rest part c d) rising

below-front : (x : List ℕ) (part more : RecordOps) → T (below_all order x (part ++ more)) → T (below_all order x part)
below-front x [] more h = tt
below-front x (e ∷ part) more h = and_holds _ _ (first _ _ h) (below-front x part more (second _ _ h))

-- ids that rise do so up to any place
rising_front : (part more : RecordOps) → AreRising (part ++ more) → AreRising part
rising_front [] more h = tt
rising_front (e ∷ part) more h = and_holds _ _ (below-front e.0 part more (first _ _ h)) (rising_front part more (second _ _ h))

-- so do those up to an operation, and that
pub rising_up_to : (part : RecordOps) (e : List ℕ × RecordOpTree) (rest : RecordOps) → AreRising (part ++ e ∷ rest) → AreRising (part ++ e ∷ [])
rising_up_to part e rest h = rising_front (part ++ e ∷ []) rest (rising_on part e rest h)

-- one operation more
pub fold-push : (m : Pairs) (part : RecordOps) (id : List ℕ) (c : RecordOpTree) → fold_raw m (part ++ (id, c) ∷ []) ≡ set_at (fold_raw m part) id (raw c (value_at (fold_raw m part) id))
fold-push m [] id c = refl
fold-push m (e ∷ part) id c = fold-push (set_at m e.0 (raw e.1 (value_at m e.0))) part id c

-- what acts on a record leaves one, or takes it away
pub acting_changes : (admits : List ℕ → Data → Bool) (id : List ℕ) (c : RecordOpTree) (r : Option Data) → acts_on admits id c r ≡ true → is_some (raw c r) || is_some r ≡ true
acting_changes admits id (put d) r acts = refl
acting_changes admits id (patch p) None acts = absurd (cc)
acting_changes admits id (patch p) (Some d) acts = refl
acting_changes admits id remove r acts = acts

-- what a step leaves, where it does
pub acted : (admits : List ℕ → Data → Bool) (id : List ℕ) (c : RecordOpTree) (r : Option Data) (after : Option Val) → Some (maybe_data after) ≡ left_on admits id c r → (acts_on admits id c r ≡ true) × (maybe_data after ≡ raw c r)
acted admits id c r after is =
    elim (acts_on admits id c r) as (λ b. Some (maybe_data after) ≡ cond b (Some (raw c r)) None → (b ≡ true) × (maybe_data after ≡ raw c r)) [
      | true ↦ λ left. (refl, cc)
      | false ↦ λ left. absurd (cc)
    ] is

pub fit_documents : (s : SchemaTree) (plan : Plan) (diff : RecordOps) → is_fit (decided s) plan diff ≡ true → are_documents s diff ≡ true
fit_documents s plan [] fit = refl
fit_documents s plan (c ∷ diff) fit = and_true _ _ (left _ _ (left _ _ fit)) (fit_documents s plan diff (and_right _ _ fit))

module _ (s : SchemaTree) (m : Pairs) (m-rises : AreRising m) (part : RecordOps) (size : DocumentSize) (is : size ≡ size_of (is_document s) (fold_raw m part)) (id : List ℕ) (document : is_document s id ≡ true) (absent : value_at part id ≡ None) where
  -- the records of the beginning stand under the ids that weren't named
  pub here : value_at (fold_raw m part) id ≡ value_at m id
  here = unnamed part m id absent

  pub pushed : (c : RecordOpTree) → fold_raw m (part ++ (id, c) ∷ []) ≡ set_at (fold_raw m part) id (raw c (value_at m id))
  pushed c = fold-push m part id c ∙ ap (λ r. set_at (fold_raw m part) id (raw c r)) here

  -- how large the document is after one operation more
  pub size_pushed : (c : RecordOpTree) → size_of (is_document s) (fold_raw m (part ++ (id, c) ∷ [])) ≡ size_after size (value_at m id) (raw c (value_at m id))
  size_pushed c =
      ap (size_of (is_document s)) (pushed c)
      ∙ size-set_at (is_document s) (fold_raw m part) id (raw c (value_at m id)) (rising-fold_raw part m m-rises) document
      ∙ (λ i. size_after (sym is i) (here i) (raw c (value_at m id)))

  -- so an operation is accepted as the size and the record of the beginning tell
  pub accepted_is : (c : RecordOpTree) → is_accepted (decided s) (fold_raw m part) id c ≡ is_taken_in s size id c (value_at m id)
  accepted_is c =
      (λ i. acts_on (is_admitted s) id c (here i) && is_put_admitted (decided s) id c && is_within (size_of (is_document s) (set_at (fold_raw m part) id (raw c (here i)))))
      ∙ ap (λ n. acts_on (is_admitted s) id c (value_at m id) && is_put_admitted (decided s) id c && is_within n) (ap (size_of (is_document s)) (sym (pushed c)) ∙ size_pushed c)

  -- what is accepted of what is left goes on after the operation that was tried
  pub going_on : (plan : Plan) (c : RecordOpTree) (rest : RecordOps) → let op = tried_op (decided s) plan c (value_at m id) in
      part ++ accept_ops (decided s) plan (fold_raw m part) ((id, c) ∷ rest) ≡ with_tried s size part id op (value_at m id) ++ accept_ops (decided s) plan (fold_raw m (with_tried s size part id op (value_at m id))) rest
  going_on plan c rest =
      let r = value_at m id in
      let op = tried_op (decided s) plan c r in
      let now = fold_raw m part in
      (λ i. let o = tried_op (decided s) plan c (here i) in part ++ cond (is_accepted (decided s) now id o) ((id, o) ∷ accept_ops (decided s) plan (set_at now id (raw o (here i))) rest) (accept_ops (decided s) plan now rest))
      ∙ ap (λ b. part ++ cond b ((id, op) ∷ accept_ops (decided s) plan (set_at now id (raw op r)) rest) (accept_ops (decided s) plan now rest)) (accepted_is op)
      ∙ elim (is_taken_in s size id op r) as (λ b. part ++ cond b ((id, op) ∷ accept_ops (decided s) plan (set_at now id (raw op r)) rest) (accept_ops (decided s) plan now rest) ≡ cond b (part ++ (id, op) ∷ []) part ++ accept_ops (decided s) plan (fold_raw m (cond b (part ++ (id, op) ∷ []) part)) rest) [
        | true ↦ sym (append_assoc part ((id, op) ∷ []) (accept_ops (decided s) plan (set_at now id (raw op r)) rest))
            ∙ ap (λ n. (part ++ (id, op) ∷ []) ++ accept_ops (decided s) plan n rest) (sym (pushed op))
        | false ↦ refl
      ]

-- ids rise on after the operation that was tried
pub rising_tried : (s : SchemaTree) (size : DocumentSize) (part : RecordOps) (id : List ℕ) (c op : RecordOpTree) (r : Option Data) (rest : RecordOps) → AreRising (part ++ (id, c) ∷ rest) → AreRising (with_tried s size part id op r ++ rest)
rising_tried s size part id c op r rest rising =
    elim (is_taken_in s size id op r) as (λ b. AreRising (cond b (part ++ (id, op) ∷ []) part ++ rest)) [
      | true ↦ rising_on part (id, op) rest (rising-other part id c op rest rising)
      | false ↦ rising_without part (id, c) rest rising
    ]

-- what was accepted, and one operation more
pub part_pushed : (s : SchemaTree) (m : Pairs) (part next : Part) (id : List ℕ) (c : RecordOpTree) (left : Option Val) → AreRising m → IsPart s m part → is_document s id ≡ true → AreRising (part.diff ++ (id, c) ∷ [])
    → is_taken_in s part.size id c (value_at m id) ≡ true → maybe_data left ≡ raw c (value_at m id)
    → next.diff ≡ part.diff ++ (id, c) ∷ [] → next.after.items ≡ part.after.items ++ (id, left) ∷ [] → next.size ≡ size_after part.size (value_at m id) (raw c (value_at m id))
    → IsPart s m next
part_pushed s m part next id c left-data m-rises was document rising taken leaves diff after size =
    let r = value_at m id in
    let absent = none_before id [] part.diff c rising in
    record {
      after = ap (seen maybe_data) after ∙ map-append (λ e. (e.0, maybe_data e.1)) part.after.items ((id, left-data) ∷ [])
          ∙ (λ i. was.after i ++ (id, leaves i) ∷ [])
          ∙ sym (map-append (λ d. (d.0, raw d.1 (value_at m d.0))) part.diff ((id, c) ∷ []))
          ∙ ap (left_under m) (sym diff);
      size = size ∙ sym (size_pushed s m m-rises part.diff part.size was.size id document absent c) ∙ ap (λ d. size_of (is_document s) (fold_raw m d)) (sym diff);
      changing = ap (each_changes m) diff ∙ list_all-append (λ d. is_some (raw d.1 (value_at m d.0)) || is_some (value_at m d.0)) part.diff ((id, c) ∷ [])
          ∙ and_true _ _ was.changing (and_true _ _ (acting_changes (is_admitted s) id c r (left _ _ (left _ _ taken))) refl);
      admitted = subst (AreAdmitted s) (sym (ap (fold_raw m) diff ∙ pushed s m m-rises part.diff part.size was.size id document absent c))
          (admitted-set_at s (fold_raw m part.diff) id (raw c r) was.admitted (left_standing s id c r (left _ _ (left _ _ taken)) (and_right _ _ (left _ _ taken))));
      rising = subst AreRising (sym diff) rising;
    }
