-- Records under borrowed ids.
use Rattle.std.proofs.Common.{◌≡◌, ℕ, ◌+◌, ◌<◌, List, [], ◌∷◌, ◌++◌, Less, Equal, Greater, refl, sym, ap, ◌∙◌, take, length, get_or}
use Rattle.std.specs.BTreeMap.{insert_entry}
use Rattle.std.specs.Ordering.{match_ordering}
use Rattle.std.specs.declared.cmp.Ordering.{Ordering}
use Rattle.std.specs.FinMap.Entries.{by_order}
use Rattle.std.proofs.lemmas.List.{take_more}
use Rattle.std.proofs.lemmas.List.Sums.{fold_push}
use denote.Ref.{Bor}
use Rattle.rooms_val.specs.Maps.{order, with_key}
use Rattle.rooms_val.specs.View.{data_of, items_view}
use Rattle.rooms_val.specs.declared.val.Val.{Val}
use Rattle.rooms_val.proofs.DataLemmas.{items_view-push}
use Rattle.shape_tree.specs.Records.{with_record, by_id}
use Rattle.shape_tree.specs.View.{pairs_view}

abbrev pub by_text : Bor (List ℕ) → Bor (List ℕ) → Ordering
by_text k q = order k.now q.now

pub pairs_view-insert : (es : List (Bor (List ℕ) × Bor Val)) (k : Bor (List ℕ)) (v : Bor Val) → pairs_view (insert_entry by_text es k v) ≡ with_key (pairs_view es) k.now (data_of v.now)
pairs_view-insert [] k v = refl
pairs_view-insert (e ∷ es) k v =
    elim (order k.now e.0.now) as (λ o. pairs_view (match_ordering o ((k, v) ∷ e ∷ es) ((e.0, v) ∷ es) (e ∷ insert_entry by_text es k v))
    ≡ by_order o ((k.now, data_of v.now) ∷ pairs_view (e ∷ es)) ((e.0.now, data_of v.now) ∷ pairs_view es) ((e.0.now, data_of e.1.now) ∷ with_key (pairs_view es) k.now (data_of v.now))) [
      | Less ↦ refl
      | Equal ↦ refl
      | Greater ↦ ap (λ rest. (e.0.now, data_of e.1.now) ∷ rest) (pairs_view-insert es k v)
    ]

-- one record more of a list
pub by_id_more : (vals : List Val) (i : ℕ) (val : Val) → i < length vals → val ≡ get_or vals i val → by_id (items_view (take (i + 1) vals)) ≡ with_record (by_id (items_view (take i vals))) (data_of val)
by_id_more vals i val within is =
    ap (λ vs. by_id (items_view vs)) (take_more vals i val within ∙ ap (λ v. take i vals ++ v ∷ []) (sym is))
    ∙ ap by_id (items_view-push (take i vals) val)
    ∙ fold_push with_record [] (items_view (take i vals)) (data_of val)
