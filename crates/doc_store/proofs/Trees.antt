-- What a tree's calls make of the slots that it stands for.
use Rattle.std.proofs.Common.{◌≡◌, ℕ, List, [], ◌∷◌, Bool, true, false, not, cond, is_eq, Option, Some, None, option_map, Less, Equal, Greater, refl, sym, ap, ◌∙◌}
use Rattle.std.specs.Prelude.{string_bytes}
use Rattle.std.specs.Ordering.{match_ordering, nat_cmp}
use Rattle.std.specs.Cmp.Lexicographic.{slice_cmp}
use Rattle.std.specs.FinMap.Entries.{by_order}
use Rattle.std.specs.BTreeMap.{insert_entry, is_at}
use Rattle.std.specs.Map.{lookup, remove_entry}
use Rattle.std.specs.String.{string_cmp}
use Rattle.std.specs.declared.string.String.{String}
use Rattle.std.specs.Option.{option_copied}
use denote.Ref.{Bor}
use Rattle.rooms_val.specs.Data.{Data}
use Rattle.rooms_val.specs.View.{data_of}
use Rattle.rooms_val.specs.declared.val.Val.{Val}
use Rattle.rooms_val.specs.Maps.{order, AreRising, value_at, with_key, without_key, ties}
use Rattle.field_ops.specs.View.{maybe_data}
use Rattle.rooms_val.proofs.MapsLemmas.{by_tie, order_itself, rising_rest, taken_first}
use Rattle.doc_store.specs.Slots.{Slots}
use Rattle.doc_store.specs.Tree.{slots_view}

mapped : (t : Bool) (x : Option Val) (o : Option (Option Val)) → option_map maybe_data (cond t (Some x) o) ≡ cond t (Some (maybe_data x)) (option_map maybe_data o)
mapped true x o = refl
mapped false x o = refl

module _ {Y : Type 0} where
  pub value_at-slots_view : (es : List (String Y × Option Val)) (q : List ℕ) → value_at (slots_view es) q ≡ option_map maybe_data (lookup (is_at (λ k. slice_cmp nat_cmp q (string_bytes k))) es)
  value_at-slots_view [] q = refl
  value_at-slots_view (e ∷ es) q = ap (cond (ties q (string_bytes e.0)) (Some (maybe_data e.1))) (value_at-slots_view es q) ∙ sym (mapped (ties q (string_bytes e.0)) e.1 _)

  -- what a look-up finds, where es are a tree's entries and s the slots that it stands for
  pub found : (es : List (String Y × Option Val)) (s : Slots) (q : List ℕ) (o : Option (Option Val)) → slots_view es ≡ s → o ≡ lookup (is_at (λ k. slice_cmp nat_cmp q (string_bytes k))) es → option_map maybe_data o ≡ value_at s q
  found es s q o seen is = ap (option_map maybe_data) is ∙ sym (value_at-slots_view es q) ∙ ap (λ t. value_at t q) seen

  pub slots_view-insert : (es : List (String Y × Option Val)) (k : String Y) (v : Option Val) → slots_view (insert_entry string_cmp es k v) ≡ with_key (slots_view es) (string_bytes k) (maybe_data v)
  slots_view-insert [] k v = refl
  slots_view-insert (e ∷ es) k v =
      elim (order (string_bytes k) (string_bytes e.0)) as (λ o. slots_view (match_ordering o ((k, v) ∷ e ∷ es) ((e.0, v) ∷ es) (e ∷ insert_entry string_cmp es k v))
      ≡ by_order o ((string_bytes k, maybe_data v) ∷ slots_view (e ∷ es)) ((string_bytes e.0, maybe_data v) ∷ slots_view es) ((string_bytes e.0, maybe_data e.1) ∷ with_key (slots_view es) (string_bytes k) (maybe_data v))) [
        | Less ↦ refl
        | Equal ↦ refl
        | Greater ↦ ap (λ rest. (string_bytes e.0, maybe_data e.1) ∷ rest) (slots_view-insert es k v)
      ]

  pub slots_view-remove : (es : List (String Y × Option Val)) (q : List ℕ) → AreRising (slots_view es) → slots_view (remove_entry (is_at (λ k. slice_cmp nat_cmp q (string_bytes k))) es) ≡ without_key (slots_view es) q
  slots_view-remove [] q rising = refl
  slots_view-remove (e ∷ es) q rising =
      let k = string_bytes e.0 in
      let first : List ℕ × Option Data = (k, maybe_data e.1) in
      by_tie (λ t. slots_view (cond t es (e ∷ remove_entry (is_at (λ l. slice_cmp nat_cmp q (string_bytes l))) es)) ≡ cond (not t) (first ∷ without_key (slots_view es) q) (without_key (slots_view es) q)) q k
      (λ same.
      (taken_first first (slots_view es) rising).rest_is
      ∙ ap (λ o. cond (not (is_eq o)) (first ∷ without_key (slots_view es) k) (without_key (slots_view es) k)) (order_itself k)
      ∙ ap (without_key (slots_view es)) (sym same)) (ap (λ rest. first ∷ rest) (slots_view-remove es q (rising_rest first (slots_view es) rising)))

pub data_of-copied : (o : Option (Bor Val)) → option_map (λ v. data_of v.now) o ≡ maybe_data (option_copied o)
data_of-copied None = refl
data_of-copied (Some v) = refl
