-- What a tree's calls make of the keys that it stands for.
use Rattle.std.proofs.Common.{◌≡◌, ℕ, List, [], ◌∷◌, cond, is_eq, Option, None, Some, option_map, Less, Equal, Greater, refl, ap, ◌∙◌}
use Rattle.std.specs.Prelude.{string_bytes}
use Rattle.std.specs.Ordering.{match_ordering, nat_cmp}
use Rattle.std.specs.Cmp.Lexicographic.{slice_cmp}
use Rattle.std.specs.FinMap.Entries.{by_order}
use Rattle.std.specs.BTreeMap.{insert_entry, is_at}
use Rattle.std.specs.Map.{lookup}
use Rattle.std.specs.String.{string_cmp}
use Rattle.std.specs.declared.string.String.{String}
use Rattle.std.specs.Option.{option_copied}
use denote.Ref.{Bor}
use Rattle.rooms_val.specs.Maps.{order, value_at, with_key, ties}
use Rattle.rooms_val.proofs.MapsLemmas.{order_itself, rising_rest, none_later}
use Rattle.tl_rules.specs.declared.key.TlKey.{TlKey}
use Rattle.tl_rules.specs.declared.key.TlKey.TheVariants as key
use Rattle.record_store.specs.Seen.{Keys, AreKeys}
use Rattle.record_store.specs.Tree.{keys_view}
use Rattle.record_store.proofs.RecordLemmas.{by_same}

-- each entry has the key of its record
abbrev pub AreOfRecords : Keys → Type 0
AreOfRecords [] = Unit {0}
AreOfRecords (e ∷ es) = (e.1 ≡ key.Rec e.0) × AreOfRecords es

pub of_records : (es : Keys) → AreKeys es → AreOfRecords es
of_records [] are = tt
of_records (e ∷ es) are = (
  are.of_records e.0 e.1 (ap (λ o. cond (is_eq o) (Some e.1) (value_at es e.0)) (order_itself e.0)),
  of_records es (record {
    rising = rising_rest e es are.rising;
    of_records = λ q k is. are.of_records q k (by_same (λ t. cond t (Some e.1) (value_at es q) ≡ Some k) q e.0
        (λ same. let none : value_at es q ≡ None = ap (value_at es) same ∙ none_later e es are.rising in cc)
        (λ apart. is));
  }),
)

module _ {Y : Type 0} where
  pub value_at-keys_view : (es : List (String Y × TlKey)) (q : List ℕ) → value_at (keys_view es) q ≡ lookup (is_at (λ k. slice_cmp nat_cmp q (string_bytes k))) es
  value_at-keys_view [] q = refl
  value_at-keys_view (e ∷ es) q = ap (cond (ties q (string_bytes e.0)) (Some e.1)) (value_at-keys_view es q)

  pub keys_view-insert : (es : List (String Y × TlKey)) (k : String Y) (v : TlKey) → keys_view (insert_entry string_cmp es k v) ≡ with_key (keys_view es) (string_bytes k) v
  keys_view-insert [] k v = refl
  keys_view-insert (e ∷ es) k v =
      elim (order (string_bytes k) (string_bytes e.0)) as (λ o. keys_view (match_ordering o ((k, v) ∷ e ∷ es) ((e.0, v) ∷ es) (e ∷ insert_entry string_cmp es k v))
      ≡ by_order o ((string_bytes k, v) ∷ keys_view (e ∷ es)) ((string_bytes e.0, v) ∷ keys_view es) ((string_bytes e.0, e.1) ∷ with_key (keys_view es) (string_bytes k) v)) [
        | Less ↦ refl
        | Equal ↦ refl
        | Greater ↦ ap (λ rest. (string_bytes e.0, e.1) ∷ rest) (keys_view-insert es k v)
      ]

pub key_found : (o : Option (Bor TlKey)) → option_map (λ k. k.now) o ≡ option_copied o
key_found None = refl
key_found (Some k) = refl
