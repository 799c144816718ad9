-- A value has no fault exactly where it fits.
use Rattle.std.proofs.Common.{◌≡◌, ℕ, zero, suc, ◌<◌, ◌≤◌, ℤ, ◌≤ℤ◌, Bool, true, false, ◌&&◌, ◌||◌, not, T, List, [], ◌∷◌, length, get_or, Option, Some, None, option_map, is_some, refl, sym, ap, subst, arith, inl, inr, ◌⊎◌}
use Rattle.std.specs.Prelude.{◌↔◌, if◌then◌else◌, nat_le, int_le, Contains, IsSome, IsSomeAnd, MatchBool}
use Rattle.std.specs.Int.Signed.{le_z_yes}
use Rattle.std.specs.Option.{option_or, option_map_or}
use Rattle.std.specs.Str.{bytes_eq}
use Rattle.std.proofs.lemmas.Bool.{leb-true, le-leb}
use Rattle.std.proofs.lemmas.Slice.Eq.{bytes_eq-Decides}
use Rattle.std.proofs.lemmas.Map.Views.{Contains-from_any}
use Rattle.index_keys.specs.Keys as keys
use Rattle.index_keys.specs.declared.fault.KeyFault.TheVariants.{BadHead, ShortInteger, BadDigit, TrailingZero, SmallestInteger}
use Rattle.rooms_val.specs.Data.{Data, null, boolean, Items, no_items, item, Members, no_members, member, pairs_of}
use Rattle.rooms_val.specs.Data as val
use Rattle.record_valid.specs.Tree.{CheckTree, whole, text, one_of, key, id_of, nullable, list_of, dict, object, by_type, any, Rows, no_rows, row, table_of}
use Rattle.record_valid.specs.Tree as tree
use Rattle.record_valid.specs.Ids.{type_part}
use Rattle.rooms_val.specs.Kinds.{as_truth, as_whole, as_text, as_items, as_members}
use Rattle.record_valid.specs.Parts.{type_text, is_listed, lacks}
use Rattle.rooms_val.specs.Maps.{keys_of}
use Rattle.record_valid.specs.Fits.{Fits, FieldsFit, RowFits, HasKeys, EachItem, names}
use Rattle.record_valid.specs.Faults.{unless, bounds_fault, keys_fault, part_fault, no_fault, deeper, reject, items_fault, null_or, first_fault, fields_fault, row_fault}
use Rattle.record_valid.specs.declared.reject.Reject.{Reject}
use Rattle.record_valid.specs.declared.reject.RejectKind.{RejectKind}
use Rattle.record_valid.specs.declared.reject.RejectKind.TheVariants.{Missing, Extra, WrongKind, OutOfBounds, NotListed, BadKey, BadId}

-- no fault exactly where the fact holds
abbrev Clear : {A : Type 0} → Option A → Type 0 → Type 0
Clear o P = (o ≡ None) ↔ P

true_from : (b : Bool) → T b → b ≡ true
true_from true h = refl
true_from false h = absurd h

both : (a b : Bool) (P Q : Type 0) → ((a ≡ true) ↔ P) → ((b ≡ true) ↔ Q) → ((a && b) ≡ true) ↔ (P × Q)
both true b P Q p q = (λ h. (p.0 refl, q.0 h), λ h. q.1 h.1)
both false b P Q p q = (λ h. (cc), λ h. p.1 h.0)

test : (b : Bool) (kind : RejectKind) (P : Type 0) → ((b ≡ true) ↔ P) → Clear (unless b kind) P
test true kind P law = (λ h. law.0 refl, λ h. refl)
test false kind P law = (λ h. (cc), λ p. let h : false ≡ true = law.1 p in (cc))

lifted : (n : ℕ) (o : Option RejectKind) (P : Type 0) → Clear o P → Clear (option_map (reject n) o) P
lifted n None P law = (λ h. law.0 refl, λ h. refl)
lifted n (Some kind) P law = (λ h. (cc), λ p. let h : Some kind ≡ None = law.1 p in (cc))

part : {A R : Type 0} (wrong : R) (o : Option A) (fault : A → Option R) (P : A → Type 0) → ((x : A) → Clear (fault x) (P x)) → Clear (part_fault wrong o fault) (IsSomeAnd o P)
part wrong None fault P law = (λ h. (cc), λ h. absurd h)
part wrong (Some x) fault P law = law x

there : {A R : Type 0} (wrong : R) (o : Option A) → Clear (part_fault wrong o no_fault) (IsSome o)
there wrong None = (λ h. (cc), λ h. (cc))
there wrong (Some x) = (λ h. refl, λ h. refl)

either_none : (a b : Option Reject) (P Q : Type 0) → Clear a P → Clear b Q → Clear (option_or a b) (P × Q)
either_none None b P Q p q = (λ h. (p.0 refl, q.0 h), λ h. q.1 h.1)
either_none (Some x) b P Q p q = (λ h. (cc), λ h. p.1 h.0)

bounds : (least most z : ℤ) → Clear (bounds_fault least most z) ((least ≤ℤ z) × (z ≤ℤ most))
bounds least most z = test _ OutOfBounds _ (both _ _ _ _ (at_most least z) (at_most z most))
  where
    at_most : (a b : ℤ) → (int_le a b ≡ true) ↔ (a ≤ℤ b)
    at_most a b = (λ h. le_z_yes (subst T (sym h) tt), λ h. true_from _ h.le)

length_law : (t : List ℕ) (most : ℕ) → (nat_le (length t) most ≡ true) ↔ (length t ≤ most)
length_law t most = (leb-true (length t) most, le-leb (length t) most)

listed : (texts : List (List ℕ)) (t : List ℕ) → (is_listed texts t ≡ true) ↔ Contains texts t
listed texts t = (Contains-from_any {eq = λ q x. bytes_eq x q} (λ q x h. sym ((bytes_eq-Decides x q).0 h)) t texts, λ h. found texts h.0 h.1 h.2)
  where
    found : (texts : List (List ℕ)) (k : ℕ) → k < length texts → get_or texts k t ≡ t → is_listed texts t ≡ true
    found [] k within is = absurd (omega arith)
    found (x ∷ texts) zero within is = ap (λ b. b || is_listed texts t) ((bytes_eq-Decides x t).1 is)
    found (x ∷ texts) (suc k) within is = elim (bytes_eq x t) as (λ b. (b || is_listed texts t) ≡ true) [ true ↦ refl | false ↦ found texts k (omega arith) is ]

key_tests : (a b c d e : Bool) → (not (is_some (if not a then Some BadHead else if not b then Some ShortInteger else if not c then Some BadDigit else if d then Some TrailingZero else if e then Some SmallestInteger else None)) ≡ true)
    ↔ ((a ≡ true) × (b ≡ true) × (c ≡ true) × (d ≡ false) × (e ≡ false))
key_tests true true true false false = (λ h. (refl, refl, refl, refl, refl), λ h. refl)
key_tests false b c d e = (λ h. (cc), λ h. let f = h.0 in (cc))
key_tests true false c d e = (λ h. (cc), λ h. let f = h.1 in (cc))
key_tests true true false d e = (λ h. (cc), λ h. let f = h.2 in (cc))
key_tests true true true true e = (λ h. (cc), λ h. let f = h.3 in (cc))
key_tests true true true false true = (λ h. (cc), λ h. let f = h.4 in (cc))

key_law : (t : List ℕ) → (not (is_some (keys.first_fault t)) ≡ true) ↔ keys.IsKey t
key_law t =
    let tests = key_tests (keys.has_head t) (keys.has_whole_integer t) (keys.has_digits t) (keys.has_trailing_zero t) (keys.is_smallest_integer t) in (
      λ h. let facts = tests.0 h in record { head = facts.0; integer = facts.1; digits = facts.2; fraction = facts.3; above_smallest = facts.4 },
      λ k. tests.1 (k.head, k.integer, k.digits, k.fraction, k.above_smallest),
    )

id_law : (types : List (List ℕ)) (name : Option (List ℕ)) → (option_map_or (is_listed types) name false ≡ true) ↔ IsSomeAnd name (Contains types)
id_law types None = (λ h. (cc), λ h. absurd h)
id_law types (Some name) = listed types name

or_null : (o : Option Reject) (d : Data) (P : Type 0) → Clear o P → Clear (null_or o d) ((d ≡ null) ⊎ P)
or_null o null P law = (λ h. inl refl, λ h. refl)
or_null o (boolean b) P law = (λ h. inr (law.0 h), λ h. elim h [ inl is ↦ (cc) | inr p ↦ law.1 p ])
or_null o (val.whole z) P law = (λ h. inr (law.0 h), λ h. elim h [ inl is ↦ (cc) | inr p ↦ law.1 p ])
or_null o (val.text t) P law = (λ h. inr (law.0 h), λ h. elim h [ inl is ↦ (cc) | inr p ↦ law.1 p ])
or_null o (val.list ds) P law = (λ h. inr (law.0 h), λ h. elim h [ inl is ↦ (cc) | inr p ↦ law.1 p ])
or_null o (val.map ms) P law = (λ h. inr (law.0 h), λ h. elim h [ inl is ↦ (cc) | inr p ↦ law.1 p ])

items_law : (fault : Data → Option Reject) (P : Data → Type 0) → ((d : Data) → Clear (fault d) (P d)) → (ds : Items) → Clear (items_fault fault ds) (EachItem P ds)
items_law fault P law no_items = (λ h. tt, λ h. refl)
items_law fault P law (item d ds) = either_none _ _ _ _ (law d) (items_law fault P law ds)

keys_tests : (missing extra : Bool) → Clear (if missing then Some Missing else if extra then Some Extra else None) ((missing ≡ false) × (extra ≡ false))
keys_tests true extra = (λ h. (cc), λ h. let f = h.0 in (cc))
keys_tests false true = (λ h. (cc), λ h. let f = h.1 in (cc))
keys_tests false false = (λ h. (refl, refl), λ h. refl)

keys_law : (rs : Rows) (ms : Members) → Clear (keys_fault (keys_of (table_of rs)) (keys_of (pairs_of ms))) (HasKeys rs ms)
keys_law rs ms =
    let tests = keys_tests (lacks (keys_of (table_of rs)) (keys_of (pairs_of ms))) (lacks (keys_of (pairs_of ms)) (keys_of (table_of rs))) in
    (λ h. let facts = tests.0 h in record { none_missing = facts.0; none_extra = facts.1 }, λ k. tests.1 (k.none_missing, k.none_extra))

chosen : (b : Bool) (x y : Option Reject) (P Q : Type 0) → Clear x P → Clear y Q → Clear (if b then x else y) (MatchBool b P Q)
chosen true x y P Q p q = p
chosen false x y P Q p q = q

mutual
  pub law : (n : ℕ) (kind : Option (List ℕ)) (c : CheckTree) (d : Data) → Clear (first_fault n kind c d) (Fits kind c d)
  law n kind (whole least most) d = lifted n _ _ (part WrongKind (as_whole d) _ _ (bounds least most))
  law n kind (text most) d = lifted n _ _ (part WrongKind (as_text d) _ _ (λ t. test _ OutOfBounds _ (length_law t most)))
  law n kind (one_of texts) d = lifted n _ _ (part WrongKind (as_text d) _ _ (λ t. test _ NotListed _ (listed texts t)))
  law n kind tree.boolean d = lifted n _ _ (there WrongKind (as_truth d))
  law n kind key d = lifted n _ _ (part WrongKind (as_text d) _ _ (λ t. test _ BadKey _ (both _ _ _ _ (key_law t) (length_law t 256))))
  law n kind (id_of types) d = lifted n _ _ (part WrongKind (as_text d) _ _ (λ t. test _ BadId _ (id_law types (type_part t))))
  law n kind (nullable c) d = or_null _ d _ (law n kind c d)
  law n kind (list_of c) d = part (reject n WrongKind) (as_items d) _ _ (items_law _ _ (λ e. law (deeper n) None c e))
  law n kind dict d = lifted n _ _ (there WrongKind (as_members d))
  law n kind (object rs) d = part (reject n WrongKind) (as_members d) _ _ (λ ms. either_none _ _ _ _ (lifted (deeper n) _ _ (keys_law rs ms)) (fields_law (deeper n) (type_text (pairs_of ms)) rs ms))
  law n kind (by_type rs) d = rows_law n kind rs d
  law n kind any d = (λ h. tt, λ h. refl)

  fields_law : (n : ℕ) (kind : Option (List ℕ)) (rs : Rows) (ms : Members) → Clear (fields_fault n kind rs ms) (FieldsFit kind rs ms)
  fields_law n kind no_rows ms = (λ h. tt, λ h. refl)
  fields_law n kind (row k c rs) no_members = (λ h. tt, λ h. refl)
  fields_law n kind (row k c rs) (member k' d ms) = either_none _ _ _ _ (law n kind c d) (fields_law n kind rs ms)

  rows_law : (n : ℕ) (kind : Option (List ℕ)) (rs : Rows) (d : Data) → Clear (row_fault n kind rs d) (RowFits kind rs d)
  rows_law n kind no_rows d = (λ h. (cc), λ h. absurd h)
  rows_law n kind (row k c rs) d = chosen (names kind k) _ _ _ _ (law n kind c d) (rows_law n kind rs d)
