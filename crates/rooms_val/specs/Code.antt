-- How the logic stores a value: a code from which the value can be read back.
use Rattle.std.specs.Prelude.{◌≡◌, ℕ, zero, suc, pos, negsuc, List, [], ◌∷◌, true, false, refl}
use Rattle.std.specs.Coded.{Coded, coded×, coded_list, coded_ℕ}
use base.Stored.{Gv, gnil, gnum, gcons, num}
use mathlib.Core.Path.{ap, sym, ◌∙◌}
use Rattle.rooms_val.specs.Data.{Data, null, boolean, whole, text, list, map, Items, no_items, item, Members, no_members, member, Pairs}

abbrev numbers_code : List ℕ → Gv
numbers_code [] = gnil
numbers_code (n ∷ ns) = gcons (gnum n) (numbers_code ns)

abbrev mutual
  data_code : Data → Gv
  data_code null = gcons (gnum 0) gnil
  data_code (boolean false) = gcons (gnum 1) gnil
  data_code (boolean true) = gcons (gnum 2) gnil
  data_code (whole (pos n)) = gcons (gnum 3) (gnum n)
  data_code (whole (negsuc n)) = gcons (gnum 4) (gnum n)
  data_code (text s) = gcons (gnum 5) (numbers_code s)
  data_code (list ds) = gcons (gnum 6) (items_code ds)
  data_code (map ms) = gcons (gnum 7) (members_code ms)

  items_code : Items → Gv
  items_code no_items = gnil
  items_code (item d ds) = gcons (data_code d) (items_code ds)

  members_code : Members → Gv
  members_code no_members = gnil
  members_code (member k d ms) = gcons (numbers_code k) (gcons (data_code d) (members_code ms))

abbrev numbers_at : Gv → List ℕ
numbers_at gnil = []
numbers_at (gnum n) = []
numbers_at (gcons a b) = num a ∷ numbers_at b

-- what a code may stand for: a value, some items, some members, and the members after a key
record Readings : Type 0 where
  one : Data
  several : Items
  keyed : Members
  after_key : List ℕ → Members

abbrev by_tag : ℕ → Gv → Readings → Data
by_tag zero g r = null
by_tag (suc zero) g r = boolean false
by_tag (suc (suc zero)) g r = boolean true
by_tag (suc (suc (suc zero))) g r = whole (pos (num g))
by_tag (suc (suc (suc (suc zero)))) g r = whole (negsuc (num g))
by_tag (suc (suc (suc (suc (suc zero))))) g r = text (numbers_at g)
by_tag (suc (suc (suc (suc (suc (suc zero)))))) g r = list r.several
by_tag (suc (suc (suc (suc (suc (suc (suc n))))))) g r = map r.keyed

abbrev readings : Gv → Readings
readings gnil = record { one = null; several = no_items; keyed = no_members; after_key = λ k. no_members }
readings (gnum n) = record { one = null; several = no_items; keyed = no_members; after_key = λ k. no_members }
readings (gcons a b) = record {
  one = by_tag (num a) b (readings b);
  several = item (readings a).one (readings b).several;
  keyed = (readings b).after_key (numbers_at a);
  after_key = λ k. member k (readings a).one (readings b).keyed;
}

pub numbers_at-numbers_code : (ns : List ℕ) → numbers_at (numbers_code ns) ≡ ns
numbers_at-numbers_code [] = refl
numbers_at-numbers_code (n ∷ ns) = λ i. n ∷ numbers_at-numbers_code ns i

abbrev mutual
  one-data_code : (d : Data) → (readings (data_code d)).one ≡ d
  one-data_code null = refl
  one-data_code (boolean false) = refl
  one-data_code (boolean true) = refl
  one-data_code (whole (pos n)) = refl
  one-data_code (whole (negsuc n)) = refl
  one-data_code (text s) = ap text (numbers_at-numbers_code s)
  one-data_code (list ds) = ap list (several-items_code ds)
  one-data_code (map ms) = ap map (keyed-members_code ms)

  several-items_code : (ds : Items) → (readings (items_code ds)).several ≡ ds
  several-items_code no_items = refl
  several-items_code (item d ds) = λ i. item (one-data_code d i) (several-items_code ds i)

  keyed-members_code : (ms : Members) → (readings (members_code ms)).keyed ≡ ms
  keyed-members_code no_members = refl
  keyed-members_code (member k d ms) = λ i. member (numbers_at-numbers_code k i) (one-data_code d i) (keyed-members_code ms i)

abbrev pub coded_data : Coded Data
coded_data = record { code = data_code; inj = λ x y p. sym (one-data_code x) ∙ ap (λ g. (readings g).one) p ∙ one-data_code y }

abbrev pub coded_items : Coded (List Data)
coded_items = coded_list coded_data

abbrev pub coded_pairs : Coded Pairs
coded_pairs = coded_list (coded× (coded_list coded_ℕ) coded_data)
