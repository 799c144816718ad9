-- The fields of a slice, by their places.
use Rattle.std.proofs.Common.{◌≡◌, ℕ, zero, suc, ◌+◌, ◌<◌, List, [], ◌∷◌, length, get_or, drop, refl, sym, ap, ◌∙◌, arith}
use Rattle.std.proofs.lemmas.List.{drop_all}
use Rattle.rooms_val.specs.Data.{Data, Pairs}
use Rattle.rooms_val.specs.View.{pairs_view, field_of}
use Rattle.rooms_val.specs.declared.val.Val.{Val}
use Rattle.rooms_val.proofs.ListLemmas.{one_off}

-- from a place on stands the field at the place, and then what stands past it
pub from_place : (es : List (List ℕ × Val)) (i : ℕ) (x : List ℕ × Val) (f : List ℕ × Data) (rest : Pairs) → i < length es → x ≡ get_or es i x → field_of x ≡ f
    → pairs_view (drop (i + 1) es) ≡ rest → pairs_view (drop i es) ≡ f ∷ rest
from_place es i x f rest within here is later = ap pairs_view (one_off es i x within here) ∙ (λ j. is j ∷ later j)

-- past the last place stands nothing
pub none_past : (es : List (List ℕ × Val)) (n : ℕ) → length es ≡ n → pairs_view (drop n es) ≡ []
none_past es n count = ap pairs_view (drop_all n es (omega arith))

field_at : (es : List (List ℕ × Val)) (i : ℕ) (x : List ℕ × Val) → get_or (pairs_view es) i (field_of x) ≡ field_of (get_or es i x)
field_at [] i x = refl
field_at (e ∷ es) zero x = refl
field_at (e ∷ es) (suc i) x = field_at es i x

-- where the fields are known, the one at a place is
pub at_place : (es : List (List ℕ × Val)) (i : ℕ) (x : List ℕ × Val) (ps : Pairs) → x ≡ get_or es i x → pairs_view es ≡ ps → field_of x ≡ get_or ps i (field_of x)
at_place es i x ps here is = ap field_of here ∙ sym (field_at es i x) ∙ ap (λ qs. get_or qs i (field_of x)) is
