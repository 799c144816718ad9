-- Records and the values that stand for them.
use Rattle.std.proofs.Common.{◌≡◌, ℕ, zero, suc, ◌+◌, ◌<◌, ℤ, pos, List, [], ◌∷◌, ◌++◌, length, get_or, take, refl, sym, ap, ◌∙◌, arith}
use Rattle.std.proofs.lemmas.List.{map-append, take_more}
use Rattle.std.specs.Prelude as std
use Rattle.rooms_val.specs.Data.{Data, null, whole, list, map, member, no_members, items_of, list_of}
use Rattle.rooms_val.proofs.DataLemmas.{list_of-items_of, items_view-push}
use Rattle.rooms_val.specs.View.{data_of, items_view}
use Rattle.rooms_val.specs.declared.val.Val.{Val}
use Rattle.room_snapshot.specs.Lines.{document_val}
use Rattle.room_snapshot.specs.Saved.{Documents, document_view, documents_view}
use Rattle.room_model.specs.declared.saved.SavedRecord.{SavedRecord}

pub documents_view-push : (ds : List SavedRecord) (d : SavedRecord) → documents_view (ds ++ d ∷ []) ≡ documents_view ds ++ document_view d ∷ []
documents_view-push ds d = map-append document_view ds (d ∷ [])

pub documents_view-take : (ds : List SavedRecord) (i : ℕ) (d : SavedRecord) → i < length ds → d ≡ get_or ds i d
    → documents_view (take (i + 1) ds) ≡ documents_view (take i ds) ++ document_view d ∷ []
documents_view-take ds i d within here =
    ap documents_view (take_more ds i d within ∙ ap (λ y. take i ds ++ y ∷ []) (sym here)) ∙ documents_view-push (take i ds) d

-- one value more of one record more
pub vals_more : (ds : List SavedRecord) (i : ℕ) (d : SavedRecord) (vals next : List Data) (val : Data) → i < length ds → d ≡ get_or ds i d
    → vals ≡ std.map document_val (documents_view (take i ds)) → val ≡ document_val (document_view d) → next ≡ vals ++ val ∷ []
    → next ≡ std.map document_val (documents_view (take (i + 1) ds))
vals_more ds i d vals next val within here so_far is next_is =
    next_is
    ∙ (λ j. so_far j ++ is j ∷ [])
    ∙ sym (map-append document_val (documents_view (take i ds)) (document_view d ∷ []))
    ∙ ap (std.map document_val) (sym (documents_view-take ds i d within here))

-- one record more of one value more
pub documents_more : (vals : List Val) (i : ℕ) (val : Val) (ds next : List SavedRecord) (d : SavedRecord) → i < length vals → val ≡ get_or vals i val
    → items_view (take i vals) ≡ std.map document_val (documents_view ds) → data_of val ≡ document_val (document_view d) → next ≡ ds ++ d ∷ []
    → items_view (take (i + 1) vals) ≡ std.map document_val (documents_view next)
documents_more vals i val ds next d within here so_far is next_is =
    ap items_view (take_more vals i val within ∙ ap (λ y. take i vals ++ y ∷ []) (sym here))
    ∙ items_view-push (take i vals) val
    ∙ (λ j. so_far j ++ is j ∷ [])
    ∙ sym (map-append document_val (documents_view ds) (document_view d ∷ []))
    ∙ ap (std.map document_val) (sym (documents_view-push ds d))
    ∙ ap (λ es. std.map document_val (documents_view es)) (sym next_is)

abbrev first_of : List Data → Data
first_of [] = null
first_of (d ∷ ds) = d

abbrev later_of : List Data → List Data
later_of [] = []
later_of (d ∷ ds) = ds

-- a list with a value that is no record's is that of no records
pub no_documents : (s : List Val) (i : ℕ) (x : Val) → i < length s → x ≡ get_or s i x → ((d : Data × ℤ) → ¬ (data_of x ≡ document_val d))
    → (ds : Documents) → ¬ (items_view s ≡ std.map document_val ds)
no_documents [] i x within here none ds is = absurd (omega arith)
no_documents (y ∷ s) i x within here none [] is = cc
no_documents (y ∷ s) zero x within here none (d ∷ ds) is = none d (ap data_of here ∙ ap first_of is)
no_documents (y ∷ s) (suc i) x within here none (d ∷ ds) is = no_documents s i x (omega arith) here none ds (ap later_of is)

abbrev items_in : Data → List Data
items_in (list ds) = list_of ds
items_in d = []

-- lists that are the same value are the same
pub same_list : (a b : List Data) → list (items_of a) ≡ list (items_of b) → a ≡ b
same_list a b is = sym (list_of-items_of a) ∙ ap items_in is ∙ list_of-items_of b

abbrev document_in : Data → Data × ℤ
document_in (map (member k (whole z) (member l d no_members))) = (d, z)
document_in d = (d, pos 0)

document_in-each : (ds : Documents) → std.map document_in (std.map document_val ds) ≡ ds
document_in-each [] = refl
document_in-each (d ∷ ds) = ap (λ rest. d ∷ rest) (document_in-each ds)

-- records with the same values are the same
pub same_documents : (a b : Documents) → std.map document_val a ≡ std.map document_val b → a ≡ b
same_documents a b is = sym (document_in-each a) ∙ ap (std.map document_in) is ∙ document_in-each b
