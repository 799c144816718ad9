-- The ids of records: one record more, and the first at fault.
use Rattle.std.proofs.Common.{◌≡◌, ℕ, zero, suc, ◌+◌, ◌<◌, Bool, true, false, ◌||◌, List, [], ◌∷◌, ◌++◌, Option, Some, None, length, get_or, take, codes, IsTrue, IfSome, MatchOption, refl, sym, ap, subst, ◌∙◌, arith}
use Rattle.std.specs.Option.{option_map_or, IsSomeAnd}
use Rattle.std.proofs.lemmas.List.{map-append}
use Rattle.std.proofs.lemmas.List.Folds.{list_any-append}
use Rattle.rooms_val.proofs.Truths.{or_false}
use Rattle.rooms_val.specs.Data.{Data}
use Rattle.rooms_val.specs.Maps.{ties}
use Rattle.rooms_val.proofs.MapsLemmas.{ties_flip, order_itself}
use Rattle.std.specs.Ordering.{is_eq}
use Rattle.room_snapshot.specs.Ids.{id_in, is_of, has_id, HaveIds, IsFirstFault}
use Rattle.room_snapshot.specs.Saved.{document_view, documents_view, records_of}
use Rattle.room_model.specs.declared.saved.SavedRecord.{SavedRecord}
use Rattle.rooms_val.specs.View.{data_of}
use Rattle.room_snapshot.proofs.DocumentLemmas.{documents_view-take}

pub not_both : {A : Type 0} (b : Bool) → b ≡ true → b ≡ false → A
not_both b is isnt = absurd (let it : true ≡ false = sym is ∙ isnt in cc)

-- a record has its own id
pub has_own : (d : Data) (id : List ℕ) → id_in d ≡ Some id → is_of id d ≡ true
has_own d id is = ap (λ o. option_map_or (λ own. ties id own) o false) is ∙ ap is_eq (order_itself id)

pub has_id-push : (ds : List Data) (d : Data) (q : List ℕ) → has_id (ds ++ d ∷ []) q ≡ (has_id ds q || (is_of q d || false))
has_id-push ds d q = list_any-append (is_of q) ds (d ∷ [])

head_more : (o : Option (List ℕ)) (ds : List Data) (d : Data) (id : List ℕ) → id_in d ≡ Some id → IsSomeAnd o (λ i. has_id ds i ≡ false)
    → option_map_or (λ own. ties id own) o false ≡ false → IsSomeAnd o (λ i. has_id (ds ++ d ∷ []) i ≡ false)
head_more None ds d id is none apart = none
head_more (Some i) ds d id is none apart =
    has_id-push ds d i
    ∙ ap (λ b. b || (is_of i d || false)) none
    ∙ ap (λ p. option_map_or (λ own. ties i own) p false || false) is
    ∙ ap (λ b. b || false) (ties_flip i id ∙ apart)

-- a record more whose id no one before it has
pub ids_more : (ds : List Data) (d : Data) (id : List ℕ) → HaveIds ds → id_in d ≡ Some id → has_id ds id ≡ false → HaveIds (ds ++ d ∷ [])
ids_more [] d id have is none = (subst (λ o. IsSomeAnd o (λ i. has_id [] i ≡ false)) (sym is) refl, tt)
ids_more (x ∷ ds) d id have is none =
    let apart = or_false (is_of id x) (has_id ds id) none in
    (head_more (id_in x) ds d id is have.0 apart.0, ids_more ds d id have.1 is apart.1)

some_else : {X : Type 0} (o : Option X) (P Q : X → Type 0) → ((x : X) → P x → Q x) → IsSomeAnd o P → IsSomeAnd o Q
some_else None P Q so some = some
some_else (Some x) P Q so some = so x some

head_apart : (x bad : Data) (before after : List Data) (p o : Option (List ℕ)) → id_in bad ≡ p → id_in x ≡ o → IsSomeAnd o (λ i. has_id (before ++ bad ∷ after) i ≡ false)
    → IsSomeAnd p (λ id. has_id before id ≡ false) → IsSomeAnd p (λ id. (is_of id x || has_id before id) ≡ false)
head_apart x bad before after None o bad_is x_is none rest = rest
head_apart x bad before after (Some id) None bad_is x_is none rest = absurd none
head_apart x bad before after (Some id) (Some i) bad_is x_is none rest =
    let here = or_false (has_id before i) (is_of i bad || has_id after i) (sym (list_any-append (is_of i) before (bad ∷ after)) ∙ none) in
    let apart : ties i id ≡ false = sym (ap (λ q. option_map_or (λ own. ties i own) q false) bad_is) ∙ (or_false (is_of i bad) (has_id after i) here.1).0 in
    let other : is_of id x ≡ false = ap (λ q. option_map_or (λ own. ties id own) q false) x_is ∙ ties_flip id i ∙ apart in
    ap (λ b. b || has_id before id) other ∙ rest

apart_from : (before : List Data) (bad : Data) (after : List Data) → HaveIds (before ++ bad ∷ after) → IsSomeAnd (id_in bad) (λ id. has_id before id ≡ false)
apart_from [] bad after have = some_else (id_in bad) (λ id. has_id after id ≡ false) (λ id. has_id [] id ≡ false) (λ id none. refl) have.0
apart_from (x ∷ before) bad after have = head_apart x bad before after (id_in bad) (id_in x) refl refl have.0 (apart_from before bad after have.1)

clash : (o : Option (List ℕ)) (before : List Data) (told : List ℕ) → MatchOption o (told ≡ codes "-") (λ id. (told ≡ id) × IsTrue (has_id before id))
    → ¬ IsSomeAnd o (λ id. has_id before id ≡ false)
clash None before told fault some = some
clash (Some id) before told fault some = not_both (has_id before id) fault.1 some

-- where a record is at fault, not all have their own ids
pub no_ids : (ds : List Data) (told : List ℕ) → IsFirstFault ds told → ¬ HaveIds ds
no_ids ds told first have = clash (id_in first.bad) first.before told first.fault (apart_from first.before first.bad first.after (subst HaveIds first.split have))

pub none_else : (ds : List Data) (bad : Option (List ℕ)) → MatchOption bad (HaveIds ds) (IsFirstFault ds) → IfSome bad (λ _. ¬ HaveIds ds)
none_else ds None first = tt
none_else ds (Some told) first = no_ids ds told first

-- ---- the records of a slice

pub records_of-push : (ds : List SavedRecord) (d : SavedRecord) (i : ℕ) → i < length ds → d ≡ get_or ds i d
    → records_of (documents_view (take (i + 1) ds)) ≡ records_of (documents_view (take i ds)) ++ data_of d.record ∷ []
records_of-push ds d i within here =
    ap records_of (documents_view-take ds i d within here) ∙ map-append (λ (e : Data × _). e.0) (documents_view (take i ds)) (document_view d ∷ [])

-- the records before a place, the one there and those after it
pub records_of-split : (ds : List SavedRecord) (i : ℕ) (d : SavedRecord) → i < length ds → d ≡ get_or ds i d
    → (after : List Data) × (records_of (documents_view ds) ≡ records_of (documents_view (take i ds)) ++ data_of d.record ∷ after)
records_of-split [] i d within here = absurd (omega arith)
records_of-split (x ∷ ds) zero d within here = (records_of (documents_view ds), ap (λ y. data_of y.record ∷ records_of (documents_view ds)) (sym here))
records_of-split (x ∷ ds) (suc i) d within here =
    let rest = records_of-split ds i d (omega arith) here in
    (rest.0, ap (λ es. data_of x.record ∷ es) rest.1)
