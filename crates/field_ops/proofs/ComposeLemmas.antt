-- What operations in turn make of a record: with an inverse the record before, and of two what their one operation makes.
use Rattle.std.proofs.Common.{◌≡◌, ℕ, Bool, true, false, ◌||◌, cond, List, [], ◌∷◌, ◌++◌, Option, Some, None, refl, sym, ap, subst, ◌∙◌, length, nat_eq}
use Rattle.std.specs.Option.{option_and_then}
use Rattle.rooms_val.proofs.Truths.{or_false_left, or_false_right}
use Rattle.rooms_val.specs.Data.{Data, null, boolean, whole, text, list, map, Pairs, Items, items_of, list_of, Members, members_of, pairs_of, IsSound, AreSoundItems, AreSoundMembers, IsSoundRecord}
use Rattle.rooms_val.proofs.DataLemmas.{pairs_of-members_of, members_of-pairs_of, sound_at, sound-set_at}
use Rattle.rooms_val.specs.Maps.{AreRising, value_at, ties}
use Rattle.field_ops.specs.ValueOps.{ValueOpTree, put, patch, append, append_text, delete, ValueOpTrees, no_edits, edit_at, edits_of, patch_of, Patch, edit_has_append, edits_have_append, IsSoundEdit, AreSoundEdits}
use Rattle.field_ops.specs.RecordOps as change
use Rattle.field_ops.specs.Patched.{edited, patched, value_after, raw}
use Rattle.field_ops.specs.Inverses.{undo, inverted, inverse}
use Rattle.field_ops.specs.Compose.{after, both, edit_after, in_turn}
use Rattle.field_ops.specs.Laws.{raw_after}
use Rattle.rooms_val.proofs.MapsLemmas.{same_pairs}
use Rattle.field_ops.proofs.PatchedLemmas.{at-patched, at-inverted, at-both, rising-patched}
use Rattle.field_ops.proofs.WireLemmas.{edits_of-patch_of}
use Rattle.field_ops.proofs.ReadingLemmas.{items_again}

sound_in : (ms : Members) (k : List ℕ) → AreSoundMembers ms → IsSoundRecord (value_at (pairs_of ms) k)
sound_in ms k each = sound_at (pairs_of ms) k (subst AreSoundMembers (sym (members_of-pairs_of ms)) each)

-- what holds of a patch wherever it holds of its operations holds of every operation
module _ (P : ValueOpTree → Type 0) (of_put : (d : Data) → P (put d)) (of_patch : (p : Patch) → ((k : List ℕ) (e : ValueOpTree) → value_at p k ≡ Some e → P e) → P (patch (edits_of p)))
    (of_append : (ds : List Data) (n : ℕ) → P (append ds n)) (of_append_text : (s : List ℕ) (n : ℕ) → P (append_text s n)) (of_delete : P delete) where
  mutual
    pub every : (e : ValueOpTree) → P e
    every (put d) = of_put d
    every (patch es) = subst (λ t. P (patch t)) (edits_of-patch_of es) (of_patch (patch_of es) (every_at es))
    every (append ds n) = of_append ds n
    every (append_text s n) = of_append_text s n
    every delete = of_delete

    every_at : (es : ValueOpTrees) (k : List ℕ) (e : ValueOpTree) → value_at (patch_of es) k ≡ Some e → P e
    every_at no_edits k e is = absurd (cc)
    every_at (edit_at l f es) k e is = elim (ties k l) as (λ b. cond b (Some f) (value_at (patch_of es) k) ≡ Some e → P e) [
      | true ↦ λ same. let one : f ≡ e = cc in subst P one (every f)
      | false ↦ λ later. every_at es k e later
    ] is

-- after the operation that undoes it a value is as before
abbrev Undone : ValueOpTree → Type 0
Undone e = (o : Option Data) → IsSoundRecord o → value_after (undo e o) (edited e o) ≡ o

undone_at : (f : Pairs) (k : List ℕ) (e : Option ValueOpTree) → ((d : ValueOpTree) → e ≡ Some d → Undone d) → IsSoundRecord (value_at f k)
    → value_after (option_and_then (λ d. undo d (value_at f k)) e) (value_after e (value_at f k)) ≡ value_at f k
undone_at f k None each sound = refl
undone_at f k (Some e) each sound = each e refl (value_at f k) sound

map_back : (p : Patch) (f : Pairs) → ((k : List ℕ) (e : ValueOpTree) → value_at p k ≡ Some e → Undone e) → AreRising f → ((k : List ℕ) → IsSoundRecord (value_at f k))
    → patched (edits_of (inverted (edits_of p) f)) (patched (edits_of p) f) ≡ f
map_back p f each rising sound =
    same_pairs _ f (rising-patched (edits_of (inverted (edits_of p) f)) (patched (edits_of p) f) (rising-patched (edits_of p) f rising)) rising (λ k.
    at-patched (inverted (edits_of p) f) (patched (edits_of p) f) k
    ∙ (λ i. value_after (at-inverted p f k i) (at-patched p f k i))
    ∙ undone_at f k (value_at p k) (each k) (sound k))

undone_patch : (p : Patch) → ((k : List ℕ) (e : ValueOpTree) → value_at p k ≡ Some e → Undone e) → Undone (patch (edits_of p))
undone_patch p each None sound = refl
undone_patch p each (Some null) sound = refl
undone_patch p each (Some (boolean b)) sound = refl
undone_patch p each (Some (whole z)) sound = refl
undone_patch p each (Some (text s)) sound = refl
undone_patch p each (Some (list ds)) sound = refl
undone_patch p each (Some (map ms)) sound =
    let f = pairs_of ms in
    ap (λ g. Some (map (members_of (patched (edits_of (inverted (edits_of p) f)) g)))) (pairs_of-members_of (patched (edits_of p) f))
    ∙ ap (λ g. Some (map (members_of g))) (map_back p f each sound.0 (λ k. sound_in ms k sound.1))
    ∙ ap (λ m. Some (map m)) (members_of-pairs_of ms)

undone_put : (d : Data) → Undone (put d)
undone_put d None sound = refl
undone_put d (Some old) sound = refl

undone_delete : Undone delete
undone_delete None sound = refl
undone_delete (Some old) sound = refl

undone_list : (ds : List Data) (n : ℕ) (es : Items) (b : Bool) → value_after (cond b (Some (put (list es))) None) (Some (cond b (list (items_of (list_of es ++ ds))) (list es))) ≡ Some (list es)
undone_list ds n es true = refl
undone_list ds n es false = refl

undone_append : (ds : List Data) (n : ℕ) → Undone (append ds n)
undone_append ds n None sound = refl
undone_append ds n (Some null) sound = refl
undone_append ds n (Some (boolean b)) sound = refl
undone_append ds n (Some (whole z)) sound = refl
undone_append ds n (Some (text s)) sound = refl
undone_append ds n (Some (list es)) sound = undone_list ds n es (nat_eq (length (list_of es)) n)
undone_append ds n (Some (map ms)) sound = refl

undone_text : (more s : List ℕ) (b : Bool) → value_after (cond b (Some (put (text s))) None) (Some (cond b (text (s ++ more)) (text s))) ≡ Some (text s)
undone_text more s true = refl
undone_text more s false = refl

undone_append_text : (more : List ℕ) (n : ℕ) → Undone (append_text more n)
undone_append_text more n None sound = refl
undone_append_text more n (Some null) sound = refl
undone_append_text more n (Some (boolean b)) sound = refl
undone_append_text more n (Some (whole z)) sound = refl
undone_append_text more n (Some (text s)) sound = undone_text more s (nat_eq (length s) n)
undone_append_text more n (Some (list es)) sound = refl
undone_append_text more n (Some (map ms)) sound = refl

undone : (e : ValueOpTree) → Undone e
undone = every Undone undone_put undone_patch undone_append undone_append_text undone_delete

pub brings_back : (c : change.RecordOpTree) (r : Option Data) → IsSoundRecord r → raw_after (inverse c r) (raw c r) ≡ r
brings_back (change.put d) None sound = refl
brings_back (change.put d) (Some r) sound = refl
brings_back (change.patch p) None sound = refl
brings_back (change.patch p) (Some null) sound = refl
brings_back (change.patch p) (Some (boolean b)) sound = refl
brings_back (change.patch p) (Some (whole z)) sound = refl
brings_back (change.patch p) (Some (text s)) sound = refl
brings_back (change.patch p) (Some (list ds)) sound = refl
brings_back (change.patch p) (Some (map ms)) sound = undone (patch (edits_of p)) (Some (map ms)) sound
brings_back change.remove None sound = refl
brings_back change.remove (Some r) sound = refl

-- the one operation does what the two do in turn
abbrev Joins : ValueOpTree → Type 0
Joins e = edit_has_append e ≡ false → (d : ValueOpTree) → edit_has_append d ≡ false → (o : Option Data) → IsSoundRecord o → edited (after e d) o ≡ edited e (edited d o)

pub plain_at : (p : Patch) (k : List ℕ) (e : ValueOpTree) → edits_have_append (edits_of p) ≡ false → value_at p k ≡ Some e → edit_has_append e ≡ false
plain_at [] k e plain is = cc
plain_at (d ∷ p) k e plain is = elim (ties k d.0) as (λ b. cond b (Some d.1) (value_at p k) ≡ Some e → edit_has_append e ≡ false) [
  | true ↦ λ same. let one : d.1 ≡ e = cc in subst (λ x. edit_has_append x ≡ false) one (or_false_left (edit_has_append d.1) (edits_have_append (edits_of p)) plain)
  | false ↦ λ later. plain_at p k e (or_false_right (edit_has_append d.1) (edits_have_append (edits_of p)) plain) later
] is

joins_at : (v : Option Data) → IsSoundRecord v → (b a : Option ValueOpTree) → ((e : ValueOpTree) → b ≡ Some e → Joins e) → ((e : ValueOpTree) → b ≡ Some e → edit_has_append e ≡ false) → ((d : ValueOpTree) → a ≡ Some d → edit_has_append d ≡ false)
    → value_after (edit_after b a) v ≡ value_after b (value_after a v)
joins_at v sound None a each later earlier = refl
joins_at v sound (Some e) None each later earlier = refl
joins_at v sound (Some e) (Some d) each later earlier = each e refl (later e refl) d (earlier d refl) v sound

map_turn : (q p : Patch) (f : Pairs) → ((k : List ℕ) (e : ValueOpTree) → value_at q k ≡ Some e → Joins e) → edits_have_append (edits_of q) ≡ false → edits_have_append (edits_of p) ≡ false → AreRising f → ((k : List ℕ) → IsSoundRecord (value_at f k))
    → patched (edits_of (both (edits_of q) p)) f ≡ patched (edits_of q) (patched (edits_of p) f)
map_turn q p f each later earlier rising sound =
    same_pairs _ _ (rising-patched (edits_of (both (edits_of q) p)) f rising) (rising-patched (edits_of q) (patched (edits_of p) f) (rising-patched (edits_of p) f rising)) (λ k.
    at-patched (both (edits_of q) p) f k
    ∙ ap (λ e. value_after e (value_at f k)) (at-both q p k)
    ∙ joins_at (value_at f k) (sound k) (value_at q k) (value_at p k) (each k) (λ e is. plain_at q k e later is) (λ d is. plain_at p k d earlier is)
    ∙ sym (at-patched q (patched (edits_of p) f) k ∙ ap (λ v. value_after (value_at q k) v) (at-patched p f k)))

joins_map : (q p : Patch) → ((k : List ℕ) (e : ValueOpTree) → value_at q k ≡ Some e → Joins e) → edits_have_append (edits_of q) ≡ false → edits_have_append (edits_of p) ≡ false → (o : Option Data) → IsSoundRecord o
    → edited (patch (edits_of (both (edits_of q) p))) o ≡ edited (patch (edits_of q)) (edited (patch (edits_of p)) o)
joins_map q p each later earlier None sound = refl
joins_map q p each later earlier (Some null) sound = refl
joins_map q p each later earlier (Some (boolean b)) sound = refl
joins_map q p each later earlier (Some (whole z)) sound = refl
joins_map q p each later earlier (Some (text s)) sound = refl
joins_map q p each later earlier (Some (list ds)) sound = refl
joins_map q p each later earlier (Some (map ms)) sound =
    ap (λ g. Some (map (members_of g))) (map_turn q p (pairs_of ms) each later earlier sound.0 (λ k. sound_in ms k sound.1)
    ∙ ap (λ g. patched (edits_of q) g) (sym (pairs_of-members_of (patched (edits_of p) (pairs_of ms)))))

joins_patch : (q : Patch) → ((k : List ℕ) (e : ValueOpTree) → value_at q k ≡ Some e → Joins e) → Joins (patch (edits_of q))
joins_patch q each later (put d) earlier o sound = refl
joins_patch q each later (patch es) earlier o sound =
    joins_map q (patch_of es) each later (ap edits_have_append (edits_of-patch_of es) ∙ earlier) o sound ∙ ap (λ t. edited (patch (edits_of q)) (edited (patch t) o)) (edits_of-patch_of es)
joins_patch q each later (append ds n) earlier o sound = cc
joins_patch q each later (append_text s n) earlier o sound = cc
joins_patch q each later delete earlier o sound = refl

joins : (e : ValueOpTree) → Joins e
joins = every Joins (λ d later first earlier o sound. refl) joins_patch (λ ds n later first earlier o sound. cc) (λ s n later first earlier o sound. cc) (λ later first earlier o sound. refl)

pub does_both : (a b : change.RecordOpTree) (r : Option Data) → change.has_append a ≡ false → change.has_append b ≡ false → IsSoundRecord r → raw (in_turn a b) r ≡ raw b (raw a r)
does_both a (change.put d) r earlier later sound = refl
does_both (change.put d) (change.patch q) r earlier later sound = refl
does_both (change.patch p) (change.patch q) r earlier later sound = joins_map q p (λ k e is. joins e) later earlier r sound
does_both change.remove (change.patch q) r earlier later sound = refl
does_both a change.remove r earlier later sound = refl

sound_append : (es ds : List Data) → AreSoundItems (items_of es) → AreSoundItems (items_of ds) → AreSoundItems (items_of (es ++ ds))
sound_append [] ds each more = more
sound_append (e ∷ es) ds each more = (each.0, sound_append es ds each.1 more)

sound_longer : (ds : List Data) (es : Items) (b : Bool) → AreSoundItems (items_of ds) → AreSoundItems es → IsSound (cond b (list (items_of (list_of es ++ ds))) (list es))
sound_longer ds es true more each = sound_append (list_of es) ds (subst AreSoundItems (sym (items_again es)) each) more
sound_longer ds es false more each = each

sound_lengthened : (more s : List ℕ) (b : Bool) → IsSound (cond b (text (s ++ more)) (text s))
sound_lengthened more s true = tt
sound_lengthened more s false = tt

-- sound operations leave what is sound sound
mutual
  sound_edited : (e : ValueOpTree) → IsSoundEdit e → (o : Option Data) → IsSoundRecord o → IsSoundRecord (edited e o)
  sound_edited (put d) new o old = new
  sound_edited (patch es) new None old = tt
  sound_edited (patch es) new (Some null) old = old
  sound_edited (patch es) new (Some (boolean b)) old = old
  sound_edited (patch es) new (Some (whole z)) old = old
  sound_edited (patch es) new (Some (text s)) old = old
  sound_edited (patch es) new (Some (list ds)) old = old
  sound_edited (patch es) new (Some (map ms)) old = sound_patched es new.1 (pairs_of ms) (subst (λ m. IsSound (map m)) (sym (members_of-pairs_of ms)) old)
  sound_edited (append ds n) new None old = tt
  sound_edited (append ds n) new (Some null) old = old
  sound_edited (append ds n) new (Some (boolean b)) old = old
  sound_edited (append ds n) new (Some (whole z)) old = old
  sound_edited (append ds n) new (Some (text s)) old = old
  sound_edited (append ds n) new (Some (list es)) old = sound_longer ds es (nat_eq (length (list_of es)) n) new.0 old
  sound_edited (append ds n) new (Some (map ms)) old = old
  sound_edited (append_text more n) new None old = tt
  sound_edited (append_text more n) new (Some null) old = old
  sound_edited (append_text more n) new (Some (boolean b)) old = old
  sound_edited (append_text more n) new (Some (whole z)) old = old
  sound_edited (append_text more n) new (Some (text s)) old = sound_lengthened more s (nat_eq (length s) n)
  sound_edited (append_text more n) new (Some (list es)) old = old
  sound_edited (append_text more n) new (Some (map ms)) old = old
  sound_edited delete new o old = tt

  sound_patched : (es : ValueOpTrees) → AreSoundEdits es → (f : Pairs) → IsSound (map (members_of f)) → IsSound (map (members_of (patched es f)))
  sound_patched no_edits new f sound = sound
  sound_patched (edit_at k e es) new f sound =
      sound-set_at (patched es f) k (edited e (value_at f k)) (sound_patched es new.1 f sound) (sound_edited e new.0 (value_at f k) (sound_at f k sound.1))

pub sound_raw : (c : change.RecordOpTree) (r : Option Data) → change.IsSoundChange c → IsSoundRecord r → IsSoundRecord (raw c r)
sound_raw (change.put d) r new old = new
sound_raw (change.patch p) r new old = sound_edited (patch (edits_of p)) new r old
sound_raw change.remove r new old = tt
