-- No inverse has an append, and none has what does two operations in turn that have none.
use Rattle.std.proofs.Common.{◌≡◌, ℕ, List, [], ◌∷◌, Bool, true, false, not, ◌||◌, cond, nat_eq, length, Option, Some, None, option_map, refl, ap, subst, ◌∙◌}
use Rattle.std.specs.Prelude.{unwrap_or}
use Rattle.std.proofs.lemmas.Option.{same_Some}
use Rattle.rooms_val.proofs.Truths.{or_false_left, or_false_right}
use Rattle.rooms_val.specs.Data.{Data, null, boolean, whole, text, list, map, Pairs, list_of, pairs_of}
use Rattle.rooms_val.specs.Maps.{value_at, set_at, ties, EachValue}
use Rattle.rooms_val.proofs.MapsLemmas.{each-with_key, each-where_key}
use Rattle.field_ops.specs.ValueOps.{ValueOpTree, put, patch, append, append_text, delete, ValueOpTrees, no_edits, edit_at, edits_of, patch_of, Patch, edit_has_append, edits_have_append}
use Rattle.field_ops.specs.RecordOps as change
use Rattle.field_ops.specs.RecordOps.{RecordOpTree, RecordOps, has_append}
use Rattle.field_ops.specs.Inverses.{undo, inverted, patch_back, inverse}
use Rattle.field_ops.specs.Compose.{after, both, in_turn}
use Rattle.doc_model.specs.Documents.{acts_on}
use Rattle.doc_model.specs.Inverses.{inverse_of_op, inverse_diff}
use Rattle.doc_model.specs.Merging.{both_in_turn, merged_at}
use Rattle.doc_model.specs.Restoring.{IsPlain, ArePlain}
use Rattle.doc_model.proofs.InverseLemmas.{rising-inverse_diff}

module _ {V : Type 0} (P : V → Type 0) where
  pub each_at : (es : List (List ℕ × V)) (k : List ℕ) (v : V) → EachValue P es → value_at es k ≡ Some v → P v
  each_at [] k v each is = absurd (cc)
  each_at (e ∷ es) k v each is = elim (ties k e.0) as (λ b. cond b (Some e.1) (value_at es k) ≡ Some v → P v) [
    | true ↦ λ same. subst P (same_Some _ _ same) each.0
    | false ↦ λ later. each_at es k v each.1 later
  ] is

  each-set_at : (es : List (List ℕ × V)) (k : List ℕ) (o : Option V) → EachValue P es → ((v : V) → o ≡ Some v → P v) → EachValue P (set_at es k o)
  each-set_at es k None each new = each-where_key P (λ q. not (ties k q)) es each
  each-set_at es k (Some v) each new = each-with_key P es k v each (new v refl)

-- an operation has no append
abbrev Plain : ValueOpTree → Type 0
Plain e = edit_has_append e ≡ false

abbrev EachPlain : Patch → Type 0
EachPlain p = EachValue Plain p

plain_edits : (p : Patch) → EachPlain p → edits_have_append (edits_of p) ≡ false
plain_edits [] each = refl
plain_edits (e ∷ p) each = ap (λ b. b || edits_have_append (edits_of p)) each.0 ∙ plain_edits p each.1

each_plain : (p : Patch) → edits_have_append (edits_of p) ≡ false → EachPlain p
each_plain [] plain = tt
each_plain (e ∷ p) plain = (or_false_left (edit_has_append e.1) (edits_have_append (edits_of p)) plain, each_plain p (or_false_right (edit_has_append e.1) (edits_have_append (edits_of p)) plain))

each_edit : (es : ValueOpTrees) → edits_have_append es ≡ false → EachPlain (patch_of es)
each_edit no_edits plain = tt
each_edit (edit_at k e es) plain = (or_false_left (edit_has_append e) (edits_have_append es) plain, each_edit es (or_false_right (edit_has_append e) (edits_have_append es) plain))

-- what an operation is undone by

plain_some : (e u : ValueOpTree) → Plain e → Some e ≡ Some u → Plain u
plain_some e u plain is = subst Plain (same_Some _ _ is) plain

mutual
  plain_undo : (e : ValueOpTree) (o : Option Data) (u : ValueOpTree) → undo e o ≡ Some u → Plain u
  plain_undo (put d) None u is = plain_some delete u refl is
  plain_undo (put d) (Some old) u is = plain_some (put old) u refl is
  plain_undo (patch es) None u is = absurd (cc)
  plain_undo (patch es) (Some null) u is = absurd (cc)
  plain_undo (patch es) (Some (boolean b)) u is = absurd (cc)
  plain_undo (patch es) (Some (whole z)) u is = absurd (cc)
  plain_undo (patch es) (Some (text s)) u is = absurd (cc)
  plain_undo (patch es) (Some (list ds)) u is = absurd (cc)
  plain_undo (patch es) (Some (map ms)) u is = plain_some _ u (plain_edits (inverted es (pairs_of ms)) (plain_inverted es (pairs_of ms))) is
  plain_undo (append ds n) None u is = absurd (cc)
  plain_undo (append ds n) (Some null) u is = absurd (cc)
  plain_undo (append ds n) (Some (boolean b)) u is = absurd (cc)
  plain_undo (append ds n) (Some (whole z)) u is = absurd (cc)
  plain_undo (append ds n) (Some (text s)) u is = absurd (cc)
  plain_undo (append ds n) (Some (list es)) u is =
      elim (nat_eq (length (list_of es)) n) as (λ b. cond b (Some (put (list es))) None ≡ Some u → Plain u) [ true ↦ λ is. plain_some (put (list es)) u refl is | false ↦ λ is. absurd (cc) ] is
  plain_undo (append ds n) (Some (map ms)) u is = absurd (cc)
  plain_undo (append_text s n) None u is = absurd (cc)
  plain_undo (append_text s n) (Some null) u is = absurd (cc)
  plain_undo (append_text s n) (Some (boolean b)) u is = absurd (cc)
  plain_undo (append_text s n) (Some (whole z)) u is = absurd (cc)
  plain_undo (append_text s n) (Some (text t)) u is =
      elim (nat_eq (length t) n) as (λ b. cond b (Some (put (text t))) None ≡ Some u → Plain u) [ true ↦ λ is. plain_some (put (text t)) u refl is | false ↦ λ is. absurd (cc) ] is
  plain_undo (append_text s n) (Some (list es)) u is = absurd (cc)
  plain_undo (append_text s n) (Some (map ms)) u is = absurd (cc)
  plain_undo delete None u is = absurd (cc)
  plain_undo delete (Some old) u is = plain_some (put old) u refl is

  plain_inverted : (es : ValueOpTrees) (f : Pairs) → EachPlain (inverted es f)
  plain_inverted no_edits f = tt
  plain_inverted (edit_at k e es) f = each-set_at Plain (inverted es f) k (undo e (value_at f k)) (plain_inverted es f) (plain_undo e (value_at f k))

-- what does two in turn

mutual
  plain_after : (e d : ValueOpTree) → Plain e → Plain d → Plain (after e d)
  plain_after (put x) d later first = refl
  plain_after (patch es) (put x) later first = refl
  plain_after (patch es) (patch fs) later first = plain_edits (both es (patch_of fs)) (plain_both es (patch_of fs) later (each_edit fs first))
  plain_after (patch es) (append ds n) later first = first
  plain_after (patch es) (append_text s n) later first = first
  plain_after (patch es) delete later first = refl
  plain_after (append ds n) d later first = later
  plain_after (append_text s n) d later first = later
  plain_after delete d later first = refl

  plain_both : (es : ValueOpTrees) (p : Patch) → edits_have_append es ≡ false → EachPlain p → EachPlain (both es p)
  plain_both no_edits p later each = each
  plain_both (edit_at k e es) p later each =
      let plain = or_false_left (edit_has_append e) (edits_have_append es) later in
      each-with_key Plain (both es p) k (unwrap_or (option_map (λ first. after e first) (value_at p k)) e) (plain_both es p (or_false_right (edit_has_append e) (edits_have_append es) later) each)
      (elim (value_at p k) as (λ o. value_at p k ≡ o → Plain (unwrap_or (option_map (λ first. after e first) o) e)) [
        | None ↦ λ is. plain
        | Some first ↦ λ is. plain_after e first plain (each_at Plain p k first each is)
      ] refl)

-- the same of operations on records

abbrev pub PlainOp : RecordOpTree → Type 0
PlainOp c = has_append c ≡ false

abbrev pub PlainIf : Option RecordOpTree → Type 0
PlainIf o = (c : RecordOpTree) → o ≡ Some c → PlainOp c

plain_op : (c d : RecordOpTree) → PlainOp c → Some c ≡ Some d → PlainOp d
plain_op c d plain is = subst PlainOp (same_Some _ _ is) plain

plain_back : (p : Patch) (d : Data) → edits_have_append (edits_of (patch_back p d)) ≡ false
plain_back p null = refl
plain_back p (boolean b) = refl
plain_back p (whole z) = refl
plain_back p (text s) = refl
plain_back p (list ds) = refl
plain_back p (map ms) = plain_edits (inverted (edits_of p) (pairs_of ms)) (plain_inverted (edits_of p) (pairs_of ms))

plain_inverse : (c : RecordOpTree) (r : Option Data) → PlainIf (inverse c r)
plain_inverse (change.put d) None u is = plain_op change.remove u refl is
plain_inverse (change.put d) (Some r) u is = plain_op (change.put r) u refl is
plain_inverse (change.patch p) None u is = absurd (cc)
plain_inverse (change.patch p) (Some d) u is = plain_op (change.patch (patch_back p d)) u (plain_back p d) is
plain_inverse change.remove None u is = absurd (cc)
plain_inverse change.remove (Some d) u is = plain_op (change.put d) u refl is

plain_in_turn : (c d : RecordOpTree) → PlainOp c → PlainOp d → PlainOp (in_turn c d)
plain_in_turn c (change.put x) first later = refl
plain_in_turn (change.put x) (change.patch q) first later = refl
plain_in_turn (change.patch p) (change.patch q) first later = plain_edits (both (edits_of q) p) (plain_both (edits_of q) p later (each_plain p first))
plain_in_turn change.remove (change.patch q) first later = refl
plain_in_turn c change.remove first later = refl

plain_both_in_turn : (o p : Option RecordOpTree) → PlainIf o → PlainIf p → PlainIf (both_in_turn o p)
plain_both_in_turn None p first later = later
plain_both_in_turn (Some c) None first later = first
plain_both_in_turn (Some c) (Some d) first later = λ u is. plain_op (in_turn c d) u (plain_in_turn c d (first c refl) (later d refl)) is

pub plain_at : (diff : RecordOps) (id : List ℕ) → IsPlain diff → PlainIf (value_at diff id)
plain_at diff id plain = λ c is. each_at PlainOp diff id c plain.1 is

pub plain_merged : (diffs : List RecordOps) (id : List ℕ) → ArePlain diffs → PlainIf (merged_at diffs id)
plain_merged [] id plain = λ c is. absurd (cc)
plain_merged (diff ∷ diffs) id plain = plain_both_in_turn (merged_at diffs id) (value_at diff id) (plain_merged diffs id plain.1) (plain_at diff id plain.0)

module _ (admits : List ℕ → Data → Bool) where
  each_inverse : (m : Pairs) (diff : RecordOps) → EachValue PlainOp (inverse_diff admits m diff)
  each_inverse m [] = tt
  each_inverse m (c ∷ diff) = each-set_at PlainOp (inverse_diff admits m diff) c.0 (inverse_of_op admits m c.0 c.1) (each_inverse m diff)
      (elim (acts_on admits c.0 c.1 (value_at m c.0)) as (λ b. PlainIf (cond b (inverse c.1 (value_at m c.0)) None)) [ true ↦ plain_inverse c.1 (value_at m c.0) | false ↦ λ u is. absurd (cc) ])

  pub plain_inverse_diff : (m : Pairs) (diff : RecordOps) → IsPlain (inverse_diff admits m diff)
  plain_inverse_diff m diff = (rising-inverse_diff admits m diff, each_inverse m diff)
