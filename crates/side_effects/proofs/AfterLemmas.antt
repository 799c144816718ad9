-- What stands under an id after a diff.
use Rattle.std.proofs.Common.{◌≡◌, ℕ, List, [], Bool, true, not, true≢false, Option, Some, None, refl, sym, ap, ◌∙◌}
use Rattle.std.specs.Prelude.{is_some, option_map, option_and_then}
use Rattle.std.specs.Option.{option_copied, unwrap_or}
use denote.Ref.{Bor}
use Rattle.rooms_val.specs.View.{data_of}
use Rattle.rooms_val.specs.declared.val.Val.{Val}
use Rattle.field_ops.specs.View.{maybe_data}
use Rattle.rooms_val.specs.Data.{Data, map, pairs_of, Pairs}
use Rattle.rooms_val.specs.Kinds.{on_map, as_text}
use Rattle.rooms_val.proofs.DataLemmas.{pairs_of-members_of}
use Rattle.shape_tree.specs.Records.{text_or_empty}
use Rattle.rooms_val.specs.Maps.{value_at, AreRising}
use Rattle.field_ops.specs.ValueOps.{Patch, edits_of}
use Rattle.field_ops.specs.Laws.{raw_after}
use Rattle.field_ops.specs.Patched.{raw, patched, value_after}
use Rattle.field_ops.proofs.PatchedLemmas.{at-patched}
use Rattle.field_ops.specs.RecordOps.{RecordOpTree, patch, RecordOps}
use Rattle.doc_model.specs.Documents.{fold_raw}
use Rattle.doc_model.proofs.MergeLemmas.{at-fold_raw}

pub after_op : (m : Pairs) (diff : RecordOps) (id : List ℕ) (c : RecordOpTree) → AreRising diff → Some c ≡ value_at diff id → value_at (fold_raw m diff) id ≡ raw c (value_at m id)
after_op m diff id c rising is = at-fold_raw diff m id rising ∙ sym (ap (λ o. raw_after o (value_at m id)) is)

pub after_none : (m : Pairs) (diff : RecordOps) (id : List ℕ) → AreRising diff → None ≡ value_at diff id → value_at (fold_raw m diff) id ≡ value_at m id
after_none m diff id rising is = at-fold_raw diff m id rising ∙ sym (ap (λ o. raw_after o (value_at m id)) is)

pub patched_there : (p : Patch) (r : Option Data) → is_some (raw (patch p) r) ≡ is_some r
patched_there p None = refl
patched_there p (Some d) = refl

-- a patch leaves the text under a key that it doesn't name
kept_text : (p : Patch) (d : Data) (key : List ℕ) → value_at p key ≡ None → text_or_empty (on_map (λ f. patched (edits_of p) f) d) key ≡ text_or_empty d key
kept_text p (map ms) key none =
    ap (λ o. unwrap_or (option_and_then as_text o) []) (
    ap (λ ps. value_at ps key) (pairs_of-members_of (patched (edits_of p) (pairs_of ms)))
    ∙ at-patched p (pairs_of ms) key
    ∙ ap (λ o. value_after o (value_at (pairs_of ms) key)) none)
kept_text p d key none = refl

pub kept_texts : (p : Patch) (key : List ℕ) → value_at p key ≡ None → (r : Option Data) → option_map (λ d. text_or_empty d key) (raw (patch p) r) ≡ option_map (λ d. text_or_empty d key) r
kept_texts p key none None = refl
kept_texts p key none (Some d) = ap Some (kept_text p d key none)

-- where nothing is found, nothing is there
pub none_found : {X Y : Type 0} (f : X → Y) (o : Option X) (found : Option Y) (b : Bool) → is_some o ≡ not b → b ≡ true → option_map f o ≡ found → found ≡ None
none_found f None found b is none there = sym there
none_found f (Some x) found b is none there = absurd (true≢false (is ∙ ap not none))

pub copied_data : (r : Option (Bor Val)) → maybe_data (option_copied r) ≡ option_map (λ v. data_of v.now) r
copied_data None = refl
copied_data (Some v) = refl

pub shown_data : (r : Option (Bor Val)) (o : Option Val) → option_copied r ≡ o → option_map (λ v. data_of v.now) r ≡ maybe_data o
shown_data r o is = sym (copied_data r) ∙ ap maybe_data is

pub there_data : (r : Option (Bor Val)) → is_some r ≡ is_some (option_map (λ v. data_of v.now) r)
there_data None = refl
there_data (Some v) = refl
