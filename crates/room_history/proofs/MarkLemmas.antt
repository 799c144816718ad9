-- What the changes of ids are once an entry is marked, operation by operation.
use Rattle.std.proofs.Common.{◌≡◌, ℕ, suc, ◌<◌, pos, Bool, true, false, ◌||◌, cond, not, List, [], ◌∷◌, ◌++◌, length, map, filter, Some, None, is_some, refl, sym, ap, subst, ◌∙◌}
use Rattle.std.specs.Prelude.{is_none}
use Rattle.std.proofs.lemmas.List.{map-append, append-nil, append_assoc}
use Rattle.change_list.specs.Changes.{without_id}
use Rattle.rooms_val.specs.Data.{Pairs}
use Rattle.rooms_val.specs.Maps.{value_at, ties, AreRising}
use Rattle.field_ops.specs.RecordOps.{RecordOps}
use Rattle.field_ops.specs.Patched.{raw}
use Rattle.room_model.specs.Histories.{History, records_of}
use Rattle.rooms_val.proofs.Truths.{and_left, and_right}
use Rattle.room_accept.specs.Suiting.{left_under, each_changes}
use Rattle.room_history.specs.Keeps.{change_at}
use Rattle.room_history.specs.Marks.{Lists, mark_one, mark_all, marks_of}
use Rattle.room_history.proofs.FilterLemmas.{filter-map, none_before}
use Rattle.room_history.proofs.PartLemmas as part

pub without-changes : (live : Bool) (id : List ℕ) (ps : List (List ℕ × ℕ)) → without_id id (map (change_at live) ps) ≡ map (change_at live) (filter (λ p. not (ties p.0 id)) ps)
without-changes live id ps = filter-map (λ change. not (ties change.id id)) (change_at live) ps

module _ (history : History) (start : ℕ) (below : start < suc (length history)) where
  abbrev M : Pairs
  M = records_of history

  -- the lists, where the newest entry has a diff
  abbrev pub lists : RecordOps → Lists
  lists diff = (map (change_at true) (part.there history diff), map (change_at false) (part.gone history start diff))

  one : (diff : RecordOps) (c : part.Change) → value_at diff c.0 ≡ None → is_some (raw c.1 (value_at M c.0)) || is_some (value_at M c.0) ≡ true
      → mark_one (pos (suc (length history))) c.0 (is_some (raw c.1 (value_at M c.0))) (lists diff) ≡ lists (diff ++ c ∷ [])
  one diff c fresh changes =
      let clock = pos (suc (length history)) in
      elim (raw c.1 (value_at M c.0)) as (λ r. raw c.1 (value_at M c.0) ≡ r → is_some r || is_some (value_at M c.0) ≡ true → mark_one clock c.0 (is_some r) (lists diff) ≡ lists (diff ++ c ∷ [])) [
        | None ↦ λ is was.
            let live : without_id c.0 (map (change_at true) (part.there history diff)) ≡ map (change_at true) (part.there history (diff ++ c ∷ [])) =
            without-changes true c.0 (part.there history diff) ∙ ap (map (change_at true)) (sym (part.there-push history diff c fresh ∙ ap (λ r. filter (λ p. not (ties p.0 c.0)) (part.there history diff) ++ cond (is_some r) ((c.0, suc (length history)) ∷ []) []) is ∙ append-nil _)) in
            let dead : map (change_at false) (part.gone history start diff) ++ change_at false (c.0, suc (length history)) ∷ [] ≡ map (change_at false) (part.gone history start (diff ++ c ∷ [])) =
            sym (map-append (change_at false) (part.gone history start diff) ((c.0, suc (length history)) ∷ []))
            ∙ ap (λ ps. map (change_at false) (ps ++ (c.0, suc (length history)) ∷ [])) (sym (part.gone-other history diff c fresh start was))
            ∙ ap (map (change_at false)) (sym (part.gone-push history diff c fresh start below ∙ ap (λ r. filter (λ p. not (ties p.0 c.0)) (part.gone history start diff) ++ cond (is_none r) ((c.0, suc (length history)) ∷ []) []) is)) in
            (λ i. (live i, dead i))
        | Some d ↦ λ is was.
            let live : without_id c.0 (map (change_at true) (part.there history diff)) ++ change_at true (c.0, suc (length history)) ∷ [] ≡ map (change_at true) (part.there history (diff ++ c ∷ [])) =
            ap (λ cs. cs ++ change_at true (c.0, suc (length history)) ∷ []) (without-changes true c.0 (part.there history diff))
            ∙ sym (map-append (change_at true) (filter (λ p. not (ties p.0 c.0)) (part.there history diff)) ((c.0, suc (length history)) ∷ []))
            ∙ ap (map (change_at true)) (sym (part.there-push history diff c fresh ∙ ap (λ r. filter (λ p. not (ties p.0 c.0)) (part.there history diff) ++ cond (is_some r) ((c.0, suc (length history)) ∷ []) []) is)) in
            let dead : without_id c.0 (map (change_at false) (part.gone history start diff)) ≡ map (change_at false) (part.gone history start (diff ++ c ∷ [])) =
            without-changes false c.0 (part.gone history start diff) ∙ ap (map (change_at false)) (sym (part.gone-push history diff c fresh start below ∙ ap (λ r. filter (λ p. not (ties p.0 c.0)) (part.gone history start diff) ++ cond (is_none r) ((c.0, suc (length history)) ∷ []) []) is ∙ append-nil _)) in
            (λ i. (live i, dead i))
      ] refl changes

  pub marked : (diff rest : RecordOps) → AreRising (diff ++ rest) → each_changes M rest ≡ true → mark_all (pos (suc (length history))) (marks_of (left_under M rest)) (lists diff) ≡ lists (diff ++ rest)
  marked diff [] rising changes = ap lists (sym (append-nil diff))
  marked diff (c ∷ rest) rising changes =
      let step = one diff c (none_before diff c rest rising) (and_left _ _ changes) in
      let on : AreRising ((diff ++ c ∷ []) ++ rest) = subst AreRising (sym (append_assoc diff (c ∷ []) rest)) rising in
      ap (mark_all (pos (suc (length history))) (marks_of (left_under M rest))) step ∙ marked (diff ++ c ∷ []) rest on (and_right _ _ changes) ∙ ap lists (append_assoc diff (c ∷ []) rest)
