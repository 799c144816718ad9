-- Maps of records after migrations.
use Rattle.std.proofs.Common.{◌≡◌, ℕ, List, [], ◌∷◌, ◌++◌, refl, sym, ap, subst, ◌∙◌}
use Rattle.rooms_val.specs.Data.{Data, Pairs, map, members_of, IsSound}
use Rattle.rooms_val.specs.Maps.{with_key, AreRising, seen}
use Rattle.rooms_val.specs.View.{data_of, pairs_view}
use Rattle.rooms_val.specs.declared.val.Val.{Val}
use Rattle.rooms_val.proofs.DataLemmas.{rising_from_sound}
use Rattle.rooms_val.proofs.MapsLemmas.{put_last, seen-with_key}
use Rattle.migrate_steps.specs.declared.migration.Migration.{Migration}
use Rattle.migrate_steps.specs.declared.step.Way.TheVariants.{Up}
use Rattle.migrate_steps.specs.Records.{migrated, raised_along, raised_map}

-- a record that was changed goes behind those before it
module _ (f : Data → Data) (records after : Pairs) (done : List (List ℕ × Val)) (id : List ℕ) (r : Val) (left : List (List ℕ × Val)) where
  pub seen_on : IsSound (map (members_of records)) → pairs_view (done ++ (id, r) ∷ left) ≡ records → after ≡ seen f (pairs_view done)
      → with_key after id (f (data_of r)) ≡ seen f (pairs_view (done ++ (id, r) ∷ []))
  seen_on sound all so_far =
      let rising : AreRising (done ++ (id, r) ∷ left) = rising_from_sound (done ++ (id, r) ∷ left) (subst (λ ps. IsSound (map (members_of ps))) (sym all) sound) in
      ap (λ ps. with_key ps id (f (data_of r))) so_far
      ∙ sym (seen-with_key f (pairs_view done) id (data_of r))
      ∙ ap (seen f) (sym (seen-with_key data_of done id r) ∙ ap pairs_view (put_last done id r left rising))

pub each_after : (f g : Data → Data) (ps : Pairs) → seen g (seen f ps) ≡ seen (λ d. g (f d)) ps
each_after f g [] = refl
each_after f g (p ∷ ps) = ap (λ rest. (p.0, g (f p.1)) ∷ rest) (each_after f g ps)

pub each_itself : (ps : Pairs) → ps ≡ seen (λ d. d) ps
each_itself [] = refl
each_itself (p ∷ ps) = ap (λ rest. p ∷ rest) (each_itself ps)

-- in a map after some migrations each record is what they make of it alone
pub each_alone : (ms : List Migration) (ps : Pairs) → raised_map ms ps ≡ seen (raised_along ms) ps
each_alone [] ps = each_itself ps
each_alone (m ∷ ms) ps = each_alone ms (seen (migrated Up m) ps) ∙ each_after (migrated Up m) (raised_along ms) ps
