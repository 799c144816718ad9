-- Changes of a map that take a value, change it and put it back.
use Rattle.std.proofs.Common.{◌≡◌, ℕ, ◌<◌, ◌≤◌, ◌-◌, List, [], ◌∷◌, suc, length, get_or, take, drop, Option, Some, None, refl, sym, ap, ◌∙◌, arith}
use Rattle.std.specs.Option.{option_map_or}
use Rattle.std.proofs.Math.Seq.{take-length}
use Rattle.rooms_val.specs.View.{data_of}
use Rattle.rooms_val.specs.declared.val.Val.{Val}
use Rattle.rooms_val.specs.declared.val.Val.TheVariants as val
use Rattle.rooms_val.specs.Data.{Data, map, Pairs, members_of, IsSound}
use Rattle.rooms_val.specs.Maps.{value_at, with_key, without_key}
use Rattle.rooms_val.proofs.DataLemmas.{pairs_of-members_of, rising_pairs}
use Rattle.migrate_steps.specs.Steps.{changed_at, at_path, moved, unnested, unnested_from}
use Rattle.rooms_val.specs.Kinds.{on_map}
use Rattle.rooms_val.proofs.MapsLemmas.{without_absent, with_key-without_key, with_key-known}

module _ (ps rest : Pairs) (key taken : List ℕ) (same : taken ≡ key) (left : rest ≡ without_key ps taken) where
  left_at : rest ≡ without_key ps key
  left_at = left ∙ ap (without_key ps) same

  -- the value of the key was taken and put back
  pub put_back : (after : Pairs) (copied : List ℕ) (e : Data) → IsSound (map (members_of ps)) → copied ≡ key → after ≡ with_key rest copied e → after ≡ with_key ps key e
  put_back after copied e sound again is = is ∙ (λ i. with_key (left_at i) (again i) e) ∙ with_key-without_key ps key e (rising_pairs ps sound)

  -- the value of the key was taken, changed and put back
  pub changed_some : (after : Pairs) (copied : List ℕ) (change : Data → Data) (d e : Data) → IsSound (map (members_of ps))
      → Some d ≡ value_at ps taken → copied ≡ key → after ≡ with_key rest copied e → e ≡ change d → after ≡ changed_at key change ps
  changed_some after copied change d e sound there again is changed =
      put_back after copied e sound again is ∙ ap (with_key ps key) changed
      ∙ ap (λ o. option_map_or (λ x. with_key ps key (change x)) o ps) (there ∙ ap (value_at ps) same)

  -- there was no value of the key to take
  pub unchanged : None ≡ value_at ps taken → rest ≡ ps
  unchanged none = left_at ∙ without_absent ps key (sym (none ∙ ap (value_at ps) same))

  pub changed_none : (change : Data → Data) → None ≡ value_at ps taken → rest ≡ changed_at key change ps
  changed_none change none = unchanged none ∙ ap (λ o. option_map_or (λ x. with_key ps key (change x)) o ps) (none ∙ ap (value_at ps) same)

module _ (path : List (List ℕ)) (f : Pairs → Pairs) (v : Val) where
  at_map : (fields out : Pairs) → v ≡ val.Map fields → (change : Pairs → Pairs) → out ≡ change fields → map (members_of out) ≡ on_map change (data_of v)
  at_map fields out is change left = ap (λ qs. map (members_of qs)) left ∙ ap (λ qs. map (members_of (change qs))) (sym (pairs_of-members_of fields)) ∙ ap (λ w. on_map change (data_of w)) (sym is)

  -- the path ends at a map
  pub at_end : (fields out : Pairs) → v ≡ val.Map fields → length path < 1 → out ≡ f fields → map (members_of out) ≡ at_path path f (data_of v)
  at_end fields out is ends left = elim path as (λ p. length p < 1 → map (members_of out) ≡ at_path p f (data_of v)) [
    | [] ↦ λ _. at_map fields out is f left
    | (key ∷ rest) ↦ λ never. absurd (omega arith)
  ] ends

  first_key : (p : List (List ℕ)) (key : List ℕ) → 1 ≤ length p → key ≡ get_or p 0 key → p ≡ key ∷ take (length p - 1) (drop 1 p)
  first_key [] key some is = absurd (omega arith)
  first_key (x ∷ p) key some is =
      let all : suc (length p) - 1 ≡ length p = omega arith in
      rw (all, take-length p) (ap (λ k. k ∷ p) (sym is))

  -- the path goes on from a map
  pub at_key : (fields out : Pairs) (key : List ℕ) → v ≡ val.Map fields → 1 ≤ length path → key ≡ get_or path 0 key
      → out ≡ changed_at key (at_path (take (length path - 1) (drop 1 path)) f) fields → map (members_of out) ≡ at_path path f (data_of v)
  at_key fields out key is some first left =
      at_map fields out is (changed_at key (at_path (take (length path - 1) (drop 1 path)) f)) left
      ∙ ap (λ p. at_path p f (data_of v)) (sym (first_key path key some first))

in_no_map : (change : Pairs → Pairs) (v : Val) → ((ps : Pairs) → v ≡ val.Map ps → ⊥) → data_of v ≡ on_map change (data_of v)
in_no_map change val.Null never = refl
in_no_map change (val.Bool b) never = refl
in_no_map change (val.Int z) never = refl
in_no_map change (val.Text s) never = refl
in_no_map change (val.List ds) never = refl
in_no_map change (val.Map ps) never = absurd (never ps refl)

-- the path leads to no map
pub at_no_map : (path : List (List ℕ)) (f : Pairs → Pairs) (v : Val) → ((ps : Pairs) → v ≡ val.Map ps → ⊥) → data_of v ≡ at_path path f (data_of v)
at_no_map [] f v never = in_no_map f v never
at_no_map (key ∷ path) f v never = in_no_map (changed_at key (at_path path f)) v never

module _ (ps rest : Pairs) (keys : List (List ℕ)) (into taken : List ℕ) (same : taken ≡ into) (left : rest ≡ without_key ps taken) where
  unnested_known : (o : Option Data) → o ≡ value_at ps taken → unnested_from o keys into ps ≡ unnested keys into ps
  unnested_known o is = ap (λ x. unnested_from x keys into ps) (is ∙ ap (value_at ps) same)

  pub unnested_map : (ms from to : Pairs) → Some (map (members_of ms)) ≡ value_at ps taken → moved keys (ms, rest) ≡ (from, to) → to ≡ unnested keys into ps
  unnested_map ms from to there is =
      sym (ap (λ m. m.1) is) ∙ (λ i. (moved keys (sym (pairs_of-members_of ms) i, left_at ps rest into taken same left i)).1) ∙ unnested_known _ there

  unnested_no_map : (v : Val) → ((qs : Pairs) → v ≡ val.Map qs → ⊥) → unnested_from (Some (data_of v)) keys into ps ≡ ps
  unnested_no_map val.Null never = refl
  unnested_no_map (val.Bool b) never = refl
  unnested_no_map (val.Int z) never = refl
  unnested_no_map (val.Text s) never = refl
  unnested_no_map (val.List ds) never = refl
  unnested_no_map (val.Map qs) never = absurd (never qs refl)

  pub unnested_other : (after : Pairs) (copied : List ℕ) (v : Val) → IsSound (map (members_of ps)) → ((qs : Pairs) → v ≡ val.Map qs → ⊥)
      → Some (data_of v) ≡ value_at ps taken → copied ≡ into → after ≡ with_key rest copied (data_of v) → after ≡ unnested keys into ps
  unnested_other after copied v sound never there again is =
      put_back ps rest into taken same left after copied (data_of v) sound again is
      ∙ with_key-known ps into (data_of v) (rising_pairs ps sound) (there ∙ ap (value_at ps) same)
      ∙ sym (unnested_no_map v never) ∙ unnested_known _ there

  pub unnested_none : None ≡ value_at ps taken → rest ≡ unnested keys into ps
  unnested_none none = unchanged ps rest into taken same left none ∙ unnested_known None none
