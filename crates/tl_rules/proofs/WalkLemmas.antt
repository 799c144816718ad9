-- A walk through the answers for a tree, step by step.
use denote.Ref.{Bor}
use Rattle.std.proofs.Common.{◌≡◌, ℕ, zero, suc, ◌+◌, ◌-◌, ◌<◌, ◌≤◌, List, [], ◌∷◌, ◌++◌, length, take, drop, get_or, Bool, true, false, Option, None, Some, refl, sym, ◌∙◌, ap, subst, arith, append_assoc, length-append, add-one}
use Rattle.std.specs.Prelude.{nat_le, if◌then◌else◌}
use Rattle.std.specs.List.{zip, slice_get}
use Rattle.std.proofs.lemmas.Bool.{leb-true, le-leb}
use Rattle.std.proofs.lemmas.List.{append-nil, drop_all, length-map, map-append}
use Rattle.signal_rules.specs.declared.rules.Ask.TheVariants.{Need, Done}
use Rattle.shape_tree.specs.Trees.{most_levels, most_shapes}
use Rattle.tl_rules.specs.declared.key.TlKey.{TlKey}
use Rattle.tl_rules.specs.declared.key.TlKey.TheVariants as key
use Rattle.tl_rules.specs.declared.value.TlValue.{TlValue}
use Rattle.tl_rules.specs.declared.value.TlValue.TheVariants as value
use Rattle.tl_rules.specs.Plans.{Plan, ends, Place, needs, ended, place_after, ask_at, asked, chain, values_of}
use Rattle.tl_rules.specs.Answers.{ids_in}
use Rattle.tl_rules.specs.Trees.{Listing, each, below, most_at_once, below_known, row_plan, page_plan, tree_plan}
use Rattle.tl_rules.specs.Walks.{ids_view, room, HasWalked}
use Rattle.tl_rules.proofs.PartLemmas.{no_gap, got_here}
use Rattle.tl_rules.proofs.PlanLemmas.{go_on, place-chain, values_needed, values_ended}

abbrev Spot : Type 0
Spot = Place TlKey TlValue (List (List ℕ))

-- nothing is listed where the run has ended with nothing
walked_none : (spot : Spot) (before : List (List ℕ)) (rest : List TlValue) → spot ≡ ended [] rest → HasWalked spot before before rest None
walked_none spot before rest is =
    subst (λ (p : Spot). HasWalked p before before rest None) (sym is) (refl, sym (append-nil before), refl)

-- no level is left
pub below_none : (levels left : ℕ) (id : List ℕ) (before : List (List ℕ)) (rest : List TlValue) → levels ≡ 0 → HasWalked (place_after (below levels left id) rest) before before rest None
unfolding below
below_none zero left id before rest none = walked_none (ended [] rest) before rest refl
below_none (suc levels) left id before rest none = absurd (omega arith)

-- no answer is left
pub below_needed : (levels left : ℕ) (id : List ℕ) (before after : List (List ℕ)) (rest left_over : List TlValue) → 0 < levels → rest ≡ [] → HasWalked (place_after (below levels left id) rest) before after left_over (Some id)
unfolding below
below_needed zero left id before after rest left_over some none = absurd (omega arith)
below_needed (suc levels) left id before after rest left_over some none =
    subst (λ (r : List TlValue). HasWalked (place_after (below (suc levels) left id) r) before after left_over (Some id)) (sym none) refl

-- by the children
pub below_listed : (levels left : ℕ) (id : List ℕ) (first : TlValue) (all others : List TlValue) (before after : List (List ℕ)) (left_over : List TlValue) (need : Option (List ℕ)) (ids : List (List ℕ)) → ids ≡ ids_in first → 0 < levels → all ≡ first ∷ others
    → HasWalked (place_after (each (λ id. id) (below (levels - 1)) left ids) others) before after left_over need → HasWalked (place_after (below levels left id) all) before after left_over need
unfolding below
below_listed zero left id first all others before after left_over need ids ids_are some is walked = absurd (omega arith)
below_listed (suc levels) left id first all others before after left_over need ids ids_are some is walked =
    let same : suc levels - 1 ≡ levels = omega arith in
    subst (λ (r : List TlValue). HasWalked (place_after (below (suc levels) left id) r) before after left_over need) (sym is)
    (subst (λ (n : ℕ). HasWalked (place_after (each (λ id. id) (below n) left (ids_in first)) others) before after left_over need) same
    (subst (λ (l : List (List ℕ)). HasWalked (place_after (each (λ id. id) (below (suc levels - 1)) left l) others) before after left_over need) ids_are walked))

module _ {X : Type 0} (id_of : X → List ℕ) (go : ℕ → X → Listing) where
  -- there is no child, or no room
  pub each_none : (left : ℕ) (xs : List X) (before : List (List ℕ)) (rest : List TlValue) → xs ≡ [] → HasWalked (place_after (each id_of go left xs) rest) before before rest None
  each_none left xs before rest none = walked_none (place_after (each id_of go left xs) rest) before rest (ap (λ l. place_after (each id_of go left l) rest) none)

  full : (xs : List X) (rest : List TlValue) → place_after (each id_of go zero xs) rest ≡ ended [] rest
  full [] rest = refl
  full (x ∷ xs) rest = refl

  pub each_full : (left : ℕ) (xs : List X) (before : List (List ℕ)) (rest : List TlValue) → left ≡ 0 → HasWalked (place_after (each id_of go left xs) rest) before before rest None
  each_full left xs before rest none = walked_none (place_after (each id_of go left xs) rest) before rest (ap (λ n. place_after (each id_of go n xs) rest) none ∙ full xs rest)

  module _ (x : X) (xs : List X) (before : List (List ℕ)) (rest : List TlValue) where
    -- what comes after a child and what is below it
    abbrev after_child : ℕ → List (List ℕ) → Listing
    after_child left under = chain (each id_of go (left - length under) xs) (λ more. ends (id_of x ∷ under ++ more))

    opened : (left : ℕ) (spot : Spot) → place_after (go left x) rest ≡ spot → place_after (each id_of go (suc left) (x ∷ xs)) rest ≡ go_on spot (after_child left)
    opened left spot is = place-chain (go left x) (after_child left) rest ∙ ap (λ p. go_on p (after_child left)) is

    needed_by : (left : ℕ) (spot : Spot) (listed after : List (List ℕ)) (rest_then left_over : List TlValue) (need : List ℕ) → HasWalked spot (before ++ id_of x ∷ []) listed rest_then (Some need)
        → HasWalked (go_on spot (after_child left)) before after left_over (Some need)
    needed_by left (needs k) listed after rest_then left_over need walked = walked
    needed_by left (ended out r) listed after rest_then left_over need walked = absurd (not_some walked.0)
      where
        not_some : Some need ≡ None → ⊥
        not_some is = cc

    -- below the child something is needed
    pub each_needed : (free left : ℕ) (listed after : List (List ℕ)) (rest_then left_over : List TlValue) (need : List ℕ) → free ≡ suc left
        → HasWalked (place_after (go left x) rest) (before ++ id_of x ∷ []) listed rest_then (Some need) → HasWalked (place_after (each id_of go free (x ∷ xs)) rest) before after left_over (Some need)
    each_needed free left listed after rest_then left_over need is walked =
        subst (λ (p : Spot). HasWalked p before after left_over (Some need)) (sym (ap (λ n. place_after (each id_of go n (x ∷ xs)) rest) is ∙ opened left (place_after (go left x) rest) refl))
        (needed_by left (place_after (go left x) rest) listed after rest_then left_over need walked)

    finished : (under now after : List (List ℕ)) (left_over : List TlValue) (need : Option (List ℕ)) (spot : Spot) → now ≡ (before ++ id_of x ∷ []) ++ under → HasWalked spot now after left_over need
        → HasWalked (go_on spot (λ more. ends (id_of x ∷ under ++ more))) before after left_over need
    finished under now after left_over need (needs k) is walked = walked
    finished under now after left_over need (ended more r) is walked = (
      walked.0,
      walked.1 ∙ ap (λ l. l ++ more) is ∙ append_assoc (before ++ id_of x ∷ []) under more ∙ append_assoc before (id_of x ∷ []) (under ++ more),
      walked.2,
    )

    listed_by : (left : ℕ) (spot : Spot) (now after : List (List ℕ)) (left_now left_over : List TlValue) (need : Option (List ℕ)) → HasWalked spot (before ++ id_of x ∷ []) now left_now None
        → left ≡ most_shapes - suc (length before)
        → HasWalked (place_after (each id_of go (room now) xs) left_now) now after left_over need
        → HasWalked (go_on spot (after_child left)) before after left_over need
    listed_by left (needs k) now after left_now left_over need walked count rest_walked = absurd (not_some walked)
      where
        not_some : None ≡ Some k → ⊥
        not_some is = cc
    listed_by left (ended under r) now after left_now left_over need walked count rest_walked =
        let lengths : length now ≡ suc (length before) + length under = ap length walked.1 ∙ omega (arith, length-append (before ++ id_of x ∷ []) under, length-append before (id_of x ∷ [])) in
        let same : room now ≡ left - length under = omega arith in
        subst (λ (p : Spot). HasWalked p before after left_over need) (sym (place-chain (each id_of go (left - length under) xs) (λ more. ends (id_of x ∷ under ++ more)) r))
        (finished under now after left_over need (place_after (each id_of go (left - length under) xs) r) walked.1
        (subst (λ (l : List TlValue). HasWalked (place_after (each id_of go (left - length under) xs) l) now after left_over need) walked.2
        (subst (λ (n : ℕ). HasWalked (place_after (each id_of go n xs) left_now) now after left_over need) same rest_walked)))

    -- the child and what is below it are listed, and the others are still to come
    pub each_listed : (free left : ℕ) (now after : List (List ℕ)) (left_now left_over : List TlValue) (need : Option (List ℕ)) → free ≡ suc left
        → HasWalked (place_after (go left x) rest) (before ++ id_of x ∷ []) now left_now None
        → left ≡ most_shapes - suc (length before)
        → HasWalked (place_after (each id_of go (room now) xs) left_now) now after left_over need
        → HasWalked (place_after (each id_of go free (x ∷ xs)) rest) before after left_over need
    each_listed free left now after left_now left_over need is walked count rest_walked =
        subst (λ (p : Spot). HasWalked p before after left_over need) (sym (ap (λ n. place_after (each id_of go n (x ∷ xs)) rest) is ∙ opened left (place_after (go left x) rest) refl))
        (listed_by left (place_after (go left x) rest) now after left_now left_over need walked count rest_walked)

-- walking what is left from here on walks the whole
pub record LeadsTo {X : Type 0} (id_of : X → List ℕ) (go : ℕ → X → Listing) (xs all : List X) (now before : List (List ℕ)) (rest whole : List TlValue) : Type 0 where
  pub leads : (after : List (List ℕ)) (left_over : List TlValue) (need : Option (List ℕ))
      → HasWalked (place_after (each id_of go (room now) xs) rest) now after left_over need
      → HasWalked (place_after (each id_of go (room before) all) whole) before after left_over need

module _ {X : Type 0} (id_of : X → List ℕ) (go : ℕ → X → Listing) where
  pub walk_starts : (all : List X) (before : List (List ℕ)) (whole : List TlValue) → LeadsTo id_of go all all before before whole whole
  walk_starts all before whole = record { leads = λ after left_over need walked. walked }

  module _ (xs all : List X) (now before : List (List ℕ)) (rest whole : List TlValue) (so_far : LeadsTo id_of go xs all now before rest whole) where
    -- there is no room
    pub walk_full : most_shapes ≤ length now → HasWalked (place_after (each id_of go (room before) all) whole) before now rest None
    walk_full none = so_far.leads now rest None (each_full id_of go (room now) xs now rest (omega arith))

    -- there is no child more
    pub walk_done : xs ≡ [] → HasWalked (place_after (each id_of go (room before) all) whole) before now rest None
    walk_done none = so_far.leads now rest None (each_none id_of go (room now) xs now rest none)

    module _ (x : X) (others : List X) (split : xs ≡ x ∷ others) (some : length now < most_shapes) (pushed : List (List ℕ)) (push : pushed ≡ now ++ id_of x ∷ []) where
      one_longer : length pushed ≡ suc (length now)
      one_longer = ap length push ∙ omega (arith, length-append now (id_of x ∷ []))

      -- something is needed below the child
      pub walk_needs : (listed after : List (List ℕ)) (rest_then left_over : List TlValue) (need : List ℕ) (o : Option (List ℕ)) → o ≡ Some need
          → HasWalked (place_after (go (room pushed) x) rest) pushed listed rest_then o → HasWalked (place_after (each id_of go (room before) all) whole) before after left_over (Some need)
      walk_needs listed after rest_then left_over need o is walked =
          let longer = one_longer in
          so_far.leads after left_over (Some need)
          (subst (λ (l : List X). HasWalked (place_after (each id_of go (room now) l) rest) now after left_over (Some need)) (sym split)
          (each_needed id_of go x others now rest (room now) (room pushed) listed after rest_then left_over need (omega arith)
          (subst (λ (l : List (List ℕ)). HasWalked (place_after (go (room pushed) x) rest) l listed rest_then (Some need)) push
          (subst (λ (q : Option (List ℕ)). HasWalked (place_after (go (room pushed) x) rest) pushed listed rest_then q) is walked))))

      -- the child is listed, with what is below it
      pub walk_more : (listed : List (List ℕ)) (rest_then : List TlValue) (o : Option (List ℕ)) → o ≡ None
          → HasWalked (place_after (go (room pushed) x) rest) pushed listed rest_then o → LeadsTo id_of go others all listed before rest_then whole
      walk_more listed rest_then o is walked =
          let longer = one_longer in
          record {
            leads = λ after left_over need walked_on.
                so_far.leads after left_over need
                (subst (λ (l : List X). HasWalked (place_after (each id_of go (room now) l) rest) now after left_over need) (sym split)
                (each_listed id_of go x others now rest (room now) (room pushed) listed after rest_then left_over need (omega arith)
                (subst (λ (l : List (List ℕ)). HasWalked (place_after (go (room pushed) x) rest) l listed rest_then None) push
                (subst (λ (q : Option (List ℕ)). HasWalked (place_after (go (room pushed) x) rest) pushed listed rest_then q) is walked))
                (omega arith) walked_on));
          }

pub nil_from_length : (xs : List TlValue) → length xs ≡ 0 → xs ≡ []
nil_from_length [] none = refl
nil_from_length (x ∷ xs) none = absurd (omega arith)

-- a borrowed id is listed
pub ids_pushed : (ids now : List (Bor (List ℕ))) (id : Bor (List ℕ)) → now ≡ ids ++ id ∷ [] → ids_view now ≡ ids_view ids ++ id.now ∷ []
ids_pushed ids now id is = ap ids_view is ∙ map-append (λ (b : Bor (List ℕ)). b.now) ids (id ∷ [])

pub ids_count : (ids : List (Bor (List ℕ))) → length (ids_view ids) ≡ length ids
ids_count ids = length-map ids (λ (b : Bor (List ℕ)). b.now)

-- an id and its children, one place on
pub zip_off : (ids : List (List ℕ)) (known : List TlValue) (i : ℕ) (id : List ℕ) (v : TlValue) → i < length ids → length known ≡ length ids → id ≡ get_or ids i id → v ≡ get_or known i v
    → drop i (zip ids known) ≡ (id, v) ∷ drop (i + 1) (zip ids known)
zip_off ids known i id v within same here there = rw add-one (off ids known i id v within same here there)
  where
    off : (ids : List (List ℕ)) (known : List TlValue) (i : ℕ) (id : List ℕ) (v : TlValue) → i < length ids → length known ≡ length ids → id ≡ get_or ids i id → v ≡ get_or known i v
        → drop i (zip ids known) ≡ (id, v) ∷ drop (suc i) (zip ids known)
    off [] known i id v within same here there = absurd (omega arith)
    off (c ∷ ids) [] i id v within same here there = absurd (omega arith)
    off (c ∷ ids) (a ∷ known) zero id v within same here there = λ j. (sym here j, sym there j) ∷ zip ids known
    off (c ∷ ids) (a ∷ known) (suc i) id v within same here there = off ids known i id v (omega arith) (omega arith) here there

pub zip_all : (ids : List (List ℕ)) (known : List TlValue) (i : ℕ) → length ids ≤ i → drop i (zip ids known) ≡ []
zip_all [] known i all = drop_all i [] (omega arith)
zip_all (id ∷ ids) [] i all = drop_all i [] (omega arith)
zip_all (id ∷ ids) (v ∷ known) zero all = absurd (omega arith)
zip_all (id ∷ ids) (v ∷ known) (suc i) all = zip_all ids known i (omega arith)

-- a child and its answer, and those after them
pub known_off : (front others after : List (List ℕ)) (child : List ℕ) (known later : List TlValue) (row : TlValue) → front ≡ child ∷ others → known ≡ row ∷ later
    → zip (front ++ after) known ≡ (child, row) ∷ zip (others ++ after) later
known_off front others after child known later row is split = λ i. zip (is i ++ after) (split i)

module _ (levels left : ℕ) (ids : List (List ℕ)) (rest : List TlValue) (before after : List (List ℕ)) (left_over : List TlValue) where
  -- the children of one of the row are needed
  pub row_needed : (id : List ℕ) → length ids ≤ most_at_once → length rest < length ids → id ≡ get_or ids (length rest) id → HasWalked (place_after (row_plan levels left ids) rest) before after left_over (Some id)
  row_needed id few some here =
      subst (λ (b : Bool). HasWalked (place_after (if b then chain (values_of key.ByParent ids) (below_known levels left ids) else each (λ id. id) (below (suc levels)) left ids) rest) before after left_over (Some id))
      (sym (le-leb (length ids) most_at_once few))
      (subst (λ (p : Spot). HasWalked p before after left_over (Some id))
      (sym (place-chain (values_of key.ByParent ids) (below_known levels left ids) rest ∙ ap (λ p. go_on p (below_known levels left ids)) (values_needed key.ByParent ids rest id some)))
      (ap (λ i. Some (key.ByParent i)) here))

  -- the same by the child that is there
  pub row_needed_there : (need : Option (List ℕ)) → length ids ≤ most_at_once → length rest < length ids → need ≡ slice_get ids (length rest) → HasWalked (place_after (row_plan levels left ids) rest) before after left_over need
  row_needed_there None few some there = absurd (no_gap ids (length rest) there some)
  row_needed_there (Some id) few some there = row_needed id few some (got_here ids (length rest) id there)

  module _ (need : Option (List ℕ)) where
    -- the children of all of the row are known
    pub row_known : (known others : List TlValue) → length ids ≤ most_at_once → length ids ≤ length rest → known ≡ take (length ids) rest → others ≡ drop (length ids) rest
        → HasWalked (place_after (below_known levels left ids known) others) before after left_over need
        → HasWalked (place_after (row_plan levels left ids) rest) before after left_over need
    row_known known others few all front back walked =
        subst (λ (b : Bool). HasWalked (place_after (if b then chain (values_of key.ByParent ids) (below_known levels left ids) else each (λ id. id) (below (suc levels)) left ids) rest) before after left_over need)
        (sym (le-leb (length ids) most_at_once few))
        (subst (λ (p : Spot). HasWalked p before after left_over need)
        (sym (place-chain (values_of key.ByParent ids) (below_known levels left ids) rest ∙ ap (λ p. go_on p (below_known levels left ids)) (values_ended key.ByParent ids rest all)))
        (subst (λ (k : List TlValue). HasWalked (place_after (below_known levels left ids k) (drop (length ids) rest)) before after left_over need) front
        (subst (λ (o : List TlValue). HasWalked (place_after (below_known levels left ids known) o) before after left_over need) back walked)))

    -- the row is long
    pub row_long : most_at_once < length ids → HasWalked (place_after (each (λ id. id) (below (suc levels)) left ids) rest) before after left_over need
        → HasWalked (place_after (row_plan levels left ids) rest) before after left_over need
    row_long many walked = by_count (nat_le (length ids) most_at_once) (leb-true (length ids) most_at_once)
      where
        by_count : (b : Bool) → (b ≡ true → length ids ≤ most_at_once)
            → HasWalked (place_after (if b then chain (values_of key.ByParent ids) (below_known levels left ids) else each (λ id. id) (below (suc levels)) left ids) rest) before after left_over need
        by_count true few = let fits : length ids ≤ most_at_once = few refl in absurd (omega arith)
        by_count false few = walked

module _ (page : List ℕ) (got : List TlValue) (after : List (List ℕ)) (rest : List TlValue) where
  abbrev told_ids : List (List ℕ) → Plan TlKey TlValue TlValue
  told_ids ids = ends (value.Ids ids)

  abbrev page_spot : Spot
  page_spot = place_after (page_plan (most_levels - 2) most_shapes page) got

  needs_then : (need : List ℕ) (spot : Spot) → HasWalked spot [] after rest (Some need) → Need (key.ByParent need) ≡ ask_at (go_on spot told_ids)
  needs_then need (needs k) walked = let same : key.ByParent need ≡ k = cc in ap Need same
  needs_then need (ended out r) walked = absurd (not_some walked.0)
    where
      not_some : Some need ≡ None → ⊥
      not_some is = cc

  listed_then : (spot : Spot) → HasWalked spot [] after rest None → Done (value.Ids after) ≡ ask_at (go_on spot told_ids)
  listed_then (needs k) walked = absurd (not_some walked)
    where
      not_some : None ≡ Some k → ⊥
      not_some is = cc
  listed_then (ended out r) walked = ap (λ ids. Done (value.Ids ids)) walked.1

  -- the walk of the whole tree
  pub tree_needed : (need : List ℕ) (before : List (List ℕ)) (o : Option (List ℕ)) → before ≡ [] → o ≡ Some need
      → HasWalked (place_after (page_plan (most_levels - 2) (room before) page) got) before after rest o → Need (key.ByParent need) ≡ asked (tree_plan page) got
  tree_needed need before o none is walked =
      needs_then need page_spot (subst (λ (q : Option (List ℕ)). HasWalked page_spot [] after rest q) is
      (subst (λ (b : List (List ℕ)). HasWalked (place_after (page_plan (most_levels - 2) (room b) page) got) b after rest o) none walked))
      ∙ ap ask_at (sym (place-chain (page_plan (most_levels - 2) most_shapes page) told_ids got))

  pub tree_listed : (before : List (List ℕ)) (o : Option (List ℕ)) → before ≡ [] → o ≡ None
      → HasWalked (place_after (page_plan (most_levels - 2) (room before) page) got) before after rest o → Done (value.Ids after) ≡ asked (tree_plan page) got
  tree_listed before o none is walked =
      listed_then page_spot (subst (λ (q : Option (List ℕ)). HasWalked page_spot [] after rest q) is
      (subst (λ (b : List (List ℕ)). HasWalked (place_after (page_plan (most_levels - 2) (room b) page) got) b after rest o) none walked))
      ∙ ap ask_at (sym (place-chain (page_plan (most_levels - 2) most_shapes page) told_ids got))
