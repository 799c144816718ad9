-- The node of an id, and what a change of that node or a node for a new id gives.
use Rattle.std.proofs.Common.{◌≡◌, ℕ, ◌+◌, ◌<◌, ◌≤◌, ℤ, ◌≤ℤ◌, Bool, true, false, eqb, List, [], ◌∷◌, ◌++◌, length, get_or, set, take, drop, map, Contains, refl, sym, ap, subst, ◌∙◌, inl, inr, arith, eqb-true, ne_eqb, is_eq, T}
use Rattle.std.specs.List.{insert}
use Rattle.std.proofs.lemmas.Bool.{false≢true, cases_eq}
use Rattle.std.proofs.lemmas.List.{get_or-map, get_or-set_same, get_or-set_other, get_or_default, length-map, length-append, map-append, take-map, drop-map, take-append-drop, get_or_append_left, get_or-append-add}
use Rattle.std.proofs.lemmas.List.Elements.{Contains-get_or}
use Rattle.links_core.specs.Lists.{list_at, without, IsApart, IsLinked, AreSound}
use Rattle.links_core.proofs.Members.{here, there, contains_cases, in_left, in_right, in_either, in_middle, cut, short, without-absent, without-cut}
use Rattle.rooms_val.specs.Maps.{order}
use Rattle.rooms_val.specs.Places.{IsPlace, IsGap}
use Rattle.rooms_val.proofs.MapsLemmas.{order_itself, same_key, rising-with_key}
use Rattle.rooms_val.proofs.PlacesLemmas.{put_in_gap}
use Rattle.std.specs.FinMap.Entries.{is_sorted}
use Rattle.change_list.specs.declared.entries.Change.{Change}
use Rattle.change_list.specs.Changes.{blank, has_id, without_id, IsListed, AreUpTo}
use Rattle.change_list.specs.Kept.{entry_at, changes_at, keyed, IsKept, IsTaken, moved}
use Rattle.change_list.proofs.Takes.{moved_same, moved_other}
use Rattle.change_list.proofs.TouchLemmas.{IsOneChange, live_changes, dead_changes, without_one, touched_kept, buried_kept}
use Rattle.change_list.proofs.PlaceLemmas.{key_at, one_node, no_node}

-- an id that is listed has a node
pub named : (entries : List Change) (xs : List ℕ) (id : List ℕ) → IsListed (changes_at entries xs) id → (m : ℕ) × Contains xs m × ((entry_at entries m).id ≡ id)
named entries xs id q =
    let cs : List Change = changes_at entries xs in
    let one = length-map cs (λ (c : Change). c.id) in
    let two = length-map xs (entry_at entries) in
    let within : q.0 < length cs = omega (arith, q.1, one) in
    let low : q.0 < length xs = omega (arith, q.1, one, two) in
    (get_or xs q.0 0, Contains-get_or xs q.0 0 low, ap (λ (c : Change). c.id) (sym (get_or-map (entry_at entries) xs q.0 0 blank low)) ∙ sym (get_or-map (λ (c : Change). c.id) cs q.0 blank id within) ∙ q.2)

pub own_id : (change : Change) (id : List ℕ) → change.id ≡ id → has_id id change ≡ true
own_id change id e =
    subst (λ (k : List ℕ). has_id k change ≡ true) e (subst (λ o. is_eq o ≡ true) (sym (order_itself change.id)) refl)

-- a list without repeats is longer by one than without a node that it has
pub one_less : (xs : List ℕ) (node : ℕ) → IsApart xs → Contains xs node → length xs ≡ length (without node xs) + 1
one_less xs node apart q =
    let c = cut node xs q in
    let shorter : without node xs ≡ c.0 ++ c.1 = ap (without node) c.2 ∙ without-cut node c.0 c.1 (subst IsApart c.2 apart) in
    omega (arith, ap length c.2, ap length shorter, length-append c.0 c.1, length-append c.0 (node ∷ c.1))

-- the nodes keep their keys where their ids stay
same_keys : (entries others : List Change) (xs : List ℕ) → ((m : ℕ) → Contains xs m → (entry_at others m).id ≡ (entry_at entries m).id) → keyed others xs ≡ keyed entries xs
same_keys entries others [] agree = refl
same_keys entries others (x ∷ xs) agree =
    ap (λ id. (id, x) ∷ keyed others xs) (agree x (here x xs)) ∙ ap (λ es. ((entry_at entries x).id, x) ∷ es) (same_keys entries others xs (λ m q. agree m (there m x xs q)))

module _ (lists : List (List ℕ)) (entries : List Change) (nodes : List ℕ) (count : ℕ) (k : IsKept lists entries nodes count) where
  pub in_lists : (m : ℕ) → Contains nodes m → IsLinked lists m
  in_lists m q = elim (k.linked m q) [ inl l ↦ (0, l) | inr l ↦ (1, l) ]

  pub made_in : (m : ℕ) → Contains nodes m → m < length entries
  made_in m q = let l = in_lists m q in k.sound.made l.0 m l.1

  pub some_dead : (node : ℕ) → Contains nodes node → (entry_at entries node).live ≡ false → 0 < count
  some_dead node q gone = elim (k.linked node q) [
    | inl l ↦ absurd (false≢true (sym gone ∙ (k.live_listed node l).1))
    | inr l ↦ omega (arith, k.counted, l.1)
  ]

  -- a node of the order gets another clock
  pub changed_one : (node : ℕ) (clock : ℤ) (live : Bool) → Contains nodes node → IsOneChange entries (set entries node (record (entry_at entries node) { clock = clock; live = live })) nodes nodes node
  changed_one node clock live q = record {
    same = λ m w differs. get_or-set_other entries node m _ blank differs;
    in_after = q;
    kept = λ m w. w;
    only = λ m w. inr w;
    rising = subst (λ es. T (is_sorted order es)) (sym (same_keys entries others nodes keeps)) k.rising;
  }
    where
      others : List Change
      others = set entries node (record (entry_at entries node) { clock = clock; live = live })

      keeps : (m : ℕ) → Contains nodes m → (entry_at others m).id ≡ (entry_at entries m).id
      keeps m w = elim (cases_eq m node) [
        | inl e ↦ subst (λ (i : ℕ). (entry_at others i).id ≡ (entry_at entries i).id) (sym e) (ap (λ (c : Change). c.id) (get_or-set_same entries node _ blank (made_in node q)))
        | inr differs ↦ ap (λ (c : Change). c.id) (get_or-set_other entries node m _ blank differs)
      ]

  -- a node that was taken isn't in the order
  pub taken_out : (new : List (List ℕ)) (others : List Change) (change : Change) (node : ℕ) → IsTaken lists new 2 entries others change node → Contains nodes node → ⊥
  taken_out new others change node t q = elim (k.linked node q) [
    | inl l ↦ absurd (let e = t.out 0 l in omega arith)
    | inr l ↦ absurd (let e = t.out 1 l in omega arith)
  ]

  -- a node for a new id goes where the id would go
  pub added_one : (new : List (List ℕ)) (others : List Change) (change : Change) (node place : ℕ) → IsTaken lists new 2 entries others change node → IsGap (keyed entries nodes) change.id place → IsOneChange entries others nodes (insert nodes place node) node
  added_one new others change node place t gap = record {
    same = λ m q differs. t.others m (made_in m q) differs;
    in_after = in_middle node (take place nodes) (drop place nodes);
    kept = λ m q. elim (in_either m (take place nodes) (drop place nodes) (subst (λ (ws : List ℕ). Contains ws m) (sym (take-append-drop place nodes)) q)) [
      | inl l ↦ in_left m (take place nodes) (node ∷ drop place nodes) l
      | inr r ↦ in_right m (take place nodes) (node ∷ drop place nodes) (there m node (drop place nodes) r)
    ];
    only = λ m q. elim (in_either m (take place nodes) (node ∷ drop place nodes) q) [
      | inl l ↦ inr (subst (λ (ws : List ℕ). Contains ws m) (take-append-drop place nodes) (in_left m (take place nodes) (drop place nodes) l))
      | inr r ↦ elim (contains_cases m node (drop place nodes) r) [
        | inl e ↦ inl (sym e)
        | inr l ↦ inr (subst (λ (ws : List ℕ). Contains ws m) (take-append-drop place nodes) (in_right m (take place nodes) (drop place nodes) l))
      ]
    ];
    rising = subst (λ es. T (is_sorted order es)) (put_in_gap (keyed entries nodes) change.id node place gap ∙ sym keys) (rising-with_key (keyed entries nodes) change.id node k.rising);
  }
    where
      f : ℕ → List ℕ × ℕ
      f m = ((entry_at others m).id, m)

      keys : keyed others (insert nodes place node) ≡ insert (keyed entries nodes) place (change.id, node)
      keys =
          map-append f (take place nodes) (node ∷ drop place nodes)
          ∙ ap (λ es. es ++ map f (node ∷ drop place nodes)) (sym (take-map f place nodes))
          ∙ ap (λ es. take place (keyed others nodes) ++ f node ∷ es) (sym (drop-map f place nodes))
          ∙ ap (λ es. take place es ++ f node ∷ drop place es) (same_keys entries others nodes (λ m q. ap (λ (c : Change). c.id) (t.others m (made_in m q) (λ e. taken_out new others change node t (subst (Contains nodes) e q)))))
          ∙ ap (λ (c : Change). take place (keyed entries nodes) ++ (c.id, node) ∷ drop place (keyed entries nodes)) t.here

module _ (lists : List (List ℕ)) (entries others : List Change) (nodes after : List ℕ) (node count : ℕ) (id : List ℕ) (k : IsKept lists entries nodes count) (one : IsOneChange entries others nodes after node) (names : (m : ℕ) → Contains nodes m → has_id id (entry_at entries m) ≡ eqb m node) where
  abbrev Live : List ℕ
  Live = list_at lists 0

  abbrev Dead : List ℕ
  Dead = list_at lists 1

  zero-one : ◌≡◌ {A = ℕ} 0 1 → ⊥
  zero-one e = omega arith

  lives : changes_at others (without node Live) ≡ without_id id (changes_at entries Live)
  lives =
      live_changes lists entries others nodes after node count k one ∙ without_one entries id node Live (λ m q. names m (k.live_listed m q).0)

  deads : changes_at others (without node Dead) ≡ without_id id (changes_at entries Dead)
  deads =
      dead_changes lists entries others nodes after node count k one ∙ without_one entries id node Dead (λ m q. names m (k.dead_listed m q).0)

  pub touched_live : changes_at others (list_at (moved node 0 lists) 0) ≡ without_id id (changes_at entries Live) ++ entry_at others node ∷ []
  touched_live =
      ap (changes_at others) (moved_same lists node 0 (omega (arith, k.three))) ∙ map-append (entry_at others) (without node Live) (node ∷ []) ∙ ap (λ cs. cs ++ entry_at others node ∷ []) lives

  pub touched_dead : changes_at others (list_at (moved node 0 lists) 1) ≡ without_id id (changes_at entries Dead)
  touched_dead = ap (changes_at others) (moved_other lists node 0 1 (omega arith)) ∙ deads

  pub buried_live : changes_at others (list_at (moved node 1 lists) 0) ≡ without_id id (changes_at entries Live)
  buried_live = ap (changes_at others) (moved_other lists node 1 0 (omega arith)) ∙ lives

  pub not_dead : Contains Live node → without node Dead ≡ Dead
  not_dead live = without-absent node Dead (λ q. zero-one (k.sound.in_one 0 1 node live q))

  pub buried_dead : Contains Live node → changes_at others (list_at (moved node 1 lists) 1) ≡ changes_at entries Dead ++ entry_at others node ∷ []
  buried_dead live =
      ap (changes_at others) (moved_same lists node 1 (omega (arith, k.three))) ∙ map-append (entry_at others) (without node Dead) (node ∷ []) ∙ ap (λ cs. cs ++ entry_at others node ∷ []) (dead_changes lists entries others nodes after node count k one ∙ ap (changes_at entries) (not_dead live))

  -- a listed id has the node, and no other
  pub own_node : (xs : List ℕ) → ((m : ℕ) → Contains xs m → Contains nodes m) → IsListed (changes_at entries xs) id → Contains xs node
  own_node xs within q =
      let n = named entries xs id q in
      subst (Contains xs) (eqb-true n.0 node (sym (names n.0 (within n.0 n.1)) ∙ own_id (entry_at entries n.0) id n.2)) n.1

-- lists, entries and the order of ids hold these changes
pub record Holds (lists : List (List ℕ)) (entries : List Change) (nodes : List ℕ) (count : ℕ) (live dead : List Change) : Type 0 where
  pub kept : IsKept lists entries nodes count
  pub live_is : changes_at entries (list_at lists 0) ≡ live
  pub dead_is : changes_at entries (list_at lists 1) ≡ dead

-- the order has the node of an id, and no other of its nodes has the id
pub record IsNodeOf (entries : List Change) (nodes : List ℕ) (id : List ℕ) (node : ℕ) : Type 0 where
  pub in_order : Contains nodes node
  pub own : (entry_at entries node).id ≡ id
  pub names : (m : ℕ) → Contains nodes m → has_id id (entry_at entries m) ≡ eqb m node

pub placed : (entries : List Change) (nodes : List ℕ) (id : List ℕ) (place node : ℕ) → IsPlace (keyed entries nodes) id place → node ≡ get_or nodes place node → IsNodeOf entries nodes id node
placed entries nodes id place node at read =
    let low : place < length nodes = omega (arith, at.within, length-map {B = List ℕ × ℕ} nodes (λ n. ((entry_at entries n).id, n))) in
    let same : node ≡ get_or nodes place 0 = read ∙ get_or_default nodes place node 0 low in
    record {
      in_order = subst (Contains nodes) (sym read) (Contains-get_or nodes place node low);
      own = ap (λ n. (entry_at entries n).id) same ∙ sym (key_at entries nodes place ([], 0) low) ∙ sym (same_key id (get_or (keyed entries nodes) place ([], 0)).0 (at.here ([], 0)));
      names = λ m q. one_node entries nodes id place at m q ∙ ap (λ n. eqb m n) (sym same);
    }

up_to_left : (clock : ℤ) (xs ys : List Change) → AreUpTo clock (xs ++ ys) → AreUpTo clock xs
up_to_left clock xs ys h =
    λ i d low. subst (λ (c : Change). c.clock ≤ℤ clock) (get_or_append_left xs ys d i low) (h i d (omega (arith, length-append xs ys, low)))

up_to_right : (clock : ℤ) (xs ys : List Change) → AreUpTo clock (xs ++ ys) → AreUpTo clock ys
up_to_right clock xs ys h =
    λ i d low. subst (λ (c : Change). c.clock ≤ℤ clock) (get_or-append-add xs ys i d) (h (length xs + i) d (omega (arith, length-append xs ys, low)))

module _ (lists : List (List ℕ)) (entries : List Change) (nodes : List ℕ) (count : ℕ) (id : List ℕ) (node : ℕ) (clock : ℤ) (k : IsKept lists entries nodes count) (own : IsNodeOf entries nodes id node) (latest : AreUpTo clock (changes_at entries (list_at lists 0) ++ changes_at entries (list_at lists 1))) where
  abbrev Changed : Bool → List Change
  Changed live = set entries node (record (entry_at entries node) { clock = clock; live = live })

  entry : (live : Bool) → entry_at (Changed live) node ≡ record { id = id; clock = clock; live = live }
  entry live =
      get_or-set_same entries node _ blank (made_in lists entries nodes count k node own.in_order) ∙ ap (λ (i : List ℕ). record { id = i; clock = clock; live = live }) own.own

  one : (live : Bool) → IsOneChange entries (Changed live) nodes nodes node
  one live = changed_one lists entries nodes count k node clock live own.in_order

  pub buried : IsListed (changes_at entries (list_at lists 0)) id → AreSound (moved node 1 lists) (length (Changed false)) → Holds (moved node 1 lists) (Changed false) nodes (count + 1) (without_id id (changes_at entries (list_at lists 0))) (changes_at entries (list_at lists 1) ++ record { id = id; clock = clock; live = false } ∷ [])
  buried listed sound =
      let live = own_node lists entries (Changed false) nodes nodes node count id k (one false) own.names (list_at lists 0) (λ m q. (k.live_listed m q).0) listed in
      record {
        kept = buried_kept lists entries (Changed false) nodes nodes node count k (one false) (count + 1) sound (ap (λ (c : Change). c.live) (entry false)) (subst (λ (c : Change). AreUpTo c.clock (changes_at entries (list_at lists 1))) (sym (entry false)) (up_to_right clock (changes_at entries (list_at lists 0)) (changes_at entries (list_at lists 1)) latest)) (omega (arith, k.counted, ap length (not_dead lists entries (Changed false) nodes nodes node count id k (one false) own.names live)));
        live_is = buried_live lists entries (Changed false) nodes nodes node count id k (one false) own.names;
        dead_is = buried_dead lists entries (Changed false) nodes nodes node count id k (one false) own.names live ∙ ap (λ (c : Change). changes_at entries (list_at lists 1) ++ c ∷ []) (entry false);
      }

  -- the dead without the node
  fewer : (less : ℕ) → ((entry_at entries node).live ≡ true → less ≡ count) → ((entry_at entries node).live ≡ false → less + 1 ≡ count) → less ≡ length (without node (list_at lists 1))
  fewer less alive gone = elim (k.linked node own.in_order) [
    | inl l ↦ alive (k.live_listed node l).1 ∙ k.counted ∙ sym (ap length (not_dead lists entries (Changed true) nodes nodes node count id k (one true) own.names l))
    | inr l ↦ let less_one = gone (k.dead_listed node l).1 in omega (arith, less_one, k.counted, one_less (list_at lists 1) node (k.sound.once 1) l)
  ]

  pub touched : (less : ℕ) → ((entry_at entries node).live ≡ true → less ≡ count) → ((entry_at entries node).live ≡ false → less + 1 ≡ count) → AreSound (moved node 0 lists) (length (Changed true)) → Holds (moved node 0 lists) (Changed true) nodes less (without_id id (changes_at entries (list_at lists 0)) ++ record { id = id; clock = clock; live = true } ∷ []) (without_id id (changes_at entries (list_at lists 1)))
  touched less alive gone sound = record {
    kept = touched_kept lists entries (Changed true) nodes nodes node count k (one true) less sound (ap (λ (c : Change). c.live) (entry true)) (subst (λ (c : Change). AreUpTo c.clock (changes_at entries (list_at lists 0))) (sym (entry true)) (up_to_left clock (changes_at entries (list_at lists 0)) (changes_at entries (list_at lists 1)) latest)) (fewer less alive gone);
    live_is = touched_live lists entries (Changed true) nodes nodes node count id k (one true) own.names ∙ ap (λ (c : Change). without_id id (changes_at entries (list_at lists 0)) ++ c ∷ []) (entry true);
    dead_is = touched_dead lists entries (Changed true) nodes nodes node count id k (one true) own.names;
  }

-- a new id: no node has it, and one was taken for it
module _ (lists new : List (List ℕ)) (entries others : List Change) (nodes : List ℕ) (count : ℕ) (change : Change) (node place : ℕ) (k : IsKept lists entries nodes count) (t : IsTaken lists new 2 entries others change node) (gap : IsGap (keyed entries nodes) change.id place) where
  apart : (m : ℕ) → Contains nodes m → has_id change.id (entry_at entries m) ≡ eqb m node
  apart m q =
      no_node entries nodes change.id place gap m q ∙ sym (ne_eqb m node (λ e. taken_out lists entries nodes count k new others change node t (subst (Contains nodes) e q)))

  one_more : IsOneChange entries others nodes (insert nodes place node) node
  one_more = added_one lists entries nodes count k new others change node place t gap

  pub added : change.live ≡ true → AreUpTo change.clock (changes_at entries (list_at lists 0) ++ changes_at entries (list_at lists 1)) → AreSound (moved node 0 lists) (length others) → Holds (moved node 0 lists) others (insert nodes place node) count (without_id change.id (changes_at entries (list_at lists 0)) ++ change ∷ []) (without_id change.id (changes_at entries (list_at lists 1)))
  added live latest sound = record {
    kept = touched_kept lists entries others nodes (insert nodes place node) node count k one_more count sound (ap (λ (c : Change). c.live) t.here ∙ live) (subst (λ (c : Change). AreUpTo c.clock (changes_at entries (list_at lists 0))) (sym t.here) (up_to_left change.clock (changes_at entries (list_at lists 0)) (changes_at entries (list_at lists 1)) latest)) (k.counted ∙ sym (ap length (without-absent node (list_at lists 1) (λ q. taken_out lists entries nodes count k new others change node t (k.dead_listed node q).0))));
    live_is = touched_live lists entries others nodes (insert nodes place node) node count change.id k one_more apart ∙ ap (λ (c : Change). without_id change.id (changes_at entries (list_at lists 0)) ++ c ∷ []) t.here;
    dead_is = touched_dead lists entries others nodes (insert nodes place node) node count change.id k one_more apart;
  }

-- where an id would go, it isn't listed
pub not_in : (entries : List Change) (nodes xs : List ℕ) (id : List ℕ) (place : ℕ) → IsGap (keyed entries nodes) id place → ((m : ℕ) → Contains xs m → Contains nodes m) → IsListed (changes_at entries xs) id → ⊥
not_in entries nodes xs id place gap within q =
    let n = named entries xs id q in
    false≢true (sym (no_node entries nodes id place gap n.0 (within n.0 n.1)) ∙ own_id (entry_at entries n.0) id n.2)

pub not_listed : (lists : List (List ℕ)) (entries : List Change) (nodes : List ℕ) (count : ℕ) (id : List ℕ) (place : ℕ) → IsKept lists entries nodes count → IsGap (keyed entries nodes) id place → IsListed (changes_at entries (list_at lists 0) ++ changes_at entries (list_at lists 1)) id → ⊥
not_listed lists entries nodes count id place k gap q =
    not_in entries nodes (list_at lists 0 ++ list_at lists 1) id place gap (λ m w. elim (in_either m (list_at lists 0) (list_at lists 1) w) [ inl l ↦ (k.live_listed m l).0 | inr l ↦ (k.dead_listed m l).0 ]) (subst (λ (cs : List Change). IsListed cs id) (sym (map-append (entry_at entries) (list_at lists 0) (list_at lists 1))) q)

-- as many are dead as there are entries, at most
pub few_dead : (lists : List (List ℕ)) (entries : List Change) (nodes : List ℕ) (count : ℕ) → IsKept lists entries nodes count → count ≤ length entries
few_dead lists entries nodes count k =
    omega (arith, k.counted, short (length entries) (list_at lists 1) (k.sound.once 1) (λ x q. k.sound.made 1 x q))
