-- What the calls of `Links` leave.
use Rattle.std.proofs.Common.{◌≡◌, ◌≢◌, ℕ, ◌+◌, ◌<◌, List, [], ◌∷◌, ◌++◌, length, get_or, set, map, Option, Some, None, Contains, refl, sym, ap, ◌∙◌, subst, inl, inr, arith}
use Rattle.std.specs.List.{slice_get}
use Rattle.std.specs.Option.{IfSome}
use Rattle.std.proofs.lemmas.Bool.{cases_eq, cases_lt}
use Rattle.std.proofs.lemmas.Option.{get_or_from_slice_get, slice_get-get_or, same_Some, none-some}
use Rattle.std.proofs.lemmas.List.{length-set, length-map, length-append, get_or-map, get_or-set_same, get_or-set_other, get_or_past, get_or_append_left, get_or_push, append_assoc}
use Rattle.links_core.specs.declared.nodes.Node.{Node}
use Rattle.links_core.specs.declared.nodes.Ends.{Ends}
use Rattle.links_core.specs.Lists.{IsApart, AreSound, list_at, IsLinked, IsNext, IsPrev, without, first_or, last_or}
use Rattle.links_core.specs.Writes.{unlinked, no_ends, write_node, write_ends, with_next, with_prev, with_first, with_last}
use Rattle.links_core.specs.Threads.{walks, IsThreaded, IsThread, AreThreads}
use Rattle.links_core.proofs.Members.{there, none_in_nil, contains_cases, in_left, in_right, in_middle, cut, first_in_list, last_in_list, last-append, apart_before, apart_left, apart_right, apart_across, apart_join, without-absent, without-cut, without-contains, numbered}
use Rattle.links_core.proofs.ThreadLemmas.{split, join, same_nodes, tag, walks_are, one_list, made}
use Rattle.links_core.proofs.WriteLemmas.{set_here, set_elsewhere, push_before, push_cases, push_here, length-write_ends, node_elsewhere, ends_elsewhere, ends_here, thread_elsewhere, next_after, prev_before, last_some}

-- after a new node, which no list has
pub node_made : (nodes : List Node) (ends : List Ends) (lists : List (List ℕ)) → AreThreads nodes ends lists → AreThreads (nodes ++ unlinked ∷ []) ends lists
node_made nodes ends lists h = record {
  same_length = h.same_length;
  each = λ m below. let t = h.each m below in
      record {
        bounds = t.bounds;
        threaded = same_nodes nodes (nodes ++ unlinked ∷ []) m None (list_at lists m) None (λ x q. let g = tag nodes m None (list_at lists m) None x t.threaded q in push_before nodes (unlinked ∷ []) x g.0 g.1 ∙ sym g.1) t.threaded;
        apart = t.apart;
      };
  idle = λ x node e free. elim (push_cases nodes unlinked x node e) [ inl old ↦ h.idle x node old free | inr same ↦ same ];
}

-- after a new list, which is empty
pub list_made : (nodes : List Node) (ends : List Ends) (lists : List (List ℕ)) → AreThreads nodes ends lists → AreThreads nodes (ends ++ no_ends ∷ []) (lists ++ [] ∷ [])
list_made nodes ends lists h = record {
  same_length = length-append ends (no_ends ∷ []) ∙ ap (λ n. n + 1) h.same_length ∙ sym (length-append lists ([] ∷ []));
  each = λ m below. elim (cases_lt m (length lists)) [
    | inl old ↦ subst (λ (xs : List ℕ). IsThread nodes (ends ++ no_ends ∷ []) m xs) (sym (get_or_append_left lists ([] ∷ []) [] m old)) (kept m (h.each m old))
    | inr new ↦ let last : m ≡ length lists = omega (arith, length-append lists ([] ∷ [])) in
        subst (λ (xs : List ℕ). IsThread nodes (ends ++ no_ends ∷ []) m xs) (sym (get_or_push lists [] [] m (sym last)))
        (record { bounds = ap (slice_get (ends ++ no_ends ∷ [])) (last ∙ sym h.same_length) ∙ push_here ends no_ends; threaded = tt; apart = tt })
  ];
  idle = λ x node e free. h.idle x node e (λ q. free (q.0, subst (λ (xs : List ℕ). Contains xs x) (sym (get_or_append_left lists ([] ∷ []) [] q.0 (numbered lists q.0 x q.1))) q.1));
}
  where
    kept : (m : ℕ) → IsThread nodes ends m (list_at lists m) → IsThread nodes (ends ++ no_ends ∷ []) m (list_at lists m)
    kept m t = record { bounds = push_before ends (no_ends ∷ []) m _ t.bounds; threaded = t.threaded; apart = t.apart }

-- the nodes after `push_back`
abbrev pub pushed_nodes : List Node → ℕ → ℕ → List ℕ → List Node
pushed_nodes nodes l x xs =
    write_node (set nodes x (record { list = Some l; prev = last_or xs None; next = None })) (last_or xs None) (with_next (Some x))

abbrev pub pushed_ends : List Ends → ℕ → ℕ → List ℕ → List Ends
pushed_ends ends l x xs =
    write_ends (write_ends ends l (last_or xs None) (with_first (Some x))) l None (with_last (Some x))

push_bounds : (ends : List Ends) (l x : ℕ) (xs : List ℕ) → slice_get ends l ≡ Some (record { first = first_or xs None; last = last_or xs None }) → slice_get (pushed_ends ends l x xs) l ≡ Some (record { first = first_or (xs ++ x ∷ []) None; last = last_or (xs ++ x ∷ []) None })
push_bounds ends l x [] e = ends_here (write_ends ends l None (with_first (Some x))) l (with_last (Some x)) _ (ends_here ends l (with_first (Some x)) _ e)
push_bounds ends l x (y ∷ ys) e =
    let z = last_some ys y in
    subst (λ (at : Option ℕ). slice_get (write_ends (write_ends ends l at (with_first (Some x))) l None (with_last (Some x))) l ≡ Some (record { first = Some y; last = last_or (ys ++ x ∷ []) (Some y) }))
    (sym z.1)
    (ends_here ends l (with_last (Some x)) _ e ∙ ap (λ at. Some (record { first = Some y; last = at })) (sym (last-append ys (x ∷ []) (Some y))))

pub pushed : (nodes : List Node) (ends : List Ends) (lists : List (List ℕ)) (l x : ℕ) → AreThreads nodes ends lists → l < length lists → x < length nodes → (IsLinked lists x → ⊥) → AreThreads (pushed_nodes nodes l x (list_at lists l)) (pushed_ends ends l x (list_at lists l)) (set lists l (list_at lists l ++ x ∷ []))
pushed nodes ends lists l x h low in_nodes free = record {
  same_length = length-write_ends (write_ends ends l before (with_first (Some x))) l None (with_last (Some x)) ∙ length-write_ends ends l before (with_first (Some x)) ∙ h.same_length ∙ sym (length-set lists l (xs ++ x ∷ []));
  each = λ m below. elim (cases_eq m l) [
    | inl same ↦ subst (λ (k : ℕ). IsThread after pairs k (list_at others k)) (sym same) (subst (λ (ws : List ℕ). IsThread after pairs l ws) (sym (get_or-set_same lists l (xs ++ x ∷ []) [] low)) (itself (h.each l low)))
    | inr differs ↦ subst (λ (ws : List ℕ). IsThread after pairs m ws) (sym (get_or-set_other lists l m (xs ++ x ∷ []) [] differs)) (other m differs (h.each m (omega (arith, length-set lists l (xs ++ x ∷ []), below))))
  ];
  idle = λ y node e idle. h.idle y node (sym (elsewhere y (λ same. idle (l, subst (λ (ws : List ℕ). Contains ws y) (sym (get_or-set_same lists l (xs ++ x ∷ []) [] low)) (subst (λ (w : ℕ). Contains (xs ++ x ∷ []) w) (sym same) (in_middle x xs [])))) (λ q. idle (l, subst (λ (ws : List ℕ). Contains ws y) (sym (get_or-set_same lists l (xs ++ x ∷ []) [] low)) (in_left y xs (x ∷ []) q)))) ∙ e) (λ q. idle (grown y q));
}
  where
    xs : List ℕ
    xs = list_at lists l

    before : Option ℕ
    before = last_or xs None

    cell : Node
    cell = record { list = Some l; prev = before; next = None }

    others : List (List ℕ)
    others = set lists l (xs ++ x ∷ [])

    after : List Node
    after = pushed_nodes nodes l x xs

    pairs : List Ends
    pairs = pushed_ends ends l x xs

    elsewhere : (z : ℕ) → z ≢ x → (Contains xs z → ⊥) → slice_get after z ≡ slice_get nodes z
    elsewhere z differs out =
        node_elsewhere (set nodes x cell) before (with_next (Some x)) z (λ e. out (last_in_list xs z e)) ∙ set_elsewhere nodes x z cell differs

    grown : (y : ℕ) → IsLinked lists y → IsLinked others y
    grown y q =
        elim (cases_eq q.0 l) [
          | inl same ↦ (l, subst (λ (ws : List ℕ). Contains ws y) (sym (get_or-set_same lists l (xs ++ x ∷ []) [] low)) (in_left y xs (x ∷ []) (subst (λ (k : ℕ). Contains (list_at lists k) y) same q.1)))
          | inr differs ↦ (q.0, subst (λ (ws : List ℕ). Contains ws y) (sym (get_or-set_other lists l q.0 (xs ++ x ∷ []) [] differs)) q.1)
        ]

    itself : IsThread nodes ends l xs → IsThread after pairs l (xs ++ x ∷ [])
    itself t =
        let was : IsThreaded (set nodes x cell) l None xs None = same_nodes nodes (set nodes x cell) l None xs None (λ z q. set_elsewhere nodes x z cell (λ e. free (l, subst (λ (w : ℕ). Contains xs w) e q))) t.threaded in
        let here : slice_get after x ≡ Some cell = node_elsewhere (set nodes x cell) before (with_next (Some x)) x (λ e. free (l, last_in_list xs x e)) ∙ set_here nodes x _ cell (slice_get-get_or nodes x unlinked in_nodes) in
        record {
          bounds = push_bounds ends l x xs t.bounds;
          threaded = join after l None xs (x ∷ []) None (next_after (set nodes x cell) l None xs None (Some x) t.apart was) (here, tt);
          apart = apart_join xs (x ∷ []) t.apart (none_in_nil x, tt) (λ z p q. elim (contains_cases z x [] q) [ inl same ↦ free (l, subst (λ (w : ℕ). Contains xs w) (sym same) p) | inr none ↦ none_in_nil z none ]);
        }

    other : (m : ℕ) → m ≢ l → IsThread nodes ends m (list_at lists m) → IsThread after pairs m (list_at lists m)
    other m differs t = record {
      bounds = ends_elsewhere (write_ends ends l before (with_first (Some x))) l None (with_last (Some x)) m differs ∙ ends_elsewhere ends l before (with_first (Some x)) m differs ∙ t.bounds;
      threaded = same_nodes nodes after m None (list_at lists m) None (λ z q. elsewhere z (λ same. free (m, subst (λ (w : ℕ). Contains (list_at lists m) w) same q)) (λ p. differs (one_list nodes ends lists m l z h q p))) t.threaded;
      apart = t.apart;
    }

-- the nodes after `unlink` of what stands between two neighbours
abbrev pub removed_nodes : List Node → ℕ → Option ℕ → Option ℕ → List Node
removed_nodes nodes x p n = set (write_node (write_node nodes p (with_next n)) n (with_prev p)) x unlinked

abbrev pub removed_ends : List Ends → ℕ → Option ℕ → Option ℕ → List Ends
removed_ends ends l p n = write_ends (write_ends ends l p (with_first n)) l n (with_last p)

removed_bounds : (ends : List Ends) (l x : ℕ) (xs ys : List ℕ) → slice_get ends l ≡ Some (record { first = first_or (xs ++ x ∷ ys) None; last = last_or (xs ++ x ∷ ys) None }) → slice_get (removed_ends ends l (last_or xs None) (first_or ys None)) l ≡ Some (record { first = first_or (xs ++ ys) None; last = last_or (xs ++ ys) None })
removed_bounds ends l x [] [] e = ends_here (write_ends ends l None (with_first None)) l (with_last None) _ (ends_here ends l (with_first None) _ e)
removed_bounds ends l x [] (y ∷ ys) e = ends_here ends l (with_first (Some y)) _ e
removed_bounds ends l x (z ∷ xs) [] e =
    let w = last_some xs z in
    subst (λ (at : Option ℕ). slice_get (write_ends (write_ends ends l at (with_first None)) l None (with_last (last_or xs (Some z)))) l ≡ Some (record { first = Some z; last = last_or (xs ++ []) (Some z) }))
    (sym w.1)
    (ends_here ends l (with_last (last_or xs (Some z))) _ e ∙ ap (λ at. Some (record { first = Some z; last = at })) (sym (last-append xs [] (Some z))))
removed_bounds ends l x (z ∷ xs) (y ∷ ys) e =
    let w = last_some xs z in
    subst (λ (at : Option ℕ). slice_get (write_ends ends l at (with_first (Some y))) l ≡ Some (record { first = Some z; last = last_or (xs ++ y ∷ ys) (Some z) }))
    (sym w.1)
    (e ∙ ap (λ at. Some (record { first = Some z; last = at })) (last-append xs (x ∷ y ∷ ys) (Some z) ∙ sym (last-append xs (y ∷ ys) (Some z))))

pub removed : (nodes : List Node) (ends : List Ends) (lists : List (List ℕ)) (l x : ℕ) (xs ys : List ℕ) → AreThreads nodes ends lists → list_at lists l ≡ xs ++ x ∷ ys → AreThreads (removed_nodes nodes x (last_or xs None) (first_or ys None)) (removed_ends ends l (last_or xs None) (first_or ys None)) (map (without x) lists)
removed nodes ends lists l x xs ys h is = record {
  same_length = length-write_ends (write_ends ends l p (with_first n)) l n (with_last p) ∙ length-write_ends ends l p (with_first n) ∙ h.same_length ∙ sym (length-map lists (without x));
  each = λ m below. elim (cases_eq m l) [
    | inl same ↦ subst (λ (k : ℕ). IsThread after pairs k (list_at others k)) (sym same) (subst (λ (ws : List ℕ). IsThread after pairs l ws) (sym (at l low ∙ ap (without x) is ∙ without-cut x xs ys whole.apart)) (itself whole))
    | inr differs ↦ let old : m < length lists = omega (arith, length-map lists (without x), below) in
        subst (λ (ws : List ℕ). IsThread after pairs m ws) (sym (at m old ∙ without-absent x (list_at lists m) (λ q. differs (one_list nodes ends lists m l x h q linked)))) (other m differs (h.each m old))
  ];
  idle = λ y node e idle. elim (cases_eq y x) [
    | inl same ↦ same_Some node unlinked (sym e ∙ ap (slice_get after) same ∙ set_here (write_node (write_node nodes p (with_next n)) n (with_prev p)) x _ unlinked (middle x (λ q. apart_before xs ys x whole.apart q) (apart_right xs (x ∷ ys) whole.apart).0 ∙ (split nodes l None xs (x ∷ ys) None whole.threaded).1.0))
    | inr differs ↦ let free : IsLinked lists y → ⊥ = λ q. idle (q.0, subst (λ (ws : List ℕ). Contains ws y) (sym (at q.0 (numbered lists q.0 y q.1))) (without-contains x y (list_at lists q.0) differs q.1)) in
        h.idle y node (sym (elsewhere y differs (λ q. free (l, in_list y (in_left y xs (x ∷ ys) q))) (λ q. free (l, in_list y (in_right y xs (x ∷ ys) (there y x ys q))))) ∙ e) free
  ];
}
  where
    p : Option ℕ
    p = last_or xs None

    n : Option ℕ
    n = first_or ys None

    after : List Node
    after = removed_nodes nodes x p n

    pairs : List Ends
    pairs = removed_ends ends l p n

    others : List (List ℕ)
    others = map (without x) lists

    in_list : (z : ℕ) → Contains (xs ++ x ∷ ys) z → Contains (list_at lists l) z
    in_list z q = subst (λ (ws : List ℕ). Contains ws z) (sym is) q

    linked : Contains (list_at lists l) x
    linked = in_list x (in_middle x xs ys)

    low : l < length lists
    low = numbered lists l x linked

    whole : IsThread nodes ends l (xs ++ x ∷ ys)
    whole = subst (λ (ws : List ℕ). IsThread nodes ends l ws) is (h.each l low)

    at : (m : ℕ) → m < length lists → list_at others m ≡ without x (list_at lists m)
    at m old = get_or-map (without x) lists m [] [] old

    middle : (z : ℕ) → (Contains xs z → ⊥) → (Contains ys z → ⊥) → slice_get (write_node (write_node nodes p (with_next n)) n (with_prev p)) z ≡ slice_get nodes z
    middle z left right =
        node_elsewhere (write_node nodes p (with_next n)) n (with_prev p) z (λ e. right (first_in_list ys z e)) ∙ node_elsewhere nodes p (with_next n) z (λ e. left (last_in_list xs z e))

    elsewhere : (z : ℕ) → z ≢ x → (Contains xs z → ⊥) → (Contains ys z → ⊥) → slice_get after z ≡ slice_get nodes z
    elsewhere z differs left right =
        set_elsewhere (write_node (write_node nodes p (with_next n)) n (with_prev p)) x z unlinked differs ∙ middle z left right

    itself : IsThread nodes ends l (xs ++ x ∷ ys) → IsThread after pairs l (xs ++ ys)
    itself t =
        let parts = split nodes l None xs (x ∷ ys) None t.threaded in
        let right : (Contains ys x → ⊥) × IsApart ys = apart_right xs (x ∷ ys) t.apart in
        let across : (z : ℕ) → Contains xs z → Contains ys z → ⊥ = λ z a b. apart_across xs (x ∷ ys) z t.apart a (there z x ys b) in
        let one : List Node = write_node nodes p (with_next n) in
        let two : List Node = write_node one n (with_prev p) in
        let left_one : IsThreaded one l None xs n = next_after nodes l None xs (Some x) n (apart_left xs (x ∷ ys) t.apart) parts.0 in
        let left_two : IsThreaded two l None xs n = thread_elsewhere one n (with_prev p) l None xs n (λ z e q. across z q (first_in_list ys z e)) left_one in
        let right_one : IsThreaded one l (Some x) ys None = thread_elsewhere nodes p (with_next n) l (Some x) ys None (λ z e q. across z (last_in_list xs z e) q) parts.1.1 in
        let right_two : IsThreaded two l p ys None = prev_before one l (Some x) p ys None right.1 right_one in
        record {
          bounds = removed_bounds ends l x xs ys t.bounds;
          threaded = join after l None xs ys None
              (same_nodes two after l None xs n (λ z q. set_elsewhere two x z unlinked (λ e. apart_before xs ys x t.apart (subst (λ (w : ℕ). Contains xs w) e q))) left_two)
              (same_nodes two after l p ys None (λ z q. set_elsewhere two x z unlinked (λ e. right.0 (subst (λ (w : ℕ). Contains ys w) e q))) right_two);
          apart = apart_join xs ys (apart_left xs (x ∷ ys) t.apart) right.1 across;
        }

    other : (m : ℕ) → m ≢ l → IsThread nodes ends m (list_at lists m) → IsThread after pairs m (list_at lists m)
    other m differs t = record {
      bounds = ends_elsewhere (write_ends ends l p (with_first n)) l n (with_last p) m differs ∙ ends_elsewhere ends l p (with_first n) m differs ∙ t.bounds;
      threaded = same_nodes nodes after m None (list_at lists m) None (λ z q. elsewhere z (λ e. differs (one_list nodes ends lists m l z h q (subst (λ (w : ℕ). Contains (list_at lists l) w) (sym e) linked))) (λ a. differs (one_list nodes ends lists m l z h q (in_list z (in_left z xs (x ∷ ys) a)))) (λ a. differs (one_list nodes ends lists m l z h q (in_list z (in_right z xs (x ∷ ys) (there z x ys a)))))) t.threaded;
      apart = t.apart;
    }

-- what a node of a list has, and what the list is around it
pub cell_of : (nodes : List Node) (ends : List Ends) (lists : List (List ℕ)) (l x : ℕ) (xs ys : List ℕ) → AreThreads nodes ends lists → list_at lists l ≡ xs ++ x ∷ ys → slice_get nodes x ≡ Some (record { list = Some l; prev = last_or xs None; next = first_or ys None })
cell_of nodes ends lists l x xs ys h is =
    let linked : Contains (list_at lists l) x = subst (λ (ws : List ℕ). Contains ws x) (sym is) (in_middle x xs ys) in
    let t : IsThread nodes ends l (xs ++ x ∷ ys) = subst (λ (ws : List ℕ). IsThread nodes ends l ws) is (h.each l (numbered lists l x linked)) in
    (split nodes l None xs (x ∷ ys) None t.threaded).1.0

-- what holds some lists holds those that it is seen as
pub settled : (nodes : List Node) (ends : List Ends) (lists : List (List ℕ)) → AreThreads nodes ends lists → AreThreads nodes ends (walks nodes ends) × (walks nodes ends ≡ lists)
settled nodes ends lists h =
    let e = walks_are nodes ends lists h in
    (subst (λ (ls : List (List ℕ)). AreThreads nodes ends ls) (sym e) h, e)

pub next_is : (nodes : List Node) (ends : List Ends) (lists : List (List ℕ)) (x : ℕ) (node : Node) → AreThreads nodes ends lists → slice_get nodes x ≡ Some node → IsNext lists x node.next
next_is nodes ends lists x node h e = record {
  linked = λ l xs ys is. ap (λ (r : Node). r.next) (same_Some node _ (sym e ∙ cell_of nodes ends lists l x xs ys h is));
  unlinked = λ free. ap (λ (r : Node). r.next) (h.idle x node e free);
}

pub prev_is : (nodes : List Node) (ends : List Ends) (lists : List (List ℕ)) (x : ℕ) (node : Node) → AreThreads nodes ends lists → slice_get nodes x ≡ Some node → IsPrev lists x node.prev
prev_is nodes ends lists x node h e = record {
  linked = λ l xs ys is. ap (λ (r : Node). r.prev) (same_Some node _ (sym e ∙ cell_of nodes ends lists l x xs ys h is));
  unlinked = λ free. ap (λ (r : Node). r.prev) (h.idle x node e free);
}

pub no_next : (nodes : List Node) (ends : List Ends) (lists : List (List ℕ)) (x : ℕ) → AreThreads nodes ends lists → slice_get nodes x ≡ None → IsNext lists x None
no_next nodes ends lists x h e = record {
  linked = λ l xs ys is. absurd (none-some _ (sym e ∙ cell_of nodes ends lists l x xs ys h is));
  unlinked = λ free. refl;
}

pub no_prev : (nodes : List Node) (ends : List Ends) (lists : List (List ℕ)) (x : ℕ) → AreThreads nodes ends lists → slice_get nodes x ≡ None → IsPrev lists x None
no_prev nodes ends lists x h e = record {
  linked = λ l xs ys is. absurd (none-some _ (sym e ∙ cell_of nodes ends lists l x xs ys h is));
  unlinked = λ free. refl;
}

-- after the writes of `push_back`
pub after_push : (nodes : List Node) (ends : List Ends) (l x : ℕ) (read : List Node) (reads : List Ends) (after : List Node) (pairs : List Ends) → AreThreads nodes ends (walks nodes ends) → l < length (walks nodes ends) → x < length nodes → (IsLinked (walks nodes ends) x → ⊥) → read ≡ nodes → reads ≡ ends → after ≡ write_node (set read x (record { list = Some l; prev = (get_or reads l no_ends).last; next = None })) (get_or reads l no_ends).last (with_next (Some x)) → pairs ≡ write_ends (write_ends reads l (get_or reads l no_ends).last (with_first (Some x))) l None (with_last (Some x)) → AreThreads after pairs (walks after pairs) × (walks after pairs ≡ set (walks nodes ends) l (list_at (walks nodes ends) l ++ x ∷ []))
after_push nodes ends l x read reads after pairs h low in_nodes free same_nodes same_ends eq_nodes eq_ends =
    let xs : List ℕ = list_at (walks nodes ends) l in
    let last : (get_or reads l no_ends).last ≡ last_or xs None = ap (λ (es : List Ends). (get_or es l no_ends).last) same_ends ∙ ap (λ (e : Ends). e.last) (get_or_from_slice_get ends l _ no_ends (h.each l low).bounds) in
    let written : List Node → Option ℕ → List Node = λ ns at. write_node (set ns x (record { list = Some l; prev = at; next = None })) at (with_next (Some x)) in
    let bounded : List Ends → Option ℕ → List Ends = λ es at. write_ends (write_ends es l at (with_first (Some x))) l None (with_last (Some x)) in
    let to_nodes : after ≡ written nodes (last_or xs None) = eq_nodes ∙ ap (λ (ns : List Node). written ns (get_or reads l no_ends).last) same_nodes ∙ ap (written nodes) last in
    let to_ends : pairs ≡ bounded ends (last_or xs None) = eq_ends ∙ ap (λ (es : List Ends). bounded es (get_or reads l no_ends).last) same_ends ∙ ap (bounded ends) last in
    let threads = pushed nodes ends (walks nodes ends) l x h low in_nodes free in
    let moved : AreThreads after (bounded ends (last_or xs None)) (set (walks nodes ends) l (xs ++ x ∷ [])) = subst (λ (ns : List Node). AreThreads ns (bounded ends (last_or xs None)) (set (walks nodes ends) l (xs ++ x ∷ []))) (sym to_nodes) threads in
    settled after pairs (set (walks nodes ends) l (xs ++ x ∷ [])) (subst (λ (es : List Ends). AreThreads after es (set (walks nodes ends) l (xs ++ x ∷ []))) (sym to_ends) moved)

-- what a linked node has: the parts of its list around it
pub linked_cell : (nodes : List Node) (ends : List Ends) (lists : List (List ℕ)) (x : ℕ) → AreThreads nodes ends lists → IsLinked lists x → (l : ℕ) × (xs : List ℕ) × (ys : List ℕ) × (list_at lists l ≡ xs ++ x ∷ ys) × (slice_get nodes x ≡ Some (record { list = Some l; prev = last_or xs None; next = first_or ys None }))
linked_cell nodes ends lists x h q =
    let c = cut x (list_at lists q.0) q.1 in (q.0, c.0, c.1, c.2, cell_of nodes ends lists q.0 x c.0 c.1 h c.2)

-- after the writes of `unlink`
pub after_unlink : (nodes : List Node) (ends : List Ends) (x : ℕ) (l : ℕ) (entry : Node) (read : List Node) (reads : List Ends) (after : List Node) (pairs : List Ends) → AreThreads nodes ends (walks nodes ends) → IsLinked (walks nodes ends) x → entry ≡ get_or nodes x entry → entry.list ≡ Some l → read ≡ nodes → reads ≡ ends → after ≡ set (write_node (write_node read entry.prev (with_next entry.next)) entry.next (with_prev entry.prev)) x unlinked → pairs ≡ write_ends (write_ends reads l entry.prev (with_first entry.next)) l entry.next (with_last entry.prev) → AreThreads after pairs (walks after pairs) × (walks after pairs ≡ map (without x) (walks nodes ends))
after_unlink nodes ends x l entry read reads after pairs h q is_entry is_list same_nodes same_ends eq_nodes eq_ends =
    let c = linked_cell nodes ends (walks nodes ends) x h q in
    let cell : Node = record { list = Some c.0; prev = last_or c.1 None; next = first_or c.2 None } in
    let same : entry ≡ cell = is_entry ∙ get_or_from_slice_get nodes x cell entry c.4 in
    let number : l ≡ c.0 = same_Some l c.0 (sym is_list ∙ ap (λ (r : Node). r.list) same) in
    let written : List Node → Node → List Node = λ ns r. set (write_node (write_node ns r.prev (with_next r.next)) r.next (with_prev r.prev)) x unlinked in
    let bounded : List Ends → ℕ → Node → List Ends = λ es m r. write_ends (write_ends es m r.prev (with_first r.next)) m r.next (with_last r.prev) in
    let to_nodes : after ≡ written nodes cell = eq_nodes ∙ ap (λ (ns : List Node). written ns entry) same_nodes ∙ ap (written nodes) same in
    let to_ends : pairs ≡ bounded ends c.0 cell = eq_ends ∙ ap (λ (es : List Ends). bounded es l entry) same_ends ∙ ap (λ m. bounded ends m entry) number ∙ ap (bounded ends c.0) same in
    let threads = removed nodes ends (walks nodes ends) c.0 x c.1 c.2 h c.3 in
    let moved : AreThreads after (bounded ends c.0 cell) (map (without x) (walks nodes ends)) = subst (λ (ns : List Node). AreThreads ns (bounded ends c.0 cell) (map (without x) (walks nodes ends))) (sym to_nodes) threads in
    settled after pairs (map (without x) (walks nodes ends)) (subst (λ (es : List Ends). AreThreads after es (map (without x) (walks nodes ends))) (sym to_ends) moved)

-- the neighbours of a node are nodes
pub ends_made : (nodes : List Node) (ends : List Ends) (lists : List (List ℕ)) (l n : ℕ) (at : Option ℕ) → AreThreads nodes ends lists → l < length lists → n ≡ length nodes → at ≡ (get_or ends l no_ends).last → IfSome at (λ x. x < n)
ends_made nodes ends lists l n None h low e is = tt
ends_made nodes ends lists l n (Some z) h low e is =
    let last : Some z ≡ last_or (list_at lists l) None = is ∙ ap (λ (r : Ends). r.last) (get_or_from_slice_get ends l _ no_ends (h.each l low).bounds) in
    omega (arith, made nodes ends lists l z h (last_in_list (list_at lists l) z (sym last)))

prev_made : (nodes : List Node) (ends : List Ends) (lists : List (List ℕ)) (l n : ℕ) (xs ys : List ℕ) (at : Option ℕ) → AreThreads nodes ends lists → list_at lists l ≡ xs ++ ys → n ≡ length nodes → at ≡ last_or xs None → IfSome at (λ x. x < n)
prev_made nodes ends lists l n xs ys None h is e last = tt
prev_made nodes ends lists l n xs ys (Some z) h is e last =
    omega (arith, made nodes ends lists l z h (subst (λ (ws : List ℕ). Contains ws z) (sym is) (in_left z xs ys (last_in_list xs z (sym last)))))

next_made : (nodes : List Node) (ends : List Ends) (lists : List (List ℕ)) (l n : ℕ) (xs ys : List ℕ) (at : Option ℕ) → AreThreads nodes ends lists → list_at lists l ≡ xs ++ ys → n ≡ length nodes → at ≡ first_or ys None → IfSome at (λ x. x < n)
next_made nodes ends lists l n xs ys None h is e first = tt
next_made nodes ends lists l n xs ys (Some z) h is e first =
    omega (arith, made nodes ends lists l z h (subst (λ (ws : List ℕ). Contains ws z) (sym is) (in_right z xs ys (first_in_list ys z (sym first)))))

-- what `unlink` asks: the node and its neighbours are nodes, and its list is a list
pub unlink_asks : (nodes : List Node) (ends : List Ends) (x n m : ℕ) (entry : Node) → AreThreads nodes ends (walks nodes ends) → IsLinked (walks nodes ends) x → n ≡ length nodes → m ≡ length ends → entry ≡ get_or nodes x entry → IfSome entry.prev (λ z. z < n) × IfSome entry.next (λ z. z < n) × ((l : ℕ) × (entry.list ≡ Some l) × (l < m) × Contains (list_at (walks nodes ends) l) x)
unlink_asks nodes ends x n m entry h q en em is_entry =
    let c = linked_cell nodes ends (walks nodes ends) x h q in
    let cell : Node = record { list = Some c.0; prev = last_or c.1 None; next = first_or c.2 None } in
    let same : entry ≡ cell = is_entry ∙ get_or_from_slice_get nodes x cell entry c.4 in
    let linked : Contains (list_at (walks nodes ends) c.0) x = subst (λ (ws : List ℕ). Contains ws x) (sym c.3) (in_middle x c.1 c.2) in (
      prev_made nodes ends (walks nodes ends) c.0 n c.1 (x ∷ c.2) entry.prev h c.3 en (ap (λ (r : Node). r.prev) same),
      next_made nodes ends (walks nodes ends) c.0 n (c.1 ++ x ∷ []) c.2 entry.next h (c.3 ∙ sym (append_assoc c.1 (x ∷ []) c.2)) en (ap (λ (r : Node). r.next) same),
      (c.0, ap (λ (r : Node). r.list) same, omega (arith, h.same_length, em, numbered (walks nodes ends) c.0 x linked), linked),
    )

pub linked_made : (nodes : List Node) (ends : List Ends) (x : ℕ) → AreThreads nodes ends (walks nodes ends) → IsLinked (walks nodes ends) x → x < length nodes
linked_made nodes ends x h q = made nodes ends (walks nodes ends) q.0 x h q.1

pub sound : (nodes : List Node) (ends : List Ends) (lists : List (List ℕ)) (n : ℕ) → AreThreads nodes ends lists → n ≡ length nodes → AreSound lists n
sound nodes ends lists n h is = record {
  made = λ l x q. omega (arith, is, made nodes ends lists l x h q);
  once = λ l. elim (cases_lt l (length lists)) [
    | inl below ↦ (h.each l below).apart
    | inr above ↦ subst IsApart (sym (get_or_past lists l [] above)) tt
  ];
  in_one = λ l m x p q. one_list nodes ends lists l m x h p q;
}
