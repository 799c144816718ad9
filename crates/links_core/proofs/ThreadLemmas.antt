-- Threads: joined, cut, followed, and left alone by a write elsewhere.
use Rattle.std.proofs.Common.{◌≡◌, ℕ, zero, suc, ◌<◌, ◌≤◌, List, [], ◌∷◌, ◌++◌, length, get_or, Option, Some, None, Contains, refl, sym, ap, ◌∙◌, inl, inr, arith}
use Rattle.std.specs.List.{slice_get}
use Rattle.std.proofs.lemmas.Option.{slice_get_within, get_or_from_slice_get, same_Some}
use Rattle.std.proofs.lemmas.List.{ext_get_or, get_or-map, length-map}
use Rattle.links_core.specs.declared.nodes.Node.{Node}
use Rattle.links_core.specs.declared.nodes.Ends.{Ends}
use Rattle.links_core.specs.Lists.{list_at, first_or, last_or}
use Rattle.links_core.specs.Writes.{unlinked, no_ends}
use Rattle.links_core.specs.Threads.{walk, walks, IsThreaded, IsThread, AreThreads}
use Rattle.links_core.proofs.Members.{here, there, none_in_nil, contains_cases, first-append, short, numbered}

pub split : (nodes : List Node) (l : ℕ) (p : Option ℕ) (xs ys : List ℕ) (n : Option ℕ) → IsThreaded nodes l p (xs ++ ys) n → IsThreaded nodes l p xs (first_or ys n) × IsThreaded nodes l (last_or xs p) ys n
split nodes l p [] ys n h = (tt, h)
split nodes l p (x ∷ xs) ys n h =
    let rest = split nodes l (Some x) xs ys n h.1 in
    ((h.0 ∙ ap (λ m. Some (record { list = Some l; prev = p; next = m })) (first-append xs ys n), rest.0), rest.1)

pub join : (nodes : List Node) (l : ℕ) (p : Option ℕ) (xs ys : List ℕ) (n : Option ℕ) → IsThreaded nodes l p xs (first_or ys n) → IsThreaded nodes l (last_or xs p) ys n → IsThreaded nodes l p (xs ++ ys) n
join nodes l p [] ys n h k = k
join nodes l p (x ∷ xs) ys n h k =
    (h.0 ∙ ap (λ m. Some (record { list = Some l; prev = p; next = m })) (sym (first-append xs ys n)), join nodes l (Some x) xs ys n h.1 k)

-- a thread depends on its own nodes alone
pub same_nodes : (nodes others : List Node) (l : ℕ) (p : Option ℕ) (xs : List ℕ) (n : Option ℕ) → ((x : ℕ) → Contains xs x → slice_get others x ≡ slice_get nodes x) → IsThreaded nodes l p xs n → IsThreaded others l p xs n
same_nodes nodes others l p [] n agree h = tt
same_nodes nodes others l p (x ∷ xs) n agree h =
    (agree x (here x xs) ∙ h.0, same_nodes nodes others l (Some x) xs n (λ z q. agree z (there z x xs q)) h.1)

-- what a thread has under one of its nodes
pub tag : (nodes : List Node) (l : ℕ) (p : Option ℕ) (xs : List ℕ) (n : Option ℕ) (x : ℕ) → IsThreaded nodes l p xs n → Contains xs x → (node : Node) × (slice_get nodes x ≡ Some node) × (node.list ≡ Some l)
tag nodes l p [] n x h q = absurd (none_in_nil x q)
tag nodes l p (y ∷ xs) n x h q =
    elim (contains_cases x y xs q) [
      | inl same ↦ (record { list = Some l; prev = p; next = first_or xs n }, ap (slice_get nodes) (sym same) ∙ h.0, refl)
      | inr rest ↦ tag nodes l (Some y) xs n x h.1 rest
    ]

pub known : (nodes : List Node) (l : ℕ) (p : Option ℕ) (xs : List ℕ) (n : Option ℕ) (x : ℕ) → IsThreaded nodes l p xs n → Contains xs x → x < length nodes
known nodes l p xs n x h q =
    let t = tag nodes l p xs n x h q in slice_get_within nodes x t.0 t.1

-- following a thread gives its nodes
pub walk-threaded : (nodes : List Node) (most : ℕ) (l : ℕ) (p : Option ℕ) (xs : List ℕ) → length xs ≤ most → IsThreaded nodes l p xs None → walk nodes most (first_or xs None) ≡ xs
walk-threaded nodes zero l p [] le h = refl
walk-threaded nodes zero l p (x ∷ xs) le h = absurd (omega arith)
walk-threaded nodes (suc most) l p [] le h = refl
walk-threaded nodes (suc most) l p (x ∷ xs) le h =
    let node = get_or_from_slice_get nodes x _ unlinked h.0 in
    ap (λ (r : Node). x ∷ walk nodes most r.next) node ∙ ap (λ ws. x ∷ ws) (walk-threaded nodes most l (Some x) xs (omega arith) h.1)

-- nodes and ends hold no other lists than these
pub walks_are : (nodes : List Node) (ends : List Ends) (lists : List (List ℕ)) → AreThreads nodes ends lists → walks nodes ends ≡ lists
walks_are nodes ends lists h =
    ext_get_or [] (walks nodes ends) lists (length-map ends follow ∙ h.same_length) (λ i below. at i (omega (arith, length-map ends follow, below)))
  where
    follow : Ends → List ℕ
    follow pair = walk nodes (length nodes) pair.first

    at : (i : ℕ) → i < length ends → get_or (walks nodes ends) i [] ≡ get_or lists i []
    at i below =
        let t : IsThread nodes ends i (list_at lists i) = h.each i (omega (arith, h.same_length)) in
        let e : get_or ends i no_ends ≡ record { first = first_or (list_at lists i) None; last = last_or (list_at lists i) None } = get_or_from_slice_get ends i _ no_ends t.bounds in
        let fits : length (list_at lists i) ≤ length nodes = short (length nodes) (list_at lists i) t.apart (λ x q. known nodes i None (list_at lists i) None x t.threaded q) in
        get_or-map (λ (pair : Ends). walk nodes (length nodes) pair.first) ends i no_ends [] below ∙ ap (λ (pair : Ends). walk nodes (length nodes) pair.first) e ∙ walk-threaded nodes (length nodes) i None (list_at lists i) fits t.threaded

-- no two lists have a node
pub one_list : (nodes : List Node) (ends : List Ends) (lists : List (List ℕ)) (l m x : ℕ) → AreThreads nodes ends lists → Contains (list_at lists l) x → Contains (list_at lists m) x → l ≡ m
one_list nodes ends lists l m x h p q =
    let a = tag nodes l None (list_at lists l) None x (h.each l (numbered lists l x p)).threaded p in
    let b = tag nodes m None (list_at lists m) None x (h.each m (numbered lists m x q)).threaded q in
    let same : a.0 ≡ b.0 = same_Some a.0 b.0 (sym a.1 ∙ b.1) in
    same_Some l m (sym a.2 ∙ ap (λ (r : Node). r.list) same ∙ b.2)

pub made : (nodes : List Node) (ends : List Ends) (lists : List (List ℕ)) (l x : ℕ) → AreThreads nodes ends lists → Contains (list_at lists l) x → x < length nodes
made nodes ends lists l x h p =
    known nodes l None (list_at lists l) None x (h.each l (numbered lists l x p)).threaded p
