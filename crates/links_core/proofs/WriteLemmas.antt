-- What a list has after a write to it, and what threads have after a write to a node.
use Rattle.std.proofs.Common.{◌≡◌, ◌≢◌, ◌⊎◌, ℕ, zero, suc, List, [], ◌∷◌, ◌++◌, length, set, take, drop, Option, Some, None, Contains, refl, sym, ap, ◌∙◌, subst, inl, inr, arith}
use Rattle.std.specs.List.{slice_get}
use Rattle.std.proofs.lemmas.Option.{get_or_from_slice_get, same_Some}
use Rattle.std.proofs.lemmas.List.{length-set, append-nil, take_all, drop_all}
use Rattle.links_core.specs.declared.nodes.Node.{Node}
use Rattle.links_core.specs.declared.nodes.Ends.{Ends}
use Rattle.links_core.specs.Lists.{IsApart, first_or, last_or}
use Rattle.links_core.specs.Writes.{unlinked, no_ends, write_node, write_ends, with_next, with_prev}
use Rattle.links_core.specs.Threads.{IsThreaded}
use Rattle.links_core.proofs.Members.{last_in_list}
use Rattle.links_core.proofs.ThreadLemmas.{same_nodes}

pub set_here : {X : Type 0} (xs : List X) (i : ℕ) (x y : X) → slice_get xs i ≡ Some x → slice_get (set xs i y) i ≡ Some y
set_here [] i x y e = absurd (cc)
set_here (z ∷ xs) zero x y e = refl
set_here (z ∷ xs) (suc i) x y e = set_here xs i x y e

pub set_elsewhere : {X : Type 0} (xs : List X) (i k : ℕ) (y : X) → k ≢ i → slice_get (set xs i y) k ≡ slice_get xs k
set_elsewhere [] i k y d = refl
set_elsewhere (z ∷ xs) zero zero y d = absurd (d refl)
set_elsewhere (z ∷ xs) zero (suc k) y d = refl
set_elsewhere (z ∷ xs) (suc i) zero y d = refl
set_elsewhere (z ∷ xs) (suc i) (suc k) y d = set_elsewhere xs i k y (λ e. d (ap suc e))

pub push_before : {X : Type 0} (xs ys : List X) (i : ℕ) (x : X) → slice_get xs i ≡ Some x → slice_get (xs ++ ys) i ≡ Some x
push_before [] ys i x e = absurd (cc)
push_before (z ∷ xs) ys zero x e = e
push_before (z ∷ xs) ys (suc i) x e = push_before xs ys i x e

pub push_cases : {X : Type 0} (xs : List X) (y : X) (i : ℕ) (x : X) → slice_get (xs ++ y ∷ []) i ≡ Some x → (slice_get xs i ≡ Some x) ⊎ (x ≡ y)
push_cases [] y zero x e = inr (same_Some x y (sym e))
push_cases [] y (suc i) x e = absurd (cc)
push_cases (z ∷ xs) y zero x e = inl e
push_cases (z ∷ xs) y (suc i) x e = push_cases xs y i x e

pub push_here : {X : Type 0} (xs : List X) (y : X) → slice_get (xs ++ y ∷ []) (length xs) ≡ Some y
push_here [] y = refl
push_here (z ∷ xs) y = push_here xs y

-- what a slice of a vector leaves in it
pub write_back : {X : Type 0} (xs ys : List X) (n : ℕ) → length ys ≡ length xs → n ≡ length xs → take n (ys ++ drop (length ys) xs) ≡ ys
write_back xs ys n e f =
    ap (λ ws. take n (ys ++ ws)) (drop_all (length ys) xs (omega arith)) ∙ ap (take n) (append-nil ys) ∙ take_all n ys (omega arith)

pub length-write_node : (nodes : List Node) (at : Option ℕ) (f : Node → Node) → length (write_node nodes at f) ≡ length nodes
length-write_node nodes None f = refl
length-write_node nodes (Some x) f = length-set nodes x _

pub length-write_ends : (ends : List Ends) (l : ℕ) (at : Option ℕ) (f : Ends → Ends) → length (write_ends ends l at f) ≡ length ends
length-write_ends ends l (Some x) f = refl
length-write_ends ends l None f = length-set ends l _

pub node_elsewhere : (nodes : List Node) (at : Option ℕ) (f : Node → Node) (k : ℕ) → (at ≡ Some k → ⊥) → slice_get (write_node nodes at f) k ≡ slice_get nodes k
node_elsewhere nodes None f k d = refl
node_elsewhere nodes (Some x) f k d = set_elsewhere nodes x k _ (λ e. d (ap Some (sym e)))

pub node_here : (nodes : List Node) (x : ℕ) (f : Node → Node) (node : Node) → slice_get nodes x ≡ Some node → slice_get (write_node nodes (Some x) f) x ≡ Some (f node)
node_here nodes x f node e =
    set_here nodes x node _ e ∙ ap (λ (r : Node). Some (f r)) (get_or_from_slice_get nodes x node unlinked e)

pub ends_elsewhere : (ends : List Ends) (l : ℕ) (at : Option ℕ) (f : Ends → Ends) (m : ℕ) → m ≢ l → slice_get (write_ends ends l at f) m ≡ slice_get ends m
ends_elsewhere ends l (Some x) f m d = refl
ends_elsewhere ends l None f m d = set_elsewhere ends l m _ d

pub ends_here : (ends : List Ends) (l : ℕ) (f : Ends → Ends) (pair : Ends) → slice_get ends l ≡ Some pair → slice_get (write_ends ends l None f) l ≡ Some (f pair)
ends_here ends l f pair e =
    set_here ends l pair _ e ∙ ap (λ (r : Ends). Some (f r)) (get_or_from_slice_get ends l pair no_ends e)

-- a thread is left alone by a write to a node that isn't of it
pub thread_elsewhere : (nodes : List Node) (at : Option ℕ) (f : Node → Node) (l : ℕ) (p : Option ℕ) (xs : List ℕ) (n : Option ℕ) → ((z : ℕ) → at ≡ Some z → Contains xs z → ⊥) → IsThreaded nodes l p xs n → IsThreaded (write_node nodes at f) l p xs n
thread_elsewhere nodes at f l p xs n d h =
    same_nodes nodes (write_node nodes at f) l p xs n (λ x q. node_elsewhere nodes at f x (λ e. d x e q)) h

-- what comes after a thread, changed in its last node
pub next_after : (nodes : List Node) (l : ℕ) (p : Option ℕ) (xs : List ℕ) (m n : Option ℕ) → IsApart xs → IsThreaded nodes l p xs m → IsThreaded (write_node nodes (last_or xs None) (with_next n)) l p xs n
next_after nodes l p [] m n apart h = tt
next_after nodes l p (x ∷ []) m n apart h = (node_here nodes x (with_next n) _ h.0, tt)
next_after nodes l p (x ∷ y ∷ xs) m n apart h =
    (node_elsewhere nodes (last_or (y ∷ xs) None) (with_next n) x (λ e. apart.0 (last_in_list (y ∷ xs) x e)) ∙ h.0, next_after nodes l (Some x) (y ∷ xs) m n apart.1 h.1)

-- what comes before a thread, changed in its first node
pub prev_before : (nodes : List Node) (l : ℕ) (p q : Option ℕ) (xs : List ℕ) (n : Option ℕ) → IsApart xs → IsThreaded nodes l p xs n → IsThreaded (write_node nodes (first_or xs None) (with_prev q)) l q xs n
prev_before nodes l p q [] n apart h = tt
prev_before nodes l p q (x ∷ xs) n apart h =
    (node_here nodes x (with_prev q) _ h.0, thread_elsewhere nodes (Some x) (with_prev q) l (Some x) xs n (λ z e r. apart.0 (subst (λ (w : ℕ). Contains xs w) (sym (same_Some x z e)) r)) h.1)

pub last_some : (xs : List ℕ) (x : ℕ) → (z : ℕ) × (last_or xs (Some x) ≡ Some z)
last_some [] x = (x, refl)
last_some (y ∷ xs) x = last_some xs y
