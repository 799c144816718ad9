-- What the watches of a store have to tell is what those of a client have.
use Rattle.std.proofs.Common.{◌≡◌, ◌≢◌, ℕ, zero, suc, ◌+◌, List, [], ◌∷◌, ◌++◌, true, false, Option, Some, None, option_map, map, is_eq, cond, refl, sym, ap, subst, ◌∙◌, eqb-true, eq-eqb}
use Rattle.std.specs.Prelude.{slice_index_or, nat_eq, IfSome, if◌then◌else◌}
use Rattle.shape_tree.specs.declared.view.View.{View}
use Rattle.std.specs.Cmp.{tied_itself}
use Rattle.std.specs.Option.{option_map_or}
use Rattle.rooms_val.proofs.Truths.{not_so, is_Equal}
use Rattle.rooms_val.specs.Data.{Data, Pairs}
use Rattle.rooms_val.specs.Order.{data_cmp}
use Rattle.rooms_val.specs.OrderLaws.{same_data, data_total}
use Rattle.shape_tree.specs.Queries.{is_same}
use Rattle.shape_tree.specs.Views.{told}
use Rattle.signal_core.specs.News.{numbered}
use Rattle.signal_core.specs.Watches.{watch_at, AddsWatch}
use Rattle.signal_core.specs.declared.watch.Watch.{Watch}
use Rattle.signal_core.specs.declared.watch.WatchId.{WatchId}
use Rattle.tl_rules.specs.declared.key.TlKey.{TlKey}
use Rattle.tl_rules.specs.declared.value.TlValue.{TlValue}
use Rattle.record_store.specs.Calls.{IsPlainNews}
use Rattle.record_store.specs.Plain.{plain}
use Rattle.live_views.specs.Telling.{key_of, told_of, as_told, Answers}
use Rattle.live_views.specs.Watches.{Watched, Watches, told_now, is_told, news_of, news_from, all_told, StandsFor, Stand, IsWatching}
use Rattle.live_views.proofs.TellingLemmas.{answers, told_is, same_answer}

-- what is told of a watch, or nothing, agrees with what a client's watch has to tell
abbrev pub Agrees : Pairs → Option TlValue → Option Watched → Type 0
Agrees m news None = news ≡ None
Agrees m None (Some w) = is_told m w ≡ true
Agrees m (Some v) (Some w) = (told_of v ≡ told m w.view) × (is_told m w ≡ false)

same_from_test : (d e : Data) → is_same d e ≡ true → d ≡ e
same_from_test d e is = same_data d e (is_Equal (data_cmp d e) is)

test_itself : (d : Data) → is_same d d ≡ true
test_itself d = ap is_eq (tied_itself data_total d)

not_told : (m : Pairs) (w : Watched) (v : Option TlValue) (x : TlValue) → option_map told_of v ≡ w.told → IfSome v (Answers w.view) → x ≡ plain m (key_of w.view) → v ≢ Some x → is_told m w ≡ false
not_told m w None x told_eq ok is differs = ap (λ o. option_map_or (λ d. is_same d (told m w.view)) o false) (sym told_eq)
not_told m w (Some u) x told_eq ok is differs =
    ap (λ o. option_map_or (λ d. is_same d (told m w.view)) o false) (sym told_eq)
    ∙ not_so (is_same (told_of u) (told m w.view)) (λ test.
    let alike = same_from_test (told_of u) (told m w.view) test ∙ sym (ap told_of is ∙ told_is m w.view) in
    differs (ap Some (same_answer w.view u x ok (subst (Answers w.view) (sym is) (answers m w.view)) alike)))

pub agrees : (m : Pairs) (slot : Option (Watch TlKey TlValue)) (news : Option TlValue) (w : Option Watched) → IsPlainNews m slot news → StandsFor slot w → Agrees m news w
agrees m slot news None is stands = subst (λ s. IsPlainNews m s news) stands is
agrees m slot None (Some w) is stands =
    let was = subst (λ s. IsPlainNews m s None) stands.1 is in
    ap (λ o. option_map_or (λ d. is_same d (told m w.view)) o false) (sym stands.2 ∙ ap (option_map told_of) was ∙ ap Some (told_is m w.view)) ∙ test_itself (told m w.view)
agrees m slot (Some x) (Some w) is stands =
    let now = subst (λ s. IsPlainNews m s (Some x)) stands.1 is in
    (ap told_of now.0 ∙ told_is m w.view, not_told m w stands.0 x stands.2 stands.3 now.0 now.1)

quiet : (m : Pairs) (n : ℕ) (w : Watched) → is_told m w ≡ true → news_of m n (Some w) ≡ []
quiet m n w is = ap (λ b. if b then [] else ((n, told m w.view) ∷ [])) is

loud : (m : Pairs) (n : ℕ) (w : Watched) → is_told m w ≡ false → news_of m n (Some w) ≡ (n, told m w.view) ∷ []
loud m n w is = ap (λ b. if b then [] else ((n, told m w.view) ∷ [])) is

pub listed : (m : Pairs) (n : ℕ) (news : List (Option TlValue)) (ws : Watches) → ((k : ℕ) → Agrees m (slice_index_or news k None) (slice_index_or ws k None)) → as_told (numbered n news) ≡ news_from m n ws
listed m n [] [] h = refl
listed m n [] (None ∷ ws) h = listed m (n + 1) [] ws (λ k. h (suc k))
listed m n [] (Some w ∷ ws) h = listed m (n + 1) [] ws (λ k. h (suc k)) ∙ ap (λ l. l ++ news_from m (n + 1) ws) (sym (quiet m n w (h 0)))
listed m n (None ∷ news) [] h = listed m (n + 1) news [] (λ k. h (suc k))
listed m n (Some v ∷ news) [] h = cc (h 0)
listed m n (None ∷ news) (None ∷ ws) h = listed m (n + 1) news ws (λ k. h (suc k))
listed m n (None ∷ news) (Some w ∷ ws) h = listed m (n + 1) news ws (λ k. h (suc k)) ∙ ap (λ l. l ++ news_from m (n + 1) ws) (sym (quiet m n w (h 0)))
listed m n (Some v ∷ news) (None ∷ ws) h = cc (h 0)
listed m n (Some v ∷ news) (Some w ∷ ws) h =
    (λ i. (n, (h 0).0 i) ∷ listed m (n + 1) news ws (λ k. h (suc k)) i) ∙ ap (λ l. l ++ news_from m (n + 1) ws) (sym (loud m n w (h 0).1))

-- a watch of a store once its plain answer was told
abbrev pub told_watch : Pairs → Watch TlKey TlValue → Watch TlKey TlValue
told_watch m watch = record watch { told = Some (plain m watch.key) }

one_told : (m : Pairs) (slot : Option (Watch TlKey TlValue)) (w : Option Watched) → StandsFor slot w → StandsFor (option_map (told_watch m) slot) (option_map (told_now m) w)
one_told m slot None stands = ap (option_map (told_watch m)) stands
one_told m slot (Some w) stands =
    (Some (plain m (key_of w.view)), ap (option_map (told_watch m)) stands.1, ap Some (told_is m w.view), answers m w.view)

at_all : (f : Watched → Watched) (ws : Watches) (n : ℕ) → slice_index_or (map (option_map f) ws) n None ≡ option_map f (slice_index_or ws n None)
at_all f [] n = refl
at_all f (w ∷ ws) zero = refl
at_all f (w ∷ ws) (suc n) = at_all f ws n

pub stands_told : (m : Pairs) (old new : List (Option (Watch TlKey TlValue))) (ws : Watches) → ((number : ℕ) → watch_at new number ≡ option_map (told_watch m) (watch_at old number)) → Stand old ws → Stand new (all_told m ws)
stands_told m old new ws is stand number =
    subst (StandsFor (watch_at new number)) (sym (at_all (told_now m) ws number))
    (subst (λ s. StandsFor s (option_map (told_now m) (slice_index_or ws number None))) (sym (is number)) (one_told m (watch_at old number) (slice_index_or ws number None) (stand number)))
