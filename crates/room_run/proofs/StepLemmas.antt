-- Each kind of step keeps the rule of a running room's table.
use Rattle.std.proofs.Common.{◌≡◌, ◌≢◌, ◌⊎◌, ℕ, ◌+◌, ◌%◌, ◌^◌, ◌<◌, eqb, true, false, true≢false, List, [], ◌∷◌, ◌++◌, length, drop, set, get_or, Option, Some, None, refl, sym, ap, ◌∙◌, subst, inl, inr, ⊎_elim, arith, append-nil, length-append, mod-eq_of_lt}
use mathlib.Core.List.{IsPrefix}
use mathlib.Core.Logic.{dite}
use mathlib.Core.Option.{some, none, some-injective, some-ne-none}
use native.Mathlib.Decide.{ℕ_discrete}
use lib.ListN.{get_elem?}
use lib.Seq.{set-get_or, drop-append_seam}
use prog.Atomic.{either}
use Rattle.atomic_table.specs.Table.{Act, keeps, takes, gives, step, stepped, rest, put_back, carried_after, Valid, Allows, Enters, Joins, opening as begun}
use Rattle.atomic_table.proofs.Lists.{at_set, at_longer, set_else, set_again, exchanged}
use Rattle.room_events.specs.declared.room_event.RoomEvent.{RoomEvent}
use Rattle.room_run.specs.Openings.{Opening}
use Rattle.room_run.specs.Rule.{Board, story, newcomer, IsNobodysTurn, IsSomeonesTurn, Fits, AllFit, Kept}
use Rattle.room_run.specs.Steps.{Seated, sat, seeing, HasTaken, took, pen_in, grown, appended, without_turn, gave, noted, spent, learned}
use Rattle.room_run.specs.Turn.{IsOwn, Added}
use Rattle.room_run.specs.declared.views.Note.{Note}
use Rattle.room_run.specs.declared.views.Story.{Story}
use Rattle.room_run.specs.declared.views.View.{View}
use Rattle.room_run.proofs.PlaceLemmas.{each, set_at, each_push}
use Rattle.room_run.proofs.FitLemmas.{comes, changes, adds, takes_in}
use Rattle.rooms_val.proofs.Truths.{not_so}

abbrev Slots : Type 0
Slots = List (ℕ × Option Story)

-- each view that is of some room is of this one
abbrev AreOurs : Opening → List View → Type 0
AreOurs opening views = (k : ℕ) (v : View) → get_elem? views k ≡ some v → (other : Opening) → v.opening ≡ Some other → other ≡ opening

no_place : (v : View) (k : ℕ) → get_elem? [] k ≡ some v → ⊥
no_place v k e = some-ne-none v (sym e)

nobody_fits : AllFit [] []
nobody_fits = record {
  fits = λ k v e. absurd (no_place v k e);
  apart = λ j k n v w e _ _ _. absurd (no_place v j e);
  noted = λ k v e i note _. absurd (no_place v k e);
  notes_apart = λ k v e. absurd (no_place v k e);
}

pub same_snapshot : (a b : Opening) → a.value ≡ b.value → a ≡ b
same_snapshot a b p = λ i. record { marker = a.marker; value = p i }

same_opening : (o p : Opening) → Some o ≡ Some p → p ≡ o
same_opening o p e = cc

-- a view that has grown by one event
pub grown_by : (v w : View) (pen : List RoomEvent) (e : RoomEvent) → w ≡ grown v pen → pen ≡ v.seen ++ e ∷ [] → Added v w (e ∷ [])
grown_by v w pen e is longer = (
  ap (λ (u : View). u.opening) is,
  ap (λ (u : View). u.seen) is ∙ longer,
  ap (λ (u : View). u.mine) is ∙ ap (λ l. v.mine ++ l) (ap (drop (length v.seen)) longer ∙ drop-append_seam v.seen (e ∷ [])),
)

-- the seat at a place has the turn
record IsTurnOf (s : Board) (pen : List RoomEvent) (id : ℕ) (v : View) : Type 0 where
  words : s.words ≡ length pen ∷ 1 ∷ []
  home : s.homes ≡ none ∷ []
  seen : v.seen ≡ pen
  alone : (k : ℕ) (u : View) → get_elem? s.views k ≡ some u → u.turn ≡ true → k ≡ id

module _ (opening : Opening) where
  abbrev IsTurn : Board → List RoomEvent → Type 0
  IsTurn s pen = IsNobodysTurn opening s pen ⊎ IsSomeonesTurn s pen

  -- a step that changes no word and no view
  unmoved : (s : Board) → Kept opening s → (id : ℕ) (v : View) → get_elem? s.views id ≡ some v → (i : ℕ) (c : Slots) → Kept opening (stepped s i (get_or s.words i 0) id c v keeps)
  unmoved s kept id v at i c = subst (Kept opening) (λ k. record { words = sym (set-get_or s.words i 0) k; homes = s.homes; views = sym (set_again s.views id v at) k }) kept

  pub opens : Kept opening (begun (0 ∷ 0 ∷ []) (Some (story opening []) ∷ []) (newcomer opening))
  opens = record {
    pen = [];
    turn = inl (record { words = refl; home = refl; nobody = each_push (λ k v. v.turn ≡ false) [] (newcomer opening) (λ k v e. absurd (no_place v k e)) (λ k. refl) });
    views = comes [] [] nobody_fits opening;
    ours = each_push (λ k v. (other : Opening) → v.opening ≡ Some other → other ≡ opening) [] (newcomer opening) (λ k v e. absurd (no_place v k e)) (λ k other is. same_opening opening other is);
  }

  turn_comes : (s : Board) (pen : List RoomEvent) → IsTurn s pen → IsTurn (record { words = s.words; homes = s.homes; views = s.views ++ newcomer opening ∷ [] }) pen
  turn_comes s pen turn =
      let first : View = newcomer opening in
      ⊎_elim
      (λ (free : IsNobodysTurn opening s pen). inl (record {
        words = free.words;
        home = free.home;
        nobody = each_push (λ k v. v.turn ≡ false) s.views first free.nobody (λ k. refl);
      }))
      (λ (one : IsSomeonesTurn s pen). inr (record {
        words = one.words;
        home = one.home;
        whose = one.whose;
        has_turn = (one.has_turn.0, at_longer s.views (first ∷ []) one.whose one.has_turn.0 one.has_turn.1, one.has_turn.2, one.has_turn.3);
        alone = each_push (λ k v. v.turn ≡ true → k ≡ one.whose) s.views first one.alone (λ k is. absurd (true≢false (sym is)));
      }))
      turn

  pub sits : (slots : ℕ) → Enters (Kept opening) slots 0 (λ n w. sat (step slots 0 0 0 none) (newcomer opening, []) n (w, []))
  sits slots s kept _ _ = (
    newcomer opening,
    record {
      pen = kept.pen;
      turn = turn_comes s kept.pen kept.turn;
      views = comes kept.pen s.views kept.views opening;
      ours = each_push (λ k v. (other : Opening) → v.opening ≡ Some other → other ≡ opening) s.views (newcomer opening) kept.ours (λ k other is. same_opening opening other is);
    },
    refl,
  )

  whose_turn : (s : Board) (kept : Kept opening s) (id : ℕ) (v : View) → get_elem? s.views id ≡ some v → v.turn ≡ true → IsTurnOf s kept.pen id v
  whose_turn s kept id v at turn = ⊎_elim
      (λ (free : IsNobodysTurn opening s kept.pen). absurd (true≢false (sym turn ∙ free.nobody id v at)))
      (λ (one : IsSomeonesTurn s kept.pen).
      let same : id ≡ one.whose = one.alone id v at turn in
      let is : v ≡ one.has_turn.0 = some-injective v one.has_turn.0 (sym at ∙ (ap (get_elem? s.views) same ∙ one.has_turn.1)) in
      record { words = one.words; home = one.home; seen = ap (λ (u : View). u.seen) is ∙ one.has_turn.3; alone = λ k u e t. one.alone k u e t ∙ sym same })
      kept.turn

  -- a view that is of the same room as one that stood there
  still_ours : (s : Board) (kept : Kept opening s) (id : ℕ) (v w : View) → get_elem? s.views id ≡ some v → w.opening ≡ v.opening → AreOurs opening (set s.views id w)
  still_ours s kept id v w at same = each (λ k u. (other : Opening) → u.opening ≡ Some other → other ≡ opening) s.views id w
      (λ k u _ e. kept.ours k u e) (λ other is. kept.ours id v at other (sym same ∙ is))

  pub takes_turn : (slots id : ℕ) (me : Seated) → me.1 ≡ [] → Allows (Kept opening) slots id me 1 (λ n. either (eqb n 0) 1 n) (took (step slots 1 0 1 none) me)
  takes_turn slots id me idle s kept _ at _ =
      let found : ℕ = get_or s.words 1 0 in
      let pen : List RoomEvent = kept.pen in
      let w : View = seeing true pen me.0 in
      exchanged found 0 1
      (λ m. (w : View) × (a : Act (Option Story)) × Valid s.homes me.1 a × Kept opening (stepped s 1 m id me.1 w a) × took (step slots 1 0 1 none) me found (w, carried_after me.1 a))
      (λ hit. ⊎_elim
      (λ (free : IsNobodysTurn opening s pen). (
        w,
        takes 0 (Some (story opening pen)),
        ap (λ hs. get_elem? hs 0) free.home,
        record {
          pen = pen;
          turn = inr (record {
            words = ap (λ ws. set ws 1 1) free.words;
            home = ap (λ hs. set hs 0 none) free.home;
            whose = id;
            has_turn = (w, set_at s.views id me.0 w at, refl, refl);
            alone = each (λ k u. u.turn ≡ true → k ≡ id) s.views id w (λ k u _ e is. absurd (true≢false (sym is ∙ free.nobody k u e))) (λ _. refl);
          });
          views = changes pen s.views kept.views id me.0 at true pen ([], append-nil pen);
          ours = still_ours s kept id me.0 w at refl;
        },
        (
          λ _. record {
            view = refl;
            slot = λ other is. let same : opening ≡ other = sym (kept.ours id me.0 at other is) in (λ i. (0, Some (story (same i) pen)) ∷ idle i);
            fits = kept.views.fits id me.0 at;
          },
          λ lost. absurd (lost hit),
        ),
      ))
      (λ (one : IsSomeonesTurn s pen). let is : found ≡ 1 = ap (λ ws. get_or ws 1 0) one.words in absurd (omega (arith, hit, is)))
      kept.turn)
      (λ miss. (me.0, keeps, tt, unmoved s kept id me.0 at 1 me.1, (λ is. absurd (miss is), λ _. refl)))

  pub appends : (slots id : ℕ) (me : Seated) (e : RoomEvent) (next : Story) → me.0.turn ≡ true → me.1 ≡ (0, Some next) ∷ [] → next.pen ≡ me.0.seen ++ e ∷ []
      → IsOwn me.0.seen me.0.mine e → length me.0.seen + 1 < 2 ^ 64 → Allows (Kept opening) slots id me 0 (λ n. (n + 1) % 2 ^ 64) (appended (step slots 0 1 0 none) me)
  appends slots id me e next turn slot longer own fits s kept _ at _ =
      let t = whose_turn s kept id me.0 at turn in
      let pen : List RoomEvent = kept.pen in
      let found : ℕ = get_or s.words 0 0 in
      let put : pen_in me.1 ≡ me.0.seen ++ e ∷ [] = ap pen_in slot ∙ longer in
      let new : drop (length me.0.seen) (pen_in me.1) ≡ e ∷ [] = ap (drop (length me.0.seen)) put ∙ drop-append_seam me.0.seen (e ∷ []) in
      let w : View = record { opening = me.0.opening; turn = me.0.turn; seen = pen ++ e ∷ []; mine = me.0.mine ++ e ∷ []; notes = me.0.notes } in
      let all : pen_in me.1 ≡ pen ++ e ∷ [] = put ∙ ap (λ l. l ++ e ∷ []) t.seen in
      let is : grown me.0 (pen_in me.1) ≡ w = λ k. record { opening = me.0.opening; turn = me.0.turn; seen = all k; mine = me.0.mine ++ new k; notes = me.0.notes } in
      let counted : found ≡ length pen = ap (λ ws. get_or ws 0 0) t.words in
      let long : length me.0.seen ≡ length pen = ap length t.seen in
      let less : found + 1 < 2 ^ 64 = omega (arith, counted, long, fits) in
      let next : (found + 1) % 2 ^ 64 ≡ length (pen ++ e ∷ []) = mod-eq_of_lt less ∙ omega (arith, counted, length-append pen (e ∷ [])) in
      let kept' : Kept opening (stepped s 0 ((found + 1) % 2 ^ 64) id me.1 w keeps) = record {
        pen = pen ++ e ∷ [];
        turn = inr (record {
          words = ap (λ ws. set ws 0 ((found + 1) % 2 ^ 64)) t.words ∙ ap (λ n. n ∷ 1 ∷ []) next;
          home = t.home;
          whose = id;
          has_turn = (w, set_at s.views id me.0 w at, turn, refl);
          alone = each (λ k u. u.turn ≡ true → k ≡ id) s.views id w (λ k u _ at' is. t.alone k u at' is) (λ _. refl);
        });
        views = adds pen s.views kept.views id me.0 at e (subst (λ l. IsOwn l me.0.mine e) t.seen own);
        ours = still_ours s kept id me.0 w at refl;
      } in
      (grown me.0 (pen_in me.1), keeps, tt, subst (λ (v : View). Kept opening (stepped s 0 ((found + 1) % 2 ^ 64) id me.1 v keeps)) (sym is) kept', refl)

  pub gives_turn : (slots id : ℕ) (me : Seated) (now : Story) → me.0.turn ≡ true → me.1 ≡ (0, Some now) ∷ [] → me.0.seen ≡ now.pen → me.0.opening ≡ Some now.opening
      → Allows (Kept opening) slots id me 1 (λ _. 0) (gave (step slots 1 0 0 none) me)
  gives_turn slots id me now turn slot seen ours s kept _ at _ =
      let t = whose_turn s kept id me.0 at turn in
      let w : View = without_turn me.0 in
      let of_us : now.opening ≡ opening = kept.ours id me.0 at now.opening ours in
      let whole : now.pen ≡ kept.pen = sym seen ∙ t.seen in
      let is : now ≡ story opening kept.pen = λ i. story (of_us i) (whole i) in (
        w,
        gives,
        tt,
        record {
          pen = kept.pen;
          turn = inl (record {
            words = ap (λ ws. set ws 1 0) t.words;
            home = ap (put_back s.homes) slot ∙ (ap (λ hs. set hs 0 (some (Some now))) t.home ∙ ap (λ x. some (Some x) ∷ []) is);
            nobody = each (λ k u. u.turn ≡ false) s.views id w (λ k u other e. not_so u.turn (λ is. other (t.alone k u e is))) refl;
          });
          views = changes kept.pen s.views kept.views id me.0 at false me.0.seen (kept.views.fits id me.0 at).begins;
          ours = still_ours s kept id me.0 w at refl;
        },
        ap (λ c. (w, rest c)) slot,
      )

  pub learns : (slots id : ℕ) (me : Seated) → me.0.turn ≡ true → Allows (Kept opening) slots id me 0 (λ n. n) (learned (step slots 0 0 0 none) me)
  learns slots id me turn s kept _ at _ =
      let t = whose_turn s kept id me.0 at turn in (
        me.0,
        keeps,
        tt,
        unmoved s kept id me.0 at 0 me.1,
        (
          refl,
          λ i note e. subst (λ l. Fits l note.seen note.mine) (sym t.seen) (kept.views.noted id me.0 at i note e).fits,
          kept.views.notes_apart id me.0 at,
        ),
      )

  module _ (s : Board) (pen : List RoomEvent) (id : ℕ) (v : View) (other : ℕ) (w : View) where
    abbrev joined : List View
    joined = set (set s.views id (noted v w)) other spent

    abbrev after : Board
    after = record { words = s.words; homes = s.homes; views = joined }

    -- each view is an old one's, the one with a note more, or spent
    each_joined : (P : ℕ → View → Type 0) → ((k : ℕ) (u : View) → get_elem? s.views k ≡ some u → P k u) → P id (noted v w) → P other spent
        → (k : ℕ) (u : View) → get_elem? joined k ≡ some u → P k u
    each_joined P all here new k u e = each P (set s.views id (noted v w)) other spent
        (λ k u _ e. each P s.views id (noted v w) (λ k u _ e. all k u e) here k u e) new k u e

    turn_joins : get_elem? s.views id ≡ some v → get_elem? s.views other ≡ some w → w.turn ≡ false → IsTurn s pen → IsTurn after pen
    turn_joins at there off turn = ⊎_elim
        (λ (free : IsNobodysTurn opening s pen). inl (record {
          words = free.words;
          home = free.home;
          nobody = each_joined (λ k u. u.turn ≡ false) free.nobody (free.nobody id v at) refl;
        }))
        (λ (one : IsSomeonesTurn s pen).
        let x : View = one.has_turn.0 in
        let stays : one.whose ≢ other = λ is.
        let same : x ≡ w = some-injective x w (sym one.has_turn.1 ∙ (ap (get_elem? s.views) is ∙ there)) in
        true≢false (sym one.has_turn.2 ∙ (ap (λ (u : View). u.turn) same ∙ off)) in
        let past : get_elem? joined one.whose ≡ get_elem? (set s.views id (noted v w)) one.whose = set_else (set s.views id (noted v w)) other one.whose spent stays in
        inr (record {
          words = one.words;
          home = one.home;
          whose = one.whose;
          has_turn = dite (ℕ_discrete one.whose id)
              (λ is.
              let same : x ≡ v = some-injective x v (sym one.has_turn.1 ∙ (ap (get_elem? s.views) is ∙ at)) in (
                noted v w,
                past ∙ (ap (get_elem? (set s.views id (noted v w))) is ∙ set_at s.views id v (noted v w) at),
                sym (ap (λ (u : View). u.turn) same) ∙ one.has_turn.2,
                sym (ap (λ (u : View). u.seen) same) ∙ one.has_turn.3,
              ))
              (λ apart. (x, past ∙ (set_else s.views id one.whose (noted v w) apart ∙ one.has_turn.1), one.has_turn.2, one.has_turn.3));
          alone = each_joined (λ k u. u.turn ≡ true → k ≡ one.whose) one.alone (one.alone id v at) (λ is. absurd (true≢false (sym is)));
        }))
        turn

  no_opening : (o : Opening) → None ≡ Some o → ⊥
  no_opening o e = cc

  pub joins : (id : ℕ) (v : View) (other : ℕ) (w : View) → w.turn ≡ false → Joins (Kept opening) id v other w (noted v w) spent
  joins id v other w off s kept at apart there =
      let was : get_elem? s.views other ≡ some w = ⊎_elim
      (λ (t : (other ≡ id) × (noted v w ≡ w)). absurd (apart t.0))
      (λ (t : (other ≢ id) × (get_elem? s.views other ≡ some w)). t.1)
      (at_set s.views id other (noted v w) w there) in
      record {
        pen = kept.pen;
        turn = turn_joins s kept.pen id v other w at was off kept.turn;
        views = takes_in kept.pen s.views kept.views id v at other w apart was;
        ours = each_joined s kept.pen id v other w (λ k u. (o : Opening) → u.opening ≡ Some o → o ≡ opening) kept.ours (kept.ours id v at)
            (λ o is. absurd (no_opening o is));
      }
