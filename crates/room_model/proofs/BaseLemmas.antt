-- What bases have under an id, and that a snapshot brings a base to what the room has.
use Rattle.std.proofs.Common.{◌≡◌, ℕ, nat_lt, ℤ, pos, negsuc, Bool, true, false, ◌&&◌, ◌||◌, cond, not, T, List, [], ◌∷◌, length, map, filter, Option, Some, None, option_map, is_some, refl, sym, ap, subst, ◌∙◌, arith}
use Rattle.std.specs.Option.{option_map_or}
use Rattle.std.proofs.lemmas.Bool.Decides.{nat_tests}
use Rattle.rooms_val.specs.Data.{Data, Pairs}
use Rattle.rooms_val.specs.Maps.{AreRising, value_at}
use Rattle.rooms_val.proofs.MapsLemmas.{at-seen, rising-seen, same_pairs}
use Rattle.field_ops.specs.RecordOps.{RecordOpTree, put, remove}
use Rattle.doc_model.specs.Documents.{step}
use Rattle.doc_model.specs.Inverses.{record_after}
use Rattle.doc_model.proofs.InverseLemmas.{at-step, rising-step}
use Rattle.doc_model.proofs.MergeLemmas.{rising-fold_raw}
use Rattle.room_model.specs.Schemas.{Schemas, AreLawful, Plan, Member, is_own, records_with, doc, pres, seen_along}
use Rattle.room_model.specs.Histories.{History, records_of, oldest, up_to, last_clock, changed_after, start_of}
use Rattle.room_model.specs.Messages.{state_op, changes_after, known_clock, hydration, others_of, document_diff, snapshot_diff}
use Rattle.room_model.specs.Bases.{is_told, whole_for, AgreesUpTo}
use Rattle.room_model.specs.Taking.{after_hydration}
use Rattle.room_model.proofs.ActingLemmas.{differ}
use Rattle.room_model.proofs.LookUpLemmas.{at-filter, rising-filter, at-fold, rising-fold, at-over, rising-over, seen_or, has-filter, has-changed, kept_at}

pub rising-records : (history : History) → AreRising (records_of history)
rising-records [] = tt
rising-records (entry ∷ history) = rising-fold_raw entry.diff (records_of history) (rising-records history)

module _ (schemas : Schemas) where
  module _ (plan : Plan) where
    abbrev lower : Data → Data
    lower d = schemas.lower plan d

    -- some of the records, taken down
    pub at-seen_with : (test : List ℕ → Bool) (m : Pairs) (q : List ℕ) → value_at (seen_along schemas plan (records_with test m)) q ≡ option_map lower (cond (test q) (value_at m q) None)
    at-seen_with test m q = at-seen lower (records_with test m) q ∙ ap (option_map lower) (at-filter test m q)

    pub rising-seen_with : (test : List ℕ → Bool) (m : Pairs) → AreRising m → AreRising (seen_along schemas plan (records_with test m))
    rising-seen_with test m rising = subst T (sym (rising-seen lower (records_with test m))) (rising-filter test m rising)

    pub at-changes : (test : List ℕ → Bool) (clock : ℕ) (history : History) (q : List ℕ) → value_at (changes_after schemas plan test clock history) q ≡ cond (test q && nat_lt clock (last_clock history q)) (Some (state_op schemas plan (records_of history) q)) None
    at-changes test clock history q =
        let ids = map (λ p. p.0) (changed_after clock history) in
        at-fold (state_op schemas plan (records_of history)) (filter test ids) [] q
        ∙ ap (λ b. cond b (Some (state_op schemas plan (records_of history) q)) None) (has-filter test ids q ∙ ap (λ b. test q && b) (has-changed clock history q))

    pub rising-changes : (test : List ℕ → Bool) (clock : ℕ) (history : History) → AreRising (changes_after schemas plan test clock history)
    rising-changes test clock history = rising-fold (state_op schemas plan (records_of history)) (filter test (map (λ p. p.0) (changed_after clock history))) [] tt

    module _ (admits : List ℕ → Data → Bool) where
      -- what records have under an id stands there afterwards, taken down
      pub state_after : (m : Pairs) (q : List ℕ) (r : Option Data) → record_after admits q (Some (state_op schemas plan m q)) r ≡ option_map lower (value_at m q)
      state_after m q r = elim (value_at m q) as (λ o. record_after admits q (Some (option_map_or (λ d. put (lower d)) o remove)) r ≡ option_map lower o) [
        | None ↦ elim r as (λ r. cond (is_some r) None r ≡ None) [ None ↦ refl | Some d ↦ refl ]
        | Some d ↦ refl
      ]

      -- what the document's part of a snapshot makes of an id, and what the others' presence adds
      with_others : (d p own : Bool) (q : List ℕ) (r v : Option Data) (c : Option RecordOpTree) → record_after admits q c r ≡ option_map lower (cond d v None)
          → record_after admits q (seen_or (λ x. put (lower x)) (cond (not own) (cond p v None) None) c) r ≡ option_map lower (cond (d || p && not own) v None)
      with_others true p true q r v c h = h
      with_others true false false q r v c h = h
      with_others true true false q r None c h = h
      with_others true true false q r (Some x) c h = refl
      with_others false true true q r v c h = h
      with_others false false true q r v c h = h
      with_others false false false q r v c h = h
      with_others false true false q r None c h = h
      with_others false true false q r (Some x) c h = refl

  module _ (admits : List ℕ → Data → Bool) (member : Member) (history : History) where
    abbrev m : Pairs
    m = records_of history

    abbrev seen_document : Pairs
    seen_document = seen_along schemas member.plan (doc schemas m)

    -- a snapshot whose part of the document brings some records to the room's document brings them to all that the session is to have
    brought : (known : Option ℕ) (base : Pairs) → AreRising base
        → ((q : List ℕ) → record_after admits q (value_at (document_diff schemas member.plan known history) q) (value_at base q) ≡ value_at seen_document q)
        → AreRising (document_diff schemas member.plan known history)
        → step admits base (snapshot_diff schemas member known history) ≡ whole_for schemas member.plan member.session m
    brought known base rising at rises =
        let document = document_diff schemas member.plan known history in
        let others = others_of schemas member.session m in
        let as_put : Data → RecordOpTree = λ x. put (lower member.plan x) in
        let rising_m = rising-records history in
        let rising_others = rising-filter (λ id. not (is_own member.session id)) (pres schemas m) (rising-filter schemas.is_presence m rising_m) in
        let diff = snapshot_diff schemas member known history in
        let rising_diff = rising-over as_put others document rises in
        same_pairs _ _ (rising-step admits diff base rising) (rising-seen_with member.plan (is_told schemas member.session) m rising_m) (λ q.
        at-step admits diff base q rising_diff
        ∙ ap (λ c. record_after admits q c (value_at base q))
        (at-over as_put others document q rising_others
        ∙ ap (λ o. seen_or as_put o (value_at document q))
        (at-filter (λ id. not (is_own member.session id)) (pres schemas m) q ∙ ap (λ o. cond (not (is_own member.session q)) o None) (at-filter schemas.is_presence m q)))
        ∙ with_others member.plan admits (schemas.is_document q) (schemas.is_presence q) (is_own member.session q) q (value_at base q) (value_at m q) (value_at document q)
        (at q ∙ at-seen_with member.plan schemas.is_document m q)
        ∙ sym (at-seen_with member.plan (is_told schemas member.session) m q))

    -- all records are put over none
    pub wiped_all : (base : Pairs) → after_hydration admits schemas.is_document base (hydration None) (snapshot_diff schemas member None history) ≡ whole_for schemas member.plan member.session m
    wiped_all base =
        let as_put : Data → RecordOpTree = λ x. put (lower member.plan x) in
        let rising_doc = rising-filter schemas.is_document m (rising-records history) in
        brought None [] tt (λ q.
        ap (λ c. record_after admits q c None) (at-over as_put (doc schemas m) [] q rising_doc)
        ∙ elim (value_at (doc schemas m) q) as (λ o. record_after admits q (seen_or as_put o None) None ≡ option_map (lower member.plan) o) [ None ↦ refl | Some d ↦ refl ]
        ∙ sym (at-seen (lower member.plan) (doc schemas m) q))
        (rising-over as_put (doc schemas m) [] tt)

    -- what changed since is put over a base's document that has the rest
    pub wiped_presence : (clock : ℕ) (base : Pairs) → AreRising (records_with schemas.is_document base) → AgreesUpTo schemas member.plan clock history base
        → after_hydration admits schemas.is_document base (hydration (Some clock)) (snapshot_diff schemas member (Some clock) history) ≡ whole_for schemas member.plan member.session m
    wiped_presence clock base rising agrees =
        let plan = member.plan in
        brought (Some clock) (records_with schemas.is_document base) rising (λ q.
        (λ i. record_after admits q (at-changes plan schemas.is_document clock history q i) (at-filter schemas.is_document base q i))
        ∙ elim (schemas.is_document q) as (λ d. schemas.is_document q ≡ d
        → record_after admits q (cond (d && nat_lt clock (last_clock history q)) (Some (state_op schemas plan m q)) None) (cond d (value_at base q) None) ≡ value_at seen_document q) [
          | true ↦ λ is. elim (nat_lt clock (last_clock history q)) as (λ b. nat_lt clock (last_clock history q) ≡ b
              → record_after admits q (cond b (Some (state_op schemas plan m q)) None) (value_at base q) ≡ value_at seen_document q) [
                | true ↦ λ later. state_after plan admits m q (value_at base q) ∙ ap (λ d. option_map (lower plan) (cond d (value_at m q) None)) (sym is) ∙ sym (at-seen_with plan schemas.is_document m q)
                | false ↦ λ before. agrees q is (grind (arith, nat_tests))
              ] refl
          | false ↦ λ is. ap (λ d. option_map (lower plan) (cond d (value_at m q) None)) (sym is) ∙ sym (at-seen_with plan schemas.is_document m q)
        ] refl)
        (rising-changes plan schemas.is_document clock history)

  -- the document of a room at a clock agrees with the room
  pub oldest_agrees : (plan : Plan) (clock : ℕ) (history : History) (base : Pairs)
      → records_with schemas.is_document base ≡ seen_along schemas plan (doc schemas (records_of (oldest clock history))) → AgreesUpTo schemas plan clock history base
  oldest_agrees plan clock history base is = λ id document within.
      sym (ap (λ d. cond d (value_at base id) None) document) ∙ sym (at-filter schemas.is_document base id)
      ∙ ap (λ ps. value_at ps id) is
      ∙ at-seen_with plan schemas.is_document (records_of (oldest clock history)) id
      ∙ ap (λ o. option_map (lower plan) (cond (schemas.is_document id) o None)) (kept_at clock history id within)
      ∙ sym (at-seen_with plan schemas.is_document (records_of history) id)

  -- a snapshot brings a base with the room's document at the clock that was reached to what the room has
  pub hydrated : (admits : List ℕ → Data → Bool) (member : Member) (reached : ℤ) (first : ℕ) (history : History) (base : Pairs)
      → records_with schemas.is_document base ≡ seen_along schemas member.plan (doc schemas (records_of (up_to reached history)))
      → let known = known_clock reached (start_of first history) (length history) in
      after_hydration admits schemas.is_document base (hydration known) (snapshot_diff schemas member known history) ≡ whole_for schemas member.plan member.session (records_of history)
  hydrated admits member (negsuc n) first history base is = wiped_all admits member history base
  hydrated admits member (pos clock) first history base is =
      elim (nat_lt clock (start_of first history) || nat_lt (length history) clock) as (λ b. let known = cond b None (Some clock) in
      after_hydration admits schemas.is_document base (hydration known) (snapshot_diff schemas member known history) ≡ whole_for schemas member.plan member.session (records_of history)) [
        | true ↦ wiped_all admits member history base
        | false ↦ wiped_presence admits member history clock base
            (subst AreRising (sym is) (rising-seen_with member.plan schemas.is_document (records_of (oldest clock history)) (rising-records (oldest clock history))))
            (oldest_agrees member.plan clock history base is)
      ]

  -- the parts of the base of who was told everything
  module _ (lawful : AreLawful schemas) where
    document_in : (d p own : Bool) (f : Data → Data) (v : Option Data) → cond d (option_map f (cond (d || p && not own) v None)) None ≡ option_map f (cond d v None)
    document_in true p own f v = refl
    document_in false p own f v = refl

    presence_in : (d p own : Bool) (f : Data → Data) (v : Option Data) → (d ≡ true → p ≡ false) → cond p (option_map f (cond (d || p && not own) v None)) None ≡ option_map f (cond (not own) (cond p v None) None)
    presence_in true true own f v apart = absurd (differ (apart refl))
    presence_in true false true f v apart = refl
    presence_in true false false f v apart = refl
    presence_in false true true f v apart = refl
    presence_in false true false f v apart = refl
    presence_in false false true f v apart = refl
    presence_in false false false f v apart = refl

    module _ (plan : Plan) (session : ℕ) (m : Pairs) (rising : AreRising m) where
      rising_whole : AreRising (whole_for schemas plan session m)
      rising_whole = rising-seen_with plan (is_told schemas session) m rising

      pub whole_document : doc schemas (whole_for schemas plan session m) ≡ seen_along schemas plan (doc schemas m)
      whole_document = same_pairs _ _ (rising-filter schemas.is_document (whole_for schemas plan session m) rising_whole) (rising-seen_with plan schemas.is_document m rising) (λ q.
          at-filter schemas.is_document (whole_for schemas plan session m) q
          ∙ ap (λ o. cond (schemas.is_document q) o None) (at-seen_with plan (is_told schemas session) m q)
          ∙ document_in (schemas.is_document q) (schemas.is_presence q) (is_own session q) (lower plan) (value_at m q)
          ∙ sym (at-seen_with plan schemas.is_document m q))

      pub whole_presence : pres schemas (whole_for schemas plan session m) ≡ seen_along schemas plan (others_of schemas session m)
      whole_presence =
          let others = others_of schemas session m in
          let rising_others = rising-filter (λ id. not (is_own session id)) (pres schemas m) (rising-filter schemas.is_presence m rising) in
          same_pairs _ _ (rising-filter schemas.is_presence (whole_for schemas plan session m) rising_whole) (subst T (sym (rising-seen (lower plan) others)) rising_others) (λ q.
          at-filter schemas.is_presence (whole_for schemas plan session m) q
          ∙ ap (λ o. cond (schemas.is_presence q) o None) (at-seen_with plan (is_told schemas session) m q)
          ∙ presence_in (schemas.is_document q) (schemas.is_presence q) (is_own session q) (lower plan) (value_at m q) (lawful.apart q)
          ∙ ap (option_map (lower plan)) (sym (at-filter (λ id. not (is_own session id)) (pres schemas m) q ∙ ap (λ o. cond (not (is_own session q)) o None) (at-filter schemas.is_presence m q)))
          ∙ sym (at-seen (lower plan) others q))
