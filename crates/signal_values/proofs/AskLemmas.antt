-- A run, answer by answer.
use Rattle.std.proofs.Common.{◌≡◌, ℕ, suc, ◌-◌, ◌<◌, ◌≤◌, inl, inr, Bool, List, [], ◌∷◌, ◌++◌, length, Some, Contains, refl, sym, ◌∙◌, ap, subst, arith, length-append}
use Rattle.std.specs.List.{slice_get}
use Rattle.std.proofs.Math.Nat.{eq-or-lt_of_le}
use Rattle.std.proofs.lemmas.Bool.{cases_lt}
use Rattle.std.proofs.lemmas.List.Elements.{Contains-append_left, Contains-push_cases, Contains-push}
use Rattle.signal_rules.specs.declared.rules.Ask.{Ask}
use Rattle.signal_rules.specs.declared.rules.Ask.TheVariants.{Need, Done}
use Rattle.signal_rules.specs.Meaning.{Meaning, IsLawful, IsDone, limit}
use Rattle.signal_rules.specs.Values.{HasValue, HasAsked, Meets}
use Rattle.signal_rules.specs.Values.HasValue.{ran}
use Rattle.signal_rules.specs.Values.HasAsked.{start, next}
use Rattle.signal_rules.specs.Values.Meets.{itself, through}
use Rattle.signal_rules.proofs.ValueLemmas.{answers_same, asked_before}
use Rattle.signal_values.specs.declared.cells.Row.{Row}
use Rattle.signal_values.specs.Cells.{IsFresh, Serves, IsPassed, IsGraph}
use Rattle.signal_values.specs.Kept.{HasRun}
use Rattle.signal_values.proofs.GraphLemmas.{KeepsFresh, serves_kept}

-- a parent answers for the key
pub record IsAnswered {K V : Type 0} (rows : List (Row K V)) (parents : List ℕ) (needed : K) : Type 0 where
  pub parent : ℕ
  pub has : Contains parents parent
  pub row : Row K V
  pub at : slice_get rows parent ≡ Some row
  pub is : row.key ≡ needed

-- a run so far: its answers, each of a parent
pub record IsAsking {K V : Type 0} (m : Meaning K V) (atoms : K → V) (rows : List (Row K V)) (fresh : List Bool) (key : K) (got : List V) (parents : List ℕ) : Type 0 where
  pub asked : HasAsked m atoms key got
  pub answered : (before : List V) (needed : K) → HasAsked m atoms key before → length before < length got → m.ask key before ≡ Need needed → IsAnswered rows parents needed
  pub served : (p : ℕ) → Contains parents p → Serves m atoms rows fresh p key

pub asking_start : {K V : Type 0} (m : Meaning K V) (atoms : K → V) (rows : List (Row K V)) (fresh : List Bool) (key : K) (got : List V) (parents : List ℕ) → got ≡ [] → parents ≡ [] → IsAsking m atoms rows fresh key got parents
asking_start m atoms rows fresh key got parents ge pe = record {
  asked = start key got ge;
  answered = λ before needed asked less is. absurd (omega (arith, less, ap length ge));
  served = λ p h. absurd (omega (arith, h.1, ap length pe));
}

pub asking_more : {K V : Type 0} (m : Meaning K V) (atoms : K → V) → IsLawful m → (rows : List (Row K V)) (fresh : List Bool) (after : List (Row K V)) (now : List Bool) (lists : List (List ℕ)) (key needed : K) (got more : List V) (parents others : List ℕ) (p : ℕ) (row : Row K V)
    → 0 < m.rank key → IsAsking m atoms rows fresh key got parents → m.ask key got ≡ Need needed → KeepsFresh rows fresh after now → IsGraph m atoms after now lists
    → slice_get after p ≡ Some row → row.key ≡ needed → IsFresh now p → more ≡ got ++ row.value ∷ [] → others ≡ parents ++ p ∷ [] → IsAsking m atoms after now key more others
asking_more {K} {V} m atoms law rows fresh after now lists key needed got more parents others p row above run is keeps g at key_is ready me oe =
    let long : length more ≡ suc (length got) = omega (arith, ap length me, length-append got (row.value ∷ [])) in
    let value : HasValue m atoms needed row.value = subst (λ (k : K). HasValue m atoms k row.value) key_is (g.current p row at ready).value in
    let keep_in : (q : ℕ) → Contains parents q → Contains others q = λ q h. subst (λ (ps : List ℕ). Contains ps q) (sym oe) (Contains-append_left parents (p ∷ []) q h) in
    let last_in : Contains others p = subst (λ (ps : List ℕ). Contains ps p) (sym oe) (Contains-push parents p) in
    record {
      asked = next key needed got row.value more run.asked is value me;
      answered = λ before other asked less asks.
          elim (eq-or-lt_of_le (shorter (length before) (length more) (length got) long less)) [
            | inl same ↦
                let one : before ≡ got = answers_same m atoms law key before got asked run.asked same in
                let which : other ≡ needed = needs (m.ask key got) other needed (subst (λ (l : List V). m.ask key l ≡ Need other) one asks) is in
                record { parent = p; has = last_in; row = row; at = at; is = key_is ∙ sym which }
            | inr fewer ↦
                let a = run.answered before other asked fewer asks in
                let s = run.served a.parent a.has in
                record { parent = a.parent; has = keep_in a.parent a.has; row = a.row; at = (keeps a.parent a.row a.at s.ready).0; is = a.is }
          ];
      served = λ q h.
          elim (Contains-push_cases parents p q (subst (λ (ps : List ℕ). Contains ps q) oe h)) [
            | inl was ↦ serves_kept m atoms rows fresh after now keeps q key (run.served q was)
            | inr same ↦ subst (λ (n : ℕ). Serves m atoms after now n key) same (record {
              row = row;
              at = at;
              ready = ready;
              lower = subst (λ (k : K). m.rank k < m.rank key) (sym key_is) (law.falls key needed got is);
              passes = λ a meets. through key needed got above run.asked is (subst (λ (k : K). Meets m atoms a k) key_is meets);
            })
          ];
    }
  where
    shorter : (a b c : ℕ) → b ≡ suc c → a < b → a ≤ c
    shorter a b c e h = omega arith

    needs : (o : Ask K V) (k l : K) → o ≡ Need k → o ≡ Need l → k ≡ l
    needs o k l p q = cc

pub asking_done : {K V : Type 0} (m : Meaning K V) (atoms : K → V) → IsLawful m → (rows : List (Row K V)) (fresh : List Bool) (key : K) (got : List V) (parents : List ℕ) (v : V)
    → 0 < m.rank key → IsAsking m atoms rows fresh key got parents → m.ask key got ≡ Done v → HasRun m atoms rows fresh key v parents
asking_done {K} {V} m atoms law rows fresh key got parents v above run is = record {
  above = above;
  value = ran key got v above run.asked is;
  served = run.served;
  whole = λ a meets. passed a key refl meets;
}
  where
    passed : (a k : K) → k ≡ key → Meets m atoms a k → IsPassed m atoms rows (λ p. Contains parents p) a
    passed a k same (itself _ low at) = absurd (omega (arith, above, ap m.rank (sym same ∙ at) ∙ low))
    passed a k same (through _ needed before high asked asks deeper) =
        let asked_key : HasAsked m atoms key before = subst (λ (l : K). HasAsked m atoms l before) same asked in
        let asks_key : m.ask key before ≡ Need needed = subst (λ (l : K). m.ask l before ≡ Need needed) same asks in
        let b = run.answered before needed asked_key (asked_before m atoms law key got before v needed run.asked is asked_key asks_key) asks_key in
        record { parent = b.parent; feeds = b.has; row = b.row; at = b.at; meets = subst (λ (l : K). Meets m atoms a l) (sym b.is) deeper }

-- a run that asks on has room for an answer more
pub room_left : {K V : Type 0} (m : Meaning K V) → IsLawful m → (key needed : K) (got more : List V) (v : V) → m.ask key got ≡ Need needed → more ≡ got ++ v ∷ [] → limit - length more < limit - length got
room_left {K} {V} m law key needed got more v is me =
    elim (cases_lt (length got) limit) [
      | inl low ↦ omega (arith, low, ap length me, length-append got (v ∷ []))
      | inr high ↦ absurd (subst (λ (a : Ask K V). IsDone a) is (law.ends key got high))
    ]
