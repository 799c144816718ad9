-- What several changes of atoms leave, one after the other.
use Rattle.std.proofs.Common.{◌≡◌, ◌≢◌, ◌⊎◌, inl, inr, ℕ, ◌<◌, suc, ◌+◌, ◌≤◌, le_trans, le_of_eq, Bool, true, false, List, [], ◌∷◌, map, length, refl, sym, ap, subst, ◌∙◌, arith}
use Rattle.std.specs.Prelude.{IfOk, OnOk, Ok, Err}
use Rattle.std.specs.declared.result.Result.{Result}
use Rattle.signal_rules.proofs.ValueLemmas.{stays}
use Rattle.signal_values.specs.Seen as values
use Rattle.signal_values.specs.Seen.{top}
use Rattle.signal_txn.specs.declared.write.Write.{Write}
use Rattle.signal_txn.specs.Journal.{joined}
use Rattle.signal_txn.specs.LastWrites.{LastWrites}
use Rattle.signal_txn.specs.Level.{Level, noted}
use Rattle.signal_txn.specs.Seen.{ChangesOnce, StaysUnlessChanged, IsSetIn}
use Rattle.tl_rules.specs.Exact.{key_cmp}
use Rattle.tl_rules.specs.Meaning.{tl_meaning}
use Rattle.tl_rules.specs.declared.key.TlKey.{TlKey}
use Rattle.tl_rules.specs.declared.rules.TlRules.{TlRules}
use Rattle.tl_rules.specs.declared.value.TlValue.{TlValue}
use Rattle.record_store.specs.Lists.{Board, atoms_of, Leads, IsNewest, ChangesOnly}
use Rattle.record_store.proofs.LeadLemmas.{set_turned, set_told}
use Rattle.record_store.proofs.NewestLemmas.{newest_joined, newest_noted}
use Rattle.signal_txn.proofs.WrittenLemmas.{risen_above}

pub in_turn : (P : TlKey → Type 0) (a b c : Board) → ChangesOnly P a b → ChangesOnly P b c → ChangesOnly P a c
in_turn P a b c first next = record {
  others = λ k apart. next.others k apart ∙ first.others k apart;
  begun = next.begun ∙ first.begun;
  watches = next.watches ∙ first.watches;
  depth = next.depth ∙ first.depth;
  ring = λ some. next.ring (λ none. some (no_levels a.journal.levels (sym first.depth ∙ ap length none))) ∙ first.ring some;
  epoch = le_trans first.epoch next.epoch;
  apart = λ k fresh none. next.apart k (first.apart k fresh none) (λ atom p meets. none atom p (first.met k atom none meets));
  met = λ k atom none meets. first.met k atom none (next.met k atom (λ x p q. none x p (first.met k x none q)) meets);
  order = λ below turned. next.order below (first.order (below_before next.epoch below) turned);
  told = λ none since m n before turned below leads.
      next.told none since m n (le_trans before first.epoch) (first.order (below_before next.epoch below) turned) below
      (first.told none since m n before turned (below_before next.epoch below) leads);
  adds = λ w is. earlier (next.adds w is) (first.adds w);
}
  where
    earlier : {A B C : Type 0} → B ⊎ C → (B → A ⊎ C) → A ⊎ C
    earlier (inl b) f = f b
    earlier (inr c) f = inr c

    below_before : {x y : ℕ} → x ≤ y → y < top → x < top
    below_before less below = omega arith

    no_levels : (ls : List (Level TlKey TlValue)) → length ls ≡ 0 → ls ≡ []
    no_levels [] e = refl
    no_levels (l ∷ ls) e = cc

pub wider : (P Q : TlKey → Type 0) (old new : Board) → ((k : TlKey) → P k → Q k) → ChangesOnly P old new → ChangesOnly Q old new
wider P Q old new in_ change = record {
  others = λ k apart. change.others k (λ p. apart (in_ k p));
  begun = change.begun;
  watches = change.watches;
  depth = change.depth;
  ring = change.ring;
  epoch = change.epoch;
  apart = λ k fresh none. change.apart k fresh (λ atom p. none atom (in_ atom p));
  met = λ k atom none. change.met k atom (λ x p. none x (in_ x p));
  order = change.order;
  told = λ none. change.told (λ k p. none k (in_ k p));
  adds = λ w is. or_these w (change.adds w is);
}
  where
    or_these : {A : Type 0} (w : Write TlKey TlValue) → A ⊎ P w.key → A ⊎ Q w.key
    or_these w (inl a) = inl a
    or_these w (inr p) = inr (in_ w.key p)

joined_levels : (w : Write TlKey TlValue) (ls : List (Level TlKey TlValue)) (ring : LastWrites TlKey TlValue) → length (joined w ls ring).levels ≡ length ls
joined_levels w [] ring = refl
joined_levels w (l ∷ ls) ring = refl

joined_ring : (w : Write TlKey TlValue) (ls : List (Level TlKey TlValue)) (ring : LastWrites TlKey TlValue) → ls ≢ [] → (joined w ls ring).ring ≡ ring
joined_ring w [] ring some = absurd (some refl)
joined_ring w (l ∷ ls) ring some = refl

map_some : (f : Level TlKey TlValue → Level TlKey TlValue) (ls : List (Level TlKey TlValue)) → ls ≢ [] → map f ls ≢ []
map_some f [] some = λ e. some refl
map_some f (l ∷ ls) some = λ e. cc

length_mapped : (f : Level TlKey TlValue → Level TlKey TlValue) (ls : List (Level TlKey TlValue)) → length (map f ls) ≡ length ls
length_mapped f [] = refl
length_mapped f (l ∷ ls) = ap suc (length_mapped f ls)

pub on_ok : {T E : Type 0} (r : Result T E) {P Q : Type 0} → (P → Q) → OnOk r P → OnOk r Q
on_ok (Ok x) f h = f h
on_ok (Err e) f h = h

-- what is undone doesn't lower the epoch
pub epoch_after : (old new : values.Seen TlRules TlKey TlValue) → StaysUnlessChanged tl_meaning key_cmp old new → ((k : TlKey) → ChangesOnce tl_meaning key_cmp old new k) → old.epoch ≤ new.epoch
epoch_after old new (inl same) once = omega (arith, same)
epoch_after old new (inr other) once = omega (arith, risen_above old.epoch, ((once other.0).differs other.1).0)

pub set_changes : (old new : Board) (key : TlKey) (v : TlValue) (changes : Bool) → IsSetIn tl_meaning key_cmp old new key v changes → ChangesOnly (λ k. k ≡ key) old new
set_changes old new key v changes set =
    let note = noted key_cmp key (atoms_of old key) in
    let write : Write TlKey TlValue = record { key = key; value = v; epoch = new.graph.values.epoch } in
    record {
      others = λ k apart. set.set.others k apart;
      begun = set.begun;
      watches = set.watches;
      depth = (elim changes as (λ b. changes ≡ b → length new.journal.levels ≡ length old.journal.levels) [
        | true ↦ λ is. ap (λ j. length j.levels) (set.joins is) ∙ joined_levels _ (map note old.journal.levels) old.journal.ring ∙ length_mapped note old.journal.levels
        | false ↦ λ is. ap (λ j. length j.levels) (set.stays is) ∙ length_mapped note old.journal.levels
      ]) refl;
      ring = λ some. (elim changes as (λ b. changes ≡ b → new.journal.ring ≡ old.journal.ring) [
        | true ↦ λ is. ap (λ j. j.ring) (set.joins is) ∙ joined_ring _ (map note old.journal.levels) old.journal.ring (map_some note old.journal.levels some)
        | false ↦ λ is. ap (λ j. j.ring) (set.stays is)
      ]) refl;
      epoch = (elim changes as (λ b. changes ≡ b → old.graph.values.epoch ≤ new.graph.values.epoch) [
        | true ↦ λ is. subst (λ e. old.graph.values.epoch ≤ e) (sym (set.set.differs is).1) (risen_above old.graph.values.epoch)
        | false ↦ λ is. le_of_eq (sym (set.set.same is).1)
      ]) refl;
      apart = λ k fresh none. set.set.apart k fresh (none key refl);
      met = λ k atom none meets. (stays tl_meaning (atoms_of old) (atoms_of new) key (λ x at ne. sym (set.set.others x ne)) k (none key refl)).met atom meets;
      order = λ below turned. set_turned old new key v changes set below turned;
      told = λ none since m n before turned below leads. either (λ told_. subst (λ x. Leads since m x new) (none key refl n v) told_) (λ kept. kept.0) (set_told old new key v changes set below turned since m n before leads);
      adds = λ w is. (elim changes as (λ b. changes ≡ b → IsNewest old.journal.levels w ⊎ (w.key ≡ key)) [
        | true ↦ λ joins. this write w refl (newest_joined write w (map note old.journal.levels) old.journal.ring (subst (λ j. IsNewest j.levels w) (set.joins joins) is))
        | false ↦ λ stays_. inl (newest_noted key (atoms_of old key) w old.journal.levels (subst (λ j. IsNewest j.levels w) (set.stays stays_) is))
      ]) refl;
    }
  where
    this : (u w : Write TlKey TlValue) → u.key ≡ key → IsNewest (map (noted key_cmp key (atoms_of old key)) old.journal.levels) w ⊎ (u ≡ w)
        → IsNewest old.journal.levels w ⊎ (w.key ≡ key)
    this u w is (inl before) = inl (newest_noted key (atoms_of old key) w old.journal.levels before)
    this u w is (inr same) = inr (ap (λ (x : Write TlKey TlValue). x.key) (sym same) ∙ is)

    either : {A B C : Type 0} → (A → C) → (B → C) → A ⊎ B → C
    either f g (inl a) = f a
    either f g (inr b) = g b

pub if_ok : {T E : Type 0} (r : Result T E) {P Q : T → Type 0} → ((x : T) → P x → Q x) → IfOk r P → IfOk r Q
if_ok (Ok x) f h = f x h
if_ok (Err e) f h = h
