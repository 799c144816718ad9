-- What the calls of a store leave.
use Rattle.std.specs.Prelude.{◌≡◌, ◌≢◌, ◌↔◌, ℕ, List, Option, Some, None, map, option_map, slice_index_or, Contains}
use Rattle.std.specs.List.Sorted.{IsStrictlyIncreasing}
use Rattle.rooms_val.specs.Data.{Pairs}
use Rattle.signal_core.specs.declared.watch.Watch.{Watch}
use Rattle.signal_core.specs.declared.watch.WatchId.{WatchId}
use Rattle.signal_core.specs.Watches.{watch_at}
use Rattle.signal_core.specs.declared.news.News.{News}
use Rattle.signal_core.specs.Gots.{AreGot}
use Rattle.signal_core.specs.News.{AreNewsOf}
use Rattle.signal_txn.specs.Seen.{IsGotIn}
use Rattle.tl_rules.specs.Exact.{key_cmp}
use Rattle.tl_rules.specs.Meaning.{tl_meaning}
use Rattle.tl_rules.specs.declared.key.TlKey.{TlKey}
use Rattle.tl_rules.specs.declared.value.TlValue.{TlValue}
use Rattle.record_store.specs.Lists.{MeetsNone, IsFreshIn}
use Rattle.record_store.specs.Plain.{plain}
use Rattle.record_store.specs.Seen.{Seen, records, begun, watches}

-- a key was asked: records, transactions, watches and the epoch are as they were, and fresh keys stay so
pub record IsAsked (old new : Seen) : Type 0 where
  pub records : records new ≡ records old
  pub begun : begun new ≡ begun old
  pub watches : watches new ≡ watches old
  pub got : IsGotIn tl_meaning key_cmp old.txn new.txn

-- keys were asked: records, transactions, and the epoch are as they were, and fresh keys stay so
pub record AreAsked (old new : Seen) : Type 0 where
  pub records : records new ≡ records old
  pub begun : begun new ≡ begun old
  pub got : AreGot tl_meaning key_cmp old.txn.graph.values new.txn.graph.values
  pub journal : new.txn.journal ≡ old.txn.journal

-- records, transactions, values and the epoch are as they were
pub record KeepsBoard (old new : Seen) : Type 0 where
  pub records : records new ≡ records old
  pub begun : begun new ≡ begun old
  pub values : new.txn.graph.values ≡ old.txn.graph.values
  pub journal : new.txn.journal ≡ old.txn.journal

-- a key is fresh
abbrev pub IsFresh : Seen → TlKey → Type 0
IsFresh store k = IsFreshIn store.txn k

-- a fresh key whose run meets none of these atoms stays fresh
abbrev pub KeepsApart : (TlKey → Type 0) → Seen → Seen → Type 0
KeepsApart IsChanged old new = (k : TlKey) → IsFresh old k → MeetsNone IsChanged old.txn k → IsFresh new k

-- a watch is due with a value: that of the plain query of its key, which isn't what was last told
pub record IsDue (store : Seen) (number : ℕ) (v : TlValue) : Type 0 where
  pub watch : Watch TlKey TlValue
  pub at : watch_at (watches store) number ≡ Some watch
  pub value : v ≡ plain (records store) watch.key
  pub differs : watch.told ≢ Some v

-- these are the watches that are due, each with its value, by rising number
pub record AreDue (store : Seen) (due : List (WatchId × TlValue)) : Type 0 where
  pub which : (number : ℕ) (v : TlValue) → Contains due (record { number = number }, v) ↔ IsDue store number v
  pub rising : IsStrictlyIncreasing (map (λ d. d.0.number) due)

-- these are the news of a store as it is
abbrev pub AreNews : Seen → News TlValue → Type 0
AreNews store news = AreNewsOf tl_meaning key_cmp store.txn.graph news

-- what is to be told of a watch: nothing where there is none or the plain answer was told last, and else that answer
abbrev pub IsPlainNews : Pairs → Option (Watch TlKey TlValue) → Option TlValue → Type 0
IsPlainNews m None news = news ≡ None
IsPlainNews m (Some watch) None = watch.told ≡ Some (plain m watch.key)
IsPlainNews m (Some watch) (Some v) = (v ≡ plain m watch.key) × (watch.told ≢ Some v)

-- so by number
abbrev pub ArePlainNews : Seen → List (Option TlValue) → Type 0
ArePlainNews store news = (number : ℕ) → IsPlainNews (records store) (watch_at (watches store) number) (slice_index_or news number None)

-- the watch once its value was told
abbrev pub told_of : Seen → Watch TlKey TlValue → Watch TlKey TlValue
told_of store watch = record watch { told = Some (plain (records store) watch.key) }

-- each watch was told its value
abbrev pub AreTold : Seen → List (Option (Watch TlKey TlValue)) → Type 0
AreTold store after = (number : ℕ) → watch_at after number ≡ option_map (told_of store) (watch_at (watches store) number)
