use Rattle.std.proofs.Common.{◌≡◌, ℕ, suc, ◌-◌, min, nat_abs, pos, ◌<ℤ◌, ◌≤ℤ◌, ◌+ℤ◌, map, [], None, sym, ap, ◌∙◌, arith, w64, to_z, of_z}
use Rattle.std.specs.Prelude.{unwrap_or}
use Rattle.std.proofs.lemmas.Int.{ints, to_z-of_z}
use Rattle.rooms_val.specs.Maps.{seen}
use Rattle.field_ops.specs.View.{maybe_data}
use Rattle.field_ops.specs.RecordOps.{RecordOps}
use Rattle.room_model.specs.declared.limits.TheConstants.{MOST_TOLD}
use Rattle.room_history.specs.Begins.{diff_in, left_of, tree_at, trees_after}
use Rattle.room_history.specs.Entries.{recent_tree, RecentTree}
use Rattle.room_history.proofs.TreeLemmas.{next_tree}
use Rattle.room_history.proofs.begin.recent_of.Goals as goal

pub clocks-preserved : goal.clocks-preserved
clocks-preserved c =
    let clock = c.args.clock in
    let at = c.clocks.at in
    let told = to_z w64 (of_z w64 clock) in
    let next = to_z w64 (of_z w64 (to_z w64 c.clocks.at-bits +ℤ pos 1)) in
    let fits : told ≡ clock = to_z-of_z w64 clock c.ranges.clock in
    let less : at <ℤ clock = grind (arith, ints, c.clocks-test.true, c.clocks.at-is, fits) in
    let from : pos (nat_abs clock - MOST_TOLD) ≤ℤ at = omega (arith, ints, c.clocks.invariant.low, c.clocks.at-is, fits) in
    let here : next ≡ pos (suc (nat_abs at)) = omega (arith, ints, c.clocks.at-is, less, from, c.requires.high) in
    let lo = nat_abs clock - MOST_TOLD in
    let f : ℕ → RecordOps = λ n. diff_in c.args.diffs (pos n) in
    let diff : c.take-diff.result ≡ f (suc (nat_abs at)) =
    c.take-diff.ensures.diff ∙ ap (diff_in c.clocks.diffs) here ∙ c.clocks.invariant.later (suc (nat_abs at)) (omega (arith, ints, c.clocks.at-is, from)) in
    let tree : RecentTree = record { clock = next; entry = record { diff = c.take-diff.result; author = None }; after = seen maybe_data c.in_ok-after.after.items } in
    let is : tree ≡ tree_at f (suc (nat_abs at)) =
    (λ i. record { clock = here i; entry = record { diff = diff i; author = None }; after = (c.in_ok-after.ensures ∙ ap left_of diff) i }) in
    let was : map recent_tree c.clocks.recent.items ≡ trees_after f lo (nat_abs at - lo) =
    c.clocks.invariant.trees ∙ (λ i. trees_after f (nat_abs (fits i) - MOST_TOLD) (nat_abs (c.clocks.at-is i) - (nat_abs (fits i) - MOST_TOLD))) in
    let trees : map recent_tree c.remember.new.recent.items ≡ trees_after f lo (suc (nat_abs at) - lo) =
    next_tree f lo (nat_abs at) c.clocks.recent.capacity (map recent_tree c.clocks.recent.items) (map recent_tree c.remember.new.recent.items) tree
    (omega (arith, ints, from)) (omega (arith, ints, less, from)) c.clocks.invariant.capacity was c.remember.ensures.items is in
    record {
      trees = trees ∙ (λ i. trees_after f (nat_abs (sym fits i) - MOST_TOLD) (nat_abs (sym here i) - (nat_abs (sym fits i) - MOST_TOLD)));
      capacity = c.remember.ensures.capacity ∙ c.clocks.invariant.capacity;
      low = omega (arith, ints, here, from, fits);
      high = omega (arith, ints, here, less, from, fits);
      later = λ n above. ap (λ o. unwrap_or o []) (c.take-diff.ensures.elsewhere (pos n) (λ same. omega (arith, ints, above, same))) ∙ c.clocks.invariant.later n (omega (arith, ints, above, here, c.clocks.at-is, from));
    }

pub returns-clause-items : goal.returns-clause-items
returns-clause-items c =
    let clock = c.args.clock in
    let told = to_z w64 (of_z w64 clock) in
    let fits : told ≡ clock = to_z-of_z w64 clock c.ranges.clock in
    let f : ℕ → RecordOps = λ n. diff_in c.args.diffs (pos n) in
    let at = to_z w64 c.clocks.at-bits in
    let same : at ≡ clock = grind (arith, ints, c.clocks-test.false, c.clocks.invariant.high, fits) in
    let low = c.requires.low in
    let count : nat_abs clock - (nat_abs clock - MOST_TOLD) ≡ min (nat_abs clock) MOST_TOLD = omega arith in
    c.clocks.invariant.trees ∙ (λ i. trees_after f (nat_abs (fits i) - MOST_TOLD) (nat_abs (same i) - (nat_abs (fits i) - MOST_TOLD)))
    ∙ ap (trees_after f (nat_abs clock - MOST_TOLD)) count
