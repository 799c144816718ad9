use Rattle.std.proofs.Common.{◌≡◌, ◌+◌, map, drop, slice_get, option_map, sym, ap, ◌∙◌, arith}
use Rattle.std.specs.Option.{option_copied}
use Rattle.std.proofs.lemmas.List.{drop-map}
use Rattle.edit_names.specs.Names.{once}
use Rattle.client_replica.specs.Works.{work_of, diffs_in, pushed_diff}
use Rattle.client_replica.specs.Stashes.{times}
use Rattle.client_replica.proofs.WorkLemmas.{at-map}
use Rattle.client_replica.proofs.CountLemmas.{times_left}
use Rattle.client_replica.proofs.own.forget_first.Goals as goal

pub works-preserved : goal.works-preserved
works-preserved c = record {
  counted = λ counted id.
      let items = c.args.works.now.items in
      let works = map work_of items in
      let k = c.works.place in
      let was = c.works.invariant.counted counted id in
      let less = c.forget_work.ensures id in
      let first = ap (λ o. once (pushed_diff o) id) (ap (option_map work_of) c.work_at.ensures ∙ sym (at-map work_of items k)) in
      let step = times_left works k id in
      let before = ap (λ ws. times (diffs_in ws) id) (drop-map work_of k items) in
      let after = ap (λ ws. times (diffs_in ws) id) (drop-map work_of (k + 1) items) in
      omega (arith, was, less, first, step, before, after);
  within = omega arith;
}

pub works-init : goal.works-init
works-init c = record { counted = λ counted. counted; within = omega arith }

pub returns : goal.returns
returns c = λ counted id.
    let all : c.works.place ≡ c.args.count = let past = c.works-test.false in let within = c.works.invariant.within in omega (arith, past, within) in
    c.works.invariant.counted counted id ∙ ap (λ n. times (diffs_in (map work_of (drop n c.args.works.now.items))) id) all
