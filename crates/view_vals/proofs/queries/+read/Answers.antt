use Rattle.std.proofs.Common.{map, ap, sym, ◌∙◌, arith}
use Rattle.rooms_val.specs.View.{data_of, items_view}
use Rattle.view_vals.specs.Queries.{query_data}
use Rattle.view_vals.proofs.QueriesLemmas.{eq, neq, gt, all, any, not, name_of, no_list, no_query, no_item, depth_item, same_list}
use Rattle.rooms_val.proofs.RefusalLemmas.{passed_on}
use Rattle.view_vals.proofs.queries.+read.Goals as goal

pub read_queries-read_query-requires : goal.read_queries-read_query-requires
read_queries-read_query-requires t c =
    let low = depth_item c.args.vals.now c.vals.val-index c.val-item.result c.vals-test.true c.val-item.is in
    (omega (arith, c.decreases, low), tt)

pub read_queries-returns-in_err-read_query-clause-refused : goal.read_queries-returns-in_err-read_query-clause-refused
read_queries-returns-in_err-read_query-clause-refused t c =
    passed_on c.from_residual.result c.in_err-read_query.field-0.0 c.from_residual.ensures.1
    (no_item c.args.vals.now c.vals.val-index c.val-item.result c.vals-test.true c.val-item.is) c.in_err-read_query.ensures.refused

pub read_query-returns-in_err-name-clause-refused : goal.read_query-returns-in_err-name-clause-refused
read_query-returns-in_err-name-clause-refused t c =
    passed_on c.from_residual.result c.in_err-name.field-0.0 c.from_residual.ensures.1 (no_list (data_of c.args.val.now)) c.in_err-name.ensures.refused

pub read_query-returns-in_err-field-in-eq-clause-refused : goal.read_query-returns-in_err-field-in-eq-clause-refused
read_query-returns-in_err-field-in-eq-clause-refused t c =
    passed_on c.from_residual-in_err-field-in-eq.result c.in_err-field-in-eq.field-0.0 c.from_residual-in_err-field-in-eq.ensures.1
    (λ none. no_query (data_of c.args.val.now) c.in_ok-name.name.now (items_view c.in_ok-name.rest.now) eq c.in_ok-name.ensures.found
    (ap name_of (sym c.as_str.ensures.bytes ∙ c.in-eq.is)) (λ is. none is.0 is.1 is.2)) c.in_err-field-in-eq.ensures.refused

pub read_query-returns-in_err-field-in-neq-clause-refused : goal.read_query-returns-in_err-field-in-neq-clause-refused
read_query-returns-in_err-field-in-neq-clause-refused t c =
    passed_on c.from_residual-in_err-field-in-neq.result c.in_err-field-in-neq.field-0.0 c.from_residual-in_err-field-in-neq.ensures.1
    (λ none. no_query (data_of c.args.val.now) c.in_ok-name.name.now (items_view c.in_ok-name.rest.now) neq c.in_ok-name.ensures.found
    (ap name_of (sym c.as_str.ensures.bytes ∙ c.in-neq.is)) (λ is. none is.0 is.1 is.2)) c.in_err-field-in-neq.ensures.refused

pub read_query-returns-in_err-field-in-gt-clause-refused : goal.read_query-returns-in_err-field-in-gt-clause-refused
read_query-returns-in_err-field-in-gt-clause-refused t c =
    passed_on c.from_residual-in_err-field-in-gt.result c.in_err-field-in-gt.field-0.0 c.from_residual-in_err-field-in-gt.ensures.1
    (λ none. no_query (data_of c.args.val.now) c.in_ok-name.name.now (items_view c.in_ok-name.rest.now) gt c.in_ok-name.ensures.found
    (ap name_of (sym c.as_str.ensures.bytes ∙ c.in-gt.is)) (λ is. none is.0 is.1 is.2)) c.in_err-field-in-gt.ensures.refused

pub read_query-returns-in_err-single_list-in-and-clause-refused : goal.read_query-returns-in_err-single_list-in-and-clause-refused
read_query-returns-in_err-single_list-in-and-clause-refused t c =
    passed_on c.from_residual-in_err-single_list-in-and.result c.in_err-single_list-in-and.field-0.0 c.from_residual-in_err-single_list-in-and.ensures.1
    (λ none. no_query (data_of c.args.val.now) c.in_ok-name.name.now (items_view c.in_ok-name.rest.now) all c.in_ok-name.ensures.found
    (ap name_of (sym c.as_str.ensures.bytes ∙ c.in-and.is)) (λ is. none (map query_data is.0) is.1)) c.in_err-single_list-in-and.ensures.refused

pub read_query-returns-in_err-read_queries-in-and-clause-refused : goal.read_query-returns-in_err-read_queries-in-and-clause-refused
read_query-returns-in_err-read_queries-in-and-clause-refused t c =
    passed_on c.from_residual-in_err-read_queries-in-and.result c.in_err-read_queries-in-and.field-0.0 c.from_residual-in_err-read_queries-in-and.ensures.1
    (λ none. no_query (data_of c.args.val.now) c.in_ok-name.name.now (items_view c.in_ok-name.rest.now) all c.in_ok-name.ensures.found
    (ap name_of (sym c.as_str.ensures.bytes ∙ c.in-and.is)) (λ is. none is.0 (same_list _ _ _ c.in_ok-single_list-in-and.ensures.found is.1))) c.in_err-read_queries-in-and.ensures.refused

pub read_query-returns-in_err-single_list-in-or-clause-refused : goal.read_query-returns-in_err-single_list-in-or-clause-refused
read_query-returns-in_err-single_list-in-or-clause-refused t c =
    passed_on c.from_residual-in_err-single_list-in-or.result c.in_err-single_list-in-or.field-0.0 c.from_residual-in_err-single_list-in-or.ensures.1
    (λ none. no_query (data_of c.args.val.now) c.in_ok-name.name.now (items_view c.in_ok-name.rest.now) any c.in_ok-name.ensures.found
    (ap name_of (sym c.as_str.ensures.bytes ∙ c.in-or.is)) (λ is. none (map query_data is.0) is.1)) c.in_err-single_list-in-or.ensures.refused

pub read_query-returns-in_err-read_queries-in-or-clause-refused : goal.read_query-returns-in_err-read_queries-in-or-clause-refused
read_query-returns-in_err-read_queries-in-or-clause-refused t c =
    passed_on c.from_residual-in_err-read_queries-in-or.result c.in_err-read_queries-in-or.field-0.0 c.from_residual-in_err-read_queries-in-or.ensures.1
    (λ none. no_query (data_of c.args.val.now) c.in_ok-name.name.now (items_view c.in_ok-name.rest.now) any c.in_ok-name.ensures.found
    (ap name_of (sym c.as_str.ensures.bytes ∙ c.in-or.is)) (λ is. none is.0 (same_list _ _ _ c.in_ok-single_list-in-or.ensures.found is.1))) c.in_err-read_queries-in-or.ensures.refused

pub read_query-returns-in_err-single-in-not-clause-refused : goal.read_query-returns-in_err-single-in-not-clause-refused
read_query-returns-in_err-single-in-not-clause-refused t c =
    passed_on c.from_residual-in_err-single-in-not.result c.in_err-single-in-not.field-0.0 c.from_residual-in_err-single-in-not.ensures.1
    (λ none. no_query (data_of c.args.val.now) c.in_ok-name.name.now (items_view c.in_ok-name.rest.now) not c.in_ok-name.ensures.found
    (ap name_of (sym c.as_str.ensures.bytes ∙ c.in-not.is)) (λ is. none (query_data is.0) is.1)) c.in_err-single-in-not.ensures.refused
