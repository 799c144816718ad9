use Rattle.std.proofs.Common.{◌≡◌, ◌++◌, [], T, sym, ap, subst, ◌∙◌}
use Rattle.std.proofs.lemmas.Str.{is_utf8-from_IsUtf8}
use Rattle.std.specs.Prelude.{IsUtf8}
use Rattle.json.specs.Lex.{tokens}
use Rattle.json.specs.Print.{print}
use Rattle.serde_json.proofs.Texts.{print-outline}
use Rattle.rooms_val.specs.Json.{json_of, tokens_of}
use Rattle.rooms_val.specs.View.{data_of}
use Rattle.rooms_val.proofs.ToJsonLemmas.{read-tokens_of}
use Rattle.rooms_val.proofs.JsonLemmas.{reads_back}
use Rattle.rooms_val.proofs.val.Val.print.Goals as goal

pub returns-clause-text : goal.returns-clause-text
returns-clause-text c =
    let d = data_of c.args.self.now in
    let written : c.write_to.new.out.tokens ≡ tokens_of d = c.in_ok-write_to.ensures.ok ∙ ap (λ ts. ts ++ tokens_of d) c.new-out.ensures.tokens in
    let before : c.write_to.new.out.before ≡ [] = c.write_to.ensures.before ∙ c.new-out.ensures.before ∙ c.in_ok-with_capacity.ensures.items in
    c.into_inner.ensures.items ∙ ap (λ bs. bs ++ print c.write_to.new.out.tokens) before ∙ ap print written ∙ print-outline (json_of d)

pub returns-clause-reads_back : goal.returns-clause-reads_back
returns-clause-reads_back c within shallow =
    let d = data_of c.args.self.now in
    let written : c.write_to.new.out.tokens ≡ tokens_of d = c.in_ok-write_to.ensures.ok ∙ ap (λ ts. ts ++ tokens_of d) c.new-out.ensures.tokens in
    let before : c.write_to.new.out.before ≡ [] = c.write_to.ensures.before ∙ c.new-out.ensures.before ∙ c.in_ok-with_capacity.ensures.items in
    let text : c.into_inner.result.items ≡ print c.write_to.new.out.tokens = c.into_inner.ensures.items ∙ ap (λ bs. bs ++ print c.write_to.new.out.tokens) before in
    let utf8 = is_utf8-from_IsUtf8 c.into_inner.result.items (subst IsUtf8 (sym text) c.into_inner.ensures.utf8) in
    let again : tokens c.into_inner.result.items ≡ tokens_of d = ap tokens text ∙ c.into_inner.ensures.reads_back ∙ written in
    reads_back c.into_inner.result.items d utf8 (read-tokens_of d c.into_inner.result.items again c.kind.ensures.sound (subst T (sym within) tt)) within shallow
