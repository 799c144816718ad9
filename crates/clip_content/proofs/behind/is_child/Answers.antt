use Rattle.std.proofs.Common.{◌&&◌, sym, ap, ◌∙◌}
use Rattle.std.specs.Prelude.{bytes_eq}
use Rattle.std.proofs.lemmas.Map.Text.{is_eq-slice_cmp}
use Rattle.rooms_val.specs.Maps.{ties}
use Rattle.rooms_val.specs.View.{data_of}
use Rattle.side_effects.specs.Records.{parent_of}
use Rattle.clip_content.proofs.behind.is_child.Goals as goal

pub returns-then-is_shape : goal.returns-then-is_shape
returns-then-is_shape c =
    c.eq.ensures
    ∙ ap (λ p. bytes_eq p c.args.parent.now) c.text_or_empty.ensures
    ∙ sym (is_eq-slice_cmp (parent_of (data_of c.args.val.now)) c.args.parent.now)
    ∙ ap (λ b. b && ties (parent_of (data_of c.args.val.now)) c.args.parent.now) (sym c.if-is_shape.true ∙ c.is_shape.ensures)
