-- The view of a badge.
use Rattle.std.specs.Prelude.{List, [], ◌∷◌}
use Rattle.room_run.specs.Steps.{spent}
use Rattle.room_run.specs.declared.views.View.{View}

-- the one view of a badge that is a seat's
abbrev pub view_among : List View → View
view_among [] = spent
view_among (view ∷ views) = view
