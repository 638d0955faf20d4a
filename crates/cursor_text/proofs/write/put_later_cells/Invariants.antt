use Rattle.std.proofs.Common.{drop, ◌++◌, flat_map, ◌∷◌}
use Rattle.cursor_text.specs.CursorText.{IsMarkValue, value_json}
use Rattle.cursor_text.specs.Marked.{values_of}
use Rattle.cursor_text.proofs.Written.{IsOn}
use Rattle.cursor_text.proofs.write.put_later_cells.Given as goal

abbrev pub invariant-loop-cell : goal.invariant-loop-cell
invariant-loop-cell l =
    IsOn IsMarkValue value_json (values_of (drop l.cell-index l.cells) l.left) (values_of l.cells l.labels) l.out.items
    (l.fn.out.items ++ flat_map (λ x. 44 ∷ value_json x) (values_of l.cells l.labels))
