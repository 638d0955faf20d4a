use Rattle.std.proofs.Common.{drop, ◌++◌, flat_map, ◌∷◌, IsUtf8}
use Rattle.json_out.specs.JsonText.{json_text}
use Rattle.cursor_text.proofs.Written.{IsOn}
use Rattle.cursor_text.proofs.write.put_later_names.Given as goal

abbrev pub invariant-loop-name : goal.invariant-loop-name
invariant-loop-name l =
    IsOn IsUtf8 json_text (drop l.name-index l.names) l.names l.out.items
    (l.fn.out.items ++ flat_map (λ x. 44 ∷ json_text x) l.names)
