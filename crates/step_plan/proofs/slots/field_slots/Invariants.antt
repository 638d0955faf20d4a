use Rattle.std.proofs.Common.{◌≡◌, ◌++◌, map, drop}
use Rattle.std.specs.List.{filter_map}
use Rattle.step_plan.specs.Slots as spec
use Rattle.step_plan.proofs.slots.field_slots.Given as goal

abbrev pub invariant-loop-member : goal.invariant-loop-member
invariant-loop-member l =
    l.equals ++ filter_map (spec.field_slot l.inputs l.columns l.name) (map (λ m. m.name) (drop l.member-index l.members))
    ≡ filter_map (spec.field_slot l.inputs l.columns l.name) (map (λ m. m.name) l.members)
