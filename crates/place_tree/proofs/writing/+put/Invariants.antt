use Rattle.std.proofs.Common.{◌≡◌, ◌+◌, ◌-◌, ◌*◌, ◌++◌, ◌∷◌, [], length, drop}
use Rattle.place_tree.specs.declared.event.Event.TheVariants as event
use Rattle.place_tree.specs.Written.{written, objects_written, list_written}
use Rattle.place_tree.proofs.writing.+put.Given as goal

abbrev pub decreases-put_members : goal.decreases-put_members
decreases-put_members g l = 4 * (length l.places.now - l.from)

abbrev pub decreases-put_member : goal.decreases-put_member
decreases-put_member g l = 4 * (length l.places.now - l.i) - 1

abbrev pub decreases-put_list : goal.decreases-put_list
decreases-put_list g l = 4 * (length l.places.now - l.i) - 2

abbrev pub decreases-put_object : goal.decreases-put_object
decreases-put_object g l = 4 * (length l.places.now - l.i) - 3

abbrev pub invariant-put_members-loop-i : goal.invariant-put_members-loop-i
invariant-put_members-loop-i g l =
    l.out.items ++ written (g.A.Asker.asked l.asker) (drop l.i l.places) l.i l.parent l.state
    ≡ l.fn.out.items ++ written (g.A.Asker.asked l.asker) (drop l.from l.places) l.from l.parent l.state

abbrev pub invariant-put_list-loop-state : goal.invariant-put_list-loop-state
invariant-put_list-loop-state g l =
    l.out.items ++ (objects_written (g.A.Asker.asked l.asker) (drop (l.i + 1) l.places) l.i (drop l.state-index l.states) ++ event.CloseList ∷ [])
    ≡ l.fn.out.items ++ list_written (g.A.Asker.asked l.asker) (drop (l.i + 1) l.places) l.i l.states
