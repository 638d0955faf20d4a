use Rattle.std.proofs.Common.{◌≡◌, ◌+◌, ◌-◌, ◌*◌, ◌++◌, ◌∷◌, [], length, drop}
use Rattle.place_tree.specs.declared.event.Event.TheVariants as event
use Rattle.place_tree.specs.Spent as count
use Rattle.place_tree.specs.Written as text
use Rattle.place_tree.proofs.counting.+visit.Given as goal

abbrev pub decreases-visit_members : goal.decreases-visit_members
decreases-visit_members g l = 5 * (length l.places.now - l.from)

abbrev pub decreases-visit_member : goal.decreases-visit_member
decreases-visit_member g l = 5 * (length l.places.now - l.i) - 1

abbrev pub decreases-visit_answer : goal.decreases-visit_answer
decreases-visit_answer g l = 5 * (length l.places.now - l.i) - 2

abbrev pub decreases-visit_list : goal.decreases-visit_list
decreases-visit_list g l = 5 * (length l.places.now - l.i) - 3

abbrev pub decreases-visit_object : goal.decreases-visit_object
decreases-visit_object g l = 5 * (length l.places.now - l.i) - 4

-- what was left and is still to come is what is left and all of it
abbrev pub invariant-visit_members-loop-i : goal.invariant-visit_members-loop-i
invariant-visit_members-loop-i g l = record {
  spent : l.fn.left + count.spent (g.A.Asker.asked l.asker) (g.A.Coster.costs l.asker) (drop l.i l.places) l.i l.parent l.state
      ≡ l.left + count.spent (g.A.Asker.asked l.asker) (g.A.Coster.costs l.asker) (drop l.from l.places) l.from l.parent l.state;
  written : l.out.items ++ text.written (g.A.Asker.asked l.asker) (drop l.i l.places) l.i l.parent l.state
      ≡ l.fn.out.items ++ text.written (g.A.Asker.asked l.asker) (drop l.from l.places) l.from l.parent l.state;
}

abbrev pub invariant-visit_list-loop-state : goal.invariant-visit_list-loop-state
invariant-visit_list-loop-state g l = record {
  spent : l.fn.left + count.states_spent (g.A.Asker.asked l.asker) (g.A.Coster.costs l.asker) (drop (l.i + 1) l.places) l.i (drop l.state-index l.states)
      ≡ l.left + count.states_spent (g.A.Asker.asked l.asker) (g.A.Coster.costs l.asker) (drop (l.i + 1) l.places) l.i l.states;
  written : l.out.items ++ (text.objects_written (g.A.Asker.asked l.asker) (drop (l.i + 1) l.places) l.i (drop l.state-index l.states) ++ event.CloseList ∷ [])
      ≡ l.fn.out.items ++ text.list_written (g.A.Asker.asked l.asker) (drop (l.i + 1) l.places) l.i l.states;
}
