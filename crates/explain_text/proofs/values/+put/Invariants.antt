use Rattle.std.proofs.Common.{◌≡◌, ◌++◌, false, drop}
use Rattle.explain_text.specs.Values.{member_json, separated, value_json}
use Rattle.explain_text.proofs.values.+put.Given as goal

abbrev pub invariant-put_items-loop-item : goal.invariant-put_items-loop-item
invariant-put_items-loop-item l =
    l.out.items ++ separated 44 value_json l.due (drop l.item-index l.items) ≡ l.initial.out.items ++ separated 44 value_json false l.items

abbrev pub invariant-put_members-loop-member : goal.invariant-put_members-loop-member
invariant-put_members-loop-member l =
    l.out.items ++ separated 44 member_json l.due (drop l.member-index l.members) ≡ l.initial.out.items ++ separated 44 member_json false l.members
