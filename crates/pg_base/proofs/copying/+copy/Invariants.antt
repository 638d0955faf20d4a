use Rattle.std.proofs.Common.{◌≡◌, ◌++◌, drop}
use Rattle.pg_base.proofs.copying.+copy.Given as goal

abbrev pub invariant-copy_items-loop-item : goal.invariant-copy_items-loop-item
invariant-copy_items-loop-item l = l.copy ++ drop l.item-index l.items ≡ l.items

abbrev pub invariant-copy_members-loop-member : goal.invariant-copy_members-loop-member
invariant-copy_members-loop-member l = l.copy ++ drop l.member-index l.members ≡ l.members
