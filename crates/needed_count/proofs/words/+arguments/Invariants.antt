use Rattle.std.proofs.Common.{◌≡◌, ◌++◌, drop}
use Rattle.needed_count.specs.ArgWords as args
use Rattle.needed_count.proofs.words.+arguments.Given as goal

abbrev pub invariant-put_args-loop-item : goal.invariant-put_args-loop-item
invariant-put_args-loop-item l = l.out.items ++ args.each_arg (drop l.item-index l.items) ≡ l.initial.out.items ++ args.each_arg l.items

abbrev pub invariant-put_fields-loop-member : goal.invariant-put_fields-loop-member
invariant-put_fields-loop-member l = l.out.items ++ args.each_field (drop l.member-index l.members) ≡ l.initial.out.items ++ args.each_field l.members
