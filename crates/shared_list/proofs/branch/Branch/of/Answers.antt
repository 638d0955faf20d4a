use Rattle.std.proofs.Common.{◌≡◌, ◌∙◌, ◌<◌, ap, sym, rules, length, take, arith}
use Rattle.std.specs.List.{flat_map}
use Rattle.std.proofs.lemmas.Grind.{common_steps}
use Rattle.std.proofs.lemmas.List.{take_all}
use Rattle.shared_list.proofs.Seats.{first_flat}
use Rattle.shared_list.proofs.branch.Branch.of.Goals as goal

pub invariant_of-result : goal.invariant_of-result
invariant_of-result g c = (
  first_of (search rules, grind (arith, common_steps)),
  first_flat g.C.Level.items g.T.Marked.mark c.args.children.items c.index.result.now c.index-2.result.now c.mark-mark.result c.requires.some c.index.ensures c.index-2.ensures (omega (arith, c.len-first.ensures.len, c.len-first.ensures.some)) c.mark-mark.ensures,
)
