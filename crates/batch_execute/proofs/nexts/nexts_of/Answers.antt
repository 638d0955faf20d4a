use Rattle.std.proofs.Common.{◌≡◌, ap, sym, ◌∙◌, subst, length, replicate, reverse, rules, arith}
use Rattle.batch_execute.specs.Firsts.{AreFirsts}
use Rattle.batch_execute.specs.Nexts.{nexts_from}
use Rattle.batch_execute.proofs.FirstsPut.{none_yet}
use Rattle.batch_execute.proofs.StepsPut.{drop_all}
use Rattle.batch_execute.proofs.nexts.nexts_of.Goals as goal

pub left-init : goal.left-init
left-init c =
    let n = length c.args.places.now in
    let none : c.in_ok-firsts.firsts.items ≡ replicate c.saturating_add.result n = search rules in
    record {
      within = omega arith;
      firsts = subst (λ l. AreFirsts c.in_ok-firsts.firsts.items n l) (sym (drop_all c.args.places.now)) (none_yet c.in_ok-firsts.firsts.items c.saturating_add.result n none);
      nexts = ap reverse c.in_ok-nexts.ensures.items ∙ sym (ap (nexts_from n) (drop_all c.args.places.now));
    }
