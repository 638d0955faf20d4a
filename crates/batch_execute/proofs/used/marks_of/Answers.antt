use Rattle.std.proofs.Common.{◌≡◌, ◌-◌, ◌<◌, length, ap, ◌∙◌, subst, arith}
use Rattle.batch_execute.specs.Used.{ArePassed, mark_at, with_named}
use Rattle.batch_execute.proofs.Passed.{passed_on, length_on}
use Rattle.batch_execute.proofs.used.marks_of.Goals as goal

pub left-init : goal.left-init
left-init c = record {
  within = omega arith;
  same = c.in_ok-marks.ensures.length;
  passed = c.in_ok-marks.ensures.shown;
}

pub left-preserved : goal.left-preserved
left-preserved c =
    let k = c.left.left - 1 in
    let lt : k < length c.args.steps.now = let h = c.left.invariant.within in omega (arith, h, c.left-test.true) in
    let made : c.mark_named.new.marks.items ≡ with_named c.left.marks.items (mark_at c.left.marks.items k) c.named_at.result =
    c.mark_named.ensures ∙ ap (λ b. with_named c.left.marks.items b c.named_at.result) c.is_marked-marked.ensures
    ∙ ap (λ m. with_named c.left.marks.items (mark_at m k) c.named_at.result) c.as_slice.ensures.value in
    record {
      within = omega (arith, lt);
      same = length_on c.args.places.now c.args.root c.args.steps.now c.args.outs.now c.requires k c.left.marks.items c.mark_named.new.marks.items c.left.invariant.same (made ∙ ap (with_named c.left.marks.items (mark_at c.left.marks.items k)) c.named_at.ensures);
      passed = passed_on c.args.places.now c.args.root c.args.steps.now c.args.outs.now c.requires k lt c.left.marks.items c.mark_named.new.marks.items c.left.invariant.same (made ∙ ap (with_named c.left.marks.items (mark_at c.left.marks.items k)) c.named_at.ensures)
          (subst (λ n. ArePassed c.args.places.now c.args.steps.now c.args.outs.now c.args.root n c.left.marks.items) (omega (arith, c.left-test.true)) c.left.invariant.passed);
    }
