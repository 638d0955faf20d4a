use Rattle.std.proofs.Common.{◌≡◌, ◌+◌, ◌<◌, ◌≤◌, ◌++◌, ◌∷◌, [], ◌^◌, Some, Ok, Err, length, drop, sym, ap, ◌∙◌, subst, arith}
use Rattle.rel_model.specs.declared.tables.Tables.{Tables}
use Rattle.plan_steps.specs.Built.{built}
use Rattle.plan_steps.specs.Denoted.{moment}
use Rattle.plan_steps.specs.Sent.{is_sent_for, one_if, places_from, sent_count}
use Rattle.plan_steps.specs.Values.{Moment}
use Rattle.batch_execute.specs.Entries.{is_sent_now, fetched_next, fetched_all, sent_from, trees_found}
use Rattle.batch_execute.specs.Execution.{Counts, Gives}
use Rattle.batch_execute.proofs.Loops.{gets_on, gets_none, fails_on, left_on, got_on, most_on, whole_on, sent_on}
use Rattle.batch_execute.proofs.fetching.fetch_all.Goals as goal

pub returns-in_err-push-in-Ok-clause-most : goal.returns-in_err-push-in-Ok-clause-most
returns-in_err-push-in-Ok-clause-most g c =
    let e = c.args.q.now.entry.now in
    let k = c.loop-step.step in
    let lt : k < length e.plan.steps = subst (λ n. k < n) (c.len-step-end.ensures ∙ ap (λ p. length p.steps) c.plan.ensures) c.loop-step-test.true in
    let most = most_on (λ j. one_if (is_sent_for e.tree e.plan c.args.q.now.root.now j)) e.plan.steps k lt (g.R.Rows.sent c.loop-step.rows) (g.R.Rows.sent c.fetch_step.new.rows) (g.R.Rows.sent c.args.rows.now + sent_count e.tree e.plan c.args.q.now.root.now)
    c.loop-step.invariant.most c.fetch_step.ensures.most in
    omega (arith, most)

pub returns-in-Err-clause-most : goal.returns-in-Err-clause-most
returns-in-Err-clause-most g c =
    let e = c.args.q.now.entry.now in
    let k = c.loop-step.step in
    let lt : k < length e.plan.steps = subst (λ n. k < n) (c.len-step-end.ensures ∙ ap (λ p. length p.steps) c.plan.ensures) c.loop-step-test.true in
    let most = most_on (λ j. one_if (is_sent_for e.tree e.plan c.args.q.now.root.now j)) e.plan.steps k lt (g.R.Rows.sent c.loop-step.rows) (g.R.Rows.sent c.fetch_step.new.rows) (g.R.Rows.sent c.args.rows.now + sent_count e.tree e.plan c.args.q.now.root.now)
    c.loop-step.invariant.most c.fetch_step.ensures.most in
    omega (arith, most)

pub returns-in_err-push-in-Ok-clause-gets : goal.returns-in_err-push-in-Ok-clause-gets
returns-in_err-push-in-Ok-clause-gets g c tables told =
    let e = c.args.q.now.entry.now in
    let root = c.args.q.now.root.now in
    let m = moment e.base tables c.args.q.now.vars.now root in
    let k = c.loop-step.step in
    let made = c.loop-step.fetched in
    let lt : k < length e.plan.steps = subst (λ n. k < n) (c.len-step-end.ensures ∙ ap (λ p. length p.steps) c.plan.ensures) c.loop-step-test.true in
    let now : g.R.Rows.tables_of c.loop-step.rows c.args.at.now ≡ Some tables = c.loop-step.invariant.told c.args.at.now ∙ told in
    let gives : Gives c.loop-step.left c.fetch_step.new.left (fetched_next m e.tree e.plan root made k) (Ok c.in-Ok.one) =
    subst (λ f. Gives c.loop-step.left c.fetch_step.new.left (fetched_next m e.tree e.plan root f k) (Ok c.in-Ok.one)) c.as_slice.ensures (c.in-Ok.ensures.gives tables now) in
    let got = c.in-Ok.ensures.gets tables now in
    gets_on m e.tree e.plan root k lt made (c.loop-step.invariant.whole tables told) c.args.left.now c.loop-step.left c.fetch_step.new.left (g.R.Rows.got c.args.rows.now) (g.R.Rows.got c.loop-step.rows) (g.R.Rows.got c.fetch_step.new.rows) c.in-Ok.one
    (c.loop-step.invariant.left tables told) (c.loop-step.invariant.rises tables told) (c.loop-step.invariant.got tables told) gives.0 gives.1 got.0 got.1

pub returns-in-Err-clause-gets : goal.returns-in-Err-clause-gets
returns-in-Err-clause-gets g c tables told =
    let e = c.args.q.now.entry.now in
    let root = c.args.q.now.root.now in
    let m = moment e.base tables c.args.q.now.vars.now root in
    let k = c.loop-step.step in
    let lt : k < length e.plan.steps = subst (λ n. k < n) (c.len-step-end.ensures ∙ ap (λ p. length p.steps) c.plan.ensures) c.loop-step-test.true in
    let now : g.R.Rows.tables_of c.loop-step.rows c.args.at.now ≡ Some tables = c.loop-step.invariant.told c.args.at.now ∙ told in
    gets_none m e.tree e.plan root k lt c.loop-step.fetched (c.loop-step.invariant.whole tables told) c.args.left.now c.loop-step.left (g.R.Rows.got c.args.rows.now) (g.R.Rows.got c.loop-step.rows) (g.R.Rows.got c.fetch_step.new.rows)
    (c.loop-step.invariant.left tables told) (c.loop-step.invariant.rises tables told) (c.loop-step.invariant.got tables told) (c.in-Err.ensures.gets tables now)

pub returns-in-Err-clause-gives : goal.returns-in-Err-clause-gives
returns-in-Err-clause-gives g c tables told =
    let e = c.args.q.now.entry.now in
    let root = c.args.q.now.root.now in
    let m = moment e.base tables c.args.q.now.vars.now root in
    let k = c.loop-step.step in
    let lt : k < length e.plan.steps = subst (λ n. k < n) (c.len-step-end.ensures ∙ ap (λ p. length p.steps) c.plan.ensures) c.loop-step-test.true in
    let now : g.R.Rows.tables_of c.loop-step.rows c.args.at.now ≡ Some tables = c.loop-step.invariant.told c.args.at.now ∙ told in
    let gives = subst (λ f. Gives c.loop-step.left c.fetch_step.new.left (fetched_next m e.tree e.plan root f k) (Err c.in-Err.fault)) c.as_slice.ensures (c.in-Err.ensures.gives tables now) in
    fails_on m e.tree e.plan root k lt c.loop-step.fetched (c.loop-step.invariant.whole tables told) c.args.left.now c.loop-step.left c.fetch_step.new.left c.in-Err.fault (c.loop-step.invariant.left tables told) gives

pub loop-step-preserved : goal.loop-step-preserved
loop-step-preserved g c =
    let e = c.args.q.now.entry.now in
    let root = c.args.q.now.root.now in
    let k = c.loop-step.step in
    let made = c.loop-step.fetched in
    let one = c.in-Ok.one in
    let lt : k < length e.plan.steps = subst (λ n. k < n) (c.len-step-end.ensures ∙ ap (λ p. length p.steps) c.plan.ensures) c.loop-step-test.true in
    let grown : made ++ one ∷ [] ≡ c.push.new.self = sym c.in_ok-push-in-Ok.ensures.ok in
    let m : Tables → Moment = λ tables. moment e.base tables c.args.q.now.vars.now root in
    let now : (tables : Tables) → g.R.Rows.tables_of c.args.rows.now c.args.at.now ≡ Some tables → g.R.Rows.tables_of c.loop-step.rows c.args.at.now ≡ Some tables = λ tables told. c.loop-step.invariant.told c.args.at.now ∙ told in
    let gives : (tables : Tables) → g.R.Rows.tables_of c.args.rows.now c.args.at.now ≡ Some tables → Gives c.loop-step.left c.fetch_step.new.left (fetched_next (m tables) e.tree e.plan root made k) (Ok one) =
    λ tables told. subst (λ f. Gives c.loop-step.left c.fetch_step.new.left (fetched_next (m tables) e.tree e.plan root f k) (Ok one)) c.as_slice.ensures (c.in-Ok.ensures.gives tables (now tables told)) in
    record {
      serves = λ a d h. c.in-Ok.ensures.serves a d (c.loop-step.invariant.serves a d h);
      serves_no_more = λ a d h. c.loop-step.invariant.serves_no_more a d (c.in-Ok.ensures.serves_no_more a d h);
      told = λ a. c.in-Ok.ensures.told a ∙ c.loop-step.invariant.told a;
      grows = (let a = c.loop-step.invariant.grows in let b = c.in-Ok.ensures.rises in omega (arith, a, b));
      most = most_on (λ j. one_if (is_sent_for e.tree e.plan root j)) e.plan.steps k lt (g.R.Rows.sent c.loop-step.rows) (g.R.Rows.sent c.fetch_step.new.rows) (g.R.Rows.sent c.args.rows.now + sent_count e.tree e.plan root)
          c.loop-step.invariant.most c.in-Ok.ensures.most;
      sent = λ tables told. subst (λ f. g.R.Rows.sent c.args.rows.now + sent_from (m tables) e.tree e.plan root [] (places_from 0 e.plan.steps) < 2 ^ 64 →
          g.R.Rows.sent c.fetch_step.new.rows + sent_from (m tables) e.tree e.plan root f (places_from (k + 1) (drop (k + 1) e.plan.steps))
          ≡ g.R.Rows.sent c.args.rows.now + sent_from (m tables) e.tree e.plan root [] (places_from 0 e.plan.steps)) grown
          (sent_on (m tables) e.tree e.plan root k lt made (g.R.Rows.sent c.args.rows.now) (g.R.Rows.sent c.loop-step.rows) (g.R.Rows.sent c.fetch_step.new.rows) (sent_from (m tables) e.tree e.plan root [] (places_from 0 e.plan.steps)) one (gives tables told).0
          (c.loop-step.invariant.sent tables told)
          (subst (λ f. Counts (g.R.Rows.sent c.loop-step.rows) (g.R.Rows.sent c.fetch_step.new.rows) (one_if (is_sent_now (m tables) e.tree e.plan root f k))) c.as_slice.ensures (c.in-Ok.ensures.sent tables)));
      whole = λ tables told. subst (λ f. built (fetched_next (m tables) e.tree e.plan root) f (places_from (k + 1) (drop (k + 1) e.plan.steps)) ≡ fetched_all (m tables) e.tree e.plan root) grown
          (whole_on (m tables) e.tree e.plan root k lt made (c.loop-step.invariant.whole tables told) one (gives tables told).0);
      left = λ tables told. subst (λ f. c.fetch_step.new.left + trees_found f ≡ c.args.left.now) grown
          (left_on (m tables) e.tree e.plan root k lt made (c.loop-step.invariant.whole tables told) c.args.left.now c.loop-step.left c.fetch_step.new.left one (c.loop-step.invariant.left tables told) (gives tables told).0 (gives tables told).1);
      rises = λ tables told. (let a = c.loop-step.invariant.rises tables told in let b = (c.in-Ok.ensures.gets tables (now tables told)).0 in omega (arith, a, b));
      got = λ tables told. subst (λ f. g.R.Rows.got c.fetch_step.new.rows ≤ g.R.Rows.got c.args.rows.now + trees_found f) grown
          (got_on made one (g.R.Rows.got c.args.rows.now) (g.R.Rows.got c.loop-step.rows) (g.R.Rows.got c.fetch_step.new.rows) (c.loop-step.invariant.got tables told) (c.in-Ok.ensures.gets tables (now tables told)).1);
      faults = (let a = c.loop-step.invariant.faults in let b = c.in-Ok.ensures.faults in omega (arith, a, b));
    }
