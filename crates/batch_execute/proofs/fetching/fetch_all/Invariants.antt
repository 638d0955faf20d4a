use Rattle.std.proofs.Common.{◌≡◌, [], ◌+◌, ◌^◌, ◌<◌, ◌≤◌, Some, drop}
use Rattle.pg_base.specs.Catalog.{CatalogParts}
use Rattle.rel_model.specs.declared.tables.Tables.{Tables}
use Rattle.plan_steps.specs.Built.{built}
use Rattle.plan_steps.specs.Denoted.{moment}
use Rattle.plan_steps.specs.Sent.{is_sent_for, one_if, places_from, sent_count, total}
use Rattle.batch_execute.specs.Entries.{fetched_next, fetched_all, sent_from, trees_found}
use Rattle.batch_execute.proofs.fetching.fetch_all.Given as goal

-- what was found, sent and got so far, and what is still to come, are all of it
abbrev pub invariant-loop-step : goal.invariant-loop-step
invariant-loop-step g l = record {
  serves : (a : g.row.R-At.Denot) (c : CatalogParts) → g.R.Rows.serves l.fn.rows a c → g.R.Rows.serves l.rows a c;
  serves_no_more : (a : g.row.R-At.Denot) (c : CatalogParts) → g.R.Rows.serves l.rows a c → g.R.Rows.serves l.fn.rows a c;
  told : (a : g.row.R-At.Denot) → g.R.Rows.tables_of l.rows a ≡ g.R.Rows.tables_of l.fn.rows a;
  grows : g.R.Rows.sent l.fn.rows ≤ g.R.Rows.sent l.rows;
  most : g.R.Rows.sent l.rows + total (λ k. one_if (is_sent_for l.q.entry.now.tree l.q.entry.now.plan l.q.root.now k)) (places_from l.step (drop l.step l.q.entry.now.plan.steps))
      ≤ g.R.Rows.sent l.fn.rows + sent_count l.q.entry.now.tree l.q.entry.now.plan l.q.root.now;
  sent : (tables : Tables) → g.R.Rows.tables_of l.fn.rows l.at ≡ Some tables →
      g.R.Rows.sent l.fn.rows + sent_from (moment l.q.entry.now.base tables l.q.vars.now l.q.root.now) l.q.entry.now.tree l.q.entry.now.plan l.q.root.now [] (places_from 0 l.q.entry.now.plan.steps) < 2 ^ 64 →
      g.R.Rows.sent l.rows + sent_from (moment l.q.entry.now.base tables l.q.vars.now l.q.root.now) l.q.entry.now.tree l.q.entry.now.plan l.q.root.now l.fetched (places_from l.step (drop l.step l.q.entry.now.plan.steps))
      ≡ g.R.Rows.sent l.fn.rows + sent_from (moment l.q.entry.now.base tables l.q.vars.now l.q.root.now) l.q.entry.now.tree l.q.entry.now.plan l.q.root.now [] (places_from 0 l.q.entry.now.plan.steps);
  whole : (tables : Tables) → g.R.Rows.tables_of l.fn.rows l.at ≡ Some tables →
      built (fetched_next (moment l.q.entry.now.base tables l.q.vars.now l.q.root.now) l.q.entry.now.tree l.q.entry.now.plan l.q.root.now) l.fetched (places_from l.step (drop l.step l.q.entry.now.plan.steps))
      ≡ fetched_all (moment l.q.entry.now.base tables l.q.vars.now l.q.root.now) l.q.entry.now.tree l.q.entry.now.plan l.q.root.now;
  left : (tables : Tables) → g.R.Rows.tables_of l.fn.rows l.at ≡ Some tables → l.left + trees_found l.fetched ≡ l.fn.left;
  rises : (tables : Tables) → g.R.Rows.tables_of l.fn.rows l.at ≡ Some tables → g.R.Rows.got l.fn.rows ≤ g.R.Rows.got l.rows;
  got : (tables : Tables) → g.R.Rows.tables_of l.fn.rows l.at ≡ Some tables → g.R.Rows.got l.rows ≤ g.R.Rows.got l.fn.rows + trees_found l.fetched;
  faults : g.R.Rows.faults l.fn.rows ≤ g.R.Rows.faults l.rows;
}
