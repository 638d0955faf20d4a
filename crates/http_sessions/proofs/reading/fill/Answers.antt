use Rattle.std.proofs.Common.{◌≡◌, ◌-◌, ◌<◌, length, refl, sym, ap, ◌∙◌, rules, arith}
use Rattle.http_sessions.proofs.Received.{came_none, came_on, rose_since, window_len}
use Rattle.http_sessions.proofs.reading.fill.Goals as goal

pub returns-in-Failure-clause-came : goal.returns-in-Failure-clause-came
returns-in-Failure-clause-came g c = came_on _ _ _ _ _ _ _ _ _ c.reads.invariant.came c.in-Failure.ensures.came

pub returns-in-Nothing-clause-came : goal.returns-in-Nothing-clause-came
returns-in-Nothing-clause-came g c = came_on _ _ _ _ _ _ _ _ _ c.reads.invariant.came c.in-Nothing.ensures.came

pub returns-in-Failure-clause-filled : goal.returns-in-Failure-clause-filled
returns-in-Failure-clause-filled g c =
    let a = window_len c.reads.room c.reads.window c.reads.invariant.window in
    let got = c.in-Failure.ensures.got in
    let size = ap length got.0 in
    (omega (arith, a, size), rose_since _ _ _ c.reads.invariant.same got.1)

pub returns-in-Nothing-clause-filled : goal.returns-in-Nothing-clause-filled
returns-in-Nothing-clause-filled g c =
    let a = window_len c.reads.room c.reads.window c.reads.invariant.window in
    let got = c.in-Nothing.ensures.got in
    let size = ap length got.0 in
    (omega (arith, a, size), (got.1 ∙ c.reads.invariant.same, got.2))

pub reads-smaller : goal.reads-smaller
reads-smaller g c =
    let a = window_len c.reads.room c.reads.window c.reads.invariant.window in
    let b = window_len c.read_more.new.room c.read_more.new.window c.in-Bytes.ensures.window in
    let more = c.in-Bytes.ensures.got.0 in
    omega (arith, a, b, more)

pub reads-preserved : goal.reads-preserved
reads-preserved g c = record {
  window = c.in-Bytes.ensures.window;
  came = came_on _ _ _ _ _ _ _ _ _ c.reads.invariant.came c.in-Bytes.ensures.came;
  same = c.in-Bytes.ensures.got.1 ∙ c.reads.invariant.same;
}

pub returns-clause-filled : goal.returns-clause-filled
returns-clause-filled g c =
    let a = window_len c.reads.room c.reads.window c.reads.invariant.window in
    (omega (arith, a), c.reads.invariant.same)

pub reads-init : goal.reads-init
reads-init g c = record { window = c.requires.window; came = came_none _ _ _; same = refl }
