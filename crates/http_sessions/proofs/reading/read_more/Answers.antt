use Rattle.std.proofs.Common.{◌≡◌, ◌+◌, ◌-◌, ◌<◌, ◌≤◌, ℕ, List, length, take, drop, sym, ap, ◌∙◌, subst, rules, arith}
use Rattle.http_sessions.specs.Windows.{window_of}
use Rattle.http_sessions.proofs.Received.{came_ok, came_none, came_err, came_nothing, window_kept, window_more, reads_on, at_end}
use Rattle.http_sessions.proofs.reading.read_more.Goals as goal

pub returns-in-Err-clause-came : goal.returns-in-Err-clause-came
returns-in-Err-clause-came g c =
    let w = c.make_room-made.ensures.window in
    let kept = window_kept c.make_room-made.new.room c.read.new.into c.make_room-made.result.start c.make_room-made.result.held w.ordered w.within in
    came_err _ _ _ _ (window_of c.args.room.now c.args.window.now) _ c.read.new.into _ (kept ∙ c.make_room-made.ensures.same) c.in-Err.ensures.given c.in-Err.ensures.bytes

pub returns-in-Err-clause-got : goal.returns-in-Err-clause-got
returns-in-Err-clause-got g c =
    let w = c.make_room-made.ensures.window in
    let kept = window_kept c.make_room-made.new.room c.read.new.into c.make_room-made.result.start c.make_room-made.result.held w.ordered w.within in
    (kept ∙ c.make_room-made.ensures.same, c.in-Err.ensures.cause)

pub returns-then-count-eq0-clause-came : goal.returns-then-count-eq0-clause-came
returns-then-count-eq0-clause-came g c =
    let w = c.make_room-made.ensures.window in
    let kept = window_kept c.make_room-made.new.room c.read.new.into c.make_room-made.result.start c.make_room-made.result.held w.ordered w.within in
    came_nothing _ _ _ _ (window_of c.args.room.now c.args.window.now) _ c.read.new.into c.in-Ok.count (kept ∙ c.make_room-made.ensures.same) (omega arith) c.in-Ok.ensures.given c.in-Ok.ensures.bytes

pub returns-then-count-eq0-clause-got : goal.returns-then-count-eq0-clause-got
returns-then-count-eq0-clause-got g c =
    let w = c.make_room-made.ensures.window in
    let kept = window_kept c.make_room-made.new.room c.read.new.into c.make_room-made.result.start c.make_room-made.result.held w.ordered w.within in
    (kept ∙ c.make_room-made.ensures.same, c.in-Ok.ensures.cause, at_end _ _ c.in-Ok.count c.read.new.into c.in-Ok.ensures.bytes (omega arith) (omega arith))

pub returns-else-count-eq0-clause-came : goal.returns-else-count-eq0-clause-came
returns-else-count-eq0-clause-came g c =
    let w = c.make_room-made.ensures.window in
    came_ok _ _ _ _ (window_of c.args.room.now c.args.window.now) c.make_room-made.new.room c.read.new.into c.make_room-made.result.start c.make_room-made.result.held c.in-Ok.count w.ordered w.within c.in-Ok.ensures.bound c.make_room-made.ensures.same c.in-Ok.ensures.given c.in-Ok.ensures.bytes
