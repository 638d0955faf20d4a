use Rattle.std.proofs.Common.{◌≡◌, ◌+◌, ◌-◌, ◌<◌, ◌≤◌, ℕ, List, refl, length, take, sym, ap, ◌∙◌, subst, rules, arith}
use Rattle.http_sessions.specs.Windows.{window_of, HasPart}
use Rattle.http_sessions.proofs.Received.{came_none, came_on, window_len, looked_within, looked_so_far, head_stands, has_no_head, has_part, scanned, rose_since}
use Rattle.http_sessions.proofs.Scans.{scan_start}
use Rattle.http_sessions.proofs.reading.find_head.Goals as goal

pub look-requires-clause-within : goal.look-requires-clause-within
look-requires-clause-within g c = let i = c.looks.invariant in looked_within _ _ i.looked i.early

pub look-requires-clause-so_far : goal.look-requires-clause-so_far
look-requires-clause-so_far g c = let i = c.looks.invariant in looked_so_far _ _ i.early i.so_far

pub returns-in-Head-clause-found : goal.returns-in-Head-clause-found
returns-in-Head-clause-found g c = (head_stands _ _ c.in-Head.ensures, c.looks.invariant.same)

pub returns-then-seen-ge-MOST_HEAD_BYTES-clause-found : goal.returns-then-seen-ge-MOST_HEAD_BYTES-clause-found
returns-then-seen-ge-MOST_HEAD_BYTES-clause-found g c = (has_no_head _ _ c.in-More.ensures (omega arith), c.looks.invariant.same)

pub read_more-requires-clause-room : goal.read_more-requires-clause-room
read_more-requires-clause-room g c =
    let p = has_part _ _ c.in-More.ensures (omega arith) in
    let e = window_len c.looks.room c.looks.window c.looks.invariant.window in
    let s = p.size in
    omega (arith, e, s)

pub returns-in-Failure-clause-came : goal.returns-in-Failure-clause-came
returns-in-Failure-clause-came g c = came_on _ _ _ _ _ _ _ _ _ c.looks.invariant.came c.in-Failure.ensures.came

pub returns-in-Nothing-clause-came : goal.returns-in-Nothing-clause-came
returns-in-Nothing-clause-came g c = came_on _ _ _ _ _ _ _ _ _ c.looks.invariant.came c.in-Nothing.ensures.came

pub returns-in-Failure-clause-found : goal.returns-in-Failure-clause-found
returns-in-Failure-clause-found g c =
    let p = has_part _ _ c.in-More.ensures (omega arith) in
    let got = c.in-Failure.ensures.got in
    (subst (λ (w : List ℕ). HasPart w) (sym got.0) p, rose_since _ _ _ c.looks.invariant.same got.1)

pub returns-in-Nothing-clause-found : goal.returns-in-Nothing-clause-found
returns-in-Nothing-clause-found g c =
    let p = has_part _ _ c.in-More.ensures (omega arith) in
    let got = c.in-Nothing.ensures.got in
    (subst (λ (w : List ℕ). HasPart w) (sym got.0) p, (got.1 ∙ c.looks.invariant.same, got.2))

pub looks-smaller : goal.looks-smaller
looks-smaller g c =
    let p = has_part _ _ c.in-More.ensures (omega arith) in
    let s = p.size in
    let a = window_len c.looks.room c.looks.window c.looks.invariant.window in
    let b = window_len c.read_more.new.room c.read_more.new.window c.in-Bytes.ensures.window in
    let more = c.in-Bytes.ensures.got.0 in
    omega (arith, s, a, b, more)

pub looks-preserved : goal.looks-preserved
looks-preserved g c =
    let came = c.in-Bytes.ensures.came in
    let k = scanned _ _ came.some c.in-More.scan c.in-More.ensures (omega arith) came.window in
    record {
      window = c.in-Bytes.ensures.window;
      came = came_on _ _ _ _ _ _ _ _ _ c.looks.invariant.came came;
      same = c.in-Bytes.ensures.got.1 ∙ c.looks.invariant.same;
      looked = k.0;
      early = omega arith;
      so_far = k.1;
    }

pub looks-init : goal.looks-init
looks-init g c = record {
  window = c.requires.window;
  came = came_none _ _ _;
  same = refl;
  looked = omega arith;
  early = omega arith;
  so_far = scan_start;
}
