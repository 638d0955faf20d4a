use Rattle.std.proofs.Common.{◌≡◌, ◌≤◌, ℕ, List, min, length, take, sym, subst, rules, arith}
use Rattle.http_sessions.specs.HeadEnd.{IsScanOf, ScanStops}
use Rattle.http_sessions.specs.Windows.{window_of}
use Rattle.http_sessions.proofs.Received.{front_is}
use Rattle.http_sessions.proofs.reading.look.Goals as goal

pub find_end-requires-clause-within : goal.find_end-requires-clause-within
find_end-requires-clause-within c =
    let w = window_of c.args.room.now c.args.window in
    let e : c.min-count.result ≡ min (length w) 16384 = search rules in
    subst (λ (l : List ℕ). c.args.seen.at ≤ length l) (sym (front_is w _ e)) c.requires.within

pub find_end-requires-clause-so_far : goal.find_end-requires-clause-so_far
find_end-requires-clause-so_far c =
    let w = window_of c.args.room.now c.args.window in
    let e : c.min-count.result ≡ min (length w) 16384 = search rules in
    subst (λ (l : List ℕ). IsScanOf (take c.args.seen.at l) c.args.seen) (sym (front_is w _ e)) c.requires.so_far

pub returns : goal.returns
returns c =
    let w = window_of c.args.room.now c.args.window in
    let e : c.min-count.result ≡ min (length w) 16384 = search rules in
    subst (λ (l : List ℕ). ScanStops l c.find_end.result) (front_is w _ e) c.find_end.ensures
