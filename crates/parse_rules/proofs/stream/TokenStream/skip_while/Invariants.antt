use Rattle.std.proofs.Common.{◌≡◌, ◌≤◌, ◌-◌, length}
use Rattle.parse_rules.specs.Tokens.{after_all}
use Rattle.parse_rules.proofs.stream.TokenStream.skip_while.Given as goal

abbrev pub invariant-loop-turn : goal.invariant-loop-turn
invariant-loop-turn g l = record {
  same : after_all (g.P.Test.passes l.test) (g.Self.TokenStream.rest l.fn.self) ≡ after_all (g.P.Test.passes l.test) (g.Self.TokenStream.rest l.self);
  left : length (g.Self.TokenStream.rest l.self) ≤ l._turn-end - l._turn;
  ends : g.Self.TokenStream.end l.self ≡ g.Self.TokenStream.end l.fn.self;
}
