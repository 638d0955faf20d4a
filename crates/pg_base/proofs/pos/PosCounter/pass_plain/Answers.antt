use Rattle.std.proofs.Common.{◌≡◌, ◌<◌, ◌==◌, false, List, [], ℕ, length, refl, sym, ap, ◌∙◌, arith}
use Rattle.std.proofs.lemmas.Bool.Decides.{nat_tests}
use Rattle.std.proofs.lemmas.List.{nil_from_length}
use Rattle.pg_base.specs.Pos.{counter_after}
use Rattle.pg_base.proofs.PosCounters.{counter_after-columns, counter_after-nil}
use Rattle.pg_base.proofs.pos.PosCounter.pass_plain.Goals as goal

pub returns-then-is_empty : goal.returns-then-is_empty
returns-then-is_empty c =
    let none : length c.args.bytes.now ≡ 0 = grind (arith, nat_tests) in
    sym (ap (counter_after c.args.self) (nil_from_length c.args.bytes.now none) ∙ counter_after-nil c.args.self)

pub returns : goal.returns
returns c =
    let some : 0 < length c.args.bytes.now = grind (arith, nat_tests) in
    ap (λ (n : ℕ). record { pos = record { line = c.args.self.pos.line; column = n }; after_cr = false }) c.saturating_add.ensures ∙ counter_after-columns c.args.self c.args.bytes.now _ some c.requires c.min-more.ensures
