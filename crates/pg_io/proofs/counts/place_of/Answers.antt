use Rattle.std.proofs.Common.{◌≡◌, sym, subst, List, true, false, take_all, rules}
use Rattle.std.specs.Str.{bytes_eq}
use Rattle.pg_base.proofs.ListSteps.{take_item}
use Rattle.pg_io.specs.declared.counts.NameCount.{NameCount}
use Rattle.pg_io.proofs.ByName.{NoneNamed, raises_at, raises_new, NoneNamed-append}
use Rattle.pg_io.proofs.counts.place_of.Goals as goal

pub returns-then-eq : goal.returns-then-eq
returns-then-eq c =
    let hit : bytes_eq c.index-counts-place.result.name c.args.name.now ≡ true = search rules in
    (c.loop-place-test.true, λ d got small. raises_at _ _ _ d _ c.loop-place-test.true c.index-counts-place.is c.loop-place.invariant hit got small)

pub loop-place-preserved : goal.loop-place-preserved
loop-place-preserved c =
    let miss : bytes_eq c.index-counts-place.result.name c.args.name.now ≡ false = search rules in
    subst (λ (l : List NameCount). NoneNamed l c.args.name.now) (sym (take_item _ _ _ c.loop-place-test.true c.index-counts-place.is)) (NoneNamed-append _ _ _ c.loop-place.invariant miss)

pub returns : goal.returns
returns c = raises_new _ _ (subst (λ (l : List NameCount). NoneNamed l c.args.name.now) (take_all _ _ c.loop-place-test.false) c.loop-place.invariant)
