use Rattle.std.proofs.Common.{List, sym, subst}
use Rattle.ddl_reader.specs.declared.inserts.InsertPlace.{InsertPlace}
use Rattle.ddl_reader.specs.Inserts.{AreFirsts}
use Rattle.ddl_reader.proofs.FirstInserts.{like_kept}
use Rattle.ddl_reader.proofs.inserts.push_like.Goals as goal

pub returns-clause-kept : goal.returns-clause-kept
returns-clause-kept c =
    let firsts = c.args.firsts.now in
    subst (λ (l : List InsertPlace). AreFirsts firsts l) (sym c.in_ok-push.ensures.ok) (like_kept firsts c.args.places.now c.requires.firsts c.args.insert.now c.args.first c.requires.like)
