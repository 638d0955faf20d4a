use Rattle.std.proofs.Common.{◌≡◌, None, sym, subst}
use Rattle.pg_base.specs.Base.{BaseParts}
use Rattle.pg_base.specs.SchemaFaults.{build_fault}
use Rattle.request_core.specs.Asked.{asked_parts}
use Rattle.request_core.specs.Prepared.{IsPreparedFor, MayServe}
use Rattle.request_core.proofs.Replied.{memory_on}
use Rattle.request_core.proofs.responding.respond_own.Goals as goal

pub prepare_asked-requires : goal.prepare_asked-requires
prepare_asked-requires g c = record { faultless = subst (λ (b : BaseParts). build_fault b.catalog ≡ None) (sym c.base.ensures) c.know.ensures.faultless }

pub respond_prepared-requires-clause-prepared : goal.respond_prepared-requires-clause-prepared
respond_prepared-requires-clause-prepared g c = subst (λ (b : BaseParts). IsPreparedFor b (asked_parts c.args.asked.now) c.in-Ok.prepared) c.base.ensures c.in-Ok.ensures.prepared

pub respond_prepared-requires-clause-may : goal.respond_prepared-requires-clause-may
respond_prepared-requires-clause-may g c = subst (λ (b : BaseParts). MayServe b (asked_parts c.args.asked.now) c.in-Ok.prepared) c.base.ensures c.in-Ok.ensures.may

pub respond_prepared-requires-clause-served : goal.respond_prepared-requires-clause-served
respond_prepared-requires-clause-served g c = c.requires.served c.args.house.now.opened c.know.ensures.holds

pub returns-in-Err-clause-reply : goal.returns-in-Err-clause-reply
returns-in-Err-clause-reply g c history shows = memory_on _ _ _ history _ _ shows c.memory_reply.ensures
